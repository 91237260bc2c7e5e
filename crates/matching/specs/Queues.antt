-- Which readings are ready and which wait: of each channel number the place of the next reading while it waits, and the
-- heap of the ready ones. These definitions serve the proofs only; bs are the records without slots.
use Rattle.std.specs.Prelude.{◌≡◌, ℕ, ◌+◌, ◌<◌, ◌≤◌, Bool, true, false, cond, ◌⊎◌, List, [], length, take, Some, None, Option, is_none, ◌==◌, ◌≢◌, slice_index_or}
use Rattle.std.specs.List.{AllByRecursion, count_by, sum_by}
use Rattle.std.specs.Option.{unwrap_or}
use Rattle.matching.specs.Windows.{channel_at, earliest_at, window}
use Rattle.matching.specs.declared.ready.Ready.{Ready}
use Rattle.matching.specs.declared.window.Window.{Window}

-- whether r is a reading of channel c
abbrev pub of_channel : List Window → ℕ → Ready → Bool
of_channel bs c r = channel_at bs r.place == c

-- whether the next reading of channel c is ready, so that none waits
abbrev pub is_ready : List (Option ℕ) → ℕ → Bool
is_ready waiting c = is_none (slice_index_or waiting c (Some 0))

-- the place of the reading of channel c among the ready ones, of which at most one is of that channel
abbrev pub ready_place : List Window → List Ready → ℕ → ℕ
ready_place bs kept c = sum_by (λ r. cond (of_channel bs c r) r.place 0) kept

-- the place of the next reading of channel c, waiting or ready
abbrev pub next_of : List Window → List (Option ℕ) → List Ready → ℕ → ℕ
next_of bs waiting kept c = unwrap_or (slice_index_or waiting c (Some 0)) (ready_place bs kept c)

-- r is a reading of the round
pub record IsReading (bs : List Window) (r : Ready) : Type 0 where
  pub within : r.place < length bs
  pub channel : channel_at bs r.place < 64
  pub latest : r.latest ≡ (window bs r.place).latest

-- the heap keeps readings of the round, one of each channel of which none waits, and nothing else
pub record Queued (bs : List Window) (waiting : List (Option ℕ)) (items : List Ready) (len : ℕ) : Type 0 where
  pub room : 64 ≤ length items
  pub long : length waiting ≡ 64
  pub readings : AllByRecursion (IsReading bs) (take len items)
  pub once : (c : ℕ) → count_by (of_channel bs c) (take len items) ≡ cond (is_ready waiting c) 1 0

-- the next reading of the channel of place j is at j or before it, and is of that channel
abbrev pub NextUpTo : List Window → (ℕ → ℕ) → ℕ → Type 0
NextUpTo bs next j = (next (channel_at bs j) ≤ j) × (channel_at bs (next (channel_at bs j)) ≡ channel_at bs j)

-- before any reading is placed, all wait, and so is this of every place
pub record Starts (bs : List Window) (waiting : List (Option ℕ)) : Type 0 where
  pub long : length waiting ≡ 64
  pub all_wait : (c : ℕ) → is_ready waiting c ≡ false
  pub first : (j : ℕ) → j < length bs → NextUpTo bs (next_of bs waiting []) j

-- the reading at place i is one of channel c, and its earliest is at most t
abbrev pub Comes : List Window → ℕ → ℕ → ℕ → Type 0
Comes bs i c t = (i < length bs) × (channel_at bs i ≡ c) × (earliest_at bs i ≤ t)

-- the next reading of channel c, if it waits and comes by t
abbrev pub Coming : List Window → List (Option ℕ) → List Ready → ℕ → ℕ → Option Ready → Type 0
Coming bs waiting kept c t None = Comes bs (next_of bs waiting kept c) c t → is_ready waiting c ≡ true
Coming bs waiting kept c t (Some r) = (slice_index_or waiting c (Some 0) ≡ Some r.place) × Comes bs r.place c t × (r.latest ≡ (window bs r.place).latest)

-- the next readings stay as they are, and that of channel c is ready where it was or where it comes by t; no other becomes ready
pub record AdmittedAt (bs : List Window) (t : ℕ) (next next' : ℕ → ℕ) (ready ready' : ℕ → Bool) (c : ℕ) : Type 0 where
  pub same : (b : ℕ) → next' b ≡ next b
  pub marked : Comes bs (next c) c t → ready' c ≡ true
  pub only : ready' c ≡ true → (ready c ≡ true) ⊎ Comes bs (next c) c t
  pub others : (b : ℕ) → (b ≢ c) → ready' b ≡ ready b

-- the next readings stay as they are, and those of the channels below m are ready where they were or where they come by t
pub record Admitted (bs : List Window) (t : ℕ) (next next' : ℕ → ℕ) (ready ready' : ℕ → Bool) (m : ℕ) : Type 0 where
  pub same : (b : ℕ) → next' b ≡ next b
  pub marked : (c : ℕ) → c < m → Comes bs (next c) c t → ready' c ≡ true
  pub only : (c : ℕ) → ready' c ≡ true → (ready c ≡ true) ⊎ Comes bs (next c) c t

-- the reading r is taken out: no ready reading is due before it, and its channel's next reading is the one after it, which waits
pub record TakenOut (bs : List Window) (next next' : ℕ → ℕ) (ready ready' : ℕ → Bool) (r : Ready) : Type 0 where
  pub was : IsReading bs r
  pub front : next (channel_at bs r.place) ≡ r.place
  pub marked : ready (channel_at bs r.place) ≡ true
  pub first : (c : ℕ) → ready c ≡ true → (r.latest < (window bs (next c)).latest) ⊎ ((r.latest ≡ (window bs (next c)).latest) × (r.place ≤ next c))
  pub after : next' (channel_at bs r.place) ≡ r.place + 1
  pub waits : ready' (channel_at bs r.place) ≡ false
  pub others : (c : ℕ) → (c ≢ channel_at bs r.place) → (next' c ≡ next c) × (ready' c ≡ ready c)

-- what is taken out, or nothing where no reading is ready
abbrev pub Taken : List Window → (ℕ → ℕ) → (ℕ → ℕ) → (ℕ → Bool) → (ℕ → Bool) → Option Ready → Type 0
Taken bs next next' ready ready' None = (c : ℕ) → ready c ≡ false
Taken bs next next' ready ready' (Some r) = TakenOut bs next next' ready ready' r
