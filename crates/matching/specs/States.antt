-- How far the placing has come: the first t slots are filled, and slot 0 in a record means that its reading has no slot
-- yet. These definitions serve the proofs only; bs are the records without slots.
use Rattle.std.specs.Prelude.{◌≡◌, ℕ, ◌<◌, ◌≤◌, Bool, true, ◌⊎◌, List, length, count_by, nat_lt}
use Rattle.matching.specs.Matchings.{Due}
use Rattle.matching.specs.Queues.{NextUpTo}
use Rattle.matching.specs.Windows.{Arranged, blank, channel_at, earliest_at, latest_at, slot_at}
use Rattle.matching.specs.declared.window.Window.{Window}

-- of n readings with earliest e, latest l and slot s, the first t slots are filled
pub record Progress (n : ℕ) (e l s : ℕ → ℕ) (t : ℕ) : Type 0 where
  -- a placed reading stands inside its window, in one of the filled slots
  pub inside : (i : ℕ) → i < n → 0 < s i → (e i ≤ s i) × (s i ≤ l i) × (s i ≤ t)
  -- every slot up to t has a reading
  pub filled : (k : ℕ) → 1 ≤ k → k ≤ t → (i : ℕ) × (i < n) × (s i ≡ k)
  -- no two placed readings have the same slot
  pub apart : (i j : ℕ) → i < n → j < n → 0 < s i → s i ≡ s j → i ≡ j
  -- a placed reading is due before each that is placed later, or not at all, and could stand in its slot
  pub soonest : (i j : ℕ) → i < n → j < n → 0 < s i → (s j ≡ 0) ⊎ (s i < s j) → e j ≤ s i → Due l i j

-- whether the reading of a record has a slot
abbrev pub has_slot : Window → Bool
has_slot w = nat_lt 0 w.slot

-- in the records ws the first t slots are filled
pub record Filled (bs ws : List Window) (t : ℕ) : Type 0 where
  pub arranged : Arranged bs
  pub same : blank ws ≡ bs
  pub counted : count_by has_slot ws ≡ t
  pub progress : Progress (length bs) (earliest_at bs) (latest_at bs) (slot_at ws) t

-- the next reading of each channel is its first without a slot
pub record Cursors (bs ws : List Window) (next : ℕ → ℕ) : Type 0 where
  pub ahead : (j : ℕ) → j < length bs → slot_at ws j ≡ 0 → NextUpTo bs next j
  pub behind : (j : ℕ) → j < length bs → next (channel_at bs j) ≤ j → slot_at ws j ≡ 0

-- the earliest of every ready reading is at most t
abbrev pub Come : List Window → (ℕ → ℕ) → (ℕ → Bool) → ℕ → Type 0
Come bs next ready t = (c : ℕ) → ready c ≡ true → earliest_at bs (next c) ≤ t

-- the first t slots are filled, and the next and the ready readings are among those without a slot
pub record State (bs ws : List Window) (t : ℕ) (next : ℕ → ℕ) (ready : ℕ → Bool) : Type 0 where
  pub slots : Filled bs ws t
  pub cursors : Cursors bs ws next
  pub come : Come bs next ready t

-- a is the last slot up to m whose reading could also stand after m, or 0 where there is none
pub record LastMovable (ws : List Window) (m a : ℕ) : Type 0 where
  pub found : (a ≡ 0) ⊎ ((i : ℕ) × (i < length ws) × (slot_at ws i ≡ a) × (m < latest_at ws i))
  pub before : a ≤ m
  pub last : (i : ℕ) → i < length ws → m < latest_at ws i → slot_at ws i ≤ m → slot_at ws i ≤ a
