-- The records of the channels so far, and the first moment of these that is blocked.
use Rattle.std.proofs.Common.{◌≡◌, ℕ, ◌+◌, ◌<◌, ◌≤◌, List, [], None, Some, Option, IfNone, MatchOption, length, get_or, take, drop, sum, sym, refl, ap, ◌∙◌, inl, inr, ⊎_elim, arith}
use Rattle.std.proofs.lemmas.Bool.{cases_eq, cases_lt}
use Rattle.std.proofs.lemmas.List.{get_or-take, length-take}
use Rattle.std.proofs.lemmas.List.Sums.{sum_by_more}
use Rattle.matching.proofs.Queueing.{drop_later}
use Rattle.matching.specs.Windows.{window}
use Rattle.matching.specs.declared.window.Window.{Window}
use Rattle.penalty.specs.Cost.{Cost}
use Rattle.round.specs.Lists.{Before, readings}
use Rattle.round.proofs.Counts.{channel_below}
use Rattle.windows.specs.Allowed.{Blocked, FirstBlocked, NoneBlocked}
use Rattle.windows.specs.Extremes.{IsLeast}
use Rattle.windows.specs.Filling.{AreWindows, IsRecord, place_of}
use Rattle.windows.specs.CountLimits.{FirstOfBoth}
use Rattle.windows.specs.Windows.{Reading}
use Rattle.windows.specs.declared.answer.Moment.{Moment}
use Rattle.windows.proofs.Places.{FilledTo, place_before, place_inside, within_sum}

-- the first blocked moment of the channels below n, if there is one
abbrev FirstBelow : Cost → List ℕ → ℕ → ℕ → Option Moment → Type 0
FirstBelow f t b n r =
    MatchOption r ((k c : ℕ) → c < n → Blocked f t b k c → ⊥)
    (λ m. (m.channel < n) × Blocked f t b m.slot m.channel × ((k c : ℕ) → c < n → Before k c m.slot m.channel → Blocked f t b k c → ⊥))

-- the records of all readings of the channels below n are in ws
abbrev pub RecordsBelow : Cost → List ℕ → ℕ → ℕ → List Window → Type 0
RecordsBelow f t b n ws = (c j : ℕ) → c < n → Reading t c j → IsRecord f t b c j (window ws (place_of t c j))

-- channels below n are done: the next one starts at `start`, o is their first blocked moment, and the places have their
-- records where there is none; ws are the places, and `old` what they were before
pub record ChannelsDone (f : Cost) (t : List ℕ) (b : ℕ) (old : List Window) (n start : ℕ) (o : Option Moment) (ws : List Window) : Type 0 where
  pub place : start ≡ sum (take n t)
  pub first : FirstBelow f t b n o
  pub records : IfNone o (RecordsBelow f t b n ws)
  pub long : length ws ≡ length old
  pub rest : drop (sum t) ws ≡ drop (sum t) old

-- what follows where there is no value follows in the end
IfNone_map : {X : Type 0} {P Q : Type 0} (o : Option X) → (P → Q) → IfNone o P → IfNone o Q
IfNone_map None m p = m p
IfNone_map (Some x) m p = p

module _ (f : Cost) (t : List ℕ) (b : ℕ) where
  -- no moment of channel n is blocked
  first_same : (n : ℕ) (o : Option Moment) → ((k : ℕ) → Blocked f t b k n → ⊥) → FirstBelow f t b n o → FirstBelow f t b (n + 1) o
  first_same n None clear old = λ k c h p. ⊎_elim (λ less. old k c less p) (λ ge. let e : c ≡ n = omega arith in clear k (rw e at p)) (cases_lt c n)
  first_same n (Some m) clear old = (
    omega (arith, old.0),
    old.1,
    λ k c h before p. ⊎_elim (λ less. old.2 k c less before p) (λ ge. let e : c ≡ n = omega arith in clear k (rw e at p)) (cases_lt c n),
  )

  -- the first blocked moment of channel n is after slot s, and r is the first of it and of those before
  first_more : (n s : ℕ) (o : Option Moment) (r : Moment) → IsLeast (λ k. Blocked f t b k n) s → FirstOfBoth o (record { slot = s; channel = n }) r →
      FirstBelow f t b n o → FirstBelow f t b (n + 1) (Some r)
  first_more n s None r least is old = rw is (
    omega arith,
    least.holds,
    λ k c h before p.
        ⊎_elim
        (λ less. old k c less p)
        (λ ge. let e : c ≡ n = omega arith in ⊎_elim (λ less. omega (arith, least.least k (rw e at p))) (λ same. omega (arith, same.1)) before)
        (cases_lt c n),
  )
  first_more n s (Some m) r least (inl is, after, before) old = rw is (
    omega (arith, old.0),
    old.1,
    λ k c h earlier p.
        ⊎_elim
        (λ below. old.2 k c below earlier p)
        (λ ge.
        let e : c ≡ n = omega arith in
        let from = least.least k (rw e at p) in
        (rw is at before) (⊎_elim (λ less. inl (omega arith)) (λ same. absurd (omega (arith, old.0, same.1))) earlier))
        (cases_lt c n),
  )
  first_more n s (Some m) r least (inr is, after, before) old = rw is (
    omega arith,
    least.holds,
    λ k c h earlier p.
        let later : s < m.slot =
        ⊎_elim
        (λ less. less)
        (λ ge. absurd ((rw is at after) (⊎_elim (λ same. inr (same, old.0)) (λ other. inl (omega arith)) (cases_eq m.slot s))))
        (cases_lt s m.slot) in
        ⊎_elim
        (λ below. old.2 k c below (inl (⊎_elim (λ less. omega arith) (λ same. omega (arith, same.0)) earlier)) p)
        (λ ge. let e : c ≡ n = omega arith in ⊎_elim (λ less. omega (arith, least.least k (rw e at p))) (λ same. omega (arith, same.1)) earlier)
        (cases_lt c n),
  )

  module _ (old : List Window) where
    -- the records of one channel more are in ws'
    records_more : (n : ℕ) (ws ws' : List Window) → FilledTo f t b n (sum (take n t)) ws (readings t n) ws' → RecordsBelow f t b n ws → RecordsBelow f t b (n + 1) ws'
    records_more n ws ws' filled before c j h reading =
        ⊎_elim
        (λ less.
        let inside = place_before t c j n reading less in
        let start = sum (take n t) in
        let i = place_of t c j in
        let d = window [] 0 in
        let same = sym (get_or-take start ws' i d inside) ∙ ap (λ (l : List Window). get_or l i d) filled.before ∙ get_or-take start ws i d inside in
        rw same (before c j less reading))
        (λ ge. let e : c ≡ n = omega arith in rw e (filled.records j (rw e at reading) (omega (arith, (rw e at reading).1))))
        (cases_lt c n)

    module _ (n start : ℕ) (o : Option Moment) (ws : List Window) (inside : n < length t) (done : ChannelsDone f t b old n start o ws) where
      -- one channel more, of which no moment is blocked
      pub channels_unblocked : (ws' : List Window) → ((k : ℕ) → Blocked f t b k n → ⊥) → FilledTo f t b n start ws (readings t n) ws' →
          ChannelsDone f t b old (n + 1) (start + readings t n) o ws'
      channels_unblocked ws' clear filled = record {
        place = omega (arith, sum_by_more (λ x. x) t n 0 inside, done.place);
        first = first_same n o clear done.first;
        records = IfNone_map o (records_more n ws ws' (rw done.place at filled)) done.records;
        long = filled.long ∙ done.long;
        rest = drop_later ws ws' (start + readings t n) (sum t) (omega (arith, within_sum t n, done.place)) filled.after ∙ done.rest;
      }

      -- one channel more, which has no readings
      pub channels_empty : readings t n ≡ 0 → ChannelsDone f t b old (n + 1) (start + readings t n) o ws
      channels_empty none =
          channels_unblocked ws (λ k p. omega (arith, p.moment.1))
          (record { long = refl; records = λ j reading. absurd (omega (arith, reading.0, reading.1)); before = refl; after = refl })

      -- one channel more, whose first blocked moment is after slot s
      pub channels_blocked : (s : ℕ) (r : Moment) → IsLeast (λ k. Blocked f t b k n) s → FirstOfBoth o (record { slot = s; channel = n }) r →
          ChannelsDone f t b old (n + 1) (start + readings t n) (Some r) ws
      channels_blocked s r least first = record {
        place = omega (arith, sum_by_more (λ x. x) t n 0 inside, done.place);
        first = first_more n s o r least first done.first;
        records = tt;
        long = done.long;
        rest = done.rest;
      }

    module _ (n start : ℕ) (room : sum t ≤ length old) (all : length t ≤ n) where
      -- where all channels are done and none is blocked, the windows are there
      pub channels_all : (ws : List Window) → ChannelsDone f t b old n start None ws → NoneBlocked f t b × AreWindows f t b (take (sum t) ws)
      channels_all ws done = (
        λ k c p. done.first k c (omega (arith, channel_below t c p.moment.1)) p,
        record {
          long = omega (arith, length-take (sum t) ws, done.long);
          each = λ c j reading.
              let below = channel_below t c (omega (arith, reading.0, reading.1)) in
              rw (get_or-take (sum t) ws (place_of t c j) (window [] 0) (place_inside t c j reading)) (done.records c j (omega arith) reading);
        },
      )

      -- where one is blocked, it is the first of all
      pub channels_first : (m : Moment) (ws : List Window) → ChannelsDone f t b old n start (Some m) ws → FirstBlocked f t b m.slot m.channel
      channels_first m ws done = record {
        blocked = done.first.1;
        first = λ k c before p. done.first.2 k c (omega (arith, channel_below t c p.moment.1)) before p;
      }
