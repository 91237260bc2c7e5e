-- A complete list within the bound gives every reading a slot in its window; so where no assignment exists, no list does.
use Rattle.std.proofs.Common.{◌≡◌, ℕ, ◌+◌, ◌-◌, ◌<◌, ◌≤◌, ◌⊎◌, List, length, get_or, sum, inl, inr, sym, ap, ◌∙◌, ⊎_elim, arith}
use Rattle.std.proofs.lemmas.Bool.{cases_eq, cases_lt}
use Rattle.matching.specs.Matchings.{Assignment}
use Rattle.matching.specs.Windows.{channel_at, earliest_at, latest_at, window}
use Rattle.matching.specs.declared.window.Window.{Window}
use Rattle.penalty.specs.Cost.{Cost}
use Rattle.round.specs.Lists.{Complete, Within, count}
use Rattle.round.proofs.Counts.{count_end, count_other, count_own, count_rises}
use Rattle.windows.specs.Filling.{AreOpen, place_of}
use Rattle.windows.specs.Windows.{Reading}
use Rattle.windows.proofs.Arranged.{record_at}
use Rattle.windows.proofs.Bound.{Stands, within_stands}
use Rattle.windows.proofs.Ends.{at_most_decided}
use Rattle.windows.proofs.Extremes.{least_exists}

-- reading j of channel c stands in slot s of list l
pub record StandsIn (l : List ℕ) (c j s : ℕ) : Type 0 where
  pub from : 1 ≤ s
  pub to : s ≤ length l
  pub before : count l c (s - 1) < j
  pub by : j ≤ count l c s

-- of numbers that there are below n one each can be named
abbrev pick : (R : ℕ → ℕ → Type 0) (n : ℕ) → ((i : ℕ) → i < n → (s : ℕ) × R i s) → (i : ℕ) → (i < n) ⊎ (n ≤ i) → ℕ
pick R n each i (inl h) = (each i h).0
pick R n each i (inr past) = 0

-- and is one of those
picked : (R : ℕ → ℕ → Type 0) (n : ℕ) (each : (i : ℕ) → i < n → (s : ℕ) × R i s) (i : ℕ) (d : (i < n) ⊎ (n ≤ i)) → i < n → R i (pick R n each i d)
picked R n each i (inl h) here = (each i h).1
picked R n each i (inr past) here = absurd (omega arith)

module _ (t l : List ℕ) (whole : Complete t l) where
  -- each reading stands in a slot
  stands_somewhere : (c j : ℕ) → Reading t c j → (s : ℕ) × StandsIn l c j s
  stands_somewhere c j reading =
      let first = least_exists (λ k. j ≤ count l c k) (λ k. at_most_decided j (count l c k)) (sum t) (omega (arith, count_end t l whole c (sum t) (omega arith), reading.1)) in
      let s = first.0 in
      let some : 1 ≤ s = ⊎_elim (λ zero. let none = ap (count l c) zero in absurd (omega (arith, first.1.holds, reading.0))) (λ no. omega arith) (cases_eq s 0) in (
        s,
        record {
          from = some;
          to = omega (arith, whole.full, first.1.least (sum t) (omega (arith, count_end t l whole c (sum t) (omega arith), reading.1)));
          before = ⊎_elim (λ less. less) (λ ge. let up = first.1.least (s - 1) ge in absurd (omega arith)) (cases_lt (count l c (s - 1)) j);
          by = first.1.holds;
        },
      )

-- the channel of a slot is that of the reading that stands in it
channel_of_slot : (l : List ℕ) (c j s : ℕ) → StandsIn l c j s → (c ≡ get_or l (s - 1) 0) × (j ≡ count l c (s - 1) + 1)
channel_of_slot l c j s stands =
    let k = s - 1 in
    let back : s ≡ k + 1 = omega (arith, stands.from) in
    let next = ap (count l c) back in
    ⊎_elim
    (λ own.
    let more = count_own l c k (omega (arith, stands.from, stands.to)) own in
    (own, omega (arith, stands.before, stands.by)))
    (λ other.
    let same = count_other l c k (omega (arith, stands.from, stands.to)) other in
    absurd (omega (arith, stands.before, stands.by)))
    (cases_eq c (get_or l k 0))

-- a slot has one reading
one_in_slot : (l : List ℕ) (c j a i s : ℕ) → StandsIn l c j s → StandsIn l a i s → (c ≡ a) × (j ≡ i)
one_in_slot l c j a i s u v =
    let x = channel_of_slot l c j s u in
    let y = channel_of_slot l a i s v in
    let same = x.0 ∙ sym y.0 in
    (same, omega (arith, ap (λ e. count l e (s - 1)) same, x.1, y.1))

-- a reading that stands in its window stands in a slot of it
slot_in_window : (l : List ℕ) (c j s : ℕ) (w : ℕ × ℕ) → StandsIn l c j s → Stands l c j w → (w.0 ≤ s) × (s ≤ w.1)
slot_in_window l c j s w here stands = (
  ⊎_elim (λ early. absurd (omega (arith, here.by, stands.0, count_rises l c s (w.0 - 1) (omega arith)))) (λ ge. ge) (cases_lt s w.0),
  ⊎_elim (λ late. absurd (omega (arith, here.before, stands.1, count_rises l c w.1 (s - 1) (omega arith)))) (λ ge. ge) (cases_lt w.1 s),
)

-- the slots of a complete list within the bound are an assignment of the windows
pub list_assigns : (f : Cost) (t : List ℕ) (b : ℕ) (ws : List Window) → AreOpen f t b ws → (l : List ℕ) → Complete t l → Within f t l b →
    (slot : ℕ → ℕ) × Assignment ws slot
list_assigns f t b ws all l whole within =
    let R : ℕ → ℕ → Type 0 = λ i s. StandsIn l (channel_at ws i) (window ws i).reading s in
    let each : (i : ℕ) → i < length ws → (s : ℕ) × R i s = λ i h.
    let at = record_at f t b ws all i h in
    let there = stands_somewhere t l whole at.0 at.1 at.2 in
    (there.0, rw (at.4.channel, at.4.reading) there.1) in
    let slot : ℕ → ℕ = λ i. pick R (length ws) each i (cases_lt i (length ws)) in
    let here : (i : ℕ) → i < length ws → R i (slot i) = λ i h. picked R (length ws) each i (cases_lt i (length ws)) h in (
      slot,
      record {
        inside = λ i h.
            let at = record_at f t b ws all i h in
            let stands = within_stands t l whole f b within at.0 at.1 (earliest_at ws i, latest_at ws i) at.2 at.4.window in
            slot_in_window l at.0 at.1 (slot i) (earliest_at ws i, latest_at ws i) (rw (sym at.4.channel, sym at.4.reading) (here i h)) stands;
        apart = λ i k h g same.
            let at = record_at f t b ws all i h in
            let to = record_at f t b ws all k g in
            let one = one_in_slot l (channel_at ws i) (window ws i).reading (channel_at ws k) (window ws k).reading (slot k) (rw (sym same) (here i h)) (here k g) in
            let channel : at.0 ≡ to.0 = sym at.4.channel ∙ one.0 ∙ to.4.channel in
            let reading : at.1 ≡ to.1 = sym at.4.reading ∙ one.1 ∙ to.4.reading in
            sym at.3 ∙ ap (λ c. place_of t c at.1) channel ∙ ap (place_of t to.0) reading ∙ to.3;
      },
    )
