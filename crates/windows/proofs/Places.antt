-- The places of readings, and the records in them.
use Rattle.std.proofs.Common.{◌≡◌, ℕ, suc, ◌+◌, ◌-◌, ◌<◌, ◌≤◌, List, [], ◌∷◌, length, take, drop, set, sum, ap, ◌∙◌, ⊎_elim, arith}
use Rattle.std.proofs.lemmas.Bool.{cases_eq, cases_lt}
use Rattle.std.proofs.lemmas.List.{drop-set-lt, get_or-set_other, get_or-set_same, get_or_past, length-set, take-set-le, take-take, take_all}
use Rattle.std.proofs.lemmas.List.Sums.{sum_by-cons, sum_by-take-le, sum_by_more}
use Rattle.matching.specs.Windows.{window}
use Rattle.matching.specs.declared.window.Window.{Window}
use Rattle.penalty.specs.Cost.{Cost}
use Rattle.round.specs.Lists.{Before, readings}
use Rattle.windows.specs.Filling.{IsRecord, place_of}
use Rattle.windows.specs.Windows.{Reading}

-- the readings of a channel come after those of the channels before it and before all others
through_channel : (t : List ℕ) (c n : ℕ) → c < n → sum (take c t) + readings t c ≤ sum (take n t)
through_channel t c n h =
    ⊎_elim
    (λ inside.
    let more = sum_by_more (λ x. x) t c 0 inside in
    let part = sum_by-take-le (λ x. x) (take n t) (c + 1) in
    let same = ap sum (take-take (c + 1) n t (omega arith)) in
    omega arith)
    (λ past.
    let none = get_or_past t c 0 past in
    let all = ap sum (take_all c t past) in
    let whole = ap sum (take_all n t (omega arith)) in
    omega arith)
    (cases_lt c (length t))

-- all of them are within the sum
pub within_sum : (t : List ℕ) (c : ℕ) → sum (take c t) + readings t c ≤ sum t
within_sum t c =
    let most = through_channel t c (c + 1) (omega arith) in
    omega (arith, sum_by-take-le (λ x. x) t (c + 1))

-- a reading has one of as many places as there are readings
pub place_inside : (t : List ℕ) (c j : ℕ) → Reading t c j → place_of t c j < sum t
place_inside t c j reading = omega (arith, within_sum t c, reading.0, reading.1)

-- and it is before those of the channels from n on, where its own is below
pub place_before : (t : List ℕ) (c j n : ℕ) → Reading t c j → c < n → place_of t c j < sum (take n t)
place_before t c j n reading less = omega (arith, through_channel t c n less, reading.0, reading.1)

-- the places go by channel, and in a channel by reading
pub place_rises : (t : List ℕ) (a i c j : ℕ) → Reading t a i → Reading t c j → Before a i c j → place_of t a i < place_of t c j
place_rises t a i c j before after earlier =
    ⊎_elim
    (λ less. omega (arith, place_before t a i c before less))
    (λ same. let e = ap (λ x. sum (take x t)) same.0 in omega (arith, before.0, same.1))
    earlier

-- each place is that of a reading
pub reading_at : (t : List ℕ) (i : ℕ) → i < sum t → (c : ℕ) × (j : ℕ) × Reading t c j × (place_of t c j ≡ i)
reading_at [] i h = absurd (omega arith)
reading_at (x ∷ xs) i h =
    let whole = sum_by-cons (λ y. y) x xs in
    ⊎_elim
    (λ here. (0, i + 1, (omega arith, omega arith), omega arith))
    (λ past.
    let rest = reading_at xs (i - x) (omega arith) in
    let step = sum_by-cons (λ y. y) x (take rest.0 xs) in
    (suc rest.0, rest.1, rest.2, omega (arith, rest.2.0, rest.3)))
    (cases_lt i x)

-- the records of readings 1 to m of channel c lie from `start` on in ws, which is `old` before and after its readings
pub record FilledTo (f : Cost) (t : List ℕ) (b c start : ℕ) (old : List Window) (m : ℕ) (ws : List Window) : Type 0 where
  pub long : length ws ≡ length old
  pub records : (j : ℕ) → Reading t c j → j ≤ m → IsRecord f t b c j (window ws (start + (j - 1)))
  pub before : take start ws ≡ take start old
  pub after : drop (start + readings t c) ws ≡ drop (start + readings t c) old

-- one record more
pub filled_more : (f : Cost) (t : List ℕ) (b c start : ℕ) (old : List Window) (m : ℕ) (ws : List Window) (w : Window) → m < readings t c →
    start + readings t c ≤ length old → IsRecord f t b c (m + 1) w → FilledTo f t b c start old m ws → FilledTo f t b c start old (m + 1) (set ws (start + m) w)
filled_more f t b c start old m ws w less room here filled = record {
  long = length-set ws (start + m) w ∙ filled.long;
  records = λ j reading upto.
      ⊎_elim
      (λ same.
      let at : start + (j - 1) ≡ start + m = omega arith in
      rw (at, same) (rw (get_or-set_same ws (start + m) w (window [] 0) (omega (arith, filled.long))) here))
      (λ other.
      rw (get_or-set_other ws (start + m) (start + (j - 1)) w (window [] 0) (λ e. other (omega (arith, reading.0))))
      (filled.records j reading (omega arith)))
      (cases_eq j (m + 1));
  before = take-set-le start ws (start + m) w (omega arith) ∙ filled.before;
  after = drop-set-lt (start + readings t c) ws (start + m) w (omega arith) ∙ filled.after;
}
