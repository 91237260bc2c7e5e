-- Steiner and Yeomans' formulas give the windows under the absolute deviation.
use Rattle.std.proofs.Common.{◌≡◌, ℕ, zero, suc, ◌+◌, ◌-◌, ◌*◌, ◌/◌, ◌<◌, ◌≤◌, min, true, ◌⊎◌, List, sum, inl, inr, refl, ⊎_elim, arith, mul-le-mul_left, mul-le-mul_right, lt_of_mul-lt-mul_right, mul-add, mul-one, mul_comm, suc-mul, div-lt_iff_lt-mul}
use Rattle.std.specs.Int.{div_ceil}
use Rattle.std.proofs.lemmas.Bool.{cases_lt}
use Rattle.std.proofs.lemmas.Bool.Decides.{nat_tests}
use Rattle.std.proofs.lemmas.Grind.{div_ceil_times}
use Rattle.std.proofs.lemmas.List.Sums.{get_or-le-sum_by}
use Rattle.penalty.specs.Absolute.{absolute}
use Rattle.penalty.specs.Cost.{inside}
use Rattle.penalty.specs.Deviation.{size}
use Rattle.round.specs.Lists.{Channel, Sound, readings}
use Rattle.round.proofs.Counts.{channel_below}
use Rattle.windows.specs.Allowed.{Allowed, NoneBlocked}
use Rattle.windows.specs.Formulas.{earliest, latest}
use Rattle.windows.specs.Windows.{Earliest, Forbidden, IsWindow, Latest, Needed, Reading}
use Rattle.windows.proofs.Ends.{highest_exists, lowest_exists, some_allowed}

-- what a quotient that is rounded up says of the number that is divided
rounded_up : (q n d : ℕ) → n ≤ q * d → q * d < n + d → ((q ≡ 0) × (n ≡ 0)) ⊎ ((k : ℕ) × (q ≡ k + 1) × (k * d < n) × (n ≤ q * d))
rounded_up zero n d above below = inl (refl, omega (arith, above))
rounded_up (suc k) n d above below = inr (k, omega arith, omega (arith, suc-mul k d), above)

-- the first formula stays within the slots
pub ceil_upto : (S d j b : ℕ) → 0 < d → j ≤ d → div_ceil (j * S - b) d ≤ S
ceil_upto S d j b some within =
    let times = div_ceil_times (j * S - b) d some in
    let room = mul-le-mul_right S within in
    let comm = mul_comm S d in
    ⊎_elim (λ none. omega (arith, none.0)) (λ up. let less : up.0 < S = lt_of_mul-lt-mul_right d (omega (arith, up.2)) in omega (arith, up.1)) (rounded_up (div_ceil (j * S - b) d) (j * S - b) d times.0 times.1)

module _ (t : List ℕ) (sound : Sound t) (b c : ℕ) (here : Channel t c) where
  -- on the domain the cost is the size of q
  size_is : (k x : ℕ) → k ≤ sum t → x ≤ readings t c → absolute (sum t) c (readings t c) x k ≡ size (sum t) (readings t c) x k
  size_is k x upto within =
      let below = channel_below t c here in
      let part = get_or-le-sum_by (λ y. y) t c 0 below in
      let S = sum t in
      let d = readings t c in
      let few = sound.few in
      let long = sound.long in
      let domain : inside S c d x k ≡ true = grind (arith, nat_tests) in
      rw domain refl

  -- so a count is allowed that is neither too far ahead nor too far behind
  allowed_from : (k x : ℕ) → k ≤ sum t → x ≤ readings t c → sum t * x ≤ k * readings t c + b → k * readings t c ≤ sum t * x + b → Allowed absolute t b k c x
  allowed_from k x upto within ahead behind = (within, omega (arith, size_is k x upto within))

  -- and an allowed one is neither
  allowed_to : (k x : ℕ) → k ≤ sum t → Allowed absolute t b k c x → (sum t * x ≤ k * readings t c + b) × (k * readings t c ≤ sum t * x + b)
  allowed_to k x upto a = let size = size_is k x upto a.0 in (omega (arith, a.1), omega (arith, a.1))

  module _ (none : NoneBlocked absolute t b) (j : ℕ) (reading : Reading t c j) where
    -- where hi(c,k) < j, j readings are too far ahead
    forbidden_to : (k : ℕ) → Forbidden absolute t b c j k → k * readings t c + b < j * sum t
    forbidden_to k p =
        let x = p.1 in
        let S = sum t in
        let was = allowed_to k x p.0 p.2.holds in
        let step = mul-add S x 1 in
        let one = mul-one S in
        let more = mul-le-mul_left S (let h : x + 1 ≤ j = omega (arith, p.3) in h) in
        let comm = mul_comm S j in
        ⊎_elim (λ less. omega arith)
        (λ ge. let a = allowed_from k (x + 1) p.0 (omega (arith, p.3, reading.1)) (omega arith) (omega (arith, was.1)) in
        let top = p.2.greatest (x + 1) a in absurd (omega arith))
        (cases_lt (k * readings t c + b) (S * (x + 1)))

    -- and where they are, hi(c,k) < j
    forbidden_from : (k : ℕ) → k ≤ sum t → k * readings t c + b < j * sum t → Forbidden absolute t b c j k
    forbidden_from k upto past =
        let S = sum t in
        let some = some_allowed absolute t b k c (upto, here) (none k c) in
        let high = highest_exists absolute t b k c some.0 some.1 in
        let was = allowed_to k high.0 upto high.1.holds in
        let comm = mul_comm S j in
        (upto, high.0, high.1, ⊎_elim (λ less. less) (λ ge. let le = mul-le-mul_left S ge in absurd (omega (arith, was.0))) (cases_lt high.0 j))

    -- where lo(c,k) ≥ j, j − 1 readings are too far behind
    needed_to : (k : ℕ) → Needed absolute t b c j k → (j - 1) * sum t + b < k * readings t c
    needed_to k p =
        let x = p.1 in
        let S = sum t in
        let was = allowed_to k x p.0 p.2.holds in
        let less = mul-le-mul_left S (let h : j - 1 ≤ x = omega (arith, p.3) in h) in
        let comm = mul_comm S (j - 1) in
        ⊎_elim (λ less. less)
        (λ ge.
        let a = allowed_from k (j - 1) p.0 (omega (arith, reading.1)) (omega (arith, was.0)) (omega arith) in
        let low = p.2.least (j - 1) a in absurd (omega (arith, p.3, reading.0)))
        (cases_lt ((j - 1) * S + b) (k * readings t c))

    -- and where they are, lo(c,k) ≥ j
    needed_from : (k : ℕ) → k ≤ sum t → (j - 1) * sum t + b < k * readings t c → Needed absolute t b c j k
    needed_from k upto past =
        let S = sum t in
        let some = some_allowed absolute t b k c (upto, here) (none k c) in
        let low = lowest_exists absolute t b k c some.0 some.1 in
        let was = allowed_to k low.0 upto low.1.holds in
        let comm = mul_comm S (j - 1) in
        (upto, low.0, low.1, ⊎_elim (λ less. let le = mul-le-mul_left S (let h : low.0 ≤ j - 1 = omega arith in h) in absurd (omega (arith, was.1))) (λ ge. ge) (cases_lt low.0 j))

    -- the earliest slot
    earliest_by_formula : Earliest absolute t b c j (earliest (sum t) (readings t c) j b)
    earliest_by_formula =
        let S = sum t in
        let d = readings t c in
        let q = div_ceil (j * S - b) d in
        let times = div_ceil_times (j * S - b) d here in
        let upto = ceil_upto S d j b here reading.1 in
        ⊎_elim
        (λ zero. inr (omega (arith, zero.0), λ k p. omega (arith, forbidden_to k p, zero.1)))
        (λ some.
        let k = some.0 in
        inl (
          k,
          omega (arith, some.1),
          record {
            holds = forbidden_from k (omega (arith, some.1)) (omega (arith, some.2));
            greatest = λ m p. let less : m < q = lt_of_mul-lt-mul_right d (omega (arith, forbidden_to m p, some.3)) in omega (arith, some.1);
          },
        ))
        (rounded_up q (j * S - b) d times.0 times.1)

    -- the latest slot
    latest_by_formula : Latest absolute t b c j (latest (sum t) (readings t c) j b)
    latest_by_formula =
        let S = sum t in
        let d = readings t c in
        let n = (j - 1) * S + b in
        let l = n / d + 1 in
        let none : (k : ℕ) → k < l → Needed absolute t b c j k → ⊥ = λ k h p.
        let past = (div-lt_iff_lt-mul {k = d} {x = n} {y = k} here).1 (needed_to k p) in
        omega arith in
        ⊎_elim
        (λ past. inr (omega arith, λ k p. none k (omega (arith, p.0)) p))
        (λ upto.
        let is : min S l ≡ l = omega arith in
        let at = needed_from l upto ((div-lt_iff_lt-mul {k = d} {x = n} {y = l} here).0 (omega arith)) in
        inl (rw is (record { holds = at; least = λ m p. ⊎_elim (λ less. absurd (none m less p)) (λ ge. ge) (cases_lt m l) })))
        (cases_lt S l)

    -- so both formulas give the window
    pub formulas_give : IsWindow absolute t b c j (earliest (sum t) (readings t c) j b, latest (sum t) (readings t c) j b)
    formulas_give = (earliest_by_formula, latest_by_formula)
