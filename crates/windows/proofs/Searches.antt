-- What the searches over the counts of a moment tell of its smallest and its greatest allowed count.
use Rattle.std.proofs.Common.{ℕ, ◌<◌, None, Some, Option, List, subst, ⊎_elim, arith}
use Rattle.std.proofs.lemmas.Bool.{cases_eq, cases_lt}
use Rattle.penalty.specs.Cost.{Cost, Valley}
use Rattle.std.specs.Option.{unwrap_or}
use Rattle.windows.specs.Allowed.{Allowed}
use Rattle.windows.specs.CountLimits.{HighestBelow, LowestAbove, FewestBy, MostBy, SomeAllowed}
use Rattle.windows.proofs.Ends.{allowed_between, highest_exists, lowest_exists}

module _ (f : Cost) (t : List ℕ) (b : ℕ) (k c m : ℕ) where
  -- where m is allowed, the smallest is no greater
  pub fewest_same : Allowed f t b k c m → FewestBy f t b k c m (Some m)
  fewest_same here =
      let low = lowest_exists f t b k c m here in
      (low.0, low.1, omega (arith, low.1.least m here))

  -- and the greatest no smaller
  pub most_same : Allowed f t b k c m → MostBy f t b k c m m
  most_same here =
      let high = highest_exists f t b k c m here in
      (high.0, high.1, omega (arith, high.1.greatest m here))

  module _ (valley : Valley f) (not : Allowed f t b k c m → ⊥) where
    -- else the smallest one above m is the smallest of all, since by the valley law none is below m as well
    pub fewest_above : (y : ℕ) → LowestAbove f t b k c m (Some y) → FewestBy f t b k c m (Some y)
    fewest_above y found =
        let here = found.holds in
        let low = lowest_exists f t b k c y here.1 in
        let upto = low.1.least y here.1 in
        let above : m < low.0 =
        ⊎_elim (λ more. more) (λ le. absurd (not (allowed_between f t b valley k c low.0 m y le (omega (arith, here.0)) low.1.holds here.1))) (cases_lt m low.0) in
        (low.0, low.1, omega (arith, here.0, found.least low.0 (above, low.1.holds)))

    -- else one below m tells that the smallest is
    pub fewest_below : (z : ℕ) → HighestBelow f t b k c m (Some z) → FewestBy f t b k c m (Some m)
    fewest_below z found =
        let low = lowest_exists f t b k c z found.holds.1 in
        (low.0, low.1, omega (arith, low.1.least z found.holds.1, found.holds.0))

    -- and where there is none on either side, there is none
    pub fewest_nowhere : LowestAbove f t b k c m None → HighestBelow f t b k c m None → FewestBy f t b k c m None
    fewest_nowhere above below some =
        ⊎_elim (λ same. not (subst (Allowed f t b k c) same some.1))
        (λ other. ⊎_elim (λ less. below some.0 less some.1) (λ ge. above some.0 (omega arith) some.1) (cases_lt some.0 m))
        (cases_eq some.0 m)

    -- the greatest one below m is the greatest of all; where there is none, all are above m
    pub most_below : SomeAllowed f t b k c → (r : Option ℕ) → HighestBelow f t b k c m r → MostBy f t b k c m (unwrap_or r m)
    most_below some None none =
        let high = highest_exists f t b k c some.0 some.1 in
        (high.0, high.1, ⊎_elim (λ less. absurd (none high.0 less high.1.holds)) (λ ge. omega arith) (cases_lt high.0 m))
    most_below some (Some y) found =
        let here = found.holds in
        let high = highest_exists f t b k c y here.1 in
        let from = high.1.greatest y here.1 in
        let below : high.0 < m =
        ⊎_elim (λ less. less) (λ ge. absurd (not (allowed_between f t b valley k c y m high.0 (omega (arith, here.0)) ge here.1 high.1.holds))) (cases_lt high.0 m) in
        (high.0, high.1, omega (arith, here.0, found.greatest high.0 (below, high.1.holds)))
