-- What an audit answers: the largest cost and the first moment that has it, or a refusal.
use Rattle.std.specs.Prelude.{◌≡◌, ℕ, ◌≢◌, List, Ok, Err, Result}
use Rattle.penalty.specs.Cost.{Cost}
use Rattle.round.specs.Lists.{Sound, Complete, Moment, Before, LargestCost, cost_at}
use Rattle.round.specs.Refusals.{Refused}
use Rattle.round.specs.declared.costed_moment.CostedMoment.{CostedMoment}
use Rattle.round.specs.declared.refusal.Refusal.{Refusal}

-- (k, c) is the first moment that costs n
pub record FirstMoment (f : Cost) (t l : List ℕ) (n k c : ℕ) : Type 0 where
  pub moment : Moment t k c
  pub costs : cost_at f t l k c ≡ n
  pub none_before : (j b : ℕ) → Moment t j b → Before j b k c → cost_at f t l j b ≢ n

-- r has the largest cost of the list and the first moment that has it
pub record FirstLargest (f : Cost) (t l : List ℕ) (r : CostedMoment) : Type 0 where
  pub largest : LargestCost f t l r.cost
  pub first : FirstMoment f t l r.cost r.slot r.channel

-- the answer to a penalty f, a table t and a list l
abbrev pub Audited : Cost → List ℕ → List ℕ → Result CostedMoment Refusal → Type 0
Audited f t l (Ok r) = Sound t × Complete t l × FirstLargest f t l r
Audited f t l (Err e) = Refused t l e
