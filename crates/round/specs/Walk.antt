-- The invariants of the loops over a list's moments: the counts so far, the first maximum over the moments visited so far, and what a
-- heap keeps of them. They serve the proofs only; what the audit answers is in Audit.antt, and which moments are dearest in Dearest.antt.
use Rattle.std.specs.Prelude.{◌≡◌, ℕ, ◌+◌, ◌<◌, ◌≤◌, ◌++◌, cond, List, Some, None, sum, Option, nat_lt, slice_index}
use Rattle.heap.specs.Heaps.{AreLast}
use Rattle.penalty.specs.Cost.{Cost}
use Rattle.round.specs.Dearest.{no_dearer, moments_at}
use Rattle.round.specs.Lists.{Moment, Before, count, cost_at}
use Rattle.round.specs.declared.costed_moment.CostedMoment.{CostedMoment}

-- a row of numbers holds the count of every channel after k slots
abbrev pub Counted : List ℕ → List ℕ → ℕ → Type 0
Counted counts l k = (c : ℕ) → slice_index counts c ≡ count l c k

-- r has the largest value of g over the pairs in M, and the first pair that has it
pub record FirstMaximum (g : ℕ → ℕ → ℕ) (M : ℕ → ℕ → Type 0) (r : CostedMoment) : Type 0 where
  pub moment : M r.slot r.channel
  pub exact : g r.slot r.channel ≡ r.cost
  pub within : (j b : ℕ) → M j b → g j b ≤ r.cost
  pub first : (j b : ℕ) → M j b → Before j b r.slot r.channel → g j b < r.cost

-- what was found over the pairs in M: nothing only where there are none
abbrev pub Found : (ℕ → ℕ → ℕ) → (ℕ → ℕ → Type 0) → Option CostedMoment → Type 0
Found g M None = (j b : ℕ) → M j b → ⊥
Found g M (Some r) = FirstMaximum g M r

-- the moments before (k, c)
abbrev pub Past : List ℕ → ℕ → ℕ → ℕ → ℕ → Type 0
Past t k c j b = Moment t j b × Before j b k c

-- a scan of the channels at k: what was found among the moments before k becomes what was found up to k, for
-- every list that has these counts there
abbrev pub Scanned : Cost → List ℕ → List ℕ → ℕ → Option CostedMoment → Option CostedMoment → Type 0
Scanned f t counts k before after =
    (l : List ℕ) → k ≤ sum t → Counted counts l k → Found (cost_at f t l) (Past t k 0) before → Found (cost_at f t l) (Past t (k + 1) 0) after

-- what the helper `larger` answers: of equal costs the earlier stays
abbrev pub larger_of : Option CostedMoment → CostedMoment → CostedMoment
larger_of None next = next
larger_of (Some r) next = cond (nat_lt r.cost next.cost) next r

-- a heap with n places that keeps xs is offered the moments at k, of every list that has these counts there, and then keeps ys:
-- the dearest of the moments so far and of these
abbrev pub Offered : Cost → List ℕ → List ℕ → ℕ → ℕ → List CostedMoment → List CostedMoment → Type 0
Offered f t counts k n xs ys =
    (l : List ℕ) (ms : List CostedMoment) → Counted counts l k → AreLast no_dearer ms n xs → AreLast no_dearer (ms ++ moments_at f t l k) n ys
