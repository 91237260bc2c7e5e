-- The search for the least bound, try after try.
use Rattle.std.proofs.Common.{ℕ, ◌-◌, ◌<◌, ◌≤◌, Ok, Err, Result, IsOk, IfErr, List, None, Some, Option, refl, ⊎_elim, arith}
use Rattle.std.proofs.lemmas.Bool.{cases_lt}
use Rattle.penalty.specs.Cost.{Cost, top}
use Rattle.sequencing.specs.Answers.{IsBelow}
use Rattle.sequencing.specs.Searches.{HasLargest}
use Rattle.sequencing.specs.Sequences.{HasList, IsBlock}
use Rattle.sequencing.specs.declared.answer.Block.{Block}
use Rattle.sequencing.proofs.Ruling.{block_rules_out}

-- how far the search has come: a list with the largest cost `high` is found, and none is within a bound below `low`
pub record SearchedTo (f : Cost) (t : List ℕ) (low high : ℕ) (block : Option Block) : Type 0 where
  pub found : HasLargest f t high
  pub under : high < top
  pub order : low ≤ high
  pub below : IsBelow f t low block

module _ (f : Cost) (t : List ℕ) where
  -- a list with a largest cost is within every bound from that on
  pub largest_has : (n b : ℕ) → n ≤ b → HasLargest f t n → HasList f t b
  largest_has n b h has = (has.0, has.1, λ k c moment. omega (arith, has.2.within k c moment))

  -- where the bound below n has a block, no list is within any bound below n
  pub below_rules_out : (n : ℕ) (block : Option Block) → IsBelow f t n block → (m : ℕ) → m < n → HasList f t m → ⊥
  below_rules_out n None zero m less has = omega arith
  below_rules_out n (Some block) below m less has =
      block_rules_out f t (n - 1) block below.1 (has.0, has.1, λ k c moment. omega (arith, has.2 k c moment))

  module _ (low high : ℕ) (block : Option Block) (between : SearchedTo f t low high block) where
    -- a list of a smaller largest cost
    pub between_list : (cost : ℕ) → cost < high → HasLargest f t cost → SearchedTo f t low cost block
    between_list cost less has = record {
      found = has;
      under = omega (arith, between.under);
      order = ⊎_elim (λ under. absurd (below_rules_out low block between.below cost under (largest_has cost cost (omega arith) has))) (λ ge. ge) (cases_lt cost low);
      below = between.below;
    }

-- where there is a list at a bound, trying the bound finds one
pub found_again : (f : Cost) (t : List ℕ) (n : ℕ) (r : Result (Unit {0}) Block) → IfErr r (IsBlock f t n) → HasLargest f t n → IsOk r
found_again f t n (Ok u) block has = refl
found_again f t n (Err block) is has = absurd (block_rules_out f t n block is (largest_has f t n n (omega arith) has))
