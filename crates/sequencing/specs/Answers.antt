-- What list and best answer.
use Rattle.std.specs.Prelude.{◌≡◌, ℕ, ◌-◌, ◌<◌, ◌≤◌, ◌↔◌, List, take, sum, count_by, nat_lt, Option, Some, None}
use Rattle.matching.specs.declared.window.Window.{Window}
use Rattle.penalty.specs.Cost.{Cost, top}
use Rattle.round.specs.Lists.{Complete, LargestCost, Within as WithinBound}
use Rattle.sequencing.specs.Memory.{KeepsRest, Memory}
use Rattle.sequencing.specs.Sequences.{HasList, IsBlock, IsSequence}
use Rattle.sequencing.specs.declared.answer.Best.{Best}
use Rattle.sequencing.specs.declared.answer.Block.{Block}
use Rattle.sequencing.specs.declared.answer.Listed.{Listed}
use Rattle.sequencing.specs.declared.answer.Listed.TheVariants.{Within, Over}
use Rattle.sequencing.specs.declared.answer.Outcome.{Outcome}
use Rattle.sequencing.specs.declared.answer.Outcome.TheVariants.{Least, NoLeast}
use Rattle.windows.specs.Extremes.{IsLeast}

-- what list shows at bound b, in the first window places and list bytes: a complete list within b, the one of the rules;
-- or else why there is none
abbrev pub Shows : Cost → List ℕ → ℕ → List Window → List ℕ → Listed → Type 0
Shows f t b ws l Within = Complete t l × WithinBound f t l b × IsSequence f t b ws l
Shows f t b ws l (Over block) = IsBlock f t b block

-- the answer of list at bound b, with the memory before and after it
pub record IsListed (f : Cost) (t : List ℕ) (b : ℕ) (m m' : Memory) (a : Listed) : Type 0 where
  pub exactly : (a ≡ Within) ↔ HasList f t b
  pub shown : Shows f t b (take (sum t) m'.windows) (take (sum t) m'.list) a
  pub rest : KeepsRest (sum t) m m'

-- the block at the bound below n, nothing where n is 0
abbrev pub IsBelow : Cost → List ℕ → ℕ → Option Block → Type 0
IsBelow f t n None = n ≡ 0
IsBelow f t n (Some block) = (0 < n) × IsBlock f t (n - 1) block

-- n is the least: the smallest bound, below the forbidden cost, that some complete list is within; ws and l are the
-- windows with their slots and the list of the rules there, its largest cost is n, and no complete list has a smaller one; and o is the block at the bound below it
pub record IsLeastList (f : Cost) (t : List ℕ) (n : ℕ) (o : Option Block) (ws : List Window) (l : List ℕ) : Type 0 where
  pub below_top : n < top
  pub least : IsLeast (HasList f t) n
  pub complete : Complete t l
  pub largest : LargestCost f t l n
  pub none_better : (l' : List ℕ) (m : ℕ) → Complete t l' → LargestCost f t l' m → n ≤ m
  pub rules : IsSequence f t n ws l
  pub below : IsBelow f t n o

-- every complete list has the forbidden cost as its largest
abbrev pub AllForbidden : Cost → List ℕ → Type 0
AllForbidden f t = (l : List ℕ) → Complete t l → LargestCost f t l top

-- what best shows, in the first window places and list bytes: the least with its list; or none, and the block one below
-- the forbidden cost
abbrev pub ShowsBest : Cost → List ℕ → List Window → List ℕ → Outcome → Type 0
ShowsBest f t ws l (Least n below) = IsLeastList f t n below ws l
ShowsBest f t ws l (NoLeast block) = IsBlock f t (top - 1) block

-- there is no least
abbrev pub HasNoLeast : Outcome → Type 0
HasNoLeast outcome = (block : Block) × (outcome ≡ NoLeast block)

-- the answer of best, with the memory before and after it
pub record IsBest (f : Cost) (t : List ℕ) (m m' : Memory) (a : Best) : Type 0 where
  pub total : a.total ≡ sum t
  pub channels : a.channels ≡ count_by (nat_lt 0) t
  pub none : HasNoLeast a.outcome ↔ AllForbidden f t
  pub shown : ShowsBest f t (take (sum t) m'.windows) (take (sum t) m'.list) a.outcome
  pub rest : KeepsRest (sum t) m m'
