-- That an answer is right, by what the contracts of list and best say of it, whatever the memory held before. (Whether a call
-- takes so much memory is not asked here.)
use Rattle.std.specs.Prelude.{◌≡◌, ℕ, List, ◌++◌, drop, sum, Option}
use Rattle.matching.specs.declared.window.Window.{Window}
use Rattle.penalty.specs.Cost.{Cost}
use Rattle.sequencing.specs.Answers.{IsBest, IsListed}
use Rattle.sequencing.specs.Memory.{Memory, memory}
use Rattle.sequencing.specs.declared.answer.Best.{Best}
use Rattle.sequencing.specs.declared.answer.Block.{Block}
use Rattle.sequencing.specs.declared.answer.Listed.TheVariants.{Within, Over}
use Rattle.sequencing.specs.declared.answer.Outcome.TheVariants.{Least, NoLeast}

-- memory m after windows with their slots and a list were written to its first places, D each
abbrev pub written : ℕ → List Window → List ℕ → Memory → Memory
written D ws l m = memory (ws ++ drop D m.windows) m.ready (l ++ drop D m.list)

-- it is right that list finds l at bound b, with the windows and their slots ws
abbrev pub Finds : Cost → List ℕ → ℕ → List Window → List ℕ → Type 0
Finds f t b ws l = (m : Memory) → IsListed f t b m (written (sum t) ws l m) Within

-- it is right that list finds none at bound b, for this block
abbrev pub FindsNone : Cost → List ℕ → ℕ → Block → Type 0
FindsNone f t b block = (m : Memory) → IsListed f t b m m (Over block)

-- it is right that the least is n, with list l, the windows with their slots ws, and the block at the bound below n
abbrev pub FindsLeast : Cost → List ℕ → ℕ → List Window → List ℕ → Option Block → Type 0
FindsLeast f t n ws l below =
    (a : Best) × (a.outcome ≡ Least n below) × ((m : Memory) → IsBest f t m (written (sum t) ws l m) a)

-- it is right that there is no least, for this block
abbrev pub FindsNoLeast : Cost → List ℕ → Block → Type 0
FindsNoLeast f t block = (a : Best) × (a.outcome ≡ NoLeast block) × ((m : Memory) → IsBest f t m m a)
