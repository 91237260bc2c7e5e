-- When list and best are refused, and by which number.
use Rattle.std.specs.Prelude.{◌≡◌, ℕ, ◌-◌, Bool, cond, ◌==◌, nat_lt, List, [], ◌∷◌, sum, Result, Ok, Err}
use Rattle.penalty.specs.Cost.{top}
use Rattle.sequencing.specs.Memory.{is_short}
use Rattle.sequencing.specs.declared.refusal.Refusal.{Refusal}
use Rattle.sequencing.specs.declared.refusal.Refusal.TheVariants.{NoChannel, BoundAboveLimit, TooLittleMemory}

-- the number of a refusal
abbrev pub number : Refusal → ℕ
number NoChannel = 6
number BoundAboveLimit = 7
number TooLittleMemory = 8

-- numbers, each with whether it fits: the first that does, 0 where none does
abbrev pub first_of : List (ℕ × Bool) → ℕ
first_of [] = 0
first_of (rule ∷ rules) = cond rule.1 rule.0 (first_of rules)

-- list at bound b with memory of these sizes is refused by 6 where no channel has readings, by 7 where the bound is above
-- TOP − 1, by 8 where the memory is too little, and else accepted
abbrev pub list_refused : List ℕ → ℕ → ℕ → ℕ → ℕ → ℕ
list_refused t b w r l = first_of ((6, sum t == 0) ∷ (7, nat_lt (top - 1) b) ∷ (8, is_short (sum t) w r l) ∷ [])

-- best is refused by 6 and 8 alike, and has no bound
abbrev pub best_refused : List ℕ → ℕ → ℕ → ℕ → ℕ
best_refused t w r l = first_of ((6, sum t == 0) ∷ (8, is_short (sum t) w r l) ∷ [])

-- what comes of a call that is refused by the number n, or accepted where n is 0: an answer of which A holds, or a
-- refusal of that number, and then U holds
abbrev pub MayRefuse : {X E : Type 0} → ℕ → (X → Type 0) → (E → ℕ) → Type 0 → Result X E → Type 0
MayRefuse n A number U (Ok x) = (n ≡ 0) × A x
MayRefuse n A number U (Err e) = (n ≡ number e) × U
