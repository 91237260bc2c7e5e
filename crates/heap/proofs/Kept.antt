-- For callers: what holds of the elements that are kept, and sums over them, after a push and after a pop.
use Rattle.std.proofs.Common.{◌≡◌, ℕ, ◌+◌, Bool, List, ◌∷◌, take, sum_by, sym, ◌∙◌}
use Rattle.std.specs.List.{AllByRecursion}
use Rattle.std.proofs.lemmas.List.Sorted.{sum_by-IsPermutation}
use Rattle.std.proofs.ByRecursion.{all_shuffled}
use Rattle.std.proofs.lemmas.List.Sums.{sum_by-cons}
use Rattle.heap.specs.Heaps.{Popped, Pushed}

module _ {X : Type 0} (x : X) (xs : List X) (n : ℕ) (ys : List X) (m : ℕ) where
  -- a push adds what the element counts
  pub pushed_sum : Pushed x xs n ys m → (f : X → ℕ) → sum_by f (take m ys) ≡ f x + sum_by f (take n xs)
  pushed_sum p f = sum_by-IsPermutation f (x ∷ take n xs) (take m ys) p.kept ∙ sum_by-cons f x (take n xs)

  -- what holds of the element and of all that was kept holds of all that is kept after a push
  pub pushed_all : Pushed x xs n ys m → (P : X → Type 0) → P x → AllByRecursion P (take n xs) → AllByRecursion P (take m ys)
  pushed_all p P here all = all_shuffled P (x ∷ take n xs) (take m ys) p.kept (here, all)

  module _ (leq : X → X → Bool) where
    -- a pop takes away what the element counts
    pub popped_sum : Popped leq x xs n ys m → (f : X → ℕ) → f x + sum_by f (take m ys) ≡ sum_by f (take n xs)
    popped_sum p f = sym (sum_by-cons f x (take m ys)) ∙ sum_by-IsPermutation f (take n xs) (x ∷ take m ys) p.kept

    -- what held of all that was kept holds of the element and of all that is kept after a pop
    pub popped_all : Popped leq x xs n ys m → (P : X → Type 0) → AllByRecursion P (take n xs) → P x × AllByRecursion P (take m ys)
    popped_all p P all = all_shuffled P (take n xs) (x ∷ take m ys) p.kept all
