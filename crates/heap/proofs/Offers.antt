-- What is left out where no place is left, and in which order elements leave.
use Rattle.std.proofs.Common.{◌≡◌, ℕ, ◌≤◌, Bool, true, List, [], ◌∷◌, length, take, sym, refl, ◌∙◌, inr, arith}
use Rattle.std.specs.List.Sorted.{IsPermutation}
use Rattle.std.proofs.ByRecursion.{all_shuffled}
use Rattle.std.proofs.lemmas.List.Sorted.{IsPermutation-cons, IsPermutation-swap, IsPermutation-trans}
use Rattle.heap.specs.Heaps.{First, LeftOut, MayLeave, Popped, Pushed}

module _ {X : Type 0} (leq : X → X → Bool) where
  -- two elements change places at the front
  front_swapped : (x y : X) (xs : List X) → IsPermutation (x ∷ (y ∷ xs)) (y ∷ (x ∷ xs))
  front_swapped x y xs = IsPermutation-swap (x ∷ (y ∷ xs)) (y ∷ (x ∷ xs)) 0 1 (omega arith) (omega arith) refl

  -- the first two that are shown and taken out may come out before the same elements
  first_before : (x y f : X) (xs : List X) (n : ℕ) → n ≤ length xs → First leq y xs n → First leq f xs n → leq f x ≡ true → leq y x ≡ true
  first_before x y f [] n room y_first f_first before = absurd (let some = y_first.some in omega arith)
  first_before x y f (z ∷ xs) n room y_first f_first before = rw (y_first.front, sym f_first.front) before

  -- where the first may come out before it, the first is left out
  pub out_first : (x y f : X) (xs : List X) (n : ℕ) (ys : List X) (m : ℕ) (zs : List X) (k : ℕ) →
      n ≡ length xs → First leq f xs n → leq f x ≡ true → Popped leq y xs n ys m → Pushed x ys m zs k → LeftOut leq x y xs n zs k
  out_first x y f xs n ys m zs k full first before out into = record {
    full = full;
    one = inr (
      out.first,
      first_before x y f xs n (omega arith) out.first first before,
      into.more ∙ out.fewer,
      IsPermutation-trans (x ∷ take n xs) (x ∷ (y ∷ take m ys)) (y ∷ take k zs) (IsPermutation-cons x (take n xs) (y ∷ take m ys) out.kept)
          (IsPermutation-trans (x ∷ (y ∷ take m ys)) (y ∷ (x ∷ take m ys)) (y ∷ take k zs) (front_swapped x y (take m ys))
          (IsPermutation-cons y (x ∷ take m ys) (take k zs) into.kept)),
      into.long ∙ out.long,
    );
  }

  -- what is popped leaves before what is kept after it
  pub leaves_first : (x : X) (xs : List X) (n : ℕ) (ys : List X) (m : ℕ) → Popped leq x xs n ys m →
      (zs : List X) → MayLeave leq (take m ys) zs → MayLeave leq (take n xs) (x ∷ zs)
  leaves_first x xs n ys m out zs rest =
      let same = IsPermutation-trans (take n xs) (x ∷ take m ys) (x ∷ zs) out.kept (IsPermutation-cons x (take m ys) zs rest.same) in
      record { same = same; order = ((all_shuffled (λ y. leq x y ≡ true) (take n xs) (x ∷ zs) same out.first.before).1, rest.order) }
