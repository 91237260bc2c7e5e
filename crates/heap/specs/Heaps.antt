-- What a heap keeps, and what its calls change. The heap keeps the first n elements of the memory xs; leq x y says
-- that x may come out before y.
use Rattle.std.specs.Prelude.{◌≡◌, ℕ, ◌+◌, ◌*◌, ◌<◌, ◌≤◌, ◌⊎◌, Bool, true, List, [], ◌∷◌, ◌++◌, length, take, drop, min, slice_index_or}
use Rattle.std.specs.List.Sorted.{IsPermutation}
use Rattle.std.specs.List.{AllByRecursion}

-- place k is a child of place p
pub record Child (p k : ℕ) : Type 0 where
  pub least : p * 2 + 1 ≤ k
  pub most : k ≤ p * 2 + 2

-- among the first n, every parent from place `low` on may come out before its children
abbrev pub HeapedFrom : {X : Type 0} → (X → X → Bool) → ℕ → List X → ℕ → Type 0
HeapedFrom {X} leq low xs n = (p k : ℕ) (d : X) → low ≤ p → Child p k → k < n → leq (slice_index_or xs p d) (slice_index_or xs k d) ≡ true

-- among the first n, every parent may come out before its children
abbrev pub Heaped : {X : Type 0} → (X → X → Bool) → List X → ℕ → Type 0
Heaped leq xs n = HeapedFrom leq 0 xs n

-- place c is a child of p that may come out before every child of p, among the first n
pub record LeastChild {X : Type 0} (leq : X → X → Bool) (xs : List X) (p n c : ℕ) : Type 0 where
  pub child : Child p c
  pub kept : c < n
  pub least : (k : ℕ) (d : X) → Child p k → k < n → leq (slice_index_or xs c d) (slice_index_or xs k d) ≡ true

-- what is so of every heap: the memory holds n elements, and they are in the order of a heap
pub record Sound {X : Type 0} (leq : X → X → Bool) (xs : List X) (n : ℕ) : Type 0 where
  pub room : n ≤ length xs
  pub heaped : Heaped leq xs n

-- the first n are the same elements in some order, and the memory past them is untouched
pub record Rearranged {X : Type 0} (n : ℕ) (xs ys : List X) : Type 0 where
  pub same : IsPermutation (take n xs) (take n ys)
  pub rest : drop n ys ≡ drop n xs

-- the heap keeps what it kept, and the memory is as it was
abbrev pub Unchanged : {X : Type 0} → List X → ℕ → List X → ℕ → Type 0
Unchanged xs n ys m = (m ≡ n) × (ys ≡ xs)

-- x stands in front and may come out before every element that is kept
pub record First {X : Type 0} (leq : X → X → Bool) (x : X) (xs : List X) (n : ℕ) : Type 0 where
  pub some : 0 < n
  pub front : x ≡ slice_index_or xs 0 x
  pub before : AllByRecursion (λ y. leq x y ≡ true) (take n xs)

-- x is kept besides what was kept, and the memory past what is kept is untouched
pub record Pushed {X : Type 0} (x : X) (xs : List X) (n : ℕ) (ys : List X) (m : ℕ) : Type 0 where
  pub more : m ≡ n + 1
  pub kept : IsPermutation (x ∷ take n xs) (take m ys)
  pub rest : drop m ys ≡ drop m xs
  pub long : length ys ≡ length xs

-- x, the first, is no longer kept, all else is, and the memory past what was kept is untouched
pub record Popped {X : Type 0} (leq : X → X → Bool) (x : X) (xs : List X) (n : ℕ) (ys : List X) (m : ℕ) : Type 0 where
  pub first : First leq x xs n
  pub fewer : m + 1 ≡ n
  pub kept : IsPermutation (take n xs) (x ∷ take m ys)
  pub rest : drop n ys ≡ drop n xs
  pub long : length ys ≡ length xs

-- where no place is left, x is offered and y is left out: it is x, which may come out before all that is kept, and nothing has
-- changed; or it was the first and may come out before x, and x is kept in its place
pub record LeftOut {X : Type 0} (leq : X → X → Bool) (x y : X) (xs : List X) (n : ℕ) (ys : List X) (m : ℕ) : Type 0 where
  pub full : n ≡ length xs
  pub one : ((y ≡ x) × AllByRecursion (λ z. leq x z ≡ true) (take n xs) × Unchanged xs n ys m)
      ⊎ (First leq y xs n × (leq y x ≡ true) × (m ≡ n) × IsPermutation (x ∷ take n xs) (y ∷ take m ys) × (length ys ≡ length xs))

-- each of these may come out before all after it
abbrev pub InOrder : {X : Type 0} → (X → X → Bool) → List X → Type 0
InOrder leq [] = Unit {0}
InOrder leq (x ∷ xs) = AllByRecursion (λ y. leq x y ≡ true) xs × InOrder leq xs

-- of a heap that keeps ks, xs may come out, one after another up to the last: they are the same elements, in their order
pub record MayLeave {X : Type 0} (leq : X → X → Bool) (ks xs : List X) : Type 0 where
  pub same : IsPermutation ks xs
  pub order : InOrder leq xs

-- of the elements ms, xs are the last n in the order, or all where they are fewer: xs and what is left out are ms in some order,
-- and each that is left out may come out before each of xs
pub record AreLast {X : Type 0} (leq : X → X → Bool) (ms : List X) (n : ℕ) (xs : List X) : Type 0 where
  pub left_out : List X
  pub all : IsPermutation (xs ++ left_out) ms
  pub last : AllByRecursion (λ y. AllByRecursion (λ x. leq y x ≡ true) xs) left_out
  pub many : length xs ≡ min n (length ms)
