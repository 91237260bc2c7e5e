-- For callers: under an order in which no two different elements may each come out before the other, the last n of some elements leave
-- every heap that keeps them as one list.
use Rattle.std.proofs.Common.{◌≡◌, ℕ, Bool, true, false, cond, List, [], ◌∷◌, ◌++◌, length, min, sum_by, sym, refl, ap, ap₂, ◌∙◌, ⊎_elim, arith}
use Rattle.std.specs.List.{AllByRecursion}
use Rattle.std.proofs.ByRecursion.{All-weaker, all_shuffled}
use Rattle.std.proofs.lemmas.Bool.{cases_Bool}
use Rattle.std.proofs.lemmas.List.Sorted.{IsPermutation-append_left, IsPermutation-middle, length_permutation, sum_by-IsPermutation}
use Rattle.std.proofs.lemmas.List.Sums.{sum_by-append, sum_by-cons}
use Rattle.heap.specs.Heaps.{AreLast, InOrder, MayLeave}

module _ {X : Type 0} (leq : X → X → Bool)
    (total : (x y : X) → leq x y ≡ false → leq y x ≡ true)
    (one_way : (x y : X) → leq x y ≡ true → leq y x ≡ true → x ≡ y) where
  -- each of xs may come out before each of ys
  abbrev AllBefore : List X → List X → Type 0
  AllBefore xs ys = AllByRecursion (λ x. AllByRecursion (λ y. leq x y ≡ true) ys) xs

  -- xs and ys have the same elements, each as often
  abbrev Same : List X → List X → Type 0
  Same xs ys = (f : X → ℕ) → sum_by f xs ≡ sum_by f ys

  -- 1 for an element that may not come out before x, 0 for another
  abbrev counts_after : X → X → ℕ
  counts_after x y = cond (leq y x) 0 1

  -- where each may come out before x none is counted
  none_after : (x : X) (ys : List X) → AllByRecursion (λ y. leq y x ≡ true) ys → sum_by (counts_after x) ys ≡ 0
  none_after x [] all = refl
  none_after x (y ∷ ys) all =
      let here : counts_after x y ≡ 0 = rw all.0 refl in
      omega (arith, sum_by-cons (counts_after x) y ys, here, none_after x ys all.1)

  -- two lists have the same elements, and each of the first may come out before its front x; then so may the front y of the second
  front_before : (x y : X) (xs ys : List X) → Same (x ∷ xs) (y ∷ ys) → AllByRecursion (λ z. leq z x ≡ true) xs → leq y x ≡ true
  front_before x y xs ys same all =
      let itself = ⊎_elim (λ t. t) (λ f. total x x f) (cases_Bool (leq x x)) in
      let none = none_after x (x ∷ xs) (itself, all) in
      ⊎_elim (λ t. t)
      (λ f.
      let here : counts_after x y ≡ 1 = rw f refl in
      absurd (omega (arith, none, same (counts_after x), sum_by-cons (counts_after x) y ys, here)))
      (cases_Bool (leq y x))

  -- an element inside a list adds to a sum what it would in front
  moved : (f : X → ℕ) (x : X) (xs us : List X) → sum_by f (xs ++ x ∷ us) ≡ sum_by f ((x ∷ xs) ++ us)
  moved f x xs us = sym (sum_by-IsPermutation f (xs ++ x ∷ us) (x ∷ (xs ++ us)) (IsPermutation-middle xs x us))

  -- what may come out before a list may come out before its front, and before the rest
  before_front : (us : List X) (x : X) (xs : List X) → AllBefore us (x ∷ xs) → AllByRecursion (λ u. leq u x ≡ true) us
  before_front us x xs all =
      All-weaker (λ u. AllByRecursion (λ z. leq u z ≡ true) (x ∷ xs)) (λ u. leq u x ≡ true) (λ u both. both.0) us all

  before_rest : (us : List X) (x : X) (xs : List X) → AllBefore us (x ∷ xs) → AllBefore us xs
  before_rest us x xs all =
      All-weaker (λ u. AllByRecursion (λ z. leq u z ≡ true) (x ∷ xs)) (λ u. AllByRecursion (λ z. leq u z ≡ true) xs) (λ u both. both.1) us all

  -- xs and ys are in order and equally long; us and vs, which they leave out, may come out before all of them; and each with what it
  -- leaves out has the same elements. Then they are one list
  same_order : (xs ys us vs : List X) → length xs ≡ length ys → InOrder leq xs → InOrder leq ys → AllBefore us xs → AllBefore vs ys →
      Same (xs ++ us) (ys ++ vs) → xs ≡ ys
  same_order [] [] us vs long a b before_a before_b same = refl
  same_order [] (y ∷ ys) us vs long a b before_a before_b same = absurd (omega arith)
  same_order (x ∷ xs) [] us vs long a b before_a before_b same = absurd (omega arith)
  same_order (x ∷ xs) (y ∷ ys) us vs long a b before_a before_b same =
      let left : Same (xs ++ x ∷ us) (ys ++ y ∷ vs) = λ f. moved f x xs us ∙ same f ∙ sym (moved f y ys vs) in
      let rest = same_order xs ys (x ∷ us) (y ∷ vs) (omega arith) a.1 b.1
      (a.0, before_rest us x xs before_a) (b.0, before_rest vs y ys before_b) left in
      let fronts : Same (x ∷ us) (y ∷ vs) =
      λ f. omega (arith, left f, sum_by-append f xs (x ∷ us), sum_by-append f ys (y ∷ vs), ap (sum_by f) rest) in
      let front = one_way x y (front_before y x vs us (λ f. sym (fronts f)) (before_front vs y ys before_b))
      (front_before x y us vs fronts (before_front us x xs before_a)) in
      ap₂ (λ z zs. z ∷ zs) front rest

  module _ (ms : List X) (n : ℕ) (xs us : List X) (last : AreLast leq ms n xs) (leaves : MayLeave leq xs us) where
    -- what is left out may come out before what leaves
    left_before : AllBefore last.left_out us
    left_before =
        All-weaker (λ y. AllByRecursion (λ x. leq y x ≡ true) xs) (λ y. AllByRecursion (λ x. leq y x ≡ true) us)
        (λ y. all_shuffled (λ x. leq y x ≡ true) xs us leaves.same) last.left_out last.last

    -- what leaves and what is left out are all elements
    left_same : Same (us ++ last.left_out) ms
    left_same f =
        sum_by-IsPermutation f (xs ++ last.left_out) (us ++ last.left_out) (IsPermutation-append_left last.left_out xs us leaves.same)
        ∙ sym (sum_by-IsPermutation f (xs ++ last.left_out) ms last.all)

    -- as many leave as are kept
    leave_many : length us ≡ min n (length ms)
    leave_many = length_permutation xs us leaves.same ∙ last.many

  -- what may leave a heap that keeps the last n of some elements, one after another up to the last, is one list
  pub leave_as_one : (ms : List X) (n : ℕ) (xs ys us vs : List X) → AreLast leq ms n xs → AreLast leq ms n ys →
      MayLeave leq xs us → MayLeave leq ys vs → us ≡ vs
  leave_as_one ms n xs ys us vs a b leaves_a leaves_b =
      same_order us vs a.left_out b.left_out (leave_many ms n xs us a leaves_a ∙ sym (leave_many ms n ys vs b leaves_b))
      leaves_a.order leaves_b.order (left_before ms n xs us a leaves_a) (left_before ms n ys vs b leaves_b)
      (λ f. left_same ms n xs us a leaves_a f ∙ sym (left_same ms n ys vs b leaves_b f))
