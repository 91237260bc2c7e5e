-- For callers: a heap that is offered elements, one after another, keeps the last of them.
use Rattle.std.proofs.Common.{◌≡◌, get_or, ℕ, ◌<◌, ◌≤◌, Bool, true, List, [], ◌∷◌, ◌++◌, length, take, min, sym, refl, ap, ◌∙◌, subst, ⊎_elim, Some, None, Option, MatchOption, arith}
use Rattle.std.specs.List.{AllByRecursion}
use Rattle.std.specs.List.Sorted.{IsPermutation}
use Rattle.std.proofs.ByRecursion.{All-get_or, All-weaker, all_shuffled}
use Rattle.std.proofs.lemmas.Bool.{cases_lt}
use Rattle.std.proofs.Math.Nat.{min-eq_left, min-eq_right}
use Rattle.std.proofs.lemmas.List.{append-nil, get_or-take, length-append, length-take-le}
use Rattle.std.proofs.lemmas.List.Sorted.{IsPermutation-append_left, IsPermutation-cons, IsPermutation-middle, IsPermutation-refl, IsPermutation-sym, IsPermutation-to_front, IsPermutation-trans, length_permutation}
use Rattle.heap.specs.Heaps.{AreLast, First, LeftOut, Pushed}

-- a list of length 0 is empty
no_length : {X : Type 0} (xs : List X) → length xs ≡ 0 → xs ≡ []
no_length [] h = refl
no_length (x ∷ xs) h = absurd (omega arith)

-- where fewer are kept than there are places, as many are kept as there are
less_than_places : (n m k : ℕ) → k ≡ min n m → k < n → k ≡ m
less_than_places n m k many room =
    ⊎_elim (λ less. many ∙ min-eq_right (omega arith)) (λ more. let all = many ∙ min-eq_left more in absurd (omega arith)) (cases_lt m n)

-- where every place is taken there are no fewer elements
as_many : (n m k : ℕ) → k ≡ min n m → k ≡ n → n ≤ m
as_many n m k many full = ⊎_elim (λ less. let all = many ∙ min-eq_right (omega arith) in absurd (omega arith)) (λ more. more) (cases_lt m n)

module _ {X : Type 0} (leq : X → X → Bool) where
  -- of no elements none are kept
  pub last_none : (n : ℕ) → AreLast leq [] n []
  last_none n = record { left_out = []; all = IsPermutation-refl []; last = tt; many = sym (min-eq_right (omega arith)) }

  module _ (ms : List X) (n : ℕ) (x : X) where
    -- one element more in front of what is kept and left out
    more_all : (xs ys : List X) → IsPermutation xs ms → IsPermutation (x ∷ xs) ys → IsPermutation ys (ms ++ x ∷ [])
    more_all xs ys all one =
        IsPermutation-trans ys (x ∷ xs) (ms ++ x ∷ []) (IsPermutation-sym (x ∷ xs) ys one)
        (IsPermutation-trans (x ∷ xs) (x ∷ ms) (ms ++ x ∷ []) (IsPermutation-cons x xs ms all)
        (IsPermutation-sym (ms ++ x ∷ []) (x ∷ ms) (IsPermutation-to_front ms x)))

    -- where there is a place nothing was left out, and the element is kept too
    pub last_more : (xs ys : List X) → length xs < n → IsPermutation (x ∷ xs) ys → AreLast leq ms n xs → AreLast leq (ms ++ x ∷ []) n ys
    last_more xs ys room one h =
        let all_kept = less_than_places n (length ms) (length xs) h.many room in
        let none : h.left_out ≡ [] = no_length h.left_out
        (omega (arith, length_permutation (xs ++ h.left_out) ms h.all, length-append xs h.left_out)) in
        let all : IsPermutation xs ms = subst (λ (l : List X). IsPermutation l ms) (ap (λ l. xs ++ l) none ∙ append-nil xs) h.all in
        let more = length_permutation (x ∷ xs) ys one in
        record {
          left_out = [];
          all = subst (λ (l : List X). IsPermutation l (ms ++ x ∷ [])) (sym (append-nil ys)) (more_all xs ys all one);
          last = tt;
          many = omega (arith, length-append ms (x ∷ [])) ∙ sym (min-eq_right (omega (arith, length-append ms (x ∷ []))));
        }

    -- where there is none an element y is left out that may come out before all that stay, and w before y
    pub last_left : (y : X) (xs ys : List X) → length xs ≡ n → IsPermutation (x ∷ xs) (y ∷ ys) → length ys ≡ length xs → AllByRecursion (λ z. leq y z ≡ true) ys →
        ((w : X) → AllByRecursion (λ z. leq w z ≡ true) xs → AllByRecursion (λ z. leq w z ≡ true) ys) →
        AreLast leq ms n xs → AreLast leq (ms ++ x ∷ []) n ys
    last_left y xs ys full one long before keeps h = record {
      left_out = y ∷ h.left_out;
      all = more_all (xs ++ h.left_out) (ys ++ y ∷ h.left_out) h.all
          (IsPermutation-trans (x ∷ (xs ++ h.left_out)) (y ∷ (ys ++ h.left_out)) (ys ++ y ∷ h.left_out)
          (IsPermutation-append_left h.left_out (x ∷ xs) (y ∷ ys) one)
          (IsPermutation-sym (ys ++ y ∷ h.left_out) (y ∷ (ys ++ h.left_out)) (IsPermutation-middle ys y h.left_out)));
      last = (before, All-weaker (λ w. AllByRecursion (λ z. leq w z ≡ true) xs) (λ w. AllByRecursion (λ z. leq w z ≡ true) ys) keeps h.left_out h.last);
      many = long ∙ full ∙ sym (min-eq_left (omega (arith, length-append ms (x ∷ []), as_many n (length ms) (length xs) h.many full)));
    }

  module _ (transitive : (x y z : X) → leq x y ≡ true → leq y z ≡ true → leq x z ≡ true) (ms : List X) (x : X) (xs : List X) (n : ℕ) (ys : List X) (m : ℕ) where
    -- what may come out before all that is kept may come out before the first of it
    before_first : (w y : X) → n ≤ length xs → First leq y xs n → AllByRecursion (λ z. leq w z ≡ true) (take n xs) → leq w y ≡ true
    before_first w y room first all =
        let at : y ≡ get_or (take n xs) 0 y = first.front ∙ sym (get_or-take n xs 0 y first.some) in
        rw at (All-get_or (λ z. leq w z ≡ true) (take n xs) 0 y (omega (arith, first.some, length-take-le n xs room)) all)

    -- what a heap keeps of all that it was offered, after one more
    offered_once : (o : Option X) → n ≤ length xs → m ≤ length ys → MatchOption o (Pushed x xs n ys m) (λ y. LeftOut leq x y xs n ys m) →
        AreLast leq ms (length xs) (take n xs) → AreLast leq (ms ++ x ∷ []) (length xs) (take m ys)
    offered_once None room room_after pushed h =
        last_more ms (length xs) x (take n xs) (take m ys) (omega (arith, length-take-le n xs room, pushed.more, pushed.long)) pushed.kept h
    offered_once (Some y) room room_after left h =
        let full = length-take-le n xs room ∙ left.full in
        ⊎_elim
        (λ itself.
        rw (itself.2.0, itself.2.1)
        (last_left ms (length xs) x x (take n xs) (take n xs) full (IsPermutation-refl (x ∷ take n xs)) refl itself.1 (λ w all. all) h))
        (λ first.
        last_left ms (length xs) x y (take n xs) (take m ys) full first.3
        (omega (arith, length-take-le n xs room, length-take-le m ys room_after, first.2))
        (all_shuffled (λ z. leq y z ≡ true) (x ∷ take n xs) (y ∷ take m ys) first.3 (first.1, first.0.before)).1
        (λ w all.
        (all_shuffled (λ z. leq w z ≡ true) (x ∷ take n xs) (y ∷ take m ys) first.3
        (transitive w y x (before_first w y room first.0 all) first.1, all)).1)
        h)
        left.one

    -- the same, for so many places
    pub last_offered : (places : ℕ) → length xs ≡ places → (o : Option X) → n ≤ length xs → m ≤ length ys →
        MatchOption o (Pushed x xs n ys m) (λ y. LeftOut leq x y xs n ys m) →
        AreLast leq ms places (take n xs) → AreLast leq (ms ++ x ∷ []) places (take m ys)
    last_offered places many o room room_after offered =
        subst (λ (p : ℕ). AreLast leq ms p (take n xs) → AreLast leq (ms ++ x ∷ []) p (take m ys)) many (offered_once o room room_after offered)
