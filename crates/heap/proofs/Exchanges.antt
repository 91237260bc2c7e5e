-- What an exchange, a push and a pop do to the elements that are kept and to the memory past them.
use Rattle.std.proofs.Common.{◌≡◌, ℕ, ◌+◌, ◌<◌, ◌≤◌, Bool, List, [], ◌∷◌, ◌++◌, length, get_or, take, drop, set, sym, refl, ap, ◌∙◌, subst, arith}
use lib.Seq.{take-set-lt}
use Rattle.std.specs.List.{swap}
use Rattle.std.proofs.lemmas.List.Edits.{swap_is, length-swap}
use Rattle.std.proofs.lemmas.List.{drop-drop, drop-set-lt, get_or-take, length-take-le, take_more, take_more_set}
use Rattle.std.proofs.lemmas.List.Sorted.{IsPermutation-cons, IsPermutation-refl, IsPermutation-swap, IsPermutation-sym, IsPermutation-to_front, IsPermutation-trans}
use Rattle.heap.specs.Heaps.{First, Popped, Pushed, Rearranged}

module _ {X : Type 0} where
  -- nothing has changed
  pub rearranged_none : (n : ℕ) (xs : List X) → Rearranged n xs xs
  rearranged_none n xs = record { same = IsPermutation-refl (take n xs); rest = refl }

  -- one change after another
  pub rearranged_then : (n : ℕ) (xs ys zs : List X) → Rearranged n xs ys → Rearranged n ys zs → Rearranged n xs zs
  rearranged_then n xs ys zs s t = record {
    same = IsPermutation-trans (take n xs) (take n ys) (take n zs) s.same t.same;
    rest = t.rest ∙ s.rest;
  }

  -- an exchange within the first n, where d stands for what is past the end
  rearranged_set : (n : ℕ) (xs : List X) (i j : ℕ) (d : X) → i < n → j < n → n ≤ length xs → Rearranged n xs (set (set xs i (get_or xs j d)) j (get_or xs i d))
  rearranged_set n xs i j d p q le =
      let a = get_or xs i d in
      let b = get_or xs j d in
      let long = length-take-le n xs le in
      let front : take n (set (set xs i b) j a) ≡ set (set (take n xs) i (get_or (take n xs) j d)) j (get_or (take n xs) i d) =
      rw (get_or-take n xs j d q, get_or-take n xs i d p) (take-set-lt n (set xs i b) j a q ∙ ap (λ (l : List X). set l j a) (take-set-lt n xs i b p)) in
      record {
        same = IsPermutation-swap (take n xs) (take n (set (set xs i b) j a)) i j (omega arith) (omega arith) (front ∙ swap_is (take n xs) i j d (omega arith) (omega arith));
        rest = drop-set-lt n (set xs i b) j a q ∙ drop-set-lt n xs i b p;
      }

  -- an exchange within the first n
  pub rearranged_swap : (n : ℕ) (xs ys : List X) (i j : ℕ) → i < n → j < n → n ≤ length xs → ys ≡ swap xs i j → Rearranged n xs ys
  rearranged_swap n [] ys i j p q le e = absurd (omega arith)
  rearranged_swap n (x ∷ xs) ys i j p q le e = subst (Rearranged n (x ∷ xs)) (sym e) (rearranged_set n (x ∷ xs) i j x p q le)

  -- x is written behind the first n, which are then rearranged with it
  pub pushes : (n : ℕ) (x : X) (xs zs : List X) → n < length xs → length zs ≡ length xs → Rearranged (n + 1) (set xs n x) zs → Pushed x xs n zs (n + 1)
  pushes n x xs zs lt long s = record {
    more = refl;
    kept = IsPermutation-trans (x ∷ take n xs) (take (n + 1) (set xs n x)) (take (n + 1) zs)
        (rw (take_more_set xs n x lt) (IsPermutation-sym (take n xs ++ x ∷ []) (x ∷ take n xs) (IsPermutation-to_front (take n xs) x))) s.same;
    rest = s.rest ∙ drop-set-lt (n + 1) xs n x (omega arith);
    long = long;
  }

  module _ (leq : X → X → Bool) (m : ℕ) (x : X) (xs ys zs : List X) (e : ys ≡ swap xs 0 m) (at : x ≡ get_or ys m x) (long : length zs ≡ length xs) (s : Rearranged m ys zs) where
    -- of m + 1 elements the first changes places with the last, and those before that are rearranged
    pub pops : m < length xs → First leq x xs (m + 1) → Popped leq x xs (m + 1) zs m
    pops lt first =
        let w = rearranged_swap (m + 1) xs ys 0 m (omega arith) (omega arith) (omega arith) e in
        let same : length ys ≡ length xs = ap length e ∙ length-swap xs 0 m in
        let front : take (m + 1) ys ≡ take m ys ++ x ∷ [] = take_more ys m x (omega arith) ∙ ap (λ y. take m ys ++ y ∷ []) (sym at) in
        let past : drop (m + 1) zs ≡ drop (m + 1) ys = sym (drop-drop 1 m zs) ∙ ap (drop 1) s.rest ∙ drop-drop 1 m ys in
        record {
          first = first;
          fewer = refl;
          kept = IsPermutation-trans (take (m + 1) xs) (x ∷ take m ys) (x ∷ take m zs)
              (IsPermutation-trans (take (m + 1) xs) (take m ys ++ x ∷ []) (x ∷ take m ys) (rw front at w.same) (IsPermutation-to_front (take m ys) x))
              (IsPermutation-cons x (take m ys) (take m zs) s.same);
          rest = past ∙ w.rest;
          long = long;
        }
