-- How one element comes to its place in a heap: over the elements by place, f before an exchange and g after it.
use Rattle.std.proofs.Common.{◌≡◌, ℕ, zero, suc, ◌+◌, ◌-◌, ◌*◌, ◌/◌, ◌<◌, ◌≤◌, Bool, true, false, List, [], ◌∷◌, get_or, take, slice_get, Option, IfSome, sym, refl, ap, ◌∙◌, subst, ⊎_elim, arith}
use Rattle.std.proofs.lemmas.List.Edits.{Swapped}
use Rattle.std.proofs.ByRecursion.{All-from_get_or}
use Rattle.std.proofs.lemmas.List.{get_or-take, length-take-le}
use Rattle.std.proofs.lemmas.Bool.{cases_Bool, cases_eq}
use Rattle.heap.specs.Heaps.{Child, First, Heaped, HeapedFrom, LeastChild, Sound}

-- place k is a child of place p
child : (p k : ℕ) → p * 2 + 1 ≤ k → k ≤ p * 2 + 2 → Child p k
child p k a b = record { least = a; most = b }

-- the first n are a heap but for the element at j, which may have to go up
pub record Upward {X : Type 0} (leq : X → X → Bool) (f : ℕ → X) (j n : ℕ) : Type 0 where
  pub pairs : (p k : ℕ) → Child p k → k < n → (k ≡ j → ⊥) → leq (f p) (f k) ≡ true
  pub over : (p k : ℕ) → Child p j → Child j k → k < n → leq (f p) (f k) ≡ true

-- the first n are a heap but for the element at j, which may have to go down
pub record Downward {X : Type 0} (leq : X → X → Bool) (f : ℕ → X) (j n : ℕ) : Type 0 where
  pub pairs : (p k : ℕ) → Child p k → k < n → (p ≡ j → ⊥) → leq (f p) (f k) ≡ true
  pub over : (p k : ℕ) → Child p j → Child j k → k < n → leq (f p) (f k) ≡ true

module _ {X : Type 0} (leq : X → X → Bool) where
  -- the same two elements under other names
  by : {a b x y : X} → a ≡ x → b ≡ y → leq x y ≡ true → leq a b ≡ true
  by p q h = (λ i. leq (p i) (q i)) ∙ h

  -- a heap of the first j, with one element more behind it
  pub upward_begins : (xs : List X) (j : ℕ) → Heaped leq xs j → (d : X) → Upward leq (λ k. get_or xs k d) j (j + 1)
  upward_begins xs j h d = record {
    pairs = λ p k c lt other. h p k d (omega arith) c (omega arith);
    over = λ p k c b lt. absurd (omega arith);
  }

  -- the element has come to the front
  pub upward_top : (xs : List X) (j n : ℕ) → j ≡ 0 → ((d : X) → Upward leq (λ k. get_or xs k d) j n) → Heaped leq xs n
  upward_top xs j n top h = λ p k d low c lt. (h d).pairs p k c lt (omega arith)

  -- the parent may come out before the element
  pub upward_rests : (xs : List X) (u j n : ℕ) → Child u j → ((d : X) → leq (get_or xs u d) (get_or xs j d) ≡ true) → ((d : X) → Upward leq (λ k. get_or xs k d) j n) → Heaped leq xs n
  upward_rests xs u j n c t h = λ p k d low b lt.
      ⊎_elim
      (λ same.
      let parent : p ≡ u = omega arith in
      by (ap (λ m. get_or xs m d) parent) (ap (λ m. get_or xs m d) same) (t d))
      (λ other. (h d).pairs p k b lt other)
      (cases_eq k j)

  -- all but the first element are in the order of a heap
  pub downward_begins : (xs : List X) (n : ℕ) → HeapedFrom leq 1 xs n → (d : X) → Downward leq (λ k. get_or xs k d) 0 n
  downward_begins xs n h d = record {
    pairs = λ p k c lt other. h p k d (omega arith) c lt;
    over = λ p k c b lt. absurd (omega arith);
  }

  -- the element has no child
  pub downward_end : (xs : List X) (j n : ℕ) → n ≤ j * 2 + 1 → ((d : X) → Downward leq (λ k. get_or xs k d) j n) → Heaped leq xs n
  downward_end xs j n none h = λ p k d low c lt. (h d).pairs p k c lt (omega arith)

  module _ (total : (x y : X) → leq x y ≡ false → leq y x ≡ true) (transitive : (x y z : X) → leq x y ≡ true → leq y z ≡ true → leq x z ≡ true) where
    -- an element may come out before itself
    itself : (x : X) → leq x x ≡ true
    itself x = ⊎_elim (λ t. t) (λ f. total x x f) (cases_Bool (leq x x))

    -- the element at j changes places with its parent u
    pub upward_more : (f g : ℕ → X) (u j n : ℕ) → Child u j → j < n → Swapped f g u j → leq (f u) (f j) ≡ false → Upward leq f j n → Upward leq g u n
    upward_more f g u j n c lt w less h = record {
      pairs = λ p k b kn other. ⊎_elim
          (λ pu. ⊎_elim
          (λ kj. by (ap g pu ∙ w.0) (ap g kj ∙ w.1) (total (f u) (f j) less))
          (λ nj. by (ap g pu ∙ w.0) (w.2 k other nj) (transitive (f j) (f u) (f k) (total (f u) (f j) less) (h.pairs u k (child u k (omega arith) (omega arith)) kn nj)))
          (cases_eq k j))
          (λ nu. ⊎_elim
          (λ pj. by (ap g pj ∙ w.1) (w.2 k other (omega arith)) (h.over u k c (child j k (omega arith) (omega arith)) kn))
          (λ nj. by (w.2 p nu nj) (w.2 k other (omega arith)) (h.pairs p k b kn (omega arith)))
          (cases_eq p j))
          (cases_eq p u);
      over = λ p k b e kn.
          let first = h.pairs p u b (omega arith) (omega arith) in
          let same = w.2 p (omega arith) (omega arith) in
          ⊎_elim
          (λ kj. by same (ap g kj ∙ w.1) first)
          (λ nj. by same (w.2 k (omega arith) nj) (transitive (f p) (f u) (f k) first (h.pairs u k e kn nj)))
          (cases_eq k j);
    }

    -- the element at j changes places with its least child c
    pub downward_more : (f g : ℕ → X) (j c n : ℕ) → Child j c → c < n → ((k : ℕ) → Child j k → k < n → leq (f c) (f k) ≡ true) → Swapped f g j c → leq (f j) (f c) ≡ false → Downward leq f j n → Downward leq g c n
    downward_more f g j c n a lt least w less h = record {
      pairs = λ p k b kn other. ⊎_elim
          (λ pj. ⊎_elim
          (λ kc. by (ap g pj ∙ w.0) (ap g kc ∙ w.1) (total (f j) (f c) less))
          (λ nc. by (ap g pj ∙ w.0) (w.2 k (omega arith) nc) (least k (child j k (omega arith) (omega arith)) kn))
          (cases_eq k c))
          (λ nj. ⊎_elim
          (λ kj. by (w.2 p nj other) (ap g kj ∙ w.0) (h.over p c (child p j (omega arith) (omega arith)) a lt))
          (λ mj. by (w.2 p nj other) (w.2 k mj (omega arith)) (h.pairs p k b kn nj))
          (cases_eq k j))
          (cases_eq p j);
      over = λ p k b e kn.
          let pj : p ≡ j = omega arith in
          by (ap g pj ∙ w.0) (w.2 k (omega arith) (omega arith)) (h.pairs c k e kn (omega arith));
    }

    -- the element may come out before its least child
    pub downward_rests : (xs : List X) (j c n : ℕ) → LeastChild leq xs j n c → ((d : X) → leq (get_or xs j d) (get_or xs c d) ≡ true) → ((d : X) → Downward leq (λ k. get_or xs k d) j n) → Heaped leq xs n
    downward_rests xs j c n least t h = λ p k d low b lt.
        ⊎_elim
        (λ pj. by (ap (λ m. get_or xs m d) pj) refl (transitive (get_or xs j d) (get_or xs c d) (get_or xs k d) (t d) (least.least k d (child j k (omega arith) (omega arith)) lt)))
        (λ nj. (h d).pairs p k b lt nj)
        (cases_eq p j)

    -- the left child is the least where no other is among the first n, or where it may come out before the other
    pub least_left : (xs : List X) (p n c : ℕ) → c ≡ p * 2 + 1 → c < n → (c + 1 < n → (d : X) → leq (get_or xs c d) (get_or xs (c + 1) d) ≡ true) → LeastChild leq xs p n c
    least_left xs p n c e lt h = record {
      child = child p c (omega arith) (omega arith);
      kept = lt;
      least = λ k d b kn. ⊎_elim
          (λ same. by refl (ap (λ m. get_or xs m d) same) (itself (get_or xs c d)))
          (λ other. let right : k ≡ c + 1 = omega arith in by refl (ap (λ m. get_or xs m d) right) (h (omega arith) d))
          (cases_eq k c);
    }

    -- the right child is the least where the left one may not come out before it
    pub least_right : (xs : List X) (p n c : ℕ) → c ≡ p * 2 + 1 → c + 1 < n → ((d : X) → leq (get_or xs c d) (get_or xs (c + 1) d) ≡ false) → LeastChild leq xs p n (c + 1)
    least_right xs p n c e lt h = record {
      child = child p (c + 1) (omega arith) (omega arith);
      kept = lt;
      least = λ k d b kn. ⊎_elim
          (λ same. by refl (ap (λ m. get_or xs m d) same) (total (get_or xs c d) (get_or xs (c + 1) d) (h d)))
          (λ other. let right : k ≡ c + 1 = omega arith in by refl (ap (λ m. get_or xs m d) right) (itself (get_or xs (c + 1) d)))
          (cases_eq k c);
    }

    -- the front of a heap may come out before every element up to a place, step by step from its parent
    front_leq : (xs : List X) (n : ℕ) (d : X) → Heaped leq xs n → (bound k : ℕ) → k ≤ bound → k < n → leq (get_or xs 0 d) (get_or xs k d) ≡ true
    front_leq xs n d h zero k le lt = by refl (ap (λ m. get_or xs m d) (omega arith)) (itself (get_or xs 0 d))
    front_leq xs n d h (suc bound) k le lt = ⊎_elim
        (λ front. by refl (ap (λ m. get_or xs m d) front) (itself (get_or xs 0 d)))
        (λ behind.
        transitive (get_or xs 0 d) (get_or xs ((k - 1) / 2) d) (get_or xs k d)
        (front_leq xs n d h bound ((k - 1) / 2) (omega arith) (omega arith))
        (h ((k - 1) / 2) k d (omega arith) (child ((k - 1) / 2) k (omega arith) (omega arith)) lt))
        (cases_eq k 0)

    -- the front of a heap comes first
    pub first_of : (xs : List X) (n : ℕ) (x : X) → 0 < n → Sound leq xs n → x ≡ get_or xs 0 x → First leq x xs n
    first_of xs n x some sound is = record {
      some = some;
      front = is;
      before = All-from_get_or (λ y. leq x y ≡ true) (take n xs) x
          (λ i lt.
          let long = length-take-le n xs sound.room in
          by is (get_or-take n xs i x (omega arith)) (front_leq xs n x sound.heaped i i (omega arith) (omega arith)));
    }

    -- the first of the elements that are kept, where one is
    pub front_first : (xs : List X) (n : ℕ) (o : Option X) → Sound leq xs n → o ≡ slice_get (take n xs) 0 → IfSome o (λ x. First leq x xs n)
    front_first xs zero o sound is = subst (λ (r : Option X). IfSome r (λ x. First leq x xs zero)) (sym is) tt
    front_first [] (suc n) o sound is = let room = sound.room in absurd (omega arith)
    front_first (x ∷ xs) (suc n) o sound is =
        subst (λ (r : Option X). IfSome r (λ y. First leq y (x ∷ xs) (suc n))) (sym is) (first_of (x ∷ xs) (suc n) x (omega arith) sound refl)
