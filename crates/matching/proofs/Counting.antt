-- Counting the elements of a list that pass a test.
use Rattle.std.proofs.Common.{◌≡◌, ℕ, zero, suc, ◌+◌, ◌<◌, ◌≤◌, Bool, true, false, cond, not, ◌&&◌, eqb, ltb, List, [], ◌∷◌, map, length, get_or, count_by, sum_by, sym, refl, ap, ◌∙◌, ⊎_elim, arith}
use Rattle.std.specs.List.{range_with_len, AllByRecursion}
use Rattle.std.proofs.lemmas.List.FromFn.{fill_by_all, get_or-range_with_len, length-range_with_len}
use Rattle.std.proofs.ByRecursion.{All-weaker}
use Rattle.std.proofs.lemmas.List.Sums.{get_or-le-sum_by, sum_by-cons}
use Rattle.std.proofs.lemmas.Bool.{and_from, and_parts, cases_Bool, cases_lt, eq-eqb, eqb-true, lt-ltb, not-false}
use Rattle.std.proofs.lemmas.Bool.Decides.{nat_tests}

module _ {X : Type 0} where
  -- the count of a list is that of its first element and that of the rest
  pub count-cons : (p : X → Bool) (x : X) (xs : List X) → count_by p (x ∷ xs) ≡ cond (p x) 1 0 + count_by p xs
  count-cons p x xs = sum_by-cons (λ y. cond (p y) 1 0) x xs

  -- a test that passes wherever another passes counts at least as many
  pub count_weaker : (p q : X → Bool) (xs : List X) (d : X) →
      ((i : ℕ) → i < length xs → p (get_or xs i d) ≡ true → q (get_or xs i d) ≡ true) → count_by p xs ≤ count_by q xs
  count_weaker p q [] d also = omega arith
  count_weaker p q (x ∷ xs) d also =
      let rest = count_weaker p q xs d (λ i h. also (suc i) (omega arith)) in
      let here : p x ≡ true → q x ≡ true = also 0 (omega arith) in
      let a = count-cons p x xs in
      let b = count-cons q x xs in
      grind arith

  -- where some are counted, there is an element that passes
  pub count_some : (p : X → Bool) (xs : List X) (d : X) → 1 ≤ count_by p xs →
      (i : ℕ) × (i < length xs) × (p (get_or xs i d) ≡ true)
  count_some p [] d some = absurd (omega arith)
  count_some p (x ∷ xs) d some =
      ⊎_elim
      (λ passes. (0, omega arith, passes))
      (λ fails.
      let step = count-cons p x xs in
      let rest = count_some p xs d (grind arith) in
      (suc rest.0, omega arith, rest.2))
      (cases_Bool (p x))

  -- an element that passes is counted
  pub count_here : (p : X → Bool) (xs : List X) (i : ℕ) (d : X) → i < length xs → p (get_or xs i d) ≡ true →
      1 ≤ count_by p xs
  count_here p xs i d h passes = rw passes at (get_or-le-sum_by (λ x. cond (p x) 1 0) xs i d h)

  -- where none are counted, no element passes
  pub count_none : (p : X → Bool) (xs : List X) (i : ℕ) (d : X) → count_by p xs ≡ 0 → i < length xs →
      p (get_or xs i d) ≡ false
  count_none p xs i d none h =
      ⊎_elim
      (λ passes. let some = count_here p xs i d h passes in absurd (omega arith))
      (λ fails. fails)
      (cases_Bool (p (get_or xs i d)))

  -- where at most one place passes, at most one is counted
  pub count_one : (p : X → Bool) (xs : List X) (d : X) →
      ((i j : ℕ) → i < length xs → j < length xs → p (get_or xs i d) ≡ true → p (get_or xs j d) ≡ true → i ≡ j) →
      count_by p xs ≤ 1
  count_one p [] d same = omega arith
  count_one p (x ∷ xs) d same =
      let step = count-cons p x xs in
      ⊎_elim
      (λ some.
      let there = count_some p xs d some in
      let rest =
      count_one p xs d
      (λ i j h k a b. let e = same (suc i) (suc j) (omega arith) (omega arith) a b in omega arith) in
      let first : p x ≡ true → ⊥ = λ a.
      let e = same 0 (suc there.0) (omega arith) (omega arith) a there.2 in
      omega arith in
      grind arith)
      (λ none. grind arith)
      (cases_lt 0 (count_by p xs))

  -- each element either passes or fails
  pub count_both : (p : X → Bool) (xs : List X) → count_by p xs + count_by (λ x. not (p x)) xs ≡ length xs
  count_both p [] = refl
  count_both p (x ∷ xs) =
      let rest = count_both p xs in
      let a = count-cons p x xs in
      let b = count-cons (λ y. not (p y)) x xs in
      grind arith

  -- where all are counted, every element passes
  pub count_all : (p : X → Bool) (xs : List X) → count_by p xs ≡ length xs →
      (i : ℕ) (d : X) → i < length xs → p (get_or xs i d) ≡ true
  count_all p xs all i d h =
      let both = count_both p xs in
      not-false (p (get_or xs i d)) (count_none (λ x. not (p x)) xs i d (omega arith) h)

  -- where none are counted, a sum over those that pass is 0
  pub sum_none : (p : X → Bool) (f : X → ℕ) (xs : List X) → count_by p xs ≡ 0 → sum_by (λ x. cond (p x) (f x) 0) xs ≡ 0
  sum_none p f [] none = refl
  sum_none p f (x ∷ xs) none =
      let step = count-cons p x xs in
      let sum = sum_by-cons (λ y. cond (p y) (f y) 0) x xs in
      let rest = sum_none p f xs (grind arith) in
      grind arith

  -- where one is counted, a sum over those that pass is that of the element that passes
  pub sum_one : (p : X → Bool) (f : X → ℕ) (xs : List X) (i : ℕ) (d : X) → count_by p xs ≡ 1 → i < length xs → p (get_or xs i d) ≡ true →
      sum_by (λ x. cond (p x) (f x) 0) xs ≡ f (get_or xs i d)
  sum_one p f [] i d one h passes = absurd (omega arith)
  sum_one p f (x ∷ xs) zero d one h passes =
      let step = count-cons p x xs in
      let sum = sum_by-cons (λ y. cond (p y) (f y) 0) x xs in
      let rest = sum_none p f xs (grind arith) in
      grind arith
  sum_one p f (x ∷ xs) (suc i) d one h passes =
      let step = count-cons p x xs in
      let sum = sum_by-cons (λ y. cond (p y) (f y) 0) x xs in
      let some = count_here p xs i d (omega arith) passes in
      let first : p x ≡ false = ⊎_elim (λ t. absurd (grind arith)) (λ f. f) (cases_Bool (p x)) in
      let rest = sum_one p f xs i d (grind arith) (omega arith) passes in
      grind arith

  -- a test that every element passes counts them all
  count_every : (p : X → Bool) (xs : List X) → AllByRecursion (λ x. p x ≡ true) xs → count_by p xs ≡ length xs
  count_every p [] all = refl
  count_every p (x ∷ xs) all =
      let rest = count_every p xs all.1 in
      let step = count-cons p x xs in
      grind arith

  module _ (p : X → Bool) (f : X → ℕ) where
    -- the keys below k + 1 are those below k and k itself
    keys_step : (xs : List X) (k : ℕ) →
        count_by (λ x. p x && ltb (f x) (suc k)) xs
        ≡ count_by (λ x. p x && ltb (f x) k) xs + count_by (λ x. p x && eqb (f x) k) xs
    keys_step [] k = refl
    keys_step (x ∷ xs) k =
        let rest = keys_step xs k in
        let a = count-cons (λ y. p y && ltb (f y) (suc k)) x xs in
        let b = count-cons (λ y. p y && ltb (f y) k) x xs in
        let c = count-cons (λ y. p y && eqb (f y) k) x xs in
        grind (arith, nat_tests)

    -- no key is below 0
    keys_none : (xs : List X) → count_by (λ x. p x && ltb (f x) 0) xs ≡ 0
    keys_none [] = refl
    keys_none (x ∷ xs) =
        let rest = keys_none xs in
        let a = count-cons (λ y. p y && ltb (f y) 0) x xs in
        grind (arith, nat_tests)

    -- where the elements that pass have different keys, at most m of them have a key below m
    pub keys_at_most : (xs : List X) → ((k : ℕ) → count_by (λ x. p x && eqb (f x) k) xs ≤ 1) →
        (m : ℕ) → count_by (λ x. p x && ltb (f x) m) xs ≤ m
    keys_at_most xs apart zero = omega (arith, keys_none xs)
    keys_at_most xs apart (suc m) = omega (arith, keys_at_most xs apart m, apart m, keys_step xs m)

    -- where every number below m is a key, there are at least m elements with a key below m
    keys_below : (xs : List X) (m : ℕ) → ((k : ℕ) → k < m → 1 ≤ count_by (λ x. p x && eqb (f x) k) xs) →
        m ≤ count_by (λ x. p x && ltb (f x) m) xs
    keys_below xs zero each = omega arith
    keys_below xs (suc m) each =
        omega (arith, keys_below xs m (λ k h. each k (omega arith)), each m (omega arith), keys_step xs m)

    -- where every number below m is the key of an element that passes, there are at least m that pass
    pub keys_at_least : (xs : List X) (d : X) (m : ℕ) →
        ((k : ℕ) → k < m → (i : ℕ) × (i < length xs) × (p (get_or xs i d) ≡ true) × (f (get_or xs i d) ≡ k)) →
        m ≤ count_by p xs
    keys_at_least xs d m each =
        let fewer = count_weaker (λ x. p x && ltb (f x) m) p xs d (λ i h both. (and_parts _ _ both).0) in
        let some : (k : ℕ) → k < m → 1 ≤ count_by (λ x. p x && eqb (f x) k) xs = λ k h.
        let e = each k h in
        count_here (λ x. p x && eqb (f x) k) xs e.0 d e.1 (and_from _ _ e.2 (eq-eqb _ k e.3)) in
        omega (arith, keys_below xs m some)

  -- a list whose elements have different keys below m has at most m elements
  pub few_keys : (f : X → ℕ) (m : ℕ) (xs : List X) → AllByRecursion (λ x. f x < m) xs →
      ((k : ℕ) → count_by (λ x. eqb (f x) k) xs ≤ 1) → length xs ≤ m
  few_keys f m xs below apart =
      let tested = All-weaker (λ x. f x < m) (λ x. ltb (f x) m ≡ true) (λ x h. lt-ltb (f x) m h) xs below in
      omega (arith, count_every (λ x. ltb (f x) m) xs tested, keys_at_most (λ x. true) f xs apart m)

-- a test counts in a mapped list what its composition with the map counts in the list
count_map : {X Y : Type 0} (p : Y → Bool) (g : X → Y) (xs : List X) → count_by p (map g xs) ≡ count_by (λ x. p (g x)) xs
count_map p g [] = refl
count_map p g (x ∷ xs) =
    omega (arith, count-cons p (g x) (map g xs), count_map p g xs, count-cons (λ y. p (g y)) x xs)

-- the count of a list is that of its places
count_places : {X : Type 0} (p : X → Bool) (xs : List X) (d : X) →
    count_by p xs ≡ count_by (λ i. p (get_or xs i d)) (range_with_len 0 (length xs))
count_places p xs d =
    ap (count_by p) (fill_by_all (λ i. get_or xs i d) xs (length xs) d refl (λ k h. refl))
    ∙ count_map p (λ i. get_or xs i d) (range_with_len 0 (length xs))

-- where the places that pass have different numbers below m, at most m elements pass
pub pigeonhole : {X : Type 0} (p : X → Bool) (xs : List X) (d : X) (slot : ℕ → ℕ) (m : ℕ) →
    ((i : ℕ) → i < length xs → p (get_or xs i d) ≡ true → slot i < m) →
    ((i j : ℕ) → i < length xs → j < length xs → p (get_or xs i d) ≡ true → p (get_or xs j d) ≡ true →
    slot i ≡ slot j → i ≡ j) →
    count_by p xs ≤ m
pigeonhole p xs d slot m below apart =
    let q : ℕ → Bool = λ i. p (get_or xs i d) in
    let places = range_with_len 0 (length xs) in
    let long = length-range_with_len 0 (length xs) in
    let place : (i : ℕ) → i < length places → get_or places i 0 ≡ i =
    λ i h. get_or-range_with_len 0 (length xs) i 0 (omega arith) ∙ omega arith in
    let within : (i : ℕ) → i < length places → get_or places i 0 < length xs = λ i h. omega (arith, place i h) in
    let fewer =
    count_weaker q (λ i. q i && ltb (slot i) m) places 0
    (λ i h passes. and_from _ _ passes (lt-ltb _ m (below (get_or places i 0) (within i h) passes))) in
    let alone : (k : ℕ) → count_by (λ i. q i && eqb (slot i) k) places ≤ 1 =
    λ k. count_one (λ i. q i && eqb (slot i) k) places 0
    (λ i j h l a b.
    let u = and_parts _ _ a in
    let v = and_parts _ _ b in
    let same = eqb-true _ k u.1 ∙ sym (eqb-true _ k v.1) in
    let e = apart (get_or places i 0) (get_or places j 0) (within i h) (within j l) u.0 v.0 same in
    sym (place i h) ∙ e ∙ place j l) in
    omega (arith, count_places p xs d, keys_at_most q slot places alone m)
