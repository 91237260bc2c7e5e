-- The last slot up to m whose reading could also stand after m.
use Rattle.std.proofs.Common.{◌≡◌, ℕ, zero, suc, ◌<◌, ◌≤◌, max, Bool, true, false, ◌&&◌, leb, ltb, ◌⊎◌, List, [], ◌∷◌, length, refl, inl, inr, ⊎_elim, arith}
use Rattle.std.specs.List.{filter, fold}
use Rattle.std.proofs.lemmas.Bool.{and_from, and_parts, both_ways, cases_Bool, cases_lt, le-leb, leb-true, lt-ltb, ltb-true}
use Rattle.matching.specs.States.{LastMovable}
use Rattle.matching.specs.Windows.{window}
use Rattle.matching.specs.declared.window.Window.{Window}

-- whether the reading of a record has a slot up to m and could also stand after m
abbrev pub is_movable : ℕ → Window → Bool
is_movable m w = ltb m w.latest && leb w.slot m

-- r is the greatest of a and the slots of the records ws whose readings are movable
record Greatest (m : ℕ) (ws : List Window) (a r : ℕ) : Type 0 where
  from : a ≤ r
  all : (i : ℕ) → i < length ws → is_movable m (window ws i) ≡ true → (window ws i).slot ≤ r
  found : (r ≡ a) ⊎ ((i : ℕ) × (i < length ws) × (is_movable m (window ws i) ≡ true) × ((window ws i).slot ≡ r))

module _ (m : ℕ) (w : Window) (ws : List Window) (a r : ℕ) where
  -- one record more in front, which is movable
  all_yes : Greatest m ws (max a w.slot) r → (i : ℕ) → i < length (w ∷ ws) → is_movable m (window (w ∷ ws) i) ≡ true → (window (w ∷ ws) i).slot ≤ r
  all_yes rest zero h passes = let le = rest.from in omega arith
  all_yes rest (suc i) h passes = rest.all i (omega arith) passes

  -- so the greatest is that of the records behind it, from its slot on
  greatest_yes : is_movable m w ≡ true → Greatest m ws (max a w.slot) r → Greatest m (w ∷ ws) a r
  greatest_yes movable rest = record {
    from = let le = rest.from in omega arith;
    all = all_yes rest;
    found = ⊎_elim
        (λ least. ⊎_elim (λ less. inr (0, omega arith, movable, omega arith)) (λ no. inl (omega arith)) (cases_lt a w.slot))
        (λ there. inr (suc there.0, omega (arith, there.1), there.2, there.3))
        rest.found;
  }

  -- one that is not
  all_no : is_movable m w ≡ false → Greatest m ws a r → (i : ℕ) → i < length (w ∷ ws) → is_movable m (window (w ∷ ws) i) ≡ true → (window (w ∷ ws) i).slot ≤ r
  all_no fixed rest zero h passes = absurd (both_ways _ fixed passes)
  all_no fixed rest (suc i) h passes = rest.all i (omega arith) passes

  -- so the greatest is that of the records behind it
  greatest_no : is_movable m w ≡ false → Greatest m ws a r → Greatest m (w ∷ ws) a r
  greatest_no fixed rest = record {
    from = rest.from;
    all = all_no fixed rest;
    found = ⊎_elim inl (λ there. inr (suc there.0, omega (arith, there.1), there.2, there.3)) rest.found;
  }

-- the greatest of them, one record after another
greatest : (m : ℕ) (ws : List Window) (a : ℕ) → Greatest m ws a (fold (λ b w. max b w.slot) a (filter (is_movable m) ws))
greatest m [] a = record { from = omega arith; all = λ i h. absurd (omega arith); found = inl refl }
greatest m (w ∷ ws) a = ⊎_elim
    (λ yes. rw yes (greatest_yes m w ws a _ yes (greatest m ws (max a w.slot))))
    (λ no. rw no (greatest_no m w ws a _ no (greatest m ws a)))
    (cases_Bool (is_movable m w))

-- so it is for the records from 0 on
pub last_movable_is : (ws : List Window) (m : ℕ) → LastMovable ws m (fold (λ b w. max b w.slot) 0 (filter (is_movable m) ws))
last_movable_is ws m =
    let g = greatest m ws 0 in
    record {
      found = ⊎_elim inl (λ there. let parts = and_parts (ltb m (window ws there.0).latest) (leb (window ws there.0).slot m) there.2 in inr (there.0, there.1, there.3, ltb-true m (window ws there.0).latest parts.0)) g.found;
      before = ⊎_elim (λ none. omega (arith, none)) (λ there. let parts = and_parts (ltb m (window ws there.0).latest) (leb (window ws there.0).slot m) there.2 in omega (arith, there.3, leb-true (window ws there.0).slot m parts.1)) g.found;
      last = λ i here later upto. g.all i here (and_from _ _ (lt-ltb m (window ws i).latest later) (le-leb (window ws i).slot m upto));
    }
