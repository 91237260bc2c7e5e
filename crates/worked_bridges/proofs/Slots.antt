-- Tests that tell, of records that are written out, whether their slots are a placement and which slots are crowded.
use Rattle.std.proofs.Common.{◌≡◌, ℕ, zero, suc, ◌+◌, ◌-◌, ◌<◌, ◌≤◌, Bool, true, not, ◌&&◌, ◌||◌, leb, ltb, eqb, List, length, inl, inr, ⊎_elim, arith}
use Rattle.std.proofs.lemmas.Bool.{and_parts, both_ways, eq-eqb, eqb-true, le-leb, leb-true, lt-ltb, ltb-true, not-true, or_cases, and_from}
use Rattle.matching.specs.Matchings.{IsCrowded, Placement, inside}
use Rattle.matching.specs.Windows.{earliest_at, latest_at, slot_at}
use Rattle.matching.specs.declared.window.Window.{Window}
use Rattle.worked_bridges.proofs.Tests.{all_below, any_below, each_below, one_below}

module _ (ws : List Window) where
  -- whether a reading stands in its window
  abbrev pub stands_inside : ℕ → Bool
  stands_inside i = leb (earliest_at ws i) (slot_at ws i) && leb (slot_at ws i) (latest_at ws i)

  -- whether two places are one, if their readings have the same slot
  abbrev pub stand_apart : ℕ → ℕ → Bool
  stand_apart i j = not (eqb (slot_at ws i) (slot_at ws j)) || eqb i j

  -- whether a reading is due before another, if it stands earlier and that could have stood there
  abbrev pub stand_in_order : ℕ → ℕ → Bool
  stand_in_order i j =
      not (ltb (slot_at ws i) (slot_at ws j) && leb (earliest_at ws j) (slot_at ws i))
      || (ltb (latest_at ws i) (latest_at ws j) || (eqb (latest_at ws i) (latest_at ws j) && ltb i j))

  -- whether each two readings pass
  abbrev pub all_pairs : (ℕ → ℕ → Bool) → Bool
  all_pairs p = all_below (λ i. all_below (p i) (length ws)) (length ws)

  -- whether the slots are those of Glover's rule
  abbrev pub is_placement : Bool
  is_placement =
      all_below stands_inside (length ws) && all_pairs stand_apart && all_pairs stand_in_order
      && all_below (λ s. any_below (λ i. eqb (slot_at ws i) (suc s)) (length ws)) (length ws)

  -- where each two pass, these two do
  pair_at : (p : ℕ → ℕ → Bool) → all_pairs p ≡ true → (i j : ℕ) → i < length ws → j < length ws → p i j ≡ true
  pair_at p test i j h k = each_below (p i) (length ws) (each_below (λ a. all_below (p a) (length ws)) (length ws) test i h) j k

  -- each slot has a reading
  filled_at : all_below (λ s. any_below (λ i. eqb (slot_at ws i) (suc s)) (length ws)) (length ws) ≡ true →
      (s : ℕ) → 1 ≤ s → s ≤ length ws → (i : ℕ) × (i < length ws) × (slot_at ws i ≡ s)
  filled_at test zero from upto = absurd (omega (arith, from))
  filled_at test (suc s) from upto =
      let found = one_below (λ i. eqb (slot_at ws i) (suc s)) (length ws) (each_below (λ r. any_below (λ i. eqb (slot_at ws i) (suc r)) (length ws)) (length ws) test s (omega (arith, upto))) in
      (found.0, found.1, eqb-true _ _ found.2)

  -- the slots that pass are a placement
  pub placement_is : is_placement ≡ true → Placement ws
  placement_is test =
      let p = and_parts _ _ test in
      let q = and_parts _ _ p.0 in
      let r = and_parts _ _ q.0 in
      record {
        assigned = record {
          inside = λ i h. let s = and_parts _ _ (each_below stands_inside (length ws) r.0 i h) in (leb-true _ _ s.0, leb-true _ _ s.1);
          apart = λ i j h k same.
              ⊎_elim
              (λ other. absurd (both_ways _ (not-true _ other) (eq-eqb _ _ same)))
              (λ one. eqb-true i j one)
              (or_cases _ _ (pair_at stand_apart r.1 i j h k));
        };
        filled = filled_at p.1;
        soonest = λ i j h k before opens.
            ⊎_elim
            (λ no. absurd (both_ways _ (not-true _ no) (and_from _ _ (lt-ltb _ _ before) (le-leb _ _ opens))))
            (λ due.
            ⊎_elim
            (λ less. inl (ltb-true _ _ less))
            (λ tie. let s = and_parts _ _ tie in inr (eqb-true _ _ s.0, ltb-true i j s.1))
            (or_cases _ _ due))
            (or_cases _ _ (pair_at stand_in_order q.1 i j h k));
      }

  -- whether the slots a to b are crowded with so many windows
  abbrev pub is_crowded : ℕ → ℕ → ℕ → Bool
  is_crowded a b number = leb 1 a && leb a b && leb b (length ws) && eqb number (inside a b ws) && ltb (b - a + 1) number

  -- the slots that pass are crowded
  pub crowded_is : (a b number : ℕ) → is_crowded a b number ≡ true → IsCrowded ws a b number
  crowded_is a b number test =
      let p = and_parts _ _ test in
      let q = and_parts _ _ p.0 in
      let r = and_parts _ _ q.0 in
      let s = and_parts _ _ r.0 in
      record {
        from = leb-true 1 a s.0;
        upward = leb-true a b s.1;
        to = leb-true b (length ws) r.1;
        counted = eqb-true number (inside a b ws) q.1;
        over = ltb-true (b - a + 1) number p.1;
      }
