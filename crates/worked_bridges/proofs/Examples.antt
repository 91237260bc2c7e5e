-- The worked bridges, each by the tests that its answer passes.
use Rattle.std.proofs.Common.{ℕ, zero, suc, ◌+◌, ◌<◌, List, [], ◌∷◌, None, Some, rules, refl, ⊎_elim, arith}
use Rattle.matching.proofs.Crowds.{crowd_rules_out}
use Rattle.matching.specs.Windows.{Follows, Usable, window}
use Rattle.matching.specs.declared.window.Window.{Window}
use Rattle.penalty.specs.Absolute.{absolute}
use Rattle.penalty.specs.Bottoms.{bottom_valley, size_valley}
use Rattle.penalty.specs.Cost.{Capped, Valley}
use Rattle.penalty.specs.Deviation.{size}
use Rattle.penalty.specs.Layers.{banded, stopped, weighted}
use Rattle.penalty.specs.Maps.{map_capped, map_valley, relax_map, stop_capped, stop_valley, weight_maps}
use Rattle.penalty.specs.TwoSided.{largest, root, two_sided}
use Rattle.penalty.specs.TwoSidedLaws.{two_sided_capped, two_sided_valley}
use Rattle.worked_bridges.specs.Bridges.{Plain, TwoSided, UnderLayers, WorkedBridges, crowd, in_slot_two, in_turn, moment, one, reading, row, three, twice, two, uneven}
use Rattle.worked_bridges.proofs.Answering.{finds, finds_none, finds_least, finds_no_least}
use Rattle.worked_bridges.proofs.Slots.{crowded_is}
use Rattle.worked_bridges.proofs.Windows.{first_blocked, open_windows}

-- no absolute deviation is above the forbidden cost
absolute_capped : Capped absolute
absolute_capped S c d x k = search rules

-- and it keeps the valley law
absolute_valley : Valley absolute
absolute_valley = bottom_valley size absolute_capped size_valley

-- each of the readings of (1,1,1), which may all stand in slot 2 alone, is usable in three slots
three_usable : (i : ℕ) → i < 3 → Usable 3 (window in_slot_two i)
three_usable zero h = record { channel = omega arith; first = omega arith; opens = omega arith; last = omega arith }
three_usable (suc zero) h = record { channel = omega arith; first = omega arith; opens = omega arith; last = omega arith }
three_usable (suc (suc zero)) h = record { channel = omega arith; first = omega arith; opens = omega arith; last = omega arith }
three_usable (suc (suc (suc i))) h = absurd (omega (arith, h))

-- and each is of a greater channel than the one before it
three_follow : (i : ℕ) → i + 1 < 3 → Follows (window in_slot_two i) (window in_slot_two (i + 1))
three_follow zero h = record { channel = omega arith; reading = λ same. absurd (omega (arith, same)); earliest = λ _. omega arith; latest = λ _. omega arith }
three_follow (suc zero) h = record { channel = omega arith; reading = λ same. absurd (omega (arith, same)); earliest = λ _. omega arith; latest = λ _. omega arith }
three_follow (suc (suc i)) h = absurd (omega (arith, h))

-- the facts of the bridges under the absolute deviation alone
plain : Plain
plain = record {
  one_best = finds_least absolute one refl absolute_capped absolute_valley 0 (reading 0 1 1 1 1 ∷ []) (0 ∷ []) None (omega arith) refl 0 0 refl refl;
  two_within = finds absolute two absolute_valley 1 in_turn (0 ∷ 1 ∷ []) refl;
  two_turned = λ placed. ⊎_elim (λ less. omega arith) (λ tie. omega (arith, tie.1)) (placed.soonest 1 0 (omega arith) (omega arith) (omega arith) (omega arith));
  two_over = finds_none absolute two 0 (moment 1 0) (first_blocked absolute two 0 1 0 refl);
  two_best = finds_least absolute two refl absolute_capped absolute_valley 1 in_turn (0 ∷ 1 ∷ []) (Some (moment 1 0)) (omega arith) refl 1 0 refl
      (omega arith, first_blocked absolute two 0 1 0 refl);
  twice_best = finds_least absolute twice refl absolute_capped absolute_valley 1 (reading 0 1 1 1 1 ∷ reading 0 2 3 3 3 ∷ reading 1 1 2 2 2 ∷ []) (0 ∷ 1 ∷ 0 ∷ [])
      (Some (moment 1 0)) (omega arith) refl 1 0 refl
      (omega arith, first_blocked absolute twice 0 1 0 refl);
  three_windows = open_windows absolute three 1 in_slot_two refl;
  three_arranged = record { few = omega arith; usable = three_usable; follows = three_follow };
  two_two = crowded_is in_slot_two 2 2 3 refl;
  one_two = crowded_is in_slot_two 1 2 3 refl;
  two_three = crowded_is in_slot_two 2 3 3 refl;
  one_three = λ number crowded. omega (arith, crowded.over, crowded.counted);
  three_none = crowd_rules_out in_slot_two 2 2 3 (crowded_is in_slot_two 2 2 3 refl);
  three_best = finds_least absolute three refl absolute_capped absolute_valley 2 (reading 0 1 1 3 1 ∷ reading 1 1 1 3 2 ∷ reading 2 1 1 3 3 ∷ []) (0 ∷ 1 ∷ 2 ∷ [])
      (Some (crowd 2 2 3)) (omega arith) refl 1 0 refl
      (omega arith, (in_slot_two, open_windows absolute three 1 in_slot_two refl, crowded_is in_slot_two 2 2 3 refl));
  uneven_best = finds_least absolute uneven refl absolute_capped absolute_valley 2
      (reading 0 1 1 1 1 ∷ reading 0 2 3 3 3 ∷ reading 0 3 5 5 5 ∷ reading 1 1 2 2 2 ∷ reading 1 2 4 4 4 ∷ []) (0 ∷ 1 ∷ 0 ∷ 1 ∷ 0 ∷ [])
      (Some (moment 1 0)) (omega arith) refl 1 0 refl
      (omega arith, first_blocked absolute uneven 1 1 0 refl);
}

-- the readings of (1,1) where both may stand in one slot alone
abbrev in_slot : ℕ → List Window
in_slot s = reading 0 1 s s 0 ∷ reading 1 1 s s 0 ∷ []

-- the facts of (1,1) under a layer
under_layers : UnderLayers
under_layers =
    record {
      weights = finds_least (weighted (row 1 (3 ∷ 1 ∷ [])) absolute) two refl (map_capped (weight_maps (row 1 (3 ∷ 1 ∷ []))) absolute_capped)
          (map_valley (weight_maps (row 1 (3 ∷ 1 ∷ []))) absolute_valley) 3 in_turn (0 ∷ 1 ∷ []) (Some (moment 1 0)) (omega arith) refl 1 0 refl
          (omega arith, first_blocked (weighted (row 1 (3 ∷ 1 ∷ [])) absolute) two 2 1 0 refl);
      band = finds_least (banded 1 absolute) two refl (map_capped (λ _. relax_map 1) absolute_capped) (map_valley (λ _. relax_map 1) absolute_valley)
          0 in_turn (0 ∷ 1 ∷ []) None (omega arith) refl 0 0 refl refl;
      stop_none = finds_no_least (stopped 0 absolute) two refl (stop_capped 0 absolute_capped) (crowd 2 2 2)
          (in_slot 2, open_windows (stopped 0 absolute) two 1_099_511_627_774 (in_slot 2) refl, crowded_is (in_slot 2) 2 2 2 refl);
      stop_one = finds_least (stopped 1 absolute) two refl (stop_capped 1 absolute_capped) (stop_valley 1 absolute_capped absolute_valley)
          1 in_turn (0 ∷ 1 ∷ []) (Some (moment 1 0)) (omega arith) refl 1 0 refl
          (omega arith, first_blocked (stopped 1 absolute) two 0 1 0 refl);
    }

-- those of (1,1) under the two-sided bottom
two_sides : TwoSided
unfolding root largest
two_sides = finds_least two_sided two refl two_sided_capped two_sided_valley 160 in_turn (0 ∷ 1 ∷ []) (Some (crowd 1 1 2)) (omega arith) refl 1 1 refl
    (omega arith, (in_slot 1, open_windows two_sided two 159 (in_slot 1) refl, crowded_is (in_slot 1) 1 1 2 refl))

-- all of them
pub worked_bridges_lem : WorkedBridges
worked_bridges_lem = record { plain = plain; under_layers = under_layers; two_sided = two_sides }
