-- Worked bridges. A bridge is written by the readings of its channels 0, 1 and so on.
use Rattle.std.specs.Prelude.{ℕ, ◌-◌, List, [], ◌∷◌, ◌++◌, length, replicate, Some, None}
use Rattle.matching.specs.Matchings.{Assignment, IsCrowded, Placement}
use Rattle.matching.specs.Windows.{Arranged}
use Rattle.matching.specs.declared.window.Window.{Window}
use Rattle.penalty.specs.Absolute.{absolute}
use Rattle.penalty.specs.Layers.{banded, stopped, weighted}
use Rattle.penalty.specs.TwoSided.{two_sided}
use Rattle.sequencing.specs.declared.answer.Block.{Block}
use Rattle.sequencing.specs.declared.answer.Block.TheVariants.{Blocked, Crowded}
use Rattle.windows.specs.Filling.{AreOpen}
use Rattle.worked_bridges.specs.Answers.{Finds, FindsLeast, FindsNoLeast, FindsNone}

-- a row of 64 numbers that begins with these, and goes on with n
abbrev pub row : ℕ → List ℕ → List ℕ
row n first = first ++ replicate (64 - length first) n

-- the table of a bridge: no other channel has readings
abbrev pub bridge : List ℕ → List ℕ
bridge = row 0

-- the bridges (1), (1,1), (1,1,1), (2,1) and (3,2)
abbrev pub one : List ℕ
one = bridge (1 ∷ [])

abbrev pub two : List ℕ
two = bridge (1 ∷ 1 ∷ [])

abbrev pub three : List ℕ
three = bridge (1 ∷ 1 ∷ 1 ∷ [])

abbrev pub twice : List ℕ
twice = bridge (2 ∷ 1 ∷ [])

abbrev pub uneven : List ℕ
uneven = bridge (3 ∷ 2 ∷ [])

-- reading j of channel c, with its earliest and its latest slot, and the slot where it stands
abbrev pub reading : ℕ → ℕ → ℕ → ℕ → ℕ → Window
reading c j e l s = record { channel = c; reading = j; earliest = e; latest = l; slot = s }

-- the block of a blocked moment
abbrev pub moment : ℕ → ℕ → Block
moment k c = Blocked (record { slot = k; channel = c })

-- the block of crowded slots
abbrev pub crowd : ℕ → ℕ → ℕ → Block
crowd a b number = Crowded (record { first = a; last = b; number = number })

-- the readings of (1,1) in slots 1 and 2, where both may stand in either
abbrev pub in_turn : List Window
in_turn = reading 0 1 1 2 1 ∷ reading 1 1 1 2 2 ∷ []

-- the readings of (1,1,1), which may all stand in slot 2 alone
abbrev pub in_slot_two : List Window
in_slot_two = reading 0 1 2 2 0 ∷ reading 1 1 2 2 0 ∷ reading 2 1 2 2 0 ∷ []

-- bridges under the absolute deviation alone
pub record Plain : Type 0 where
  -- (1): the least is 0, the list 0, and nothing below it
  pub one_best : FindsLeast absolute one 0 (reading 0 1 1 1 1 ∷ []) (0 ∷ []) None
  -- (1,1): at 1 both windows are 1 to 2, and the list is 0 1
  pub two_within : Finds absolute two 1 in_turn (0 ∷ 1 ∷ [])
  -- the other order is no placement, since channel 0 is due first
  pub two_turned : Placement (reading 0 1 1 2 2 ∷ reading 1 1 1 2 1 ∷ []) → ⊥
  -- at 0 the moment after slot 1 is blocked at channel 0
  pub two_over : FindsNone absolute two 0 (moment 1 0)
  -- so the least is 1
  pub two_best : FindsLeast absolute two 1 in_turn (0 ∷ 1 ∷ []) (Some (moment 1 0))
  -- (2,1): the least is 1, and the list 0 1 0
  pub twice_best : FindsLeast absolute twice 1 (reading 0 1 1 1 1 ∷ reading 0 2 3 3 3 ∷ reading 1 1 2 2 2 ∷ []) (0 ∷ 1 ∷ 0 ∷ []) (Some (moment 1 0))
  -- (1,1,1): at 1 the three windows are 2 to 2
  pub three_windows : AreOpen absolute three 1 in_slot_two
  -- as the matching takes them
  pub three_arranged : Arranged in_slot_two
  -- the slots 2 to 2, 1 to 2 and 2 to 3 are crowded, with three windows inside each; 1 to 3 are not
  pub two_two : IsCrowded in_slot_two 2 2 3
  pub one_two : IsCrowded in_slot_two 1 2 3
  pub two_three : IsCrowded in_slot_two 2 3 3
  pub one_three : (number : ℕ) → IsCrowded in_slot_two 1 3 number → ⊥
  -- so these windows have no assignment
  pub three_none : (slot : ℕ → ℕ) → Assignment in_slot_two slot → ⊥
  -- the least is 2, and the list 0 1 2
  pub three_best : FindsLeast absolute three 2 (reading 0 1 1 3 1 ∷ reading 1 1 1 3 2 ∷ reading 2 1 1 3 3 ∷ []) (0 ∷ 1 ∷ 2 ∷ []) (Some (crowd 2 2 3))
  -- (3,2): the least is 2, and the list 0 1 0 1 0
  pub uneven_best : FindsLeast absolute uneven 2
      (reading 0 1 1 1 1 ∷ reading 0 2 3 3 3 ∷ reading 0 3 5 5 5 ∷ reading 1 1 2 2 2 ∷ reading 1 2 4 4 4 ∷ []) (0 ∷ 1 ∷ 0 ∷ 1 ∷ 0 ∷ [])
      (Some (moment 1 0))

-- the bridge (1,1) under a layer over the absolute deviation
pub record UnderLayers : Type 0 where
  -- weights 3 and 1: the least is 3
  pub weights : FindsLeast (weighted (row 1 (3 ∷ 1 ∷ [])) absolute) two 3 in_turn (0 ∷ 1 ∷ []) (Some (moment 1 0))
  -- tolerance 1: the least is 0
  pub band : FindsLeast (banded 1 absolute) two 0 in_turn (0 ∷ 1 ∷ []) None
  -- limit 0: there is none, since both readings have to stand in slot 2
  pub stop_none : FindsNoLeast (stopped 0 absolute) two (crowd 2 2 2)
  -- limit 1: the least is 1
  pub stop_one : FindsLeast (stopped 1 absolute) two 1 in_turn (0 ∷ 1 ∷ []) (Some (moment 1 0))

-- the bridge (1,1) under the two-sided bottom: the least is 160 and the list 0 1; below it both readings have to stand in slot 1
abbrev pub TwoSided : Type 0
TwoSided = FindsLeast two_sided two 160 in_turn (0 ∷ 1 ∷ []) (Some (crowd 1 1 2))

-- all worked bridges
pub record WorkedBridges : Type 0 where
  pub plain : Plain
  pub under_layers : UnderLayers
  pub two_sided : TwoSided
