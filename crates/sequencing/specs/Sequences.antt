-- Whether a bound leaves a list, the list that the rules make, and what blocks it.
use Rattle.std.specs.Prelude.{◌≡◌, ℕ, ◌-◌, ◌<◌, List, length, sum, slice_index}
use Rattle.matching.specs.Matchings.{IsCrowd, Placement}
use Rattle.matching.specs.Windows.{blank, channel_at, slot_at}
use Rattle.matching.specs.declared.window.Window.{Window}
use Rattle.penalty.specs.Cost.{Cost}
use Rattle.round.specs.Lists.{Complete, Within}
use Rattle.sequencing.specs.declared.answer.Block.{Block}
use Rattle.sequencing.specs.declared.answer.Block.TheVariants.{Blocked, Shut, Crowded}
use Rattle.windows.specs.Allowed.{FirstBlocked, NoneBlocked}
use Rattle.windows.specs.Filling.{AreOpen}
use Rattle.windows.specs.Windows.{FirstShut}

-- there is a complete list within b
abbrev pub HasList : Cost → List ℕ → ℕ → Type 0
HasList f t b = (l : List ℕ) × Complete t l × Within f t l b

-- l is the list that the rules make at bound b: ws are the windows of all readings, by channel and then reading, each
-- with the slot that Glover's rule gives it, and in that slot l has the reading's channel
pub record IsSequence (f : Cost) (t : List ℕ) (b : ℕ) (ws : List Window) (l : List ℕ) : Type 0 where
  pub windows : AreOpen f t b (blank ws)
  pub placed : Placement ws
  pub long : length l ≡ sum t
  pub channels : (i : ℕ) → i < length ws → slice_index l (slot_at ws i - 1) ≡ channel_at ws i

-- why the rules make no list at bound b: the first blocked moment; or where none is, the first shut window, with its
-- ends; or where none is, slots in which more windows lie than there are slots, with their number
abbrev pub IsBlock : Cost → List ℕ → ℕ → Block → Type 0
IsBlock f t b (Blocked m) = FirstBlocked f t b m.slot m.channel
IsBlock f t b (Shut w) = NoneBlocked f t b × FirstShut f t b w.channel w.reading (w.earliest, w.latest) × (w.slot ≡ 0)
IsBlock f t b (Crowded crowd) = (ws : List Window) × AreOpen f t b ws × IsCrowd ws crowd
