-- The channels of windows written into the slots of a list, window after window.
use Rattle.std.proofs.Common.{◌≡◌, ℕ, ◌-◌, ◌<◌, List, length, get_or}
use Rattle.matching.specs.Windows.{channel_at, slot_at}
use Rattle.matching.specs.declared.window.Window.{Window}

-- the slots of the first k windows have their channels in l
pub record WrittenTo (ws : List Window) (old : List ℕ) (k : ℕ) (l : List ℕ) : Type 0 where
  pub long : length l ≡ length old
  pub channels : (i : ℕ) → i < k → get_or l (slot_at ws i - 1) 0 ≡ channel_at ws i
