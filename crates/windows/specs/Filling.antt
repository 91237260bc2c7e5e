-- The windows of all readings as they stand in the places of the matching.
use Rattle.std.specs.Prelude.{◌≡◌, ℕ, ◌+◌, ◌-◌, ◌<◌, ◌≤◌, List, length, take, sum}
use Rattle.matching.specs.Windows.{window}
use Rattle.matching.specs.declared.window.Window.{Window}
use Rattle.penalty.specs.Cost.{Cost}
use Rattle.windows.specs.Allowed.{FirstBlocked, NoneBlocked}
use Rattle.windows.specs.Windows.{FirstShut, IsWindow, NoneShut, Reading}
use Rattle.windows.specs.declared.answer.Unfilled.{Unfilled}
use Rattle.windows.specs.declared.answer.Unfilled.TheVariants.{Places, Blocked, Shut}

-- the place of reading j of channel c, from 0: behind the readings of all smaller channels and the smaller readings of its own
abbrev pub place_of : List ℕ → ℕ → ℕ → ℕ
place_of t c j = sum (take c t) + (j - 1)

-- w is the record of reading j of channel c with its window, and it has no slot yet
pub record IsRecord (f : Cost) (t : List ℕ) (b c j : ℕ) (w : Window) : Type 0 where
  pub channel : w.channel ≡ c
  pub reading : w.reading ≡ j
  pub window : IsWindow f t b c j (w.earliest, w.latest)
  pub slot : w.slot ≡ 0

-- ws are the records of all readings, by channel and then reading
pub record AreWindows (f : Cost) (t : List ℕ) (b : ℕ) (ws : List Window) : Type 0 where
  pub long : length ws ≡ sum t
  pub each : (c j : ℕ) → Reading t c j → IsRecord f t b c j (window ws (place_of t c j))

-- why the places ws do not get the windows at bound b, and what is left of them: there are too few, and then nothing has
-- changed; or a moment is blocked; or a window is shut
abbrev pub IsReason : Cost → List ℕ → ℕ → List Window → List Window → Unfilled → Type 0
IsReason f t b ws ws' Places = (length ws < sum t) × (ws' ≡ ws)
IsReason f t b ws ws' (Blocked moment) = (sum t ≤ length ws) × FirstBlocked f t b moment.slot moment.channel
IsReason f t b ws ws' (Shut w) =
    (sum t ≤ length ws) × NoneBlocked f t b × FirstShut f t b w.channel w.reading (w.earliest, w.latest) × (w.slot ≡ 0)

-- the places ws hold the windows at bound b, and all of them are open
pub record AreOpen (f : Cost) (t : List ℕ) (b : ℕ) (ws : List Window) : Type 0 where
  pub unblocked : NoneBlocked f t b
  pub unshut : NoneShut f t b
  pub windows : AreWindows f t b ws
