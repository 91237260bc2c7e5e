-- The window of a reading at a bound b, for a table t under a penalty f. Where no moment is blocked, it says which slots
-- the reading may stand in.
use Rattle.std.specs.Prelude.{◌≡◌, ℕ, ◌+◌, ◌<◌, ◌≤◌, ◌⊎◌, List, sum}
use Rattle.penalty.specs.Cost.{Cost}
use Rattle.round.specs.Lists.{Before, readings}
use Rattle.windows.specs.Allowed.{Highest, Lowest}
use Rattle.windows.specs.Extremes.{IsGreatest, IsLeast}

-- reading j of channel c: one from 1 to d(c)
abbrev pub Reading : List ℕ → ℕ → ℕ → Type 0
Reading t c j = (1 ≤ j) × (j ≤ readings t c)

-- hi(c,k) < j: reading j may not stand in the first k slots
abbrev pub Forbidden : Cost → List ℕ → ℕ → ℕ → ℕ → ℕ → Type 0
Forbidden f t b c j k = (k ≤ sum t) × (x : ℕ) × Highest f t b k c x × (x < j)

-- lo(c,k) ≥ j: reading j has to stand in the first k slots
abbrev pub Needed : Cost → List ℕ → ℕ → ℕ → ℕ → ℕ → Type 0
Needed f t b c j k = (k ≤ sum t) × (x : ℕ) × Lowest f t b k c x × (j ≤ x)

-- the earliest slot of a reading: 1 plus the greatest k with hi(c,k) < j, or 1 if there is no such k
abbrev pub Earliest : Cost → List ℕ → ℕ → ℕ → ℕ → ℕ → Type 0
Earliest f t b c j e = ((k : ℕ) × (e ≡ k + 1) × IsGreatest (Forbidden f t b c j) k) ⊎ ((e ≡ 1) × ((k : ℕ) → Forbidden f t b c j k → ⊥))

-- the latest slot of a reading: the smallest k with lo(c,k) ≥ j, or S if there is none
abbrev pub Latest : Cost → List ℕ → ℕ → ℕ → ℕ → ℕ → Type 0
Latest f t b c j l = IsLeast (Needed f t b c j) l ⊎ ((l ≡ sum t) × ((k : ℕ) → Needed f t b c j k → ⊥))

-- the window of reading j of channel c is a pair: its earliest and its latest slot
abbrev pub IsWindow : Cost → List ℕ → ℕ → ℕ → ℕ → ℕ × ℕ → Type 0
IsWindow f t b c j w = Earliest f t b c j w.0 × Latest f t b c j w.1

-- a window is shut when its earliest slot is after its latest, and else open
abbrev pub IsShut : Cost → List ℕ → ℕ → ℕ → ℕ → ℕ × ℕ → Type 0
IsShut f t b c j w = Reading t c j × IsWindow f t b c j w × (w.1 < w.0)

-- the window w of reading j of channel c is the first shut one: the smallest channel, and then the smallest reading
pub record FirstShut (f : Cost) (t : List ℕ) (b c j : ℕ) (w : ℕ × ℕ) : Type 0 where
  pub shut : IsShut f t b c j w
  pub first : (a i : ℕ) (v : ℕ × ℕ) → Before a i c j → IsShut f t b a i v → ⊥

-- no window is shut
abbrev pub NoneShut : Cost → List ℕ → ℕ → Type 0
NoneShut f t b = (c j : ℕ) (w : ℕ × ℕ) → IsShut f t b c j w → ⊥
