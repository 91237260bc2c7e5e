-- The memory that a caller lends for a list, and what of it is not written.
use Rattle.std.specs.Prelude.{◌≡◌, ℕ, ◌≤◌, Bool, ◌||◌, nat_lt, List, drop, length}
use Rattle.matching.specs.declared.ready.Ready.{Ready}
use Rattle.matching.specs.declared.window.Window.{Window}

-- what lent memory holds: window places, ready places and list bytes
pub record Memory : Type 0 where
  pub windows : List Window
  pub ready : List Ready
  pub list : List ℕ

-- memory of these three
abbrev pub memory : List Window → List Ready → List ℕ → Memory
memory ws rs l = record { windows = ws; ready = rs; list = l }

-- memory of so many window places w, ready places r and list bytes l is too little for D readings: fewer window places
-- or list bytes than readings, or fewer than 64 ready places
abbrev pub is_short : ℕ → ℕ → ℕ → ℕ → Bool
is_short D w r l = nat_lt w D || nat_lt r 64 || nat_lt l D

-- memory cut to a round of D slots: as many window places and list bytes, and enough ready places
pub record IsCut (D : ℕ) (m : Memory) : Type 0 where
  pub windows : length m.windows ≡ D
  pub ready : 64 ≤ length m.ready
  pub list : length m.list ≡ D

-- nothing is written past D window places, 64 ready places and D list bytes
pub record KeepsRest (D : ℕ) (m m' : Memory) : Type 0 where
  pub windows : drop D m'.windows ≡ drop D m.windows
  pub ready : drop 64 m'.ready ≡ drop 64 m.ready
  pub list : drop D m'.list ≡ drop D m.list
