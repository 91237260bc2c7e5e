-- Which counts a bound b allows at a moment of a table t under a penalty f, and which moments are blocked.
use Rattle.std.specs.Prelude.{ℕ, ◌≤◌, List}
use Rattle.penalty.specs.Cost.{Cost}
use Rattle.round.specs.Lists.{Before, Moment, cost_of, readings}
use Rattle.windows.specs.Extremes.{IsGreatest, IsLeast}

-- x is a count that channel c may have after slot k: from 0 to d(c), and it costs at most b
abbrev pub Allowed : Cost → List ℕ → ℕ → ℕ → ℕ → ℕ → Type 0
Allowed f t b k c x = (x ≤ readings t c) × (cost_of f t k c x ≤ b)

-- lo(c,k): the smallest count that is allowed
abbrev pub Lowest : Cost → List ℕ → ℕ → ℕ → ℕ → ℕ → Type 0
Lowest f t b k c = IsLeast (Allowed f t b k c)

-- hi(c,k): the greatest count that is allowed
abbrev pub Highest : Cost → List ℕ → ℕ → ℕ → ℕ → ℕ → Type 0
Highest f t b k c = IsGreatest (Allowed f t b k c)

-- a moment is blocked when no count is allowed
pub record Blocked (f : Cost) (t : List ℕ) (b k c : ℕ) : Type 0 where
  pub moment : Moment t k c
  pub none : (x : ℕ) → Allowed f t b k c x → ⊥

-- (k, c) is the first blocked moment: the smallest k, and then the smallest channel
pub record FirstBlocked (f : Cost) (t : List ℕ) (b k c : ℕ) : Type 0 where
  pub blocked : Blocked f t b k c
  pub first : (j a : ℕ) → Before j a k c → Blocked f t b j a → ⊥

-- no moment is blocked
abbrev pub NoneBlocked : Cost → List ℕ → ℕ → Type 0
NoneBlocked f t b = (k c : ℕ) → Blocked f t b k c → ⊥
