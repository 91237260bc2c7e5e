-- How far a count is from the even share: q = S·x − k·d, a signed number, by its two parts.
use Rattle.std.specs.Prelude.{ℕ, ◌+◌, ◌-◌, ◌*◌}

-- q where it is above zero, else 0: S times what the count is ahead of the even share
abbrev pub ahead : ℕ → ℕ → ℕ → ℕ → ℕ
ahead S d x k = S * x - k * d

-- −q where q is below zero, else 0: S times what the count is behind the even share
abbrev pub behind : ℕ → ℕ → ℕ → ℕ → ℕ
behind S d x k = k * d - S * x

-- the size of q, since one of its two parts is 0
abbrev pub size : ℕ → ℕ → ℕ → ℕ → ℕ
size S d x k = ahead S d x k + behind S d x k
