-- What a penalty is: a cost for each question, its domain, the forbidden cost, and the laws that every penalty keeps.
use Rattle.std.specs.Prelude.{◌≡◌, ℕ, ◌≤◌, max, Bool, false, cond, ◌&&◌, nat_le}

-- the cost of slots S, channel c, readings d, count x and slot k (0 before the first), in this order
abbrev pub Cost : Type 0
Cost = ℕ → ℕ → ℕ → ℕ → ℕ → ℕ

-- the forbidden cost, 2^40 − 1
abbrev pub top : ℕ
top = 1_099_511_627_775

-- the questions that a penalty answers: S and d from 1 to 4096, c from 0 to 63, x from 0 to d, k from 0 to S
abbrev pub inside : ℕ → ℕ → ℕ → ℕ → ℕ → Bool
inside S c d x k = (nat_le 1 S && nat_le S 4096) && nat_le c 63 && (nat_le 1 d && nat_le d 4096) && nat_le x d && nat_le k S

-- the cost of a bottom: g of S, d, x and k on the domain, and the forbidden cost outside it
abbrev pub bottom : (ℕ → ℕ → ℕ → ℕ → ℕ) → Cost
bottom g S c d x k = cond (inside S c d x k) (g S d x k) top

-- no cost is above the forbidden one
abbrev pub Capped : Cost → Type 0
Capped f = (S c d x k : ℕ) → f S c d x k ≤ top

-- outside the domain the cost is the forbidden one
abbrev pub Outside : Cost → Type 0
Outside f = (S c d x k : ℕ) → inside S c d x k ≡ false → f S c d x k ≡ top

-- the valley law: between two counts no count costs more than the larger of their costs
abbrev pub Valley : Cost → Type 0
Valley f = (S c d k u v w : ℕ) → u ≤ v → v ≤ w → f S c d v k ≤ max (f S c d u k) (f S c d w k)
