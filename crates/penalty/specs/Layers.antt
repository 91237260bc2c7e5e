-- The layers: what each makes of the cost below it, and the depth.
use Rattle.std.specs.Prelude.{ℕ, ◌+◌, ◌-◌, ◌*◌, min, cond, List, nat_lt, slice_index}
use Rattle.penalty.specs.Cost.{Cost, top}
use Rattle.penalty.specs.Deviation.{ahead}

-- the forbidden cost stays, and another cost becomes m of it
abbrev pub keep_top : (ℕ → ℕ) → ℕ → ℕ
keep_top m n = cond (nat_lt n top) (m n) top

-- a cost under weight w: the forbidden cost stays, another is multiplied by w, up to one below the forbidden cost
abbrev pub weigh : ℕ → ℕ → ℕ
weigh w = keep_top (λ n. min (w * n) (top - 1))

-- a cost under tolerance t: the forbidden cost stays, another falls by t, but not below 0
abbrev pub relax : ℕ → ℕ → ℕ
relax t = keep_top (λ n. n - t)

-- the layer weights: the cost of f under the weight of its channel
abbrev pub weighted : List ℕ → Cost → Cost
weighted weights f S c d x k = weigh (slice_index weights c) (f S c d x k)

-- the layer band: the cost of f under tolerance t
abbrev pub banded : ℕ → Cost → Cost
banded t f S c d x k = relax t (f S c d x k)

-- the layer stop: forbidden where q is above e, and else the cost of f
abbrev pub stopped : ℕ → Cost → Cost
stopped e f S c d x k = cond (nat_lt e (ahead S d x k)) top (f S c d x k)

-- the depth of a layer over depth n: one more, but at most 255
abbrev pub deeper : ℕ → ℕ
deeper n = min 255 (n + 1)
