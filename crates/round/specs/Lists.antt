-- Readings, lists and moments. A table t gives the readings of each channel number, 0 where no channel is;
-- a list l gives the channel of each slot; a round has as many slots as readings, S = sum t.
use Rattle.std.specs.Prelude.{◌≡◌, ℕ, ◌<◌, ◌≤◌, ◌⊎◌, List, length, take, sum, count_by, nat_eq, slice_index}
use Rattle.penalty.specs.Cost.{Cost}

-- d(c): the readings of channel c in a round
abbrev pub readings : List ℕ → ℕ → ℕ
readings t c = slice_index t c

-- c is a channel of the table
abbrev pub Channel : List ℕ → ℕ → Type 0
Channel t c = 0 < readings t c

-- a table has 64 numbers, a channel, and at most 4096 readings
pub record Sound (t : List ℕ) : Type 0 where
  pub long : length t ≡ 64
  pub some : (c : ℕ) × Channel t c
  pub few : sum t ≤ 4096

-- how often c stands in a list
abbrev pub times : ℕ → List ℕ → ℕ
times c l = count_by (nat_eq c) l

-- x(c,k): how often c stands in the first k slots
abbrev pub count : List ℕ → ℕ → ℕ → ℕ
count l c k = times c (take k l)

-- a list is complete when it has S slots and every number c stands in it d(c) times, 0 for what is no channel
pub record Complete (t l : List ℕ) : Type 0 where
  pub full : length l ≡ sum t
  pub each : (c : ℕ) → times c l ≡ readings t c

-- a moment is a pair of a k from 0 to S and a channel of the table
abbrev pub Moment : List ℕ → ℕ → ℕ → Type 0
Moment t k c = (k ≤ sum t) × Channel t c

-- the cost of a count x of channel c after k slots: what the penalty gives to S, c, d(c), x and k
abbrev pub cost_of : Cost → List ℕ → ℕ → ℕ → ℕ → ℕ
cost_of f t k c x = f (sum t) c (readings t c) x k

-- a moment costs what its count does
abbrev pub cost_at : Cost → List ℕ → List ℕ → ℕ → ℕ → ℕ
cost_at f t l k c = cost_of f t k c (count l c k)

-- a list is within b when no moment costs more
abbrev pub Within : Cost → List ℕ → List ℕ → ℕ → Type 0
Within f t l b = (k c : ℕ) → Moment t k c → cost_at f t l k c ≤ b

-- n is the largest cost of a list: it is within n, and some moment costs n
pub record LargestCost (f : Cost) (t l : List ℕ) (n : ℕ) : Type 0 where
  pub within : Within f t l n
  pub attained : (k : ℕ) × (c : ℕ) × Moment t k c × (cost_at f t l k c ≡ n)

-- pairs go by the first number, and at the same by the second: moments by k and then channel, readings by channel and then number
abbrev pub Before : ℕ → ℕ → ℕ → ℕ → Type 0
Before j b k c = (j < k) ⊎ ((j ≡ k) × (b < c))
