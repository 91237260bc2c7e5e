-- What a job holds between its records: the readings of each channel number, and the settings of the three layers.
use Rattle.std.specs.Prelude.{ℕ, List, replicate}
use Rattle.job.specs.declared.held.Held.{Held as HeldOf}
use Rattle.penalty.specs.Cost.{Cost}
use Rattle.penalty.specs.Layers.{weighted, banded, stopped}

-- the readings and the weights by channel number, the tolerance of the band, and the limit of the stop
pub record Held : Type 0 where
  pub readings : List ℕ
  pub weights : List ℕ
  pub tolerance : ℕ
  pub limit : ℕ

-- what a job holds, of these four
abbrev pub held : List ℕ → List ℕ → ℕ → ℕ → Held
held t ws tolerance limit = record { readings = t; weights = ws; tolerance = tolerance; limit = limit }

-- before the first record: no channel, every weight 1, tolerance 0 and the largest limit
abbrev pub nothing_held : Held
nothing_held = held (replicate 64 0) (replicate 64 1) 0 16_777_216

-- the cost of the pile of layers over a bottom f: stop over band over weights
abbrev pub pile : Cost → Held → Cost
pile f h = stopped h.limit (banded h.tolerance (weighted h.weights f))

-- what a job holds, by its layers and its roster
abbrev pub held_of : {B : Type 0} → HeldOf B → Held
held_of h = held h.roster.readings.by_channel h.layers.weights.by_channel h.layers.band.tolerance h.layers.stop.limit
