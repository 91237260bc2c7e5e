-- The absolute deviation: the cost is the size of q.
use Rattle.penalty.specs.Cost.{Cost, bottom}
use Rattle.penalty.specs.Deviation.{size}

-- the cost of the absolute deviation
abbrev pub absolute : Cost
absolute = bottom size
