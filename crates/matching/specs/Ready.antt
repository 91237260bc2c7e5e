-- The order of the ready readings in the heap.
use Rattle.std.specs.Prelude.{Bool, ◌&&◌, ◌||◌, ◌==◌, nat_le, nat_lt}
use Rattle.matching.specs.declared.ready.Ready.{Ready}

-- x may be placed before y: a smaller latest, or the same latest and no greater place
abbrev pub may_precede : Ready → Ready → Bool
may_precede x y = nat_lt x.latest y.latest || (x.latest == y.latest && nat_le x.place y.place)
