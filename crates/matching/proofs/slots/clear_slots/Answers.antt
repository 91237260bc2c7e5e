-- One record more without a slot, and all of them.
use Rattle.std.proofs.Common.{◌<◌, map, length, ◌∙◌, arith}
use Rattle.std.proofs.lemmas.List.Edits.{map_over_more}
use Rattle.std.proofs.lemmas.List.{append-nil, drop_all, get_or_default, take_all}
use Rattle.matching.specs.Windows.{bare, window}
use Rattle.matching.proofs.slots.clear_slots.Goals as goal

pub loop-window-preserved : goal.loop-window-preserved
loop-window-preserved c =
    let l = c.loop-window in
    let xs = c.args.windows.now in
    let i = l.window-index in
    let lt : i < length l.windows = omega arith in
    map_over_more bare xs l.windows i (window l.windows i) (omega arith) l.invariant (get_or_default l.windows i _ _ lt)

pub returns : goal.returns
returns c =
    let l = c.loop-window in
    let xs = c.args.windows.now in
    let i = l.window-index in
    l.invariant ∙ rw (take_all i xs (omega arith), drop_all i xs (omega arith)) (append-nil (map bare xs))
