-- The greatest of the slots of the readings that could stand later.
use Rattle.std.proofs.Common.{sym, ap, ◌∙◌, subst, rules, tests}
use Rattle.std.specs.Option.{unwrap_or}
use Rattle.std.specs.Ordering.{max_by_ordering, nat_cmp}
use Rattle.std.proofs.lemmas.List.Folds.{max_of_map}
use Rattle.std.proofs.lemmas.Iterator.{YieldsList-from_map, YieldsList-from_slice}
use Rattle.std.proofs.lemmas.Iterator.Consumers.{YieldsList-at, YieldsList-from_filter, reduce_from_yields_List}
use Rattle.std.specs.List.{filter}
use Rattle.matching.specs.States.{LastMovable}
use Rattle.matching.proofs.Movables.{is_movable, last_movable_is}
use Rattle.matching.proofs.slots.last_movable.Goals as goal

pub returns : goal.returns
returns c =
    let ws = c.args.windows.now in
    let m = c.args.latest in
    let value =
    c.unwrap_or.ensures
    ∙ ap (λ o. unwrap_or o 0)
    (reduce_from_yields_List (λ p z. max_by_ordering (nat_cmp p z) p z) c.map.result c.max.result c.max.ensures.ran
    (YieldsList-from_map _ (λ w. w.slot)
    (YieldsList-at c.map.ensures.source (YieldsList-from_filter _ (is_movable m) (YieldsList-at c.filter.ensures.source (YieldsList-from_slice ws cc)) c.filter.ensures.closure (λ x b q k. search (rules, tests))))
    c.map.ensures.closure (λ x r q k. search (rules, tests))))
    ∙ max_of_map (λ w. w.slot) (filter (is_movable m) ws) in
    subst (LastMovable ws m) (sym value) (last_movable_is ws m)
