-- The exchange and the reversal only move numbers, and the number at the place is a higher one.
use Rattle.std.proofs.lemmas.List.Sorted.{IsPermutation-put_mid, IsPermutation-trans}
use Rattle.bruteforce.proofs.Exchanged.{exchanged_after}
use Rattle.bruteforce.proofs.arrangement.next_arrangement.Goals as goal

pub returns-clause-arranged : goal.returns-clause-arranged
returns-clause-arranged c = IsPermutation-trans _ _ _ c.swap.ensures.permutation (IsPermutation-put_mid _ _ _ _ c.reverse.ensures.permutation)

pub returns-clause-after : goal.returns-clause-after
returns-clause-after c =
    let found = c.last_above-other.ensures in
    exchanged_after _ _ _ _ _ _ found.0 found.1 c.swap.ensures.len c.swap.ensures.by_index found.2
