-- The windows that are left are the first ones; the others have given their channels' places.
use Rattle.std.proofs.Common.{◌≡◌, ℕ, ◌<◌, ◌≤◌, false, [], length, take}
use Rattle.matching.specs.Queues.{NextUpTo, is_ready, next_of}
use Rattle.matching.specs.Windows.{blank}
use Rattle.matching.proofs.round.first_places.Given as goal

abbrev pub invariant-loop-place : goal.invariant-loop-place
invariant-loop-place l =
    let rest = l.place-iterator.iter.iter.rest.now in
    (l.place-iterator.iter.count ≡ 0)
    × (rest ≡ take (length rest) l.windows)
    × (length rest ≤ length l.windows)
    × (length l.waiting ≡ 64)
    × ((c : ℕ) → is_ready l.waiting c ≡ false)
    × ((j : ℕ) → length rest ≤ j → j < length (blank l.windows) → NextUpTo (blank l.windows) (next_of (blank l.windows) l.waiting []) j)
