-- The dearest moments of a list: all its moments with what they cost, the order of moments, and which ones are the dearest.
use Rattle.std.specs.Prelude.{◌≡◌, ℕ, ◌+◌, Bool, ◌&&◌, ◌||◌, ◌==◌, List, filter, flat_map, length, map, nat_le, nat_lt, sum, take, Result, Ok, Err}
use Rattle.std.specs.List.{range_with_len}
use Rattle.heap.specs.Heaps.{AreLast, MayLeave, Unchanged}
use Rattle.penalty.specs.Cost.{Cost}
use Rattle.round.specs.Lists.{Complete, Sound, cost_at, readings}
use Rattle.round.specs.Refusals.{Refused}
use Rattle.round.specs.declared.costed_moment.CostedMoment.{CostedMoment}
use Rattle.round.specs.declared.refusal.Refusal.{Refusal}

-- x is no dearer than y: it costs less; or it costs as much and its k is greater; or k is the same too, and its channel no smaller
abbrev pub no_dearer : CostedMoment → CostedMoment → Bool
no_dearer x y =
    nat_lt x.cost y.cost || (x.cost == y.cost && (nat_lt y.slot x.slot || (x.slot == y.slot && nat_le y.channel x.channel)))

-- the channels of a table among the first n channel numbers, in their order
abbrev pub channels_to : List ℕ → ℕ → List ℕ
channels_to t n = filter (λ c. nat_lt 0 (readings t c)) (range_with_len 0 n)

-- the moment (k, c) of a list, with what it costs
abbrev pub costed : Cost → List ℕ → List ℕ → ℕ → ℕ → CostedMoment
costed f t l k c = record { cost = cost_at f t l k c; slot = k; channel = c }

-- the moments of a list at k, of all its channels
abbrev pub moments_at : Cost → List ℕ → List ℕ → ℕ → List CostedMoment
moments_at f t l k = map (costed f t l k) (channels_to t 64)

-- the moments of a list at the first n of k = 0, 1, 2 and so on
abbrev pub moments_to : Cost → List ℕ → List ℕ → ℕ → List CostedMoment
moments_to f t l n = flat_map (moments_at f t l) (range_with_len 0 n)

-- all moments of a list, each once, k = 0 to S
abbrev pub moments : Cost → List ℕ → List ℕ → List CostedMoment
moments f t l = moments_to f t l (sum t + 1)

-- xs are as many of the dearest moments of a list as n places hold, or all where they are fewer: a part of its moments, each with
-- what it costs, and each that is left out is no dearer than any of them
abbrev pub AreDearest : Cost → List ℕ → List ℕ → ℕ → List CostedMoment → Type 0
AreDearest f t l n xs = AreLast no_dearer (moments f t l) n xs

-- us are the dearest moments of a list that n places hold, one after another as they may leave a heap: the cheapest first
abbrev pub DearestInOrder : Cost → List ℕ → List ℕ → ℕ → List CostedMoment → Type 0
DearestInOrder f t l n us = (xs : List CostedMoment) × AreDearest f t l n xs × MayLeave no_dearer xs us

-- the dearest n moments of a list are one list, whatever heap keeps them and however they leave it
abbrev pub DearestAreOne : Cost → List ℕ → List ℕ → ℕ → Type 0
DearestAreOne f t l n = (us vs : List CostedMoment) → DearestInOrder f t l n us → DearestInOrder f t l n vs → us ≡ vs

-- the heap that keeps the first n of xs is filled with the dearest moments of list l over table t, and then keeps the first m of
-- ys; or it is refused as an audit of l would be, and the heap is as it was
abbrev pub FillsDearest : Cost → List ℕ → List ℕ → List CostedMoment → ℕ → List CostedMoment → ℕ → Result (Unit {0}) Refusal → Type 0
FillsDearest f t l xs n ys m (Ok _) = Sound t × Complete t l × AreDearest f t l (length xs) (take m ys)
FillsDearest f t l xs n ys m (Err e) = Refused t l e × Unchanged xs n ys m
