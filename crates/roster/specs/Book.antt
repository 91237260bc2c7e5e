-- The plain book: the readings of each channel number, 0 where no channel is; which calls it refuses, by which number, and
-- what an accepted one enters. It takes the arguments of the calls alone, and of lent memory just the lengths.
use Rattle.std.specs.Prelude.{ℕ, ◌+◌, ◌-◌, ◌||◌, ◌==◌, cond, nat_lt, List, [], ◌∷◌, length, replicate, slice_set, sum}
use Rattle.round.specs.Lists.{readings}
use Rattle.sequencing.specs.Memory.{Memory}
use Rattle.sequencing.specs.Refusals.{best_refused, first_of, list_refused, number as list_number}
use Rattle.roster.specs.declared.call.Call.{Call}
use Rattle.roster.specs.declared.call.Call.TheVariants as call
use Rattle.roster.specs.declared.call.Sizes.{Sizes}
use Rattle.roster.specs.declared.refusal.Refusal.{Refusal}
use Rattle.roster.specs.declared.refusal.Refusal.TheVariants.{ChannelAboveLimit, ReadingsOutOfRange, Present, Absent, TotalAboveLimit, Sequencing}

-- the number of a refusal
abbrev pub number : Refusal → ℕ
number ChannelAboveLimit = 1
number ReadingsOutOfRange = 2
number Present = 3
number Absent = 4
number TotalAboveLimit = 5
number (Sequencing refusal) = list_number refusal

-- the number by which book t refuses a call, 0 where it accepts it. Channels above 63 are refused by 1, readings 0 or above
-- 4096 by 2, the add of a channel that is there by 3, the change or removal of one that is not by 4, and a sum above 4096
-- by 5; list and best as the definitions of their own refusals say
abbrev pub refused : List ℕ → Call → ℕ
refused t (call.Add c n) =
    first_of ((1, nat_lt 63 c) ∷ (2, n == 0 || nat_lt 4096 n) ∷ (3, nat_lt 0 (readings t c)) ∷ (5, nat_lt 4096 (sum t + n)) ∷ [])
refused t (call.Change c n) =
    first_of ((1, nat_lt 63 c) ∷ (2, n == 0 || nat_lt 4096 n) ∷ (4, readings t c == 0) ∷ (5, nat_lt 4096 ((sum t - readings t c) + n)) ∷ [])
refused t (call.Remove c) = first_of ((1, nat_lt 63 c) ∷ (4, readings t c == 0) ∷ [])
refused t (call.List b lent) = list_refused t b lent.windows lent.ready lent.list
refused t (call.Best lent) = best_refused t lent.windows lent.ready lent.list

-- what an accepted call makes of book t
abbrev pub entered : List ℕ → Call → List ℕ
entered t (call.Add c n) = slice_set t c n
entered t (call.Change c n) = slice_set t c n
entered t (call.Remove c) = slice_set t c 0
entered t (call.List b lent) = t
entered t (call.Best lent) = t

-- book t after one more call, which changes nothing where it is refused
abbrev pub next : List ℕ → Call → List ℕ
next t a = cond (refused t a == 0) (entered t a) t

-- book t after a series of calls
abbrev pub after : List ℕ → List Call → List ℕ
after t [] = t
after t (a ∷ calls) = after (next t a) calls

-- the book of a series: no channel number has readings before the first call
abbrev pub book : List Call → List ℕ
book calls = after (replicate 64 0) calls

-- how much memory a call is lent: none where it makes no list
abbrev pub lent_of : Call → Sizes
lent_of (call.Add c n) = record { windows = 0; ready = 0; list = 0 }
lent_of (call.Change c n) = record { windows = 0; ready = 0; list = 0 }
lent_of (call.Remove c) = record { windows = 0; ready = 0; list = 0 }
lent_of (call.List b lent) = lent
lent_of (call.Best lent) = lent

-- how much memory this is
abbrev pub lengths : Memory → Sizes
lengths m = record { windows = length m.windows; ready = length m.ready; list = length m.list }
