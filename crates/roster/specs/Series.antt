-- The law of every series of calls on a new roster.
use Rattle.std.specs.Prelude.{◌≡◌, ℕ, ◌+◌, ◌<◌, ◌≤◌, List, Result, Ok, drop, length, slice_index_or, sum_by, take}
use Rattle.std.specs.List.{between}
use Rattle.penalty.specs.Cost.{Cost}
use Rattle.sequencing.specs.Memory.{Memory, memory}
use Rattle.sequencing.specs.Refusals.{MayRefuse}
use Rattle.roster.specs.Book.{book, lent_of, number, refused}
use Rattle.roster.specs.Calls.{Answered}
use Rattle.roster.specs.declared.call.Answer.{Answer}
use Rattle.roster.specs.declared.call.Answer.TheVariants.{Done}
use Rattle.roster.specs.declared.call.Call.{Call}
use Rattle.roster.specs.declared.call.Call.TheVariants.{Add}
use Rattle.roster.specs.declared.call.Sizes.{Sizes}
use Rattle.roster.specs.declared.refusal.Refusal.{Refusal}

-- the reply to a call: its answer, or why it is refused
abbrev pub Reply : Type 0
Reply = Result Answer Refusal

-- call i of a series, from 0
abbrev pub call_at : List Call → ℕ → Call
call_at calls i = slice_index_or calls i (Add 0 0)

-- reply i, from 0
abbrev pub reply_at : List Reply → ℕ → Reply
reply_at replies i = slice_index_or replies i (Ok Done)

-- how many window places a call is lent
abbrev pub windows_of : Call → ℕ
windows_of call = (lent_of call).windows

-- how many ready places
abbrev pub ready_of : Call → ℕ
ready_of call = (lent_of call).ready

-- how many list bytes
abbrev pub list_of : Call → ℕ
list_of call = (lent_of call).list

-- the part of xs that call i of a series is lent, where each call is lent `size` of it: it comes right after what the calls
-- before it are lent
abbrev pub part_of : {X : Type 0} → (Call → ℕ) → List Call → ℕ → List X → List X
part_of size calls i xs = between (sum_by size (take i calls)) (sum_by size (take (i + 1) calls)) xs

-- the memory that call i of a series is lent, of the memory m
abbrev pub memory_of : List Call → ℕ → Memory → Memory
memory_of calls i m = memory (part_of windows_of calls i m.windows) (part_of ready_of calls i m.ready) (part_of list_of calls i m.list)

-- n replies and so much memory are enough for a series: a reply for each call, and all that the calls are lent
pub record IsEnough (calls : List Call) (n : ℕ) (room : Sizes) : Type 0 where
  pub replies : length calls ≤ n
  pub windows : sum_by windows_of calls ≤ room.windows
  pub ready : sum_by ready_of calls ≤ room.ready
  pub list : sum_by list_of calls ≤ room.list

-- the reply to a call on a roster with the channels of book t is right: it is refused exactly where the book refuses it, by
-- that number, and then its memory is as it was; else its answer is right
abbrev pub Right : Cost → List ℕ → Call → Memory → Memory → Reply → Type 0
Right f t call m m' = MayRefuse (refused t call) (Answered f t call m m') number (m' ≡ m)

-- the law of every series of calls on a new roster, with the replies and the memory before and after it: the entries that
-- it leaves are those of the book, the reply to each call is right for the book just before it, and nothing is written
-- past the replies to the calls and past the memory that they are lent
pub record IsPlayed (f : Cost) (calls : List Call) (rs rs' : List Reply) (m m' : Memory) (entries : List ℕ) : Type 0 where
  pub booked : entries ≡ book calls
  pub right : (i : ℕ) → i < length calls →
      Right f (book (take i calls)) (call_at calls i) (memory_of calls i m) (memory_of calls i m') (reply_at rs' i)
  pub replies_rest : drop (length calls) rs' ≡ drop (length calls) rs
  pub windows_rest : drop (sum_by windows_of calls) m'.windows ≡ drop (sum_by windows_of calls) m.windows
  pub ready_rest : drop (sum_by ready_of calls) m'.ready ≡ drop (sum_by ready_of calls) m.ready
  pub list_rest : drop (sum_by list_of calls) m'.list ≡ drop (sum_by list_of calls) m.list
