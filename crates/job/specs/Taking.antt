-- What each record of a job does.
use Rattle.std.specs.Prelude.{◌≡◌, Result, Ok, Err, slice_set, sum, take}
use Rattle.job.specs.Held.{Held, held, pile}
use Rattle.job.specs.declared.answer.Answer.{Answer}
use Rattle.job.specs.declared.answer.Answer.TheVariants as answer
use Rattle.job.specs.declared.fault.JobFault.{JobFault}
use Rattle.job.specs.declared.fault.JobFault.TheVariants.{Setting, Roster}
use Rattle.job.specs.declared.record.Record.{Record}
use Rattle.job.specs.declared.record.Record.TheVariants as asked
use Rattle.penalty.specs.Cost.{Cost}
use Rattle.penalty.specs.Settings.{Accepted, Refused, ThresholdFault, WeightFault}
use Rattle.roster.specs.Book.{entered as book_entered, lengths, number as roster_number, refused}
use Rattle.roster.specs.Calls.{Answered}
use Rattle.roster.specs.declared.call.Answer.TheVariants as reply
use Rattle.roster.specs.declared.call.Call.TheVariants as call
use Rattle.round.specs.Lists.{LargestCost}
use Rattle.sequencing.specs.Memory.{Memory}
use Rattle.sequencing.specs.declared.answer.Listed.TheVariants.{Within, Over}

-- a record is accepted by a job that holds h, with the memory m: a call on the roster where the book accepts it, and a
-- setting where nothing is wrong with it
abbrev pub Accepts : Held → Memory → Record → Type 0
Accepts h m (asked.Add c n) = refused h.readings (call.Add c n) ≡ 0
Accepts h m (asked.Weight c w) = Accepted (WeightFault c w)
Accepts h m (asked.Tolerance n) = Accepted (ThresholdFault n)
Accepts h m (asked.Limit n) = Accepted (ThresholdFault n)
Accepts h m (asked.List b) = refused h.readings (call.List b (lengths m)) ≡ 0
Accepts h m asked.Best = refused h.readings (call.Best (lengths m)) ≡ 0

-- or it is refused with a fault: a call on the roster by the number of the book, and a setting by its own refusal
abbrev pub Refuses : Held → Memory → Record → JobFault → Type 0
Refuses h m (asked.Add c n) (Roster e) = refused h.readings (call.Add c n) ≡ roster_number e
Refuses h m (asked.Weight c w) (Setting e) = Refused (WeightFault c w) e
Refuses h m (asked.Tolerance n) (Setting e) = Refused (ThresholdFault n) e
Refuses h m (asked.Limit n) (Setting e) = Refused (ThresholdFault n) e
Refuses h m (asked.List b) (Roster e) = refused h.readings (call.List b (lengths m)) ≡ roster_number e
Refuses h m asked.Best (Roster e) = refused h.readings (call.Best (lengths m)) ≡ roster_number e
Refuses h m other fault = ⊥

-- what the job holds after an accepted record
abbrev pub entered : Held → Record → Held
entered h (asked.Add c n) = held (book_entered h.readings (call.Add c n)) h.weights h.tolerance h.limit
entered h (asked.Weight c w) = held h.readings (slice_set h.weights c w) h.tolerance h.limit
entered h (asked.Tolerance n) = held h.readings h.weights n h.limit
entered h (asked.Limit n) = held h.readings h.weights h.tolerance n
entered h (asked.List b) = h
entered h asked.Best = h

-- what an accepted record answers, for a bottom f, with the memory before and after it. An add or a setting is done, and changes
-- no memory. A list and a best answer what a roster with these channels answers under the pile; with a list come its bound and,
-- where it is within that, its largest cost and how many readings there are
abbrev pub Answers : Cost → Held → Record → Memory → Memory → Answer → Type 0
Answers f h (asked.List b) m m' (answer.Within bound largest total) =
    (bound ≡ b) × (total ≡ sum h.readings) × Answered (pile f h) h.readings (call.List b (lengths m)) m m' (reply.Listed Within)
    × LargestCost (pile f h) h.readings (take (sum h.readings) m'.list) largest
Answers f h (asked.List b) m m' (answer.Over bound block) =
    (bound ≡ b) × Answered (pile f h) h.readings (call.List b (lengths m)) m m' (reply.Listed (Over block))
Answers f h asked.Best m m' (answer.Best best) = Answered (pile f h) h.readings (call.Best (lengths m)) m m' (reply.Best best)
Answers f h (asked.Add c n) m m' answer.Done = m' ≡ m
Answers f h (asked.Weight c w) m m' answer.Done = m' ≡ m
Answers f h (asked.Tolerance n) m m' answer.Done = m' ≡ m
Answers f h (asked.Limit n) m m' answer.Done = m' ≡ m
Answers f h other m m' a = ⊥

-- what comes of a record: it is accepted, with its answer, and its setting or its channel is entered; or it is refused, and
-- nothing has changed
abbrev pub Takes : Cost → Held → Held → Record → Memory → Memory → Result Answer JobFault → Type 0
Takes f h h' r m m' (Ok a) = Accepts h m r × (h' ≡ entered h r) × Answers f h r m m' a
Takes f h h' r m m' (Err fault) = Refuses h m r fault × (h' ≡ h) × (m' ≡ m)
