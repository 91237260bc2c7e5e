-- What a job answers can be listed.
use Rattle.std.proofs.Common.{◌≡◌, ℕ, ◌≤◌, length, sum, take, List, arith}
use Rattle.job.specs.Held.{Held, pile}
use Rattle.job.specs.Jobs.{State, TakesNext}
use Rattle.job.specs.Taking.{Answers}
use Rattle.job.specs.declared.answer.Answer.{Answer}
use Rattle.job.specs.declared.answer.Answer.TheVariants as answer
use Rattle.job.specs.declared.record.Record.{Record}
use Rattle.job.specs.declared.record.Record.TheVariants as asked
use Rattle.listing.specs.Answers.{best_rows, row_count}
use Rattle.listing.specs.Puts.{IsListable}
use Rattle.listing.specs.Rows.{HasSlots}
use Rattle.matching.specs.declared.window.Window.{Window}
use Rattle.penalty.specs.Cost.{Cost}
use Rattle.sequencing.proofs.Making.{sequence_slots}
use Rattle.sequencing.specs.Answers.{ShowsBest}
use Rattle.sequencing.specs.Memory.{Memory}
use Rattle.sequencing.specs.Sequences.{IsSequence}
use Rattle.sequencing.specs.declared.answer.Outcome.{Outcome}
use Rattle.sequencing.specs.declared.answer.Outcome.TheVariants.{Least, NoLeast}

-- the windows of the list of the rules stand in slots of the round, each in its own
sequence_rows : (f : Cost) (t : List ℕ) (b : ℕ) (ws : List Window) (l : List ℕ) → length t ≡ 64 → sum t ≤ 4096 → IsSequence f t b ws l → HasSlots ws
sequence_rows f t b ws l long few seq =
    record { slots = sequence_slots f t b ws l long few seq; apart = seq.placed.assigned.apart }

-- where no window is listed nothing is asked of them
none_listable : (ws : List Window) → IsListable 0 ws
none_listable ws = record {
  few = omega arith;
  room = omega arith;
  slots = record { slots = λ i h. absurd (omega arith); apart = λ i j h. absurd (omega arith) };
}

module _ (f : Cost) (t : List ℕ) (long : length t ≡ 64) (few : sum t ≤ 4096) (ws : List Window) (room : sum t ≤ length ws) where
  -- a list of the rules can be listed
  rows_listed : (b total : ℕ) (l : List ℕ) → total ≡ sum t → IsSequence f t b (take (sum t) ws) l → HasSlots (take total ws)
  rows_listed b total l same seq = rw same (sequence_rows f t b (take (sum t) ws) l long few seq)

  -- what best shows can be listed
  best_listable : (total : ℕ) (outcome : Outcome) (l : List ℕ) → total ≡ sum t → ShowsBest f t (take (sum t) ws) l outcome → IsListable (best_rows total outcome) ws
  best_listable total (Least n below) l same shown = record { few = omega arith; room = omega arith; slots = rows_listed n total l same shown.rules }
  best_listable total (NoLeast block) l same shown = none_listable ws

-- the answer to a record can be listed
answer_listable : (f : Cost) (h : Held) (r : Record) (m m' : Memory) (a : Answer) → length h.readings ≡ 64 → sum h.readings ≤ 4096 → sum h.readings ≤ length m'.windows →
    Answers f h r m m' a → IsListable (row_count a) m'.windows
answer_listable f h r m m' answer.Done long few room answers = none_listable m'.windows
answer_listable f h r m m' (answer.Over bound block) long few room answers = none_listable m'.windows
answer_listable f h (asked.List b) m m' (answer.Within bound largest total) long few room answers =
    record {
      few = omega (arith, answers.1);
      room = omega (arith, answers.1);
      slots = rows_listed (pile f h) h.readings long few m'.windows room b total (take (sum h.readings) m'.list) answers.1 answers.2.shown.2;
    }
answer_listable f h asked.Best m m' (answer.Best best) long few room answers =
    best_listable (pile f h) h.readings long few m'.windows room best.total best.outcome (take (sum h.readings) m'.list) answers.total answers.shown
answer_listable f h (asked.Add c n) m m' (answer.Within bound largest total) long few room answers = absurd answers
answer_listable f h (asked.Weight c w) m m' (answer.Within bound largest total) long few room answers = absurd answers
answer_listable f h (asked.Tolerance n) m m' (answer.Within bound largest total) long few room answers = absurd answers
answer_listable f h (asked.Limit n) m m' (answer.Within bound largest total) long few room answers = absurd answers
answer_listable f h asked.Best m m' (answer.Within bound largest total) long few room answers = absurd answers
answer_listable f h (asked.Add c n) m m' (answer.Best best) long few room answers = absurd answers
answer_listable f h (asked.Weight c w) m m' (answer.Best best) long few room answers = absurd answers
answer_listable f h (asked.Tolerance n) m m' (answer.Best best) long few room answers = absurd answers
answer_listable f h (asked.Limit n) m m' (answer.Best best) long few room answers = absurd answers
answer_listable f h (asked.List b) m m' (answer.Best best) long few room answers = absurd answers

-- what the next record of a job is answered with can be listed
pub listable : (f : Cost) (s s' : State) (m m' : Memory) (a : Answer) → length s.held.readings ≡ 64 → sum s.held.readings ≤ 4096 → sum s.held.readings ≤ length m'.windows →
    TakesNext f s s' m m' a → IsListable (row_count a) m'.windows
listable f s s' m m' a long few room takes = answer_listable f s.held takes.0 m m' a long few room takes.3.2
