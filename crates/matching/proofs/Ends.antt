-- The placing before the first slot and after the last one, and what is said of the records that were given.
use Rattle.std.proofs.Common.{◌≡◌, ℕ, ◌+◌, ◌<◌, List, [], length, Option, count_by, sym, refl, ◌∙◌, inr, ⊎_elim, arith}
use Rattle.std.proofs.lemmas.Bool.{both_ways, cases_lt, ltb-true}
use Rattle.matching.specs.Matchings.{IsCrowded, Placement}
use Rattle.matching.specs.Queues.{Starts, is_ready, next_of}
use Rattle.matching.specs.States.{Filled, State, has_slot}
use Rattle.matching.specs.Windows.{Arranged, blank, earliest_at, latest_at, slot_at, window}
use Rattle.matching.specs.declared.ready.Ready.{Ready}
use Rattle.matching.specs.declared.window.Window.{Window}
use Rattle.matching.proofs.Blanks.{earliest_same, inside-blank, latest_same, length-blank, length_same, window-blank}
use Rattle.matching.proofs.Counting.{count_all, count_some}
use Rattle.matching.proofs.Progress.{progress_none}

-- records without slots are arranged where the records are
pub arranged_blank : (ws : List Window) → Arranged ws → Arranged (blank ws)
arranged_blank ws a =
    let long = length-blank ws in
    record {
      few = omega (arith, a.few);
      usable = λ i here.
          let u = a.usable i (omega arith) in
          rw (long, window-blank ws i) (record { channel = u.channel; first = u.first; opens = u.opens; last = u.last });
      follows = λ i here.
          let f = a.follows i (omega arith) in
          rw (window-blank ws i, window-blank ws (i + 1)) (record { channel = f.channel; reading = f.reading; earliest = f.earliest; latest = f.latest });
    }

-- a crowded interval is one whatever slots stand in the records
pub crowd_same : (ws bs : List Window) → blank ws ≡ bs → (a b number : ℕ) → IsCrowded bs a b number → IsCrowded ws a b number
crowd_same ws bs same a b number crowd = record {
  from = crowd.from;
  upward = crowd.upward;
  to = omega (arith, crowd.to, length_same ws bs same);
  counted = crowd.counted ∙ sym (inside-blank a b ws bs same);
  over = crowd.over;
}

-- no record has a slot at first
none_counted : (ws : List Window) → ((i : ℕ) → slot_at ws i ≡ 0) → count_by has_slot ws ≡ 0
none_counted ws none = ⊎_elim
    (λ some.
    let one = count_some has_slot ws (window [] 0) some in
    absurd (omega (arith, none one.0, ltb-true 0 (slot_at ws one.0) one.2)))
    (λ zero. omega arith)
    (cases_lt 0 (count_by has_slot ws))

-- before the first slot
pub state_begins : (ws : List Window) (waiting : List (Option ℕ)) (kept : List Ready) → kept ≡ [] → Arranged (blank ws) → ((i : ℕ) → slot_at ws i ≡ 0) → Starts (blank ws) waiting →
    State (blank ws) ws 0 (next_of (blank ws) waiting kept) (is_ready waiting)
state_begins ws waiting kept empty arranged none starts = rw empty (record {
  slots = record {
    arranged = arranged;
    same = refl;
    counted = none_counted ws none;
    progress = progress_none (length (blank ws)) (earliest_at (blank ws)) (latest_at (blank ws)) (slot_at ws) (λ i here. none i);
  };
  cursors = record { ahead = λ j here free. starts.first j here; behind = λ j here upto. none j };
  come = λ c mark. absurd (both_ways _ (starts.all_wait c) mark);
})

-- after the last slot
pub placement : (bs ws : List Window) (t : ℕ) → t ≡ length bs → Filled bs ws t → Placement ws
placement bs ws t all f =
    let long = length_same ws bs f.same in
    let p = f.progress in
    let earliest = earliest_same ws bs f.same in
    let latest = latest_same ws bs f.same in
    let placed : (i : ℕ) → i < length ws → 0 < slot_at ws i = λ i here.
    ltb-true 0 (slot_at ws i) (count_all has_slot ws (omega (arith, f.counted)) i (window [] 0) here) in
    record {
      assigned = record {
        inside = λ i here.
            let in_window = p.inside i (omega arith) (placed i here) in
            (omega (arith, in_window.0, earliest i), omega (arith, in_window.1, latest i));
        apart = λ i j here there same. p.apart i j (omega arith) (omega arith) (placed i here) same;
      };
      filled = λ s from to. let there = p.filled s from (omega arith) in (there.0, omega (arith, there.1), there.2);
      soonest = λ i j here there before opens.
          let soon = p.soonest i j (omega arith) (omega arith) (placed i here) (inr before) (omega (arith, earliest j)) in
          let a = latest i in
          let b = latest j in
          grind arith;
    }
