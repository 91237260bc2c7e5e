-- The slots of the rules say how often a channel stands in the first slots of their list; so the list is complete, and
-- within the bound.
use Rattle.std.proofs.Common.{◌≡◌, ℕ, zero, suc, ◌+◌, ◌-◌, ◌<◌, ◌≤◌, ◌↔◌, List, length, get_or, sum, sym, refl, ap, ◌∙◌, subst, inr, ⊎_elim, arith}
use Rattle.std.proofs.lemmas.Bool.{cases_eq, cases_lt}
use Rattle.std.proofs.lemmas.List.{take_all}
use Rattle.matching.proofs.Blanks.{length-blank, window-blank}
use Rattle.matching.specs.Windows.{bare, channel_at, earliest_at, latest_at, slot_at, window}
use Rattle.matching.specs.declared.window.Window.{Window}
use Rattle.penalty.specs.Cost.{Cost, Valley}
use Rattle.round.specs.Lists.{Complete, Within, count, readings, times}
use Rattle.round.proofs.Counts.{count_other, count_own}
use Rattle.sequencing.specs.Sequences.{IsSequence}
use Rattle.windows.specs.Filling.{IsRecord, place_of}
use Rattle.windows.specs.Windows.{Reading}
use Rattle.windows.proofs.Arranged.{earliest_from_1, latest_upto_end}
use Rattle.windows.proofs.Bound.{InWindows, stands_within}
use Rattle.windows.proofs.Ends.{earliest_rises, latest_rises}
use Rattle.windows.proofs.Places.{place_inside, place_rises, reading_at}

module _ (f : Cost) (t : List ℕ) (b : ℕ) (ws : List Window) (l : List ℕ) (seq : IsSequence f t b ws l) where
  -- the slot of reading j of channel c
  abbrev slot_of : ℕ → ℕ → ℕ
  slot_of c j = slot_at ws (place_of t c j)

  -- there are as many records as slots
  as_many : length ws ≡ sum t
  as_many = sym (length-blank ws) ∙ seq.windows.windows.long

  -- each reading has a place among them
  has_place : (c j : ℕ) → Reading t c j → place_of t c j < length ws
  has_place c j reading = omega (arith, as_many, place_inside t c j reading)

  -- with its record
  record_of : (c j : ℕ) → Reading t c j → IsRecord f t b c j (bare (window ws (place_of t c j)))
  record_of c j reading = subst (IsRecord f t b c j) (window-blank ws (place_of t c j)) (seq.windows.windows.each c j reading)

  -- and stands in a slot of the round
  slot_inside : (c j : ℕ) → Reading t c j → (1 ≤ slot_of c j) × (slot_of c j ≤ sum t)
  slot_inside c j reading =
      let i = place_of t c j in
      let w = (record_of c j reading).window in
      let at = seq.placed.assigned.inside i (has_place c j reading) in
      omega (arith, at.0, at.1, earliest_from_1 f t b c j (earliest_at ws i) w.0, latest_upto_end f t b c j (latest_at ws i) w.1)

  -- the slots of a channel rise with its readings
  slots_rise : (c i j : ℕ) → Reading t c i → Reading t c j → i < j → slot_of c i < slot_of c j
  slots_rise c i j before after less =
      let p = place_of t c i in
      let q = place_of t c j in
      let u = record_of c i before in
      let v = record_of c j after in
      let order = place_rises t c i c j before after (inr (refl, less)) in
      let opens = earliest_rises f t b c i j (earliest_at ws p) (earliest_at ws q) (omega arith) u.window.0 v.window.0 in
      let closes = latest_rises f t b c i j (latest_at ws p) (latest_at ws q) (omega arith) u.window.1 v.window.1 in
      let at = seq.placed.assigned.inside q (has_place c j after) in
      ⊎_elim (λ same. let e = seq.placed.assigned.apart p q (has_place c i before) (has_place c j after) same in absurd (omega arith))
      (λ other.
      ⊎_elim
      (λ later.
      ⊎_elim (λ sooner. absurd (omega arith)) (λ tie. absurd (omega (arith, tie.1)))
      (seq.placed.soonest q p (has_place c j after) (has_place c i before) later (omega (arith, at.0))))
      (λ ge. omega arith)
      (cases_lt (slot_of c j) (slot_of c i)))
      (cases_eq (slot_of c i) (slot_of c j))

  -- the first k slots of the list have as many slots of channel c as readings of it have their slots there, the first ones
  record CountedTo (k c : ℕ) : Type 0 where
    most : count l c k ≤ readings t c
    stands : (j : ℕ) → Reading t c j → (slot_of c j ≤ k) ↔ (j ≤ count l c k)

  -- before the first slot there are none
  counted_none : (c : ℕ) → CountedTo 0 c
  counted_none c = record {
    most = omega arith;
    stands = λ j reading. (λ h. absurd (omega (arith, slot_inside c j reading)), λ h. absurd (omega (arith, reading.0)));
  }

  -- the reading of a slot: its channel and number
  reading_in : (k : ℕ) → k < sum t → (a : ℕ) × (i : ℕ) × Reading t a i × (slot_of a i ≡ k + 1) × (get_or l k 0 ≡ a)
  reading_in k h =
      let there = seq.placed.filled (k + 1) (omega arith) (omega (arith, as_many)) in
      let at = reading_at t there.0 (omega (arith, as_many, there.1)) in
      let channel : channel_at ws (place_of t at.0 at.1) ≡ at.0 = (record_of at.0 at.1 at.2).channel in
      let stands = seq.channels there.0 there.1 in
      let slot : slot_of at.0 at.1 ≡ k + 1 = ap (slot_at ws) at.3 ∙ there.2 in
      let before : slot_at ws there.0 - 1 ≡ k = omega (arith, there.2) in
      (at.0, at.1, at.2, slot, sym (ap (λ x. get_or l x 0) before) ∙ stands ∙ ap (channel_at ws) (sym at.3) ∙ channel)

  -- no two readings have one slot
  same_slot : (c j a i : ℕ) → Reading t c j → Reading t a i → slot_of c j ≡ slot_of a i → (c ≡ a) × (j ≡ i)
  same_slot c j a i one other e =
      let u = record_of c j one in
      let v = record_of a i other in
      let place = seq.placed.assigned.apart (place_of t c j) (place_of t a i) (has_place c j one) (has_place a i other) e in
      (sym u.channel ∙ ap (λ p. (window ws p).channel) place ∙ v.channel, sym u.reading ∙ ap (λ p. (window ws p).reading) place ∙ v.reading)

  module _ (k c : ℕ) (inside : k < sum t) (old : CountedTo k c) where
    -- a slot of another channel changes neither
    counted_other : (c ≡ (reading_in k inside).0 → ⊥) → CountedTo (k + 1) c
    counted_other other =
        let here = reading_in k inside in
        let same = count_other l c k (omega (arith, seq.long)) (λ e. other (e ∙ here.4)) in
        let before : (j : ℕ) → Reading t c j → slot_of c j ≤ k + 1 → slot_of c j ≤ k = λ j reading h.
        ⊎_elim (λ e. absurd (other (same_slot c j here.0 here.1 reading here.2 (e ∙ sym here.3)).0)) (λ ne. omega arith) (cases_eq (slot_of c j) (k + 1)) in
        record {
          most = omega (arith, same, old.most);
          stands = λ j reading. (
            λ h. omega (arith, same, (old.stands j reading).0 (before j reading h)),
            λ h. let s = (old.stands j reading).1 (omega (arith, same)) in omega arith,
          );
        }

    -- a slot of the channel has its next reading
    counted_own : c ≡ (reading_in k inside).0 → CountedTo (k + 1) c
    counted_own own =
        let here = reading_in k inside in
        let i = here.1 in
        let reading : Reading t c i = rw own here.2 in
        let slot : slot_of c i ≡ k + 1 = rw own here.3 in
        let x = count l c k in
        let more : count l c (k + 1) ≡ x + 1 = count_own l c k (omega (arith, seq.long)) (own ∙ sym here.4) in
        let after : x < i = ⊎_elim (λ less. less) (λ ge. let s = (old.stands i reading).1 ge in absurd (omega arith)) (cases_lt x i) in
        let next : i ≡ x + 1 =
        ⊎_elim
        (λ later.
        let first : Reading t c (x + 1) = (omega arith, omega (arith, reading.1)) in
        let rises = slots_rise c (x + 1) i first reading later in
        let by = (old.stands (x + 1) first).0 (omega arith) in
        absurd (omega arith))
        (λ ge. omega arith)
        (cases_lt (x + 1) i) in
        record {
          most = omega (arith, more, next, reading.1);
          stands = λ j other. (
            λ h.
                ⊎_elim
                (λ e. let same = (same_slot c j c i other reading (e ∙ sym slot)).1 in omega arith)
                (λ ne. let by = (old.stands j other).0 (omega arith) in omega arith)
                (cases_eq (slot_of c j) (k + 1)),
            λ h.
                ⊎_elim
                (λ e. let same = ap (slot_of c) (e ∙ sym next) in omega arith)
                (λ ne. let s = (old.stands j other).1 (omega arith) in omega arith)
                (cases_eq j (x + 1)),
          );
        }

  -- so it is up to every slot
  counted : (k c : ℕ) → k ≤ sum t → CountedTo k c
  counted zero c h = counted_none c
  counted (suc k) c h =
      let old = counted k c (omega arith) in
      subst (λ n. CountedTo n c) (omega arith) (⊎_elim (counted_own k c h old) (counted_other k c h old) (cases_eq c (reading_in k h).0))

  -- the list is complete
  pub sequence_complete : Complete t l
  sequence_complete = record {
    full = seq.long;
    each = λ c.
        let S = sum t in
        let all = counted S c (omega arith) in
        let whole = ap (times c) (take_all S l (omega (arith, seq.long))) in
        ⊎_elim
        (λ some.
        let last : Reading t c (readings t c) = (some, omega arith) in
        let by = (all.stands (readings t c) last).0 (slot_inside c (readings t c) last).1 in
        omega (arith, whole, all.most))
        (λ none. omega (arith, whole, all.most))
        (cases_lt 0 (readings t c));
  }

  -- each of its readings stands in its window
  sequence_stands : InWindows f t b l
  sequence_stands c j w reading window =
      let i = place_of t c j in
      let own = (record_of c j reading).window in
      let at = seq.placed.assigned.inside i (has_place c j reading) in
      let opens = earliest_rises f t b c j j w.0 (earliest_at ws i) (omega arith) window.0 own.0 in
      let closes = latest_rises f t b c j j (latest_at ws i) w.1 (omega arith) own.1 window.1 in
      let last = latest_upto_end f t b c j w.1 window.1 in
      let in_round = slot_inside c j reading in
      let before = counted (w.0 - 1) c (omega (arith, at.0)) in
      let by = (counted w.1 c last).stands j reading in
      let after : count l c (w.0 - 1) < j =
      ⊎_elim (λ less. less) (λ ge. let s = (before.stands j reading).1 ge in absurd (omega (arith, at.0))) (cases_lt (count l c (w.0 - 1)) j) in
      (after, by.0 (omega (arith, at.1)))

  -- so it is within the bound
  pub sequence_within : Valley f → Within f t l b
  sequence_within valley = stands_within t l sequence_complete f b valley seq.windows.unblocked sequence_stands
