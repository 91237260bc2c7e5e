-- One slot more: the reading that the queue gives is placed in it, or an interval of slots is crowded.
use Rattle.std.proofs.Common.{◌≡◌, ℕ, ◌+◌, ◌-◌, ◌<◌, ◌≤◌, Bool, true, false, cond, not, ltb, leb, ◌⊎◌, List, [], length, set, count_by, sym, ap, ◌∙◌, subst, inl, inr, ⊎_elim, arith}
use Rattle.std.proofs.lemmas.List.{get_or-set_other, get_or-set_same}
use Rattle.std.proofs.lemmas.List.Sums.{sum_by-set}
use Rattle.std.proofs.lemmas.Bool.{and_from, and_parts, both_ways, cases_eq, cases_lt, le-leb, le-ltb, leb-true, lt-ltb, ltb-false, not-true}
use Rattle.matching.specs.Matchings.{Due, IsCrowded, inside, within}
use Rattle.matching.specs.Queues.{Admitted, Comes, TakenOut}
use Rattle.matching.specs.States.{Come, Cursors, Filled, LastMovable, State, has_slot}
use Rattle.matching.specs.Windows.{blank, channel_at, earliest_at, latest_at, slot_at, window, with_slot}
use Rattle.matching.specs.declared.ready.Ready.{Ready}
use Rattle.matching.specs.declared.window.Window.{Window}
use Rattle.matching.proofs.Blanks.{blank-set, earliest_same, inside-blank, latest_same, length_same}
use Rattle.matching.proofs.Counting.{count_both, count_some, count_weaker, keys_at_least}
use Rattle.matching.proofs.Orders.{channels_rise, ends_rise}
use Rattle.matching.proofs.Progress.{late_keys, late_upward, progress_more}

module _ (bs ws : List Window) (t : ℕ) (f : Filled bs ws t) where
  -- the records have the windows of bs
  long : length ws ≡ length bs
  long = length_same ws bs f.same

  -- an interval that has a window inside goes upward
  inside_upward : (a b i : ℕ) → i < length ws → within a b (window ws i) ≡ true → a ≤ b
  inside_upward a b i here passes =
      let parts = and_parts (leb a (window ws i).earliest) (leb (window ws i).latest b) passes in
      let opens = (f.arranged.usable i (omega (arith, long))).opens in
      omega (arith, leb-true a (window ws i).earliest parts.0, leb-true (window ws i).latest b parts.1, earliest_same ws bs f.same i, latest_same ws bs f.same i)

  -- where no reading without a slot comes by slot t + 1, the slots after it are crowded
  crowd_after : t < length bs → ((j : ℕ) → j < length bs → (window ws j).slot ≡ 0 → t + 1 < (window bs j).earliest) →
      IsCrowded bs (t + 1 + 1) (length bs) (inside (t + 1 + 1) (length bs) ws)
  crowd_after some none =
      let both = count_both has_slot ws in
      let fewer = count_weaker (λ w. not (has_slot w)) (within (t + 1 + 1) (length bs)) ws (window [] 0)
      (λ i h free.
      let later = none i (omega (arith, long)) (let zero = ltb-false 0 (window ws i).slot (not-true _ free) in omega arith) in
      let last = (f.arranged.usable i (omega (arith, long))).last in
      and_from _ _ (le-leb (t + 1 + 1) (window ws i).earliest (omega (arith, earliest_same ws bs f.same i))) (le-leb (window ws i).latest (length bs) (omega (arith, latest_same ws bs f.same i)))) in
      let one = count_some (within (t + 1 + 1) (length bs)) ws (window [] 0) (omega (arith, long, f.counted)) in
      let upward = inside_upward (t + 1 + 1) (length bs) one.0 one.1 one.2 in
      record {
        from = omega arith;
        upward = upward;
        to = omega arith;
        counted = inside-blank (t + 1 + 1) (length bs) ws bs f.same;
        over = omega (arith, long, f.counted, upward);
      }

  -- where a reading without a slot is too late for slot t + 1, the slots up to its latest are crowded
  crowd_before : (i : ℕ) → i < length bs → (window ws i).slot ≡ 0 → (window bs i).latest ≤ t → (a : ℕ) → LastMovable ws (window bs i).latest a →
      IsCrowded bs (a + 1) (window bs i).latest (inside (a + 1) (window bs i).latest ws)
  crowd_before i here free late a movable =
      let e = earliest_at bs in
      let l = latest_at bs in
      let s = slot_at ws in
      let first : (k : ℕ) → k < length bs → 1 ≤ e k = λ k h. (f.arranged.usable k h).first in
      let opens = (f.arranged.usable i here).opens in
      let after : (a ≡ 0) ⊎ ((r : ℕ) × (r < length bs) × (s r ≡ a) × (l i < l r)) =
      ⊎_elim inl (λ r. inr (r.0, omega (arith, long, r.1), r.2, omega (arith, latest_same ws bs f.same r.0, r.3))) movable.found in
      let up : (r : ℕ) → r < length bs → l i < l r → s r ≤ l i → s r ≤ a = λ r h more within. movable.last r (omega (arith, long)) (omega (arith, latest_same ws bs f.same r)) within in
      let keys = late_keys (length bs) e l s t f.progress first i here free opens late a after up in
      let upward = late_upward (length bs) e l s t f.progress first i here free opens late a after up in
      let many = keys_at_least (within (a + 1) (l i)) (λ w. w.slot - a) ws (window [] 0) (l i - a + 1)
      (λ q below.
      let k = keys q below in
      (k.0, omega (arith, long, k.1), and_from _ _ (le-leb (a + 1) _ (omega (arith, earliest_same ws bs f.same k.0, k.2))) (le-leb _ (l i) (omega (arith, latest_same ws bs f.same k.0, k.3))), k.4)) in
      let last = (f.arranged.usable i here).last in
      record {
        from = omega arith;
        upward = omega arith;
        to = last;
        counted = inside-blank (a + 1) (l i) ws bs f.same;
        over = omega arith;
      }

module _ (bs ws : List Window) (t : ℕ) (next next' : ℕ → ℕ) (before ready : ℕ → Bool) (state : State bs ws t next before) (admitted : Admitted bs (t + 1) next next' before ready 64) where
  -- the earliest of every reading that is ready now is at most t + 1
  come_now : Come bs next' ready (t + 1)
  come_now c mark =
      let same = ap (earliest_at bs) (admitted.same c) in
      ⊎_elim (λ was. omega (arith, state.come c was)) (λ comes. omega (arith, comes.2)) (admitted.only c mark)

  -- the next readings are still the first ones without a slot
  cursors_now : Cursors bs ws next'
  cursors_now = subst (Cursors bs ws) (λ i c. sym (λ j. admitted.same c j) i) state.cursors

  -- the next reading of a channel is ready where it comes by t + 1
  marked_now : (c : ℕ) → c < 64 → Comes bs (next' c) c (t + 1) → ready c ≡ true
  marked_now c below comes = admitted.marked c below (subst (λ (i : ℕ). Comes bs i c (t + 1)) (admitted.same c) comes)

  -- a reading without a slot that could stand in slot t + 1 has a ready one of its channel, which is not due after it
  in_heap : (j : ℕ) → j < length bs → (window ws j).slot ≡ 0 → (window bs j).earliest ≤ t + 1 →
      (ready (channel_at bs j) ≡ true) × (next' (channel_at bs j) ≤ j) × ((window bs (next' (channel_at bs j))).latest ≤ (window bs j).latest)
  in_heap j here free opens =
      let upto = cursors_now.ahead j here free in
      let usable = state.slots.arranged.usable j here in
      let ends = ends_rise bs state.slots.arranged (next' (channel_at bs j)) j upto.0 here upto.1 in (
        marked_now (channel_at bs j) usable.channel (omega (arith, upto.0), upto.1, omega (arith, ends.0)),
        upto.0,
        ends.1,
      )

  -- where no reading is ready, those without a slot come later
  none_comes : ((c : ℕ) → ready c ≡ false) → (j : ℕ) → j < length bs → (window ws j).slot ≡ 0 → t + 1 < (window bs j).earliest
  none_comes none j here free = ⊎_elim
      (λ later. later)
      (λ opens. absurd (both_ways _ (none (channel_at bs j)) (in_heap j here free opens).0))
      (cases_lt (t + 1) (window bs j).earliest)

  -- so the slots after t + 1 are crowded
  pub step_none : (n : ℕ) → n ≡ length bs → t < n → ((c : ℕ) → ready c ≡ false) → IsCrowded bs (t + 1 + 1) n (inside (t + 1 + 1) n ws)
  step_none n is some none = subst (λ (k : ℕ). IsCrowded bs (t + 1 + 1) k (inside (t + 1 + 1) k ws)) (sym is) (crowd_after bs ws t state.slots (omega arith) (none_comes none))

  module _ (next'' : ℕ → ℕ) (ready' : ℕ → Bool) (r : Ready) (out : TakenOut bs next' next'' ready ready' r) where
    -- the reading that is taken out has no slot yet
    out_free : (window ws r.place).slot ≡ 0
    out_free = cursors_now.behind r.place out.was.within (omega (arith, out.front))

    -- it may stand in slot t + 1
    out_come : (window bs r.place).earliest ≤ t + 1
    out_come = omega (arith, come_now (channel_at bs r.place) out.marked, ap (earliest_at bs) out.front)

    -- and it is due before every other that may
    out_first : (j : ℕ) → j < length bs → (window ws j).slot ≡ 0 → (j ≡ r.place → ⊥) → (window bs j).earliest ≤ t + 1 → Due (latest_at bs) r.place j
    out_first j here free other opens =
        let h = in_heap j here free opens in
        let first = out.first (channel_at bs j) h.0 in
        let latest = out.was.latest in
        let before = h.1 in
        let ends = h.2 in
        grind arith

    -- where its latest is before slot t + 1, the slots up to its latest are crowded
    pub step_late : r.latest < t + 1 → (a : ℕ) → LastMovable ws r.latest a → IsCrowded bs (a + 1) r.latest (inside (a + 1) r.latest ws)
    step_late late a movable =
        let latest = out.was.latest in
        subst (λ (k : ℕ). IsCrowded bs (a + 1) k (inside (a + 1) k ws)) (sym latest)
        (crowd_before bs ws t state.slots r.place out.was.within out_free (omega arith) a (subst (λ (k : ℕ). LastMovable ws k a) latest movable))

    module _ (ws' : List Window) (is : ws' ≡ set ws r.place (with_slot (window ws r.place) (t + 1))) where
      -- its place is one of the records
      there : r.place < length ws
      there = omega (arith, out.was.within, long bs ws t state.slots)

      -- its slot is t + 1 now
      slot_here : (window ws' r.place).slot ≡ t + 1
      slot_here = ap (λ (l : List Window). (window l r.place).slot) is ∙ ap (λ (w : Window). w.slot) (get_or-set_same ws r.place (with_slot (window ws r.place) (t + 1)) (window [] 0) there)

      -- the others are as they were
      slot_other : (k : ℕ) → (k ≡ r.place → ⊥) → (window ws' k).slot ≡ (window ws k).slot
      slot_other k other = ap (λ (l : List Window). (window l k).slot) is ∙ ap (λ (w : Window). w.slot) (get_or-set_other ws r.place k (with_slot (window ws r.place) (t + 1)) (window [] 0) other)

      -- one record more has a slot
      one_more : count_by has_slot ws' ≡ t + 1
      one_more =
          let change = sum_by-set (λ w. cond (has_slot w) 1 0) ws r.place (with_slot (window ws r.place) (t + 1)) (window [] 0) there in
          let before : has_slot (window ws r.place) ≡ false = le-ltb 0 (window ws r.place).slot (omega (arith, out_free)) in
          let after : ltb 0 (t + 1) ≡ true = lt-ltb 0 (t + 1) (omega arith) in
          ap (count_by has_slot) is ∙ (let total = state.slots.counted in grind arith)

      -- so slot t + 1 is filled
      filled_more : t + 1 ≤ (window bs r.place).latest → Filled bs ws' (t + 1)
      filled_more still = record {
        arranged = state.slots.arranged;
        same = ap blank is ∙ blank-set ws r.place (t + 1) ∙ state.slots.same;
        counted = one_more;
        progress = progress_more (length bs) (earliest_at bs) (latest_at bs) (slot_at ws) (slot_at ws') t r.place
            state.slots.progress out.was.within out_free out_come still out_first slot_here slot_other;
      }

      -- the next reading of its channel is the one after it
      next_at : (c : ℕ) → c ≡ channel_at bs r.place → (next' c ≡ r.place) × (next'' c ≡ r.place + 1)
      next_at c same = (ap next' same ∙ out.front, ap next'' same ∙ out.after)

      -- that is again the first reading of each channel without a slot
      cursors_more : Cursors bs ws' next''
      cursors_more = record {
        ahead = λ j here free.
            let other : j ≡ r.place → ⊥ = λ same. let slot = ap (slot_at ws') same ∙ slot_here in omega arith in
            let old = cursors_now.ahead j here (sym (slot_other j other) ∙ free) in
            ⊎_elim
            (λ at.
            let now = next_at (channel_at bs j) at in
            let after : r.place + 1 ≤ j = omega (arith, old.0, now.0) in
            let low = channels_rise bs state.slots.arranged r.place (r.place + 1) (omega arith) (omega arith) in
            let high = channels_rise bs state.slots.arranged (r.place + 1) j after here in
            (omega (arith, now.1), ap (channel_at bs) now.1 ∙ omega (arith, at)))
            (λ apart. let same = (out.others (channel_at bs j) apart).0 in (omega (arith, same, old.0), ap (channel_at bs) same ∙ old.1))
            (cases_eq (channel_at bs j) (channel_at bs r.place));
        behind = λ j here upto. ⊎_elim
            (λ at.
            let now = next_at (channel_at bs j) at in
            let other : j ≡ r.place → ⊥ = λ same. omega (arith, now.1) in
            slot_other j other ∙ cursors_now.behind j here (omega (arith, now.0, now.1)))
            (λ apart.
            let other : j ≡ r.place → ⊥ = λ same. apart (ap (channel_at bs) same) in
            slot_other j other ∙ cursors_now.behind j here (omega (arith, (out.others (channel_at bs j) apart).0)))
            (cases_eq (channel_at bs j) (channel_at bs r.place));
      }

      -- the readings that are still ready come as before
      come_more : Come bs next'' ready' (t + 1)
      come_more c mark = ⊎_elim
          (λ at. absurd (both_ways _ (ap ready' at ∙ out.waits) mark))
          (λ apart. let same = out.others c apart in omega (arith, come_now c (sym same.1 ∙ mark), ap (earliest_at bs) same.0))
          (cases_eq c (channel_at bs r.place))

      -- else it takes slot t + 1
      pub step_placed : t + 1 ≤ r.latest → State bs ws' (t + 1) next'' ready'
      step_placed still = record { slots = filled_more (omega (arith, out.was.latest)); cursors = cursors_more; come = come_more }
