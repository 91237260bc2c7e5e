-- The ready and the waiting readings after a push and after a pop.
use Rattle.std.proofs.Common.{◌≡◌, ℕ, ◌+◌, ◌-◌, ◌<◌, ◌≤◌, true, false, cond, ◌⊎◌, List, [], ◌∷◌, ◌++◌, length, get_or, take, drop, set, replicate, Option, Some, None, is_none, count_by, sym, refl, ap, ◌∙◌, subst, inr, ⊎_elim, arith}
use Rattle.std.specs.Option.{unwrap_or}
use Rattle.std.specs.List.{AllByRecursion}
use Rattle.std.proofs.ByRecursion.{All-get_or, All-weaker}
use Rattle.std.specs.List.{push}
use Rattle.std.proofs.Math.Seq.{get_or-append_seam, take-append_seam}
use Rattle.std.proofs.lemmas.List.{append_assoc, length_push, take-append-drop, drop-drop, get_or_default, get_or_past, get_or-replicate, get_or-set_other, get_or-set_same, length-set, length-take-le}
use Rattle.std.proofs.lemmas.Bool.{cases_Bool, cases_eq, cases_lt, eq-eqb, eqb-false, eqb-true, ne_eqb}
use Rattle.std.proofs.lemmas.Bool.Decides.{nat_tests}
use Rattle.heap.specs.Heaps.{Popped, Pushed, Sound}
use Rattle.heap.proofs.Kept.{popped_all, popped_sum, pushed_all, pushed_sum}
use Rattle.matching.specs.Queues.{AdmittedAt, Comes, Coming, IsReading, NextUpTo, Queued, Starts, TakenOut, is_ready, next_of, of_channel, ready_place}
use Rattle.matching.specs.Ready.{may_precede}
use Rattle.matching.specs.Windows.{channel_at, latest_at, window}
use Rattle.matching.specs.declared.ready.Ready.{Ready}
use Rattle.matching.specs.declared.window.Window.{Window}
use Rattle.matching.proofs.Counting.{count-cons, count_some, few_keys, sum_none, sum_one}

-- memory that is untouched from one place on is untouched from a later one on
pub drop_later : {X : Type 0} (xs ys : List X) (m n : ℕ) → m ≤ n → drop m ys ≡ drop m xs → drop n ys ≡ drop n xs
drop_later {X} xs ys m n le same =
    let further : (l : List X) → drop (n - m) (drop m l) ≡ drop n l = λ l. drop-drop (n - m) m l ∙ ap (λ k. drop k l) (omega arith) in
    sym (further ys) ∙ ap (drop (n - m)) same ∙ further xs

-- what the order of the ready readings says of two of them
due_parts : (x y : Ready) → may_precede x y ≡ true → (x.latest < y.latest) ⊎ ((x.latest ≡ y.latest) × (x.place ≤ y.place))
due_parts x y h = grind (arith, nat_tests)

-- the place that was read where the next reading of channel c waits is that of its next reading
pub waits_at : (waiting : List (Option ℕ)) (c k p : ℕ) → k ≡ c → c < length waiting → get_or waiting k None ≡ Some p → get_or waiting c (Some 0) ≡ Some p
waits_at waiting c k p same below waits = get_or_default waiting c (Some 0) None below ∙ ap (λ i. get_or waiting i None) (sym same) ∙ waits

-- where the next reading of channel c waits, that is its next reading
pub waits_next : (bs : List Window) (waiting : List (Option ℕ)) (kept : List Ready) (c p : ℕ) → get_or waiting c (Some 0) ≡ Some p → next_of bs waiting kept c ≡ p
waits_next bs waiting kept c p waits = ap (λ o. unwrap_or o (ready_place bs kept c)) waits

module _ (bs : List Window) (waiting : List (Option ℕ)) (items : List Ready) (len : ℕ) (sound : Sound may_precede items len) (q : Queued bs waiting items len) where
  -- there are len ready readings
  kept_long : length (take len items) ≡ len
  kept_long = length-take-le len items sound.room

  -- all of them are of channels up to 63
  kept_below : AllByRecursion (λ r. channel_at bs r.place < 64) (take len items)
  kept_below = All-weaker (IsReading bs) (λ r. channel_at bs r.place < 64) (λ r is. is.channel) (take len items) q.readings

  -- no two are of the same channel, so there are at most 64
  pub few_ready : len ≤ 64
  few_ready =
      let once : (c : ℕ) → count_by (of_channel bs c) (take len items) ≤ 1 = λ c. let one = q.once c in grind arith in
      omega (arith, few_keys (λ r. channel_at bs r.place) 64 (take len items) kept_below once, kept_long)

  module _ (r : Ready) (is : IsReading bs r) (waits : get_or waiting (channel_at bs r.place) (Some 0) ≡ Some r.place) where
    -- the next reading of its channel waits, so none of that channel is ready
    free : is_ready waiting (channel_at bs r.place) ≡ false
    free = ap is_none waits

    free_at : (c : ℕ) → of_channel bs c r ≡ true → is_ready waiting c ≡ false
    free_at c here = ap (is_ready waiting) (sym (eqb-true _ c here)) ∙ free

    -- so there is room for it
    pub room_left : len < 64
    room_left =
        let once : (c : ℕ) → count_by (of_channel bs c) (r ∷ take len items) ≤ 1 = λ c.
        let step = count-cons (of_channel bs c) r (take len items) in
        let one = q.once c in
        let none = free_at c in
        grind arith in
        omega (arith, few_keys (λ s. channel_at bs s.place) 64 (r ∷ take len items) (is.channel, kept_below) once, kept_long)

    module _ (items' : List Ready) (len' : ℕ) (push : Pushed r items len items' len') where
      -- of its channel none waits any more
      ready_here : is_ready (set waiting (channel_at bs r.place) None) (channel_at bs r.place) ≡ true
      ready_here = ap is_none (get_or-set_same waiting (channel_at bs r.place) None (Some 0) (omega (arith, q.long, is.channel)))

      -- the others wait as they did
      ready_other : (c : ℕ) → (c ≡ channel_at bs r.place → ⊥) → is_ready (set waiting (channel_at bs r.place) None) c ≡ is_ready waiting c
      ready_other c other = ap is_none (get_or-set_other waiting (channel_at bs r.place) c None (Some 0) other)

      -- it is ready after the push
      pub queue_pushed : Queued bs (set waiting (channel_at bs r.place) None) items' len'
      queue_pushed = record {
        room = omega (arith, q.room, push.long);
        long = length-set waiting (channel_at bs r.place) None ∙ q.long;
        readings = pushed_all r items len items' len' push (IsReading bs) is q.readings;
        once = λ c.
            let sum = pushed_sum r items len items' len' push (λ s. cond (of_channel bs c s) 1 0) in
            let one = q.once c in
            ⊎_elim
            (λ here.
            let none = free_at c here in
            let mark : is_ready (set waiting (channel_at bs r.place) None) c ≡ true = ap (is_ready (set waiting (channel_at bs r.place) None)) (sym (eqb-true _ c here)) ∙ ready_here in
            grind arith)
            (λ other.
            let same = ready_other c (λ e. eqb-false _ c other (sym e)) in
            grind arith)
            (cases_Bool (of_channel bs c r));
      }

      -- it is still the next of its channel
      next_here : next_of bs (set waiting (channel_at bs r.place) None) (take len' items') (channel_at bs r.place) ≡ r.place
      next_here =
          let c = channel_at bs r.place in
          let here = eq-eqb c c refl in
          let one = q.once c in
          let none = sum_none (of_channel bs c) (λ s. s.place) (take len items) (grind arith) in
          let sum = pushed_sum r items len items' len' push (λ s. cond (of_channel bs c s) s.place 0) in
          ap (λ o. unwrap_or o (ready_place bs (take len' items') c)) (get_or-set_same waiting c None (Some 0) (omega (arith, q.long, is.channel)))
          ∙ grind arith

      -- the next readings are the same
      pub next_pushed : (c : ℕ) → next_of bs (set waiting (channel_at bs r.place) None) (take len' items') c ≡ next_of bs waiting (take len items) c
      next_pushed c = ⊎_elim
          (λ same.
          ap (next_of bs (set waiting (channel_at bs r.place) None) (take len' items')) same ∙ next_here
          ∙ sym (ap (next_of bs waiting (take len items)) same ∙ ap (λ o. unwrap_or o (ready_place bs (take len items) (channel_at bs r.place))) waits))
          (λ other.
          let apart = ne_eqb (channel_at bs r.place) c (λ e. other (sym e)) in
          let sum = pushed_sum r items len items' len' push (λ s. cond (of_channel bs c s) s.place 0) in
          let kept : ready_place bs (take len' items') c ≡ ready_place bs (take len items) c = grind arith in
          ap (λ o. unwrap_or o (ready_place bs (take len' items') c)) (get_or-set_other waiting (channel_at bs r.place) c None (Some 0) other)
          ∙ ap (unwrap_or (get_or waiting c (Some 0))) kept)
          (cases_eq c (channel_at bs r.place))

      -- where it comes by t, that is what it is to admit its channel
      pub admitted_here : (t : ℕ) → Comes bs r.place (channel_at bs r.place) t →
          AdmittedAt bs t (next_of bs waiting (take len items)) (next_of bs (set waiting (channel_at bs r.place) None) (take len' items'))
          (is_ready waiting) (is_ready (set waiting (channel_at bs r.place) None)) (channel_at bs r.place)
      admitted_here t comes = record {
        same = next_pushed;
        marked = λ _. ready_here;
        only = λ _. inr (subst (λ (i : ℕ). Comes bs i (channel_at bs r.place) t) (sym (ap (λ o. unwrap_or o (ready_place bs (take len items) (channel_at bs r.place))) waits)) comes);
        others = ready_other;
      }

  module _ (r : Ready) (items' : List Ready) (len' : ℕ) (pop : Popped may_precede r items len items' len') where
    -- what is taken out is a reading of the round
    pub popped_reading : IsReading bs r
    popped_reading = (popped_all r items len items' len' may_precede pop (IsReading bs) q.readings).0

    -- what is counted of a channel before and after
    popped_count : (c : ℕ) → cond (of_channel bs c r) 1 0 + count_by (of_channel bs c) (take len' items') ≡ cond (is_ready waiting c) 1 0
    popped_count c = popped_sum r items len items' len' may_precede pop (λ s. cond (of_channel bs c s) 1 0) ∙ q.once c

    -- none of its channel waits, and no other of it is ready
    popped_alone : (is_ready waiting (channel_at bs r.place) ≡ true) × (count_by (of_channel bs (channel_at bs r.place)) (take len' items') ≡ 0)
    popped_alone =
        let count = popped_count (channel_at bs r.place) in
        let here = eq-eqb (channel_at bs r.place) (channel_at bs r.place) refl in
        (grind arith, grind arith)

    -- where none of a channel waits, its next reading is the ready one
    next_ready : (c : ℕ) → is_ready waiting c ≡ true → next_of bs waiting (take len items) c ≡ ready_place bs (take len items) c
    next_ready c mark = elim (get_or waiting c (Some 0)) as (λ o. is_none o ≡ true → unwrap_or o (ready_place bs (take len items) c) ≡ ready_place bs (take len items) c) [
      | None ↦ λ _. refl
      | Some p ↦ λ some. absurd (grind arith)
    ] mark

    -- it is the next of its channel
    popped_front : next_of bs waiting (take len items) (channel_at bs r.place) ≡ r.place
    popped_front =
        let c = channel_at bs r.place in
        let here = eq-eqb c c refl in
        let none = sum_none (of_channel bs c) (λ s. s.place) (take len' items') popped_alone.1 in
        let sum = popped_sum r items len items' len' may_precede pop (λ s. cond (of_channel bs c s) s.place 0) in
        next_ready c popped_alone.0 ∙ grind arith

    -- no ready reading is due before it
    popped_first : (c : ℕ) → is_ready waiting c ≡ true → (r.latest < (window bs (next_of bs waiting (take len items) c)).latest)
        ⊎ ((r.latest ≡ (window bs (next_of bs waiting (take len items) c)).latest) × (r.place ≤ next_of bs waiting (take len items) c))
    popped_first c mark =
        let one = q.once c in
        let some = count_some (of_channel bs c) (take len items) r (grind arith) in
        let s = get_or (take len items) some.0 r in
        let is = All-get_or (IsReading bs) (take len items) some.0 r some.1 q.readings in
        let first = due_parts r s (All-get_or (λ y. may_precede r y ≡ true) (take len items) some.0 r some.1 pop.first.before) in
        let place : next_of bs waiting (take len items) c ≡ s.place =
        next_ready c mark ∙ sum_one (of_channel bs c) (λ x. x.place) (take len items) some.0 r (grind arith) some.1 some.2 in
        let latest = ap (latest_at bs) place in
        let same = is.latest in
        grind arith

    -- after the pop the reading after it waits
    waits_here : get_or (set waiting (channel_at bs r.place) (Some (r.place + 1))) (channel_at bs r.place) (Some 0) ≡ Some (r.place + 1)
    waits_here = get_or-set_same waiting (channel_at bs r.place) (Some (r.place + 1)) (Some 0) (omega (arith, q.long, popped_reading.channel))

    waits_other : (c : ℕ) → (c ≡ channel_at bs r.place → ⊥) → get_or (set waiting (channel_at bs r.place) (Some (r.place + 1))) c (Some 0) ≡ get_or waiting c (Some 0)
    waits_other c other = get_or-set_other waiting (channel_at bs r.place) c (Some (r.place + 1)) (Some 0) other

    -- the heap keeps what it should
    pub queue_popped : Queued bs (set waiting (channel_at bs r.place) (Some (r.place + 1))) items' len'
    queue_popped = record {
      room = omega (arith, q.room, pop.long);
      long = length-set waiting (channel_at bs r.place) (Some (r.place + 1)) ∙ q.long;
      readings = (popped_all r items len items' len' may_precede pop (IsReading bs) q.readings).1;
      once = λ c.
          let count = popped_count c in
          ⊎_elim
          (λ here.
          let mark : is_ready (set waiting (channel_at bs r.place) (Some (r.place + 1))) c ≡ false =
          ap (is_ready (set waiting (channel_at bs r.place) (Some (r.place + 1)))) (sym (eqb-true _ c here)) ∙ ap is_none waits_here in
          let was : is_ready waiting c ≡ true = ap (is_ready waiting) (sym (eqb-true _ c here)) ∙ popped_alone.0 in
          grind arith)
          (λ other.
          let same = ap is_none (waits_other c (λ e. eqb-false _ c other (sym e))) in
          grind arith)
          (cases_Bool (of_channel bs c r));
    }

    -- the next readings of the other channels are the same
    next_other : (c : ℕ) → (c ≡ channel_at bs r.place → ⊥) →
        next_of bs (set waiting (channel_at bs r.place) (Some (r.place + 1))) (take len' items') c ≡ next_of bs waiting (take len items) c
    next_other c other =
        let apart = ne_eqb (channel_at bs r.place) c (λ e. other (sym e)) in
        let sum = popped_sum r items len items' len' may_precede pop (λ s. cond (of_channel bs c s) s.place 0) in
        let kept : ready_place bs (take len' items') c ≡ ready_place bs (take len items) c = grind arith in
        ap (λ o. unwrap_or o (ready_place bs (take len' items') c)) (waits_other c other) ∙ ap (unwrap_or (get_or waiting c (Some 0))) kept

    -- what is said of the reading that is taken out
    pub taken_out : TakenOut bs (next_of bs waiting (take len items)) (next_of bs (set waiting (channel_at bs r.place) (Some (r.place + 1))) (take len' items'))
        (is_ready waiting) (is_ready (set waiting (channel_at bs r.place) (Some (r.place + 1)))) r
    taken_out = record {
      was = popped_reading;
      front = popped_front;
      marked = popped_alone.0;
      first = popped_first;
      after = ap (λ o. unwrap_or o (ready_place bs (take len' items') (channel_at bs r.place))) waits_here;
      waits = ap is_none waits_here;
      others = λ c other. (next_other c other, ap is_none (waits_other c other));
    }

-- the next reading r of channel c, which waits and comes by t, becomes ready; the code names the channel k
module _ (bs : List Window) (waiting : List (Option ℕ)) (items : List Ready) (len : ℕ) (sound : Sound may_precede items len) (q : Queued bs waiting items len)
    (c k t : ℕ) (r : Ready) (below : c < 64) (at : k ≡ c) (told : Coming bs waiting (take len items) c t (Some r)) where
  -- the channel's number is that of the reading
  coming_at : k ≡ channel_at bs r.place
  coming_at = at ∙ sym told.1.1

  -- it is a reading of the round
  coming_reading : IsReading bs r
  coming_reading = record { within = told.1.0; channel = omega (arith, told.1.1); latest = told.2 }

  -- it is the one that waits
  coming_waits : get_or waiting (channel_at bs r.place) (Some 0) ≡ Some r.place
  coming_waits = ap (λ i. get_or waiting i (Some 0)) told.1.1 ∙ told.0

  -- there is room for it
  pub coming_room : len < 64
  coming_room = room_left bs waiting items len sound q r coming_reading coming_waits

  module _ (items' : List Ready) (len' : ℕ) (push : Pushed r items len items' len') where
    -- the heap keeps what it should
    pub coming_queued : Queued bs (set waiting k None) items' len'
    coming_queued = rw coming_at (queue_pushed bs waiting items len sound q r coming_reading coming_waits items' len' push)

    -- the channel's next reading is ready, and nothing else changes
    pub coming_admitted : AdmittedAt bs t (next_of bs waiting (take len items)) (next_of bs (set waiting k None) (take len' items')) (is_ready waiting) (is_ready (set waiting k None)) c
    coming_admitted = rw (sym at ∙ coming_at, coming_at) (admitted_here bs waiting items len sound q r coming_reading coming_waits items' len' push t (told.1.0, refl, told.1.2))

-- the reading r is taken out; the code names its channel k
module _ (bs : List Window) (waiting : List (Option ℕ)) (items : List Ready) (len : ℕ) (sound : Sound may_precede items len) (q : Queued bs waiting items len)
    (r : Ready) (items' : List Ready) (len' : ℕ) (pop : Popped may_precede r items len items' len') (k : ℕ) (at : k ≡ channel_at bs r.place) where
  -- the heap keeps what it should
  pub taken_queued : Queued bs (set waiting k (Some (r.place + 1))) items' len'
  taken_queued = rw at (queue_popped bs waiting items len sound q r items' len' pop)

  -- the channel's next reading is the one after it
  pub taken_at : TakenOut bs (next_of bs waiting (take len items)) (next_of bs (set waiting k (Some (r.place + 1))) (take len' items')) (is_ready waiting) (is_ready (set waiting k (Some (r.place + 1)))) r
  taken_at = rw at (taken_out bs waiting items len sound q r items' len' pop)

-- before any reading is placed none is ready
pub queue_begins : (bs : List Window) (waiting : List (Option ℕ)) (items : List Ready) (len : ℕ) → Starts bs waiting → len ≡ 0 → 64 ≤ length items → Queued bs waiting items len
queue_begins bs waiting items len starts none room =
    let empty : take len items ≡ [] = ap (λ n. take n items) none in
    record {
      room = room;
      long = starts.long;
      readings = subst (AllByRecursion (IsReading bs)) (sym empty) tt;
      once = λ c. ap (count_by (of_channel bs c)) empty ∙ sym (ap (λ b. cond b 1 0) (starts.all_wait c));
    }

-- of the first records, the last one and those before it
pub record Shorter (ws rest rest' : List Window) (w : Window) : Type 0 where
  pub one : length rest ≡ length rest' + 1
  pub first : rest' ≡ take (length rest') ws
  pub within : length rest' < length ws
  pub last : window ws (length rest') ≡ w

-- a front of the records that ends in w is one record longer than the front before it
pub one_less : (ws rest rest' : List Window) (w : Window) → rest ≡ take (length rest) ws → rest ≡ push rest' w → length rest ≤ length ws → Shorter ws rest rest' w
one_less ws rest rest' w first push_is within =
    let one : length rest ≡ length rest' + 1 = ap length push_is ∙ length_push rest' w in
    let whole : ws ≡ rest' ++ w ∷ drop (length rest) ws =
    sym (take-append-drop (length rest) ws) ∙ ap (λ (l : List Window). l ++ drop (length rest) ws) (sym first ∙ push_is) ∙ append_assoc rest' (w ∷ []) (drop (length rest) ws) in
    record {
      one = one;
      first = sym (ap (take (length rest')) whole ∙ take-append_seam rest' (w ∷ drop (length rest) ws));
      within = omega arith;
      last = ap (λ (l : List Window). window l (length rest')) whole ∙ get_or-append_seam rest' w (drop (length rest) ws) (window [] 0);
    }

-- where all channels wait, they do so after another place was written
pub wait_more : (waiting : List (Option ℕ)) (k p : ℕ) → k < length waiting → ((c : ℕ) → is_ready waiting c ≡ false) → (c : ℕ) → is_ready (set waiting k (Some p)) c ≡ false
wait_more waiting k p below all c = ⊎_elim
    (λ same. ap (is_ready (set waiting k (Some p))) same ∙ ap is_none (get_or-set_same waiting k (Some p) (Some 0) below))
    (λ other. ap is_none (get_or-set_other waiting k c (Some p) (Some 0) other) ∙ all c)
    (cases_eq c k)

-- they do so at first
pub wait_first : (n c : ℕ) → is_ready (replicate 64 (Some n)) c ≡ false
wait_first n c = ⊎_elim
    (λ below. ap is_none (get_or-replicate 64 c (Some n) (Some 0) below))
    (λ past. ap is_none (get_or_past (replicate 64 (Some n)) c (Some 0) past))
    (cases_lt c 64)

-- one place before: its channel starts there, the others as they did
pub starts_more : (bs : List Window) (waiting : List (Option ℕ)) (i : ℕ) → channel_at bs i < length waiting →
    ((j : ℕ) → i < j → j < length bs → NextUpTo bs (next_of bs waiting []) j) →
    (j : ℕ) → i ≤ j → j < length bs → NextUpTo bs (next_of bs (set waiting (channel_at bs i) (Some i)) []) j
starts_more bs waiting i room after j from to =
    ⊎_elim
    (λ same.
    let start : next_of bs (set waiting (channel_at bs i) (Some i)) [] (channel_at bs j) ≡ i =
    ap (next_of bs (set waiting (channel_at bs i) (Some i)) []) same ∙ ap (λ o. unwrap_or o 0) (get_or-set_same waiting (channel_at bs i) (Some i) (Some 0) room) in
    (omega arith, ap (channel_at bs) start ∙ sym same))
    (λ other.
    let start : next_of bs (set waiting (channel_at bs i) (Some i)) [] (channel_at bs j) ≡ next_of bs waiting [] (channel_at bs j) =
    ap (λ o. unwrap_or o 0) (get_or-set_other waiting (channel_at bs i) (channel_at bs j) (Some i) (Some 0) other) in
    let old = after j (⊎_elim (λ e. absurd (other (ap (channel_at bs) e))) (λ ne. omega arith) (cases_eq j i)) to in
    (omega (arith, old.0), ap (channel_at bs) start ∙ old.1))
    (cases_eq (channel_at bs j) (channel_at bs i))
