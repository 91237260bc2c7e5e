-- What a call that fills a slot makes of the round and the heap: r0 and h0 before it, r1 and h1 with all that comes
-- admitted, and r2 and h2 without the reading that is due first.
use Rattle.std.proofs.Common.{◌≡◌, ℕ, ◌+◌, ◌<◌, ◌≤◌, List, length, take, set, Some, None, sym, ap, ◌∙◌, subst}
use Rattle.matching.specs.Matchings.{IsCrowd, crowd_of}
use Rattle.matching.specs.Queues.{TakenOut, is_ready, next_of}
use Rattle.matching.specs.Rounds.{AdmitsBelow, IsFilled, ReadyHeap, Takes, next_place}
use Rattle.matching.specs.States.{LastMovable, State}
use Rattle.matching.specs.Windows.{blank, window, with_slot}
use Rattle.matching.specs.declared.answer.Crowd.{Crowd}
use Rattle.matching.specs.declared.ready.Ready.{Ready}
use Rattle.matching.specs.declared.round.Round.{Round}
use Rattle.matching.specs.declared.window.Window.{Window}
use Rattle.matching.proofs.Blanks.{blank-set, length-blank}
use Rattle.matching.proofs.Steps.{step_late, step_none, step_placed}

module _ (r0 r1 : Round) (h0 h1 : ReadyHeap) (t : ℕ) (few : t < length r0.windows.now) (state : IsFilled r0 h0 t) (admitted : AdmitsBelow r0 h0 r1 h1 (t + 1) 64) (same : r1.windows.now ≡ r0.windows.now) where
  -- where nothing is ready, the slots after it are crowded
  pub fill_none : (r2 : Round) (h2 : ReadyHeap) → Takes r1 h1 r2 h2 None → (ws : List Window) → ws ≡ r0.windows.now → (crowd : Crowd) → crowd ≡ crowd_of ws (t + 1 + 1) (length ws) → IsCrowd (blank r0.windows.now) crowd
  fill_none r2 h2 takes ws here crowd told =
      let old = r0.windows.now in
      subst (IsCrowd (blank old)) (sym (told ∙ ap (λ (l : List Window). crowd_of l (t + 1 + 1) (length l)) here))
      (step_none (blank old) old t (next_place r0 h0) (next_place r1 h1) (is_ready r0.waiting) (is_ready r1.waiting) state admitted (length old) (sym (length-blank old)) few takes)

  module _ (r2 : Round) (h2 : ReadyHeap) (r : Ready) (takes : Takes r1 h1 r2 h2 (Some r)) where
    -- the same of the windows before the call
    out : TakenOut (blank r0.windows.now) (next_place r1 h1) (next_place r2 h2) (is_ready r1.waiting) (is_ready r2.waiting) r
    out = subst (λ (l : List Window). TakenOut (blank l) (next_place r1 h1) (next_place r2 h2) (is_ready r1.waiting) (is_ready r2.waiting) r) same takes

    -- where it is late, the slots up to its latest are crowded
    pub fill_late : r.latest < t + 1 → (ws : List Window) → ws ≡ r0.windows.now → (a : ℕ) → LastMovable ws r.latest a → (crowd : Crowd) → crowd ≡ crowd_of ws (a + 1) r.latest → IsCrowd (blank r0.windows.now) crowd
    fill_late late ws here a movable crowd told =
        let old = r0.windows.now in
        subst (IsCrowd (blank old)) (sym (told ∙ ap (λ (l : List Window). crowd_of l (a + 1) r.latest) here))
        (step_late (blank old) old t (next_place r0 h0) (next_place r1 h1) (is_ready r0.waiting) (is_ready r1.waiting) state admitted (next_place r2 h2) (is_ready r2.waiting) r out
        late a (subst (λ (l : List Window). LastMovable l r.latest a) here movable))

    module _ (here : r2.windows.now ≡ r0.windows.now) (ws : List Window) (set_is : ws ≡ set r2.windows.now r.place (with_slot (window r2.windows.now r.place) (t + 1))) where
      -- a slot changes no window
      pub fill_blank : blank ws ≡ blank r0.windows.now
      fill_blank = ap blank set_is ∙ blank-set r2.windows.now r.place (t + 1) ∙ ap blank here

      -- else it takes the slot
      pub fill_placed : t + 1 ≤ r.latest → State (blank ws) ws (t + 1) (next_of (blank ws) r2.waiting (take h2.len h2.items.now)) (is_ready r2.waiting)
      fill_placed still =
          let old = r0.windows.now in
          let kept = take h2.len h2.items.now in
          let written : ws ≡ set old r.place (with_slot (window old r.place) (t + 1)) =
          set_is ∙ ap (λ (l : List Window). set l r.place (with_slot (window l r.place) (t + 1))) here in
          let placed = step_placed (blank old) old t (next_place r0 h0) (next_place r1 h1) (is_ready r0.waiting) (is_ready r1.waiting) state admitted (next_place r2 h2) (is_ready r2.waiting) r out
          ws written still in
          let named = subst (λ (l : List Window). State (blank old) ws (t + 1) (next_of (blank l) r2.waiting kept) (is_ready r2.waiting)) here placed in
          subst (λ (b : List Window). State b ws (t + 1) (next_of b r2.waiting kept) (is_ready r2.waiting)) (sym fill_blank) named
