-- Before the first slot, where slots are crowded, and after the last slot.
use Rattle.std.proofs.Common.{◌≡◌, List, length, take, Result, Ok, Err, sym, refl, ap, ◌∙◌, subst, arith, rules}
use Rattle.std.specs.Result.{IfErr, IsErrAnd}
use Rattle.matching.specs.Matchings.{OnlyPlacement, Placement}
use Rattle.matching.specs.Queues.{Starts}
use Rattle.matching.specs.Windows.{blank}
use Rattle.matching.specs.declared.answer.Crowd.{Crowd}
use Rattle.matching.specs.declared.answer.Unplaced.{Unplaced}
use Rattle.matching.specs.declared.answer.Unplaced.TheVariants.{Crowded}
use Rattle.matching.specs.declared.window.Window.{Window}
use Rattle.matching.proofs.Blanks.{blank-blank, length_same, length-blank, window-blank}
use Rattle.matching.proofs.Crowds.{crowd_rules_out}
use Rattle.matching.proofs.Ends.{crowd_same, placement, state_begins}
use Rattle.matching.proofs.Queueing.{queue_begins}
use Rattle.matching.proofs.Unique.{only_placement}
use Rattle.matching.proofs.entry.place.Goals as goal

-- the records at the end are those of the round
blank_at : (last ws start : List Window) → last ≡ ws → blank ws ≡ start → blank last ≡ start
blank_at last ws start same is = ap blank same ∙ is

-- and what is so of those is so of the records at the end
at_end : (P : List Window → Type 0) (last ws : List Window) → last ≡ ws → P ws → P last
at_end P last ws same holds = subst P (sym same) holds

-- the reason is the crowd
reason_at : (r : Result (Unit {0}) Unplaced) (crowd : Crowd) (P : Unplaced → Type 0) → IsErrAnd r (λ why. why ≡ Crowded crowd) → P (Crowded crowd) → IfErr r P
reason_at (Ok u) crowd P is holds = tt
reason_at (Err why) crowd P is holds = subst P (sym is) holds

pub loop-filled-init : goal.loop-filled-init
loop-filled-init c =
    let ws = c.args.windows.now in
    let r = c.new-round.result in
    let h = c.new-heap.result in
    let told = c.new-round.ensures in
    let none = c.new-heap.ensures.none in
    let starts = subst (λ bs. Starts bs r.waiting) (sym (ap blank told.slots ∙ blank-blank ws)) told.starts in (
      state_begins r.windows.now r.waiting (take h.len h.items.now) (ap (λ n. take n h.items.now) none) r.arranged
          (λ i. rw told.slots (ap (λ w. w.slot) (window-blank ws i))) starts,
      record {
        queued = queue_begins (blank r.windows.now) r.waiting h.items.now h.len starts none (omega (arith, ap length c.new-heap.ensures.untouched));
        windows = refl;
        rest = refl;
      },
      (refl, refl),
    )

pub returns-in_err-fill_next-clause-windows : goal.returns-in_err-fill_next-clause-windows
returns-in_err-fill_next-clause-windows c =
    let ws = c.args.windows.now in
    blank_at _ c.fill_next.new.self.windows.now (blank ws) (search rules)
    (c.fill_next.ensures.kept.windows ∙ c.loop-filled.invariant.1.windows ∙ ap blank c.new-round.ensures.slots ∙ blank-blank ws)

pub returns-in_err-fill_next-clause-unplaced : goal.returns-in_err-fill_next-clause-unplaced
returns-in_err-fill_next-clause-unplaced c =
    let ws = c.args.windows.now in
    let l = c.loop-filled in
    let crowd = c.in_err-fill_next.field-0.0 in
    let cleared = l.invariant.1.windows ∙ ap blank c.new-round.ensures.slots ∙ blank-blank ws in
    let here = crowd_same ws (blank l.round.windows.now) (sym cleared) crowd.first crowd.last crowd.number c.in_err-fill_next.ensures.crowded in
    reason_at c.from_residual.result crowd _ c.from_residual.ensures.1 (omega arith, search rules, here, crowd_rules_out ws crowd.first crowd.last crowd.number here)

pub returns-clause-windows : goal.returns-clause-windows
returns-clause-windows c =
    let ws = c.args.windows.now in
    let l = c.loop-filled in
    blank_at _ l.round.windows.now (blank ws) (search rules) (l.invariant.1.windows ∙ ap blank c.new-round.ensures.slots ∙ blank-blank ws)

pub returns-clause-placed : goal.returns-clause-placed
returns-clause-placed c =
    let l = c.loop-filled in
    let ws = l.round.windows.now in
    let long = length_same ws (blank c.new-round.result.windows.now) l.invariant.1.windows in
    let placed = placement (blank ws) ws l.filled (omega (arith, long, length-blank ws, length-blank c.new-round.result.windows.now)) l.invariant.0.slots in (
      omega arith,
      search rules,
      at_end Placement _ ws (search rules) placed,
      at_end OnlyPlacement _ ws (search rules) (only_placement ws l.round.arranged placed),
    )
