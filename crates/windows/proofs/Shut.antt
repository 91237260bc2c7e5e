-- The first record that is shut is that of the first shut window.
use Rattle.std.proofs.Common.{◌≡◌, ℕ, ◌<◌, List, Some, None, subst, arith}
use Rattle.matching.specs.Windows.{earliest_at, latest_at, window}
use Rattle.matching.specs.declared.window.Window.{Window}
use Rattle.penalty.specs.Cost.{Cost}
use Rattle.windows.specs.Filling.{AreWindows, IsRecord, place_of}
use Rattle.windows.specs.CountLimits.{FirstShutIn}
use Rattle.windows.specs.Windows.{FirstShut, IsShut, NoneShut}
use Rattle.windows.proofs.Ends.{earliest_rises, latest_rises}
use Rattle.windows.proofs.Places.{place_inside, place_rises, reading_at}

module _ (f : Cost) (t : List ℕ) (b : ℕ) (ws : List Window) (all : AreWindows f t b ws) where
  -- a reading has one window at most, so a shut one is that of its record
  shut_at : (c j : ℕ) (w : ℕ × ℕ) → IsShut f t b c j w → latest_at ws (place_of t c j) < earliest_at ws (place_of t c j)
  shut_at c j w shut =
      let there = (all.each c j shut.0).window in
      let early = earliest_rises f t b c j j w.0 (earliest_at ws (place_of t c j)) (omega arith) shut.1.0 there.0 in
      let late = latest_rises f t b c j j (latest_at ws (place_of t c j)) w.1 (omega arith) there.1 shut.1.1 in
      omega (arith, shut.2)

  -- where no record is shut, no window is
  pub shut_none : FirstShutIn ws None → NoneShut f t b
  shut_none none c j w shut =
      let place = place_of t c j in
      omega (arith, shut_at c j w shut, none place (omega (arith, place_inside t c j shut.0, all.long)))

  -- where a record is the first that is shut, its window is
  pub shut_first : (w : Window) → FirstShutIn ws (Some w) → FirstShut f t b w.channel w.reading (w.earliest, w.latest) × (w.slot ≡ 0)
  shut_first w found =
      let i = found.0 in
      let at = reading_at t i (omega (arith, found.1, all.long)) in
      let c = at.0 in
      let j = at.1 in
      let here : IsRecord f t b c j w = subst (IsRecord f t b c j) found.2 (subst (λ (p : ℕ). IsRecord f t b c j (window ws p)) at.3 (all.each c j at.2)) in (
        rw (here.channel, here.reading) (record {
          shut = (at.2, here.window, found.3);
          first = λ a h v before shut.
              let less = place_rises t a h c j shut.0 at.2 before in
              omega (arith, shut_at a h v shut, found.4 (place_of t a h) (omega (arith, at.3)));
        }),
        here.slot,
      )
