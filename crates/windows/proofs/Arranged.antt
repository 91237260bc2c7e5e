-- Open windows in their places are arranged as the matching takes them.
use Rattle.std.proofs.Common.{◌≡◌, ℕ, ◌+◌, ◌<◌, ◌≤◌, List, length, take, sum, inl, ap, subst, ⊎_elim, arith}
use Rattle.std.proofs.lemmas.Bool.{cases_lt}
use Rattle.matching.specs.Windows.{Arranged, Follows, Usable, window}
use Rattle.matching.specs.declared.window.Window.{Window}
use Rattle.penalty.specs.Cost.{Cost}
use Rattle.round.proofs.Counts.{channel_below}
use Rattle.windows.specs.Filling.{AreOpen, IsRecord, place_of}
use Rattle.windows.specs.Windows.{Earliest, Latest, Reading}
use Rattle.windows.proofs.Ends.{earliest_rises, latest_rises}
use Rattle.windows.proofs.Places.{place_rises, reading_at}

module _ (f : Cost) (t : List ℕ) (b c j : ℕ) where
  -- no earliest slot comes before slot 1
  pub earliest_from_1 : (e : ℕ) → Earliest f t b c j e → 1 ≤ e
  earliest_from_1 e earliest = ⊎_elim (λ last. omega (arith, last.1)) (λ first. omega (arith, first.0)) earliest

  -- no latest slot comes after slot S
  pub latest_upto_end : (l : ℕ) → Latest f t b c j l → l ≤ sum t
  latest_upto_end l latest = ⊎_elim (λ first. first.holds.0) (λ last. omega (arith, last.0)) latest

-- the record at each place is that of a reading
pub record_at : (f : Cost) (t : List ℕ) (b : ℕ) (ws : List Window) → AreOpen f t b ws → (i : ℕ) → i < length ws → (c : ℕ) × (j : ℕ) × Reading t c j × (place_of t c j ≡ i) × IsRecord f t b c j (window ws i)
record_at f t b ws all i h =
    let at = reading_at t i (omega (arith, all.windows.long)) in
    let here = all.windows.each at.0 at.1 at.2 in
    (at.0, at.1, at.2, at.3, subst (λ (p : ℕ). IsRecord f t b at.0 at.1 (window ws p)) at.3 here)

module _ (f : Cost) (t : List ℕ) (b : ℕ) (few : sum t ≤ 4096) (long : length t ≡ 64) (ws : List Window) (all : AreOpen f t b ws) where
  -- each record is usable
  usable : (i : ℕ) → i < length ws → Usable (length ws) (window ws i)
  usable i h =
      let at = record_at f t b ws all i h in
      let w = window ws i in
      let below = channel_below t at.0 (omega (arith, at.2.0, at.2.1)) in
      record {
        channel = omega (arith, at.4.channel);
        first = earliest_from_1 f t b at.0 at.1 w.earliest at.4.window.0;
        opens = ⊎_elim (λ shut. absurd (all.unshut at.0 at.1 (w.earliest, w.latest) (at.2, at.4.window, shut))) (λ ge. ge) (cases_lt w.latest w.earliest);
        last = omega (arith, latest_upto_end f t b at.0 at.1 w.latest at.4.window.1, all.windows.long);
      }

  -- and each may stand after the one before it
  follows : (i : ℕ) → i + 1 < length ws → Follows (window ws i) (window ws (i + 1))
  follows i h =
      let u = record_at f t b ws all i (omega arith) in
      let v = record_at f t b ws all (i + 1) h in
      let before = window ws i in
      let after = window ws (i + 1) in
      let next : before.channel ≡ after.channel → (v.0 ≡ u.0) × (u.1 < v.1) = λ same.
      let e : v.0 ≡ u.0 = omega (arith, u.4.channel, v.4.channel) in
      let base = ap (λ x. sum (take x t)) e in
      (e, omega (arith, base, u.3, v.3, u.2.0, v.2.0)) in
      record {
        channel = ⊎_elim
            (λ less. let rises = place_rises t v.0 v.1 u.0 u.1 v.2 u.2 (inl less) in absurd (omega (arith, u.3, v.3)))
            (λ le. omega (arith, u.4.channel, v.4.channel))
            (cases_lt v.0 u.0);
        reading = λ same. omega (arith, next same, u.4.reading, v.4.reading);
        earliest = λ same.
            let n = next same in
            earliest_rises f t b u.0 u.1 v.1 before.earliest after.earliest (omega (arith, n.1)) u.4.window.0 (rw n.0 at v.4.window.0);
        latest = λ same.
            let n = next same in
            latest_rises f t b u.0 u.1 v.1 before.latest after.latest (omega (arith, n.1)) u.4.window.1 (rw n.0 at v.4.window.1);
      }

  -- so the matching takes them
  pub open_arranged : Arranged ws
  open_arranged = record { few = omega (arith, all.windows.long); usable = usable; follows = follows }
