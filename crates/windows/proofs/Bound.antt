-- What windows say of lists: where no moment is blocked, a complete list is within the bound exactly when every reading
-- stands in its window. Counts say where a reading stands: reading j of a channel is among the first k slots of a list
-- exactly when j ≤ count k.
use Rattle.std.proofs.Common.{◌≡◌, ℕ, ◌+◌, ◌-◌, ◌<◌, ◌≤◌, ◌↔◌, List, ap, ⊎_elim, arith}
use Rattle.std.proofs.lemmas.Bool.{cases_lt}
use Rattle.penalty.specs.Cost.{Cost, Valley}
use Rattle.round.specs.Lists.{Complete, Moment, Within, count}
use Rattle.round.proofs.Counts.{count_end, count_most, count_rises}
use Rattle.windows.specs.Allowed.{Allowed, Blocked, NoneBlocked}
use Rattle.windows.specs.Windows.{IsWindow, Reading}
use Rattle.windows.proofs.Ends.{after_forbidden, allowed_between, highest_exists, lowest_exists, some_allowed, upto_needed, window_exists}

-- in list l reading j of channel c stands in a slot of window w: not before its earliest, and by its latest
abbrev pub Stands : List ℕ → ℕ → ℕ → ℕ × ℕ → Type 0
Stands l c j w = (count l c (w.0 - 1) < j) × (j ≤ count l c w.1)

-- each reading of list l stands in its window
abbrev pub InWindows : Cost → List ℕ → ℕ → List ℕ → Type 0
InWindows f t b l = (c j : ℕ) (w : ℕ × ℕ) → Reading t c j → IsWindow f t b c j w → Stands l c j w

module _ (t l : List ℕ) (whole : Complete t l) (f : Cost) (b : ℕ) where
  -- the counts of a list within the bound are allowed
  allowed_counts : Within f t l b → (k c : ℕ) → Moment t k c → Allowed f t b k c (count l c k)
  allowed_counts within k c moment = (count_most t l whole c k, within k c moment)

  -- no complete list is within the bound where a moment is blocked
  pub blocked_rules_out : (k c : ℕ) → Blocked f t b k c → Within f t l b → ⊥
  blocked_rules_out k c blocked within = blocked.none (count l c k) (allowed_counts within k c blocked.moment)

  -- each reading of a list within the bound stands in its window
  pub within_stands : Within f t l b → InWindows f t b l
  within_stands within c j w reading window =
      let after : count l c (w.0 - 1) < j =
      ⊎_elim
      (λ last.
      let at = allowed_counts within last.0 c (last.2.holds.0, omega (arith, reading.0, reading.1)) in
      let high = last.2.holds.2.greatest (count l c last.0) at in
      let before : w.0 - 1 ≡ last.0 = omega (arith, last.1) in
      omega (arith, ap (count l c) before, last.2.holds.3))
      (λ first.
      let before : w.0 - 1 ≡ 0 = omega (arith, first.0) in
      omega (arith, ap (count l c) before, reading.0))
      window.0 in
      let by : j ≤ count l c w.1 =
      ⊎_elim
      (λ first.
      let at = allowed_counts within w.1 c (first.holds.0, omega (arith, reading.0, reading.1)) in
      let low = first.holds.2.least (count l c w.1) at in
      omega (arith, first.holds.3))
      (λ last. omega (arith, count_end t l whole c w.1 (omega (arith, last.0)), reading.1))
      window.1 in
      (after, by)

  -- no complete list is within the bound where a window is shut
  pub shut_rules_out : (c j : ℕ) (w : ℕ × ℕ) → Reading t c j → IsWindow f t b c j w → w.1 < w.0 → Within f t l b → ⊥
  shut_rules_out c j w reading window shut within =
      let stands = within_stands within c j w reading window in
      omega (arith, stands.0, stands.1, count_rises l c w.1 (w.0 - 1) (omega arith))

  -- where no moment is blocked, a complete list whose readings stand in their windows is within the bound
  pub stands_within : Valley f → NoneBlocked f t b → InWindows f t b l → Within f t l b
  stands_within valley none stands k c moment =
      let x = count l c k in
      let some = some_allowed f t b k c moment (none k c) in
      let low = lowest_exists f t b k c some.0 some.1 in
      let high = highest_exists f t b k c some.0 some.1 in
      let most = count_most t l whole c k in
      let from : low.0 ≤ x =
      ⊎_elim
      (λ less.
      let all = low.1.holds.0 in
      let reading : Reading t c (x + 1) = (omega arith, omega arith) in
      let window = window_exists f t b c none moment.1 (x + 1) in
      let there = stands c (x + 1) window.0 reading window.1 in
      let by = upto_needed f t b c (x + 1) window.0.1 k window.1.1 (moment.0, low.0, low.1, omega arith) in
      absurd (omega (arith, there.1, count_rises l c window.0.1 k by)))
      (λ ge. ge)
      (cases_lt x low.0) in
      let upto : x ≤ high.0 =
      ⊎_elim
      (λ more.
      let window = window_exists f t b c none moment.1 x in
      let there = stands c x window.0 (omega arith, most) window.1 in
      let after = after_forbidden f t b c x window.0.0 k window.1.0 (moment.0, high.0, high.1, more) in
      absurd (omega (arith, there.0, count_rises l c k (window.0.0 - 1) (omega arith))))
      (λ ge. ge)
      (cases_lt high.0 x) in
      (allowed_between f t b valley k c low.0 x high.0 from upto low.1.holds high.1.holds).1

  -- so with no blocked moment a complete list is within the bound exactly when its readings stand in their windows
  pub within_windows : Valley f → NoneBlocked f t b → Within f t l b ↔ InWindows f t b l
  within_windows valley none = (within_stands, stands_within valley none)
