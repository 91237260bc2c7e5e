-- What the arrangement of neighbours says of any two records.
use Rattle.std.proofs.Common.{◌≡◌, ◌↔◌, ℕ, suc, ◌+◌, ◌<◌, ◌≤◌, Bool, true, false, IsTrue, ◌&&◌, ◌||◌, ◌==◌, leb, ltb, List, [], length, sym, ◌∙◌, ⊎_elim, add-one, arith}
use native.Mathlib.Decide.{le_ind}
use Rattle.std.specs.List.{IsAllAdjacentAnswer}
use Rattle.std.proofs.lemmas.Bool.{cases_Bool, MatchBool-at_false, MatchBool-at_true}
use Rattle.std.proofs.lemmas.Bool.Decides.{nat_tests}
use Rattle.matching.specs.Windows.{window, Arranged, Follows}
use Rattle.matching.specs.declared.window.Window.{Window}

-- whether v may stand right after u
abbrev pub may_follow : Window → Window → Bool
may_follow u v =
    ltb u.channel v.channel
    || (u.channel == v.channel && ltb u.reading v.reading && leb u.earliest v.earliest && leb u.latest v.latest)

-- where the test holds, it may
may_follow_yes : (u v : Window) → may_follow u v ≡ true → Follows u v
may_follow_yes u v test = record {
  channel = grind (arith, nat_tests);
  reading = λ same. grind (arith, nat_tests);
  earliest = λ same. grind (arith, nat_tests);
  latest = λ same. grind (arith, nat_tests);
}

-- and where it does not, it may not
may_follow_no : (u v : Window) → may_follow u v ≡ false → Follows u v → ⊥
may_follow_no u v test f = let c = f.channel in let r = f.reading in let e = f.earliest in let l = f.latest in grind (arith, nat_tests)

-- what says whether v may stand right after u is that test
pub follows_test : (u v : Window) (r : Bool) → IsTrue r ↔ Follows u v → r ≡ may_follow u v
follows_test u v r is = ⊎_elim
    (λ yes. is.1 (may_follow_yes u v yes) ∙ sym yes)
    (λ no. ⊎_elim (λ yes. absurd (may_follow_no u v no (is.0 yes))) (λ not. not ∙ sym no) (cases_Bool r))
    (cases_Bool (may_follow u v))

-- where the tests of all neighbours are made, the answer says whether each may follow the one before it
pub follow_answer : (ws : List Window) (r : Bool) → IsAllAdjacentAnswer (λ u v b. b ≡ may_follow u v) ws r →
    IsTrue r ↔ ((i : ℕ) → i + 1 < length ws → Follows (window ws i) (window ws (i + 1)))
follow_answer ws r told = (
  λ yes i lt. may_follow_yes (window ws i) (window ws (i + 1)) (sym (MatchBool-at_true _ _ yes told i (window [] 0) lt)),
  λ all. ⊎_elim
      (λ yes. yes)
      (λ no.
      let bad = MatchBool-at_false _ _ no told in
      absurd (may_follow_no (window ws bad.0) (window ws (bad.0 + 1)) (sym (bad.2 (window [] 0))) (all bad.0 bad.1)))
      (cases_Bool r),
)

module _ (ws : List Window) (arranged : Arranged ws) where
  -- each record follows the one before it
  next : (j : ℕ) → suc j < length ws → Follows (window ws j) (window ws (suc j))
  next j h = rw add-one at (arranged.follows j (omega arith))

  -- a later record has no smaller channel
  pub channels_rise : (i j : ℕ) → i ≤ j → j < length ws → (window ws i).channel ≤ (window ws j).channel
  channels_rise i =
      le_ind _
      (λ h. omega arith)
      (λ j to rest h.
      let before = rest (omega arith) in
      let follows = next j h in
      grind arith)

  -- of two records of one channel, the later one has no smaller earliest and no smaller latest
  pub ends_rise : (i j : ℕ) → i ≤ j → j < length ws → (window ws i).channel ≡ (window ws j).channel →
      ((window ws i).earliest ≤ (window ws j).earliest) × ((window ws i).latest ≤ (window ws j).latest)
  ends_rise i =
      le_ind _
      (λ h same. (omega arith, omega arith))
      (λ j to rest h same.
      let channels = channels_rise i j to (omega arith) in
      let follows = next j h in
      let before = rest (omega arith) (grind arith) in
      (grind arith, grind arith))
