-- The ends of windows: they exist where no moment is blocked, and neither falls from a reading to the next.
use Rattle.std.proofs.Common.{ℕ, suc, ◌+◌, ◌<◌, ◌≤◌, ◌⊎◌, List, sum, inl, inr, refl, ⊎_elim, arith}
use Rattle.std.proofs.lemmas.Bool.{cases_lt}
use Rattle.penalty.specs.Cost.{Cost, Valley}
use Rattle.round.specs.Lists.{Channel, Moment, readings}
use Rattle.windows.specs.Allowed.{Allowed, Blocked, Highest, Lowest, NoneBlocked}
use Rattle.windows.specs.Windows.{Earliest, Forbidden, IsWindow, Latest, Needed}
use Rattle.windows.proofs.Extremes.{Decided, find_below, greatest_or_none, greatest_same, least_below, least_exists, least_same}

-- where one of two things can be decided, and where it holds the other, both can
pub both_decided : {A B : Type 0} → (A ⊎ (A → ⊥)) → (B ⊎ (B → ⊥)) → (A × B) ⊎ (A × B → ⊥)
both_decided a b = ⊎_elim (λ x. ⊎_elim (λ y. inl (x, y)) (λ not. inr (λ p. not p.1)) b) (λ not. inr (λ p. not p.0)) a

-- m ≤ n can be decided
pub at_most_decided : (m n : ℕ) → (m ≤ n) ⊎ (m ≤ n → ⊥)
at_most_decided m n = ⊎_elim (λ less. inr (λ h. omega arith)) inl (cases_lt n m)

module _ (f : Cost) (t : List ℕ) (b : ℕ) where
  -- whether a count is allowed can be decided
  allowed_decided : (k c : ℕ) → Decided (Allowed f t b k c)
  allowed_decided k c x = both_decided (at_most_decided _ _) (at_most_decided _ _)

  -- the valley law: what lies between two allowed counts is allowed
  pub allowed_between : Valley f → (k c u v w : ℕ) → u ≤ v → v ≤ w → Allowed f t b k c u → Allowed f t b k c w → Allowed f t b k c v
  allowed_between valley k c u v w h i low high =
      let least = valley (sum t) c (readings t c) k u v w h i in
      (omega (arith, high.0), omega (arith, least, low.1, high.1))

  -- a moment that has an allowed count has a smallest one
  pub lowest_exists : (k c x : ℕ) → Allowed f t b k c x → (y : ℕ) × Lowest f t b k c y
  lowest_exists k c x a = least_exists (Allowed f t b k c) (allowed_decided k c) x a

  -- and a greatest one
  pub highest_exists : (k c x : ℕ) → Allowed f t b k c x → (y : ℕ) × Highest f t b k c y
  highest_exists k c x a =
      ⊎_elim (λ found. found) (λ none. absurd (none x a))
      (greatest_or_none (Allowed f t b k c) (allowed_decided k c) (readings t c) (λ n p. p.0))

  -- a moment that is not blocked has an allowed count
  pub some_allowed : (k c : ℕ) → Moment t k c → (Blocked f t b k c → ⊥) → (x : ℕ) × Allowed f t b k c x
  some_allowed k c moment unblocked =
      ⊎_elim (λ found. found)
      (λ no. absurd (unblocked (record { moment = moment; none = λ x a. no x (omega (arith, a.0)) a })))
      (find_below (Allowed f t b k c) (allowed_decided k c) (suc (readings t c)))

  module _ (c : ℕ) where
    -- what forbids a reading forbids the later ones
    pub forbidden_more : (j i k : ℕ) → j ≤ i → Forbidden f t b c j k → Forbidden f t b c i k
    forbidden_more j i k h p = (p.0, p.1, p.2, omega (arith, p.3))

    -- what needs a reading needs the earlier ones
    pub needed_less : (j i k : ℕ) → j ≤ i → Needed f t b c i k → Needed f t b c j k
    needed_less j i k h p = (p.0, p.1, p.2, omega (arith, p.3))

    -- the earliest slot comes after each k that forbids the reading
    pub after_forbidden : (j e k : ℕ) → Earliest f t b c j e → Forbidden f t b c j k → k < e
    after_forbidden j e k earliest p =
        ⊎_elim (λ last. omega (arith, last.1, last.2.greatest k p)) (λ first. absurd (first.1 k p)) earliest

    -- the latest slot is no later than each k that needs the reading
    pub upto_needed : (j l k : ℕ) → Latest f t b c j l → Needed f t b c j k → l ≤ k
    upto_needed j l k latest p = ⊎_elim (λ first. first.least k p) (λ last. absurd (last.1 k p)) latest

    -- the earliest slot does not fall from a reading to a later one
    pub earliest_rises : (j i d e : ℕ) → j ≤ i → Earliest f t b c j d → Earliest f t b c i e → d ≤ e
    earliest_rises j i d e h before after =
        ⊎_elim
        (λ last. let p = after_forbidden i e last.0 after (forbidden_more j i last.0 h last.2.holds) in omega (arith, last.1))
        (λ first. ⊎_elim (λ last. omega (arith, last.1, first.0)) (λ same. omega (arith, first.0, same.0)) after)
        before

    -- nor does the latest
    pub latest_rises : (j i l m : ℕ) → j ≤ i → Latest f t b c j l → Latest f t b c i m → l ≤ m
    latest_rises j i l m h before after =
        ⊎_elim
        (λ first. upto_needed j l m before (needed_less j i m h first.holds))
        (λ last. ⊎_elim (λ first. omega (arith, first.holds.0, last.0)) (λ same. omega (arith, same.0, last.0)) before)
        after

    module _ (none : NoneBlocked f t b) (here : Channel t c) where
      -- whether k forbids a reading can be decided
      forbidden_decided : (j : ℕ) → Decided (Forbidden f t b c j)
      forbidden_decided j k =
          ⊎_elim
          (λ inside.
          let some = some_allowed k c (inside, here) (none k c) in
          let high = highest_exists k c some.0 some.1 in
          ⊎_elim
          (λ less. inl (inside, high.0, high.1, less))
          (λ ge. inr (λ p. let same = greatest_same (Allowed f t b k c) p.1 high.0 p.2 high.1 in omega (arith, p.3)))
          (cases_lt high.0 j))
          (λ not. inr (λ p. not p.0))
          (at_most_decided k (sum t))

      -- whether k needs a reading can be decided
      needed_decided : (j : ℕ) → Decided (Needed f t b c j)
      needed_decided j k =
          ⊎_elim
          (λ inside.
          let some = some_allowed k c (inside, here) (none k c) in
          let low = lowest_exists k c some.0 some.1 in
          ⊎_elim
          (λ less. inr (λ p. let same = least_same (Allowed f t b k c) p.1 low.0 p.2 low.1 in omega (arith, p.3)))
          (λ ge. inl (inside, low.0, low.1, ge))
          (cases_lt low.0 j))
          (λ not. inr (λ p. not p.0))
          (at_most_decided k (sum t))

      -- each reading has a window
      pub window_exists : (j : ℕ) → (w : ℕ × ℕ) × IsWindow f t b c j w
      window_exists j =
          let earliest : (e : ℕ) × Earliest f t b c j e =
          ⊎_elim
          (λ last. (last.0 + 1, inl (last.0, refl, last.1)))
          (λ no. (1, inr (refl, no)))
          (greatest_or_none (Forbidden f t b c j) (forbidden_decided j) (sum t) (λ n p. p.0)) in
          let latest : (l : ℕ) × Latest f t b c j l =
          ⊎_elim
          (λ first. (first.0, inl first.1))
          (λ no. (sum t, inr (refl, λ k p. no k (omega (arith, p.0)) p)))
          (least_below (Needed f t b c j) (needed_decided j) (suc (sum t))) in
          ((earliest.0, latest.0), (earliest.1, latest.1))
