-- How many readings are needed by a slot and how many are not forbidden from it on, slot by slot; and the window of a
-- reading from them.
use Rattle.std.proofs.Common.{◌≡◌, ℕ, ◌+◌, ◌-◌, ◌<◌, ◌≤◌, max, min, List, length, get_or, set, sum, Some, inl, inr, subst, ◌∙◌, ⊎_elim, arith}
use Rattle.std.proofs.lemmas.Bool.{cases_eq, cases_lt}
use Rattle.std.proofs.lemmas.List.{get_or-set_other, get_or-set_same, length-set}
use Rattle.penalty.specs.Cost.{Cost}
use Rattle.round.specs.Lists.{readings}
use Rattle.windows.specs.Allowed.{Allowed, Highest, Lowest}
use Rattle.windows.specs.CountLimits.{AreFewest, AreMost, Fewest, Most, FewestBy, Parted, PartsAt, MostBy, SomeAllowed}
use Rattle.windows.specs.Windows.{Earliest, Forbidden, Latest, Needed, Reading}
use Rattle.windows.proofs.Extremes.{greatest_same, least_same}

-- what is needed before slot k, by n and by the places of ns before k, where c has an allowed count after each slot before
pub record FewestUpto (f : Cost) (t : List ℕ) (b c k n : ℕ) (ns : List ℕ) : Type 0 where
  pub long : length ns ≡ 4097
  pub few : n ≤ readings t c
  pub here : Fewest f t b k c n
  pub some : (i : ℕ) → i < k → SomeAllowed f t b i c
  pub each : (i : ℕ) → i < k → Fewest f t b (i + 1) c (get_or ns i 0)

-- what may stand by slot k and those after it, by n and by the places of ns from k on
pub record MostFrom (f : Cost) (t : List ℕ) (b c k n : ℕ) (ns : List ℕ) : Type 0 where
  pub long : length ns ≡ 4097
  pub few : n ≤ readings t c
  pub here : Most f t b k c n
  pub each : (i : ℕ) → k ≤ i → i ≤ sum t → Most f t b i c (get_or ns i 0)

module _ (f : Cost) (t : List ℕ) (b c : ℕ) where
  -- one slot more, in which x is the smallest allowed count
  pub fewest_more : (k n x : ℕ) → k ≤ sum t → Lowest f t b k c x → Fewest f t b k c n → Fewest f t b (k + 1) c (max n x)
  fewest_more k n x inside low old j reading =
      let was = old j reading in (
        λ h.
            ⊎_elim
            (λ more. (k, omega arith, (inside, x, low, omega arith)))
            (λ le. let p = was.0 le in (p.0, omega (arith, p.1), p.2))
            (cases_lt n j),
        λ p.
            ⊎_elim
            (λ before. let le = was.1 (p.0, before, p.2) in omega arith)
            (λ ge.
            let here : p.0 ≡ k = omega (arith, p.1) in
            let same = least_same (Allowed f t b k c) p.2.1 x (subst (λ (i : ℕ). Lowest f t b i c p.2.1) here p.2.2) low in
            omega (arith, p.2.3))
            (cases_lt p.0 k),
      )

  -- one slot before, in which x is the greatest allowed count
  pub most_less : (k n x : ℕ) → k ≤ sum t → Highest f t b k c x → Most f t b (k + 1) c n → Most f t b k c (min n x)
  most_less k n x inside high old j reading =
      let was = old j reading in (
        λ h.
            ⊎_elim
            (λ more. let p = was.0 more in (p.0, omega (arith, p.1), p.2))
            (λ le. (k, omega arith, (inside, x, high, omega arith)))
            (cases_lt n j),
        λ p.
            ⊎_elim
            (λ after. let less = was.1 (p.0, omega arith, p.2) in omega arith)
            (λ le.
            let here : p.0 ≡ k = omega (arith, p.1) in
            let same = greatest_same (Allowed f t b k c) p.2.1 x (subst (λ (i : ℕ). Highest f t b i c p.2.1) here p.2.2) high in
            omega (arith, p.2.3))
            (cases_lt k p.0),
      )

  -- one slot more
  pub fewest_step : (k n m : ℕ) (ns : List ℕ) → k ≤ sum t → k ≤ 4096 → FewestUpto f t b c k n ns → FewestBy f t b k c n (Some m) → FewestUpto f t b c (k + 1) m (set ns k m)
  fewest_step k n m ns inside few old found =
      let more : Fewest f t b (k + 1) c m = rw found.2 (fewest_more k n found.0 inside found.1 old.here) in
      record {
        long = length-set ns k m ∙ old.long;
        few = omega (arith, found.2, found.1.holds.0, old.few);
        here = more;
        some = λ i h. ⊎_elim (λ less. old.some i less) (λ ge. subst (λ (x : ℕ). SomeAllowed f t b x c) (omega arith) (found.0, found.1.holds)) (cases_lt i k);
        each = λ i h.
            ⊎_elim
            (λ same. rw (same, get_or-set_same ns k m 0 (omega (arith, old.long))) more)
            (λ other. rw (get_or-set_other ns k i m 0 other) (old.each i (omega arith)))
            (cases_eq i k);
      }

  -- one slot before
  pub most_step : (k n m : ℕ) (ns : List ℕ) → k ≤ sum t → k ≤ 4096 → MostFrom f t b c (k + 1) n ns → MostBy f t b k c n m → MostFrom f t b c k m (set ns k m)
  most_step k n m ns inside few old found =
      let less : Most f t b k c m = rw found.2 (most_less k n found.0 inside found.1 old.here) in
      record {
        long = length-set ns k m ∙ old.long;
        few = omega (arith, found.2, old.few);
        here = less;
        each = λ i from upto.
            ⊎_elim
            (λ same. rw (same, get_or-set_same ns k m 0 (omega (arith, old.long))) less)
            (λ other. rw (get_or-set_other ns k i m 0 other) (old.each i (omega arith) upto))
            (cases_eq i k);
      }

  module _ (ns : List ℕ) where
    module _ (most : AreMost f t b c ns) (j : ℕ) (reading : Reading t c j) where
      -- the slots from which on a reading is forbidden are the first ones
      pub most_parted : Parted ns (sum t) j
      most_parted i k h inside less =
          let p = (most k inside j reading).0 less in
          (most i (omega arith) j reading).1 (p.0, omega (arith, p.1), p.2)

      -- their number is the earliest slot of the reading, or it is 1
      pub earliest_is : (e : ℕ) → PartsAt ns (sum t) j e → Earliest f t b c j (max e 1)
      earliest_is e parts =
          let none : (k : ℕ) → e ≤ k → Forbidden f t b c j k → ⊥ = λ k h p. omega (arith, (most k p.0 j reading).1 (k, omega arith, p), parts.2 k h p.0) in
          ⊎_elim
          (λ first. inr (omega arith, λ k p. none k (omega arith) p))
          (λ more.
          let k = e - 1 in
          let p = (most k (omega (arith, parts.0)) j reading).0 (parts.1 k (omega arith)) in
          let here : p.0 ≡ k = ⊎_elim (λ same. same) (λ other. absurd (none p.0 (omega (arith, p.1)) p.2)) (cases_eq p.0 k) in
          inl (
            k,
            omega arith,
            record {
              holds = subst (Forbidden f t b c j) here p.2;
              greatest = λ m q. ⊎_elim (λ less. omega arith) (λ ge. absurd (none m ge q)) (cases_lt m e);
            },
          ))
          (cases_eq e 0)

    module _ (fewest : AreFewest f t b c ns) (j : ℕ) (reading : Reading t c j) where
      -- the slots by which a reading is not needed yet are the first ones
      pub fewest_parted : Parted ns (sum t) j
      fewest_parted i k h inside less =
          ⊎_elim
          (λ below. below)
          (λ ge.
          let p = (fewest i (omega arith) j reading).0 ge in
          let more = (fewest k inside j reading).1 (p.0, omega (arith, p.1), p.2) in
          absurd (omega arith))
          (cases_lt (get_or ns i 0) j)

      -- their number is the latest slot of the reading, or it is S
      pub latest_is : (l : ℕ) → PartsAt ns (sum t) j l → Latest f t b c j (min l (sum t))
      latest_is l parts =
          let none : (k : ℕ) → k < l → Needed f t b c j k → ⊥ = λ k h p. omega (arith, (fewest k p.0 j reading).1 (k, omega arith, p), parts.1 k h) in
          ⊎_elim
          (λ past. inr (omega arith, λ k p. none k (omega (arith, p.0)) p))
          (λ inside.
          let p = (fewest l inside j reading).0 (parts.2 l (omega arith) inside) in
          let here : p.0 ≡ min l (sum t) = ⊎_elim (λ less. absurd (none p.0 less p.2)) (λ ge. omega (arith, p.1)) (cases_lt p.0 l) in
          inl (record {
            holds = subst (Needed f t b c j) here p.2;
            least = λ m q. ⊎_elim (λ less. absurd (none m less q)) (λ ge. omega arith) (cases_lt m l);
          }))
          (cases_lt (sum t) l)
