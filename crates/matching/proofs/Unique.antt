-- The windows fix the placement: no other slots are one.
use Rattle.std.proofs.Common.{◌≡◌, ℕ, zero, suc, ◌<◌, ◌⊎◌, List, [], length, sym, refl, ap, ◌∙◌, inl, ⊎_elim, arith}
use Rattle.std.proofs.lemmas.Bool.{cases_eq, cases_lt}
use Rattle.std.proofs.lemmas.List.{ext_get_or}
use Rattle.matching.specs.Matchings.{OnlyPlacement, Placement}
use Rattle.matching.specs.States.{Progress}
use Rattle.matching.specs.Windows.{Arranged, bare, blank, earliest_at, latest_at, slot_at, window, with_slot}
use Rattle.matching.specs.declared.window.Window.{Window}
use Rattle.matching.proofs.Blanks.{earliest_same, latest_same, length-blank, length_same, window-blank, window_same}

-- a reading with a slot below k has the same one by r as by s
abbrev Agree : ℕ → (ℕ → ℕ) → (ℕ → ℕ) → ℕ → Type 0
Agree n s r k = (i : ℕ) → i < n → 0 < s i → s i < k → r i ≡ s i

-- where s and r agree below k, and r gives slot k to another reading than s does, that one is placed later by s, or not at all
later_than : (n : ℕ) (e l s r : ℕ → ℕ) (t k : ℕ) → Progress n e l s t → Agree n s r k →
    (i j : ℕ) → i < n → j < n → (i ≡ j → ⊥) → 0 < k → s i ≡ k → r j ≡ k → (s j ≡ 0) ⊎ (s i < s j)
later_than n e l s r t k p agree i j h g other some here there =
    ⊎_elim
    (λ placed.
    let below : s j < k → ⊥ = λ less. let same = agree j g placed less in omega arith in
    let at : s i ≡ s j → ⊥ = λ same. other (p.apart i j h g (omega arith) same) in
    grind arith)
    (λ none. inl (omega arith))
    (cases_lt 0 (s j))

-- where they agree below k, they agree at k
agree_more : (n : ℕ) (e l s r : ℕ → ℕ) (t k : ℕ) → Progress n e l s t → Progress n e l r t → Agree n s r k → Agree n r s k → Agree n s r (suc k)
agree_more n e l s r t k p q one two i h placed upto =
    let in_window = p.inside i h placed in
    let there = q.filled (s i) placed in_window.2 in
    let j = there.0 in
    let other : s i ≡ k → (i ≡ j → ⊥) → ⊥ = λ at differ.
    let its_window = q.inside j there.1 (omega arith) in
    let before = p.soonest i j h there.1 placed
    (later_than n e l s r t k p one i j h there.1 differ (omega arith) at (omega arith)) (omega arith) in
    let after = q.soonest j i there.1 h (omega arith)
    (later_than n e l r s t k q two j i there.1 h (λ same. differ (sym same)) (omega arith) (omega arith) at) (omega arith) in
    grind arith in
    ⊎_elim
    (λ less. one i h placed less)
    (λ at.
    ⊎_elim
    (λ same. ap r same ∙ there.2)
    (λ differ. absurd (other (omega arith) differ))
    (cases_eq i j))
    (cases_lt (s i) k)

-- so they agree everywhere
agree_all : (n : ℕ) (e l s r : ℕ → ℕ) (t : ℕ) → Progress n e l s t → Progress n e l r t → (k : ℕ) → Agree n s r k × Agree n r s k
agree_all n e l s r t p q zero = (λ i h placed below. absurd (omega arith), λ i h placed below. absurd (omega arith))
agree_all n e l s r t p q (suc k) =
    let below = agree_all n e l s r t p q k in
    (agree_more n e l s r t k p q below.0 below.1, agree_more n e l r s t k q p below.1 below.0)

-- a placement of arranged records has filled all slots
progress_of : (bs ws : List Window) → Arranged bs → blank ws ≡ bs → Placement ws →
    ((i : ℕ) → i < length ws → 0 < slot_at ws i) × Progress (length bs) (earliest_at bs) (latest_at bs) (slot_at ws) (length bs)
progress_of bs ws arranged same p =
    let long = length_same ws bs same in
    let earliest = earliest_same ws bs same in
    let latest = latest_same ws bs same in
    let placed : (i : ℕ) → i < length ws → 0 < slot_at ws i = λ i here.
    omega (arith, (p.assigned.inside i here).0, earliest i, (arranged.usable i (omega arith)).first) in (
      placed,
      record {
        inside = λ i here some.
            let in_window = p.assigned.inside i (omega arith) in
            let last = (arranged.usable i here).last in
            (omega (arith, in_window.0, earliest i), omega (arith, in_window.1, latest i), omega (arith, in_window.1, latest i, last));
        filled = λ s from to. let there = p.filled s from (omega arith) in (there.0, omega (arith, there.1), there.2);
        apart = λ i j here there some at. p.assigned.apart i j (omega arith) (omega arith) at;
        soonest = λ i j here there some later opens.
            let starts = placed j (omega arith) in
            let soon = p.soonest i j (omega arith) (omega arith) (grind arith) (omega (arith, earliest j)) in
            let a = latest i in
            let b = latest j in
            grind arith;
      },
    )

-- records with the same windows and the same slot are the same
same_record : (u v : Window) → bare u ≡ bare v → u.slot ≡ v.slot → u ≡ v
same_record u v bares slots = ap (λ w. with_slot w u.slot) bares ∙ ap (with_slot v) slots

-- the placement of arranged records is the only one
pub only_placement : (ws : List Window) → Arranged (blank ws) → Placement ws → OnlyPlacement ws
only_placement ws arranged p ws' same q =
    let bs = blank ws in
    let n = length bs in
    let here = length-blank ws in
    let long = length_same ws' bs same in
    let one = progress_of bs ws' arranged same q in
    let other = progress_of bs ws arranged refl p in
    ext_get_or (window [] 0) ws' ws (omega arith) (λ i below.
    let within = one.1.inside i (omega arith) (one.0 i below) in
    let agree = agree_all n (earliest_at bs) (latest_at bs) (slot_at ws') (slot_at ws) n one.1 other.1 (suc n) in
    same_record (window ws' i) (window ws i) (sym (window_same ws' bs same i) ∙ window-blank ws i)
    (sym (agree.0 i (omega arith) (one.0 i below) (omega arith))))
