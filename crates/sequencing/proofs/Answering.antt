-- What list and best answer, from what is shown in memory that is as long as the round.
use Rattle.std.proofs.Common.{◌≡◌, ℕ, zero, suc, ◌-◌, ◌<◌, ◌≤◌, ◌↔◌, List, [], ◌∷◌, ◌++◌, Option, cond, count_by, nat_lt, length, take, drop, sum, sym, refl, ap, ◌∙◌, subst, ⊎_elim, arith}
use Rattle.std.proofs.Math.Seq.{take-append_seam}
use Rattle.std.proofs.lemmas.List.{length-take-le}
use Rattle.std.proofs.lemmas.List.Sums.{sum_by-cons}
use Rattle.std.proofs.lemmas.Slice.{drop-append-drop}
use Rattle.std.proofs.lemmas.Bool.{cases_lt}
use Rattle.matching.specs.declared.ready.Ready.{Ready}
use Rattle.matching.specs.declared.window.Window.{Window}
use Rattle.penalty.specs.Cost.{Capped, Cost, top, Valley}
use Rattle.round.specs.Lists.{Channel, LargestCost, count, readings}
use Rattle.sequencing.specs.Answers.{AllForbidden, IsBest, IsLeastList, IsListed, HasNoLeast, Shows, ShowsBest}
use Rattle.sequencing.specs.Memory.{KeepsRest, Memory, memory}
use Rattle.sequencing.specs.Outcomes.{IsBelowTop}
use Rattle.sequencing.specs.Searches.{Searched}
use Rattle.sequencing.specs.Sequences.{HasList, IsSequence}
use Rattle.sequencing.specs.declared.answer.Best.{Best}
use Rattle.sequencing.specs.declared.answer.Block.{Block}
use Rattle.sequencing.specs.declared.answer.Listed.{Listed}
use Rattle.sequencing.specs.declared.answer.Listed.TheVariants.{Within, Over}
use Rattle.sequencing.specs.declared.answer.Outcome.{Outcome}
use Rattle.sequencing.specs.declared.answer.Outcome.TheVariants.{Least, NoLeast}
use Rattle.sequencing.proofs.Costs.{largest_exists, largest_upto}
use Rattle.sequencing.proofs.Ruling.{block_rules_out}
use Rattle.sequencing.proofs.Searching.{below_rules_out, largest_has}
use Rattle.sequencing.proofs.Standing.{sequence_complete, sequence_within}

-- no list is found
abbrev IsOver : Listed → Type 0
IsOver Within = ⊥
IsOver (Over block) = Unit {0}

-- a least is found
abbrev HasLeast : Outcome → Type 0
HasLeast (Least n below) = Unit {0}
HasLeast (NoLeast block) = ⊥

-- a list is shown exactly where there is one
pub shows_exactly : (f : Cost) (t : List ℕ) (b : ℕ) (ws : List Window) (l : List ℕ) (a : Listed) → Shows f t b ws l a → (a ≡ Within) ↔ HasList f t b
shows_exactly f t b ws l Within shown = (λ _. (l, shown.0, shown.1), λ _. refl)
shows_exactly f t b ws l (Over block) shown = (λ e. absurd (subst IsOver e tt), λ has. absurd (block_rules_out f t b block shown has))

-- the forbidden cost is the largest of every list exactly where no least is shown
pub shows_none : (f : Cost) (t : List ℕ) (ws : List Window) (l : List ℕ) (outcome : Outcome) → Capped f → (c : ℕ) × Channel t c → ShowsBest f t ws l outcome →
    HasNoLeast outcome ↔ AllForbidden f t
shows_none f t ws l (Least n below) capped some shown = (
  λ none. absurd (subst HasLeast none.1 tt),
  λ all. absurd (omega (arith, shown.below_top, largest_upto f t l top n (all l shown.complete) shown.largest.within)),
)
shows_none f t ws l (NoLeast block) capped some shown = (
  λ _ l' whole.
      let largest = largest_exists f t l' capped some in
      let least : top ≤ largest.0 =
      ⊎_elim (λ less. absurd (block_rules_out f t (top - 1) block shown (largest_has f t largest.0 (top - 1) (omega arith) (l', whole, largest.1)))) (λ ge. ge)
      (cases_lt largest.0 top) in
      let at = largest.1.attained in
      let most : largest.0 ≤ top = omega (arith, at.3, capped (sum t) at.1 (readings t at.1) (count l' at.1 at.0) at.0) in
      subst (LargestCost f t l') (omega arith) largest.1,
  λ _. (block, refl),
)

-- where a list has the largest cost n, and the bound below n has a block, the list of the rules at n is a best one
pub least_list : (f : Cost) (t : List ℕ) (n : ℕ) (below : Option Block) (ws : List Window) (l : List ℕ) → Capped f → Valley f → (c : ℕ) × Channel t c →
    Searched f t (Least n below) → IsSequence f t n ws l → IsLeastList f t n below ws l
least_list f t n below ws l capped valley some searched made =
    let whole = sequence_complete f t n ws l made in
    let within = sequence_within f t n ws l made valley in
    let none : (m : ℕ) → HasList f t m → n ≤ m = λ m has.
    ⊎_elim (λ less. absurd (below_rules_out f t n below searched.2 m less has)) (λ ge. ge) (cases_lt m n) in
    let largest = largest_exists f t l capped some in
    let least = none largest.0 (l, whole, largest.1.within) in
    let same : largest.0 ≡ n = omega (arith, largest_upto f t l largest.0 n largest.1 within) in
    record {
      below_top = searched.0;
      least = record { holds = (l, whole, within); least = none };
      complete = whole;
      largest = subst (LargestCost f t l) same largest.1;
      none_better = λ l' m other cost. none m (l', other, cost.within);
      rules = made;
      below = searched.2;
    }

-- the least that is shown is below the forbidden cost
pub shown_below : (f : Cost) (t : List ℕ) (ws : List Window) (l : List ℕ) (outcome : Outcome) → ShowsBest f t ws l outcome → IsBelowTop outcome
shown_below f t ws l (Least n below) shown = shown.below_top
shown_below f t ws l (NoLeast block) shown = _

-- where there is a reading there is a channel
pub some_counted : (t : List ℕ) → 0 < sum t → 0 < count_by (nat_lt 0) t
some_counted [] some = absurd (omega (arith, some))
some_counted (zero ∷ t) some = omega (arith, some_counted t some, sum_by-cons (λ x. cond (nat_lt 0 x) 1 0) zero t)
some_counted (suc n ∷ t) some = grind (arith, sum_by-cons (λ x. cond (nat_lt 0 x) 1 0) (suc n) t)

-- what was cut off and written stands first
cut_first : {X : Type 0} (n : ℕ) (xs ys : List X) → length ys ≡ n → take n (ys ++ drop n xs) ≡ ys
cut_first n xs ys long = ap (λ k. take k (ys ++ drop n xs)) (sym long) ∙ take-append_seam ys (drop n xs)

-- and the rest as it stood
cut_rest : {X : Type 0} (n : ℕ) (xs ys : List X) → length ys ≡ n → drop n (ys ++ drop n xs) ≡ drop n xs
cut_rest n xs ys long = drop-append-drop n xs ys n (omega arith) long

-- what was cut off is as long as was asked for
pub cut_long : {X : Type 0} (n D : ℕ) (xs part : List X) → n ≡ D → D ≤ length xs → length part ≡ length (take n xs) → length part ≡ D
cut_long n D xs part same room long = omega (arith, long, length-take-le n xs (omega arith))

module _ (t : List ℕ) (ws ws' : List Window) (rs rs' : List Ready) (l l' : List ℕ) (places : length ws' ≡ sum t) (bytes : length l' ≡ sum t) (ready : drop 64 rs' ≡ drop 64 rs) where
  -- the memory after a call that was lent the first window places and list bytes, one for each reading
  abbrev pub memory_after : Memory
  memory_after = memory (ws' ++ drop (sum t) ws) rs' (l' ++ drop (sum t) l)

  -- nothing else is written
  kept : KeepsRest (sum t) (memory ws rs l) memory_after
  kept = record { windows = cut_rest (sum t) ws ws' places; ready = ready; list = cut_rest (sum t) l l' bytes }

  -- the answer of list
  pub listed_from : (f : Cost) (b : ℕ) (a : Listed) → Shows f t b ws' l' a → IsListed f t b (memory ws rs l) memory_after a
  listed_from f b a shown = record {
    exactly = shows_exactly f t b ws' l' a shown;
    shown = rw (cut_first (sum t) ws ws' places, cut_first (sum t) l l' bytes) shown;
    rest = kept;
  }

  -- the answer of best
  pub best_from : (f : Cost) (a : Best) → Capped f → (c : ℕ) × Channel t c → a.total ≡ sum t → a.channels ≡ count_by (nat_lt 0) t →
      ShowsBest f t ws' l' a.outcome → IsBest f t (memory ws rs l) memory_after a
  best_from f a capped some total channels shown = record {
    total = total;
    channels = channels;
    none = shows_none f t ws' l' a.outcome capped some shown;
    shown = rw (cut_first (sum t) ws ws' places, cut_first (sum t) l l' bytes) shown;
    rest = kept;
  }
