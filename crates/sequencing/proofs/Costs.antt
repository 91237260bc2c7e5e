-- The largest cost of a list.
use Rattle.std.proofs.Common.{ℕ, suc, ◌+◌, ◌-◌, ◌<◌, ◌≤◌, ◌⊎◌, List, length, sum, inl, inr, ⊎_elim, arith}
use Rattle.std.proofs.lemmas.Bool.{cases_eq, cases_lt}
use Rattle.penalty.specs.Cost.{Capped, Cost, top}
use Rattle.round.specs.Lists.{Channel, LargestCost, Moment, Within, cost_at}
use Rattle.round.proofs.Counts.{channel_below}
use Rattle.windows.proofs.Ends.{at_most_decided, both_decided}
use Rattle.windows.proofs.Extremes.{Decided, find_below, least_exists}

module _ (f : Cost) (t l : List ℕ) where
  -- a moment that costs more than b
  abbrev Above : ℕ → ℕ → ℕ → Type 0
  Above b k c = Moment t k c × (b < cost_at f t l k c)

  -- of each moment it can be decided
  above_decided : (b k : ℕ) → Decided (Above b k)
  above_decided b k c = both_decided (both_decided (at_most_decided k (sum t)) (at_most_decided 1 _)) (at_most_decided (suc b) _)

  -- there is one, or the list is within b
  above_or_within : (b : ℕ) → ((k : ℕ) × ((c : ℕ) × Above b k c)) ⊎ Within f t l b
  above_or_within b =
      let after : Decided (λ k. (c : ℕ) × Above b k c) = λ k.
      ⊎_elim inl (λ none. inr (λ found. none found.0 (channel_below t found.0 found.1.0.1) found.1)) (find_below (Above b k) (above_decided b k) (length t)) in
      ⊎_elim inl
      (λ none. inr (λ k c moment.
      ⊎_elim (λ more. absurd (none k (omega (arith, moment.0)) (c, (moment, more)))) (λ le. le) (cases_lt b (cost_at f t l k c))))
      (find_below (λ k. (c : ℕ) × Above b k c) after (sum t + 1))

  -- a list of some channel has a largest cost
  pub largest_exists : Capped f → (c : ℕ) × Channel t c → (n : ℕ) × LargestCost f t l n
  largest_exists capped some =
      let decided : Decided (Within f t l) = λ b. ⊎_elim (λ above. inr (λ within. let le = within above.0 above.1.0 above.1.1.0 in omega (arith, above.1.1.1))) inl (above_or_within b) in
      let least = least_exists (Within f t l) decided top (λ k c moment. capped _ _ _ _ _) in
      let n = least.0 in
      ⊎_elim
      (λ zero.
      let free = least.1.holds 0 some.0 (omega arith, some.1) in
      (n, record { within = least.1.holds; attained = (0, some.0, (omega arith, some.1), omega arith) }))
      (λ more.
      ⊎_elim
      (λ above. (n, record { within = least.1.holds; attained = (above.0, above.1.0, above.1.1.0, omega (arith, above.1.1.1, least.1.holds above.0 above.1.0 above.1.1.0)) }))
      (λ within. let less = least.1.least (n - 1) within in absurd (omega arith))
      (above_or_within (n - 1)))
      (cases_eq n 0)

  -- a largest cost is at most every bound that the list is within
  pub largest_upto : (n b : ℕ) → LargestCost f t l n → Within f t l b → n ≤ b
  largest_upto n b largest within = let at = largest.attained in omega (arith, at.3, within at.0 at.1 at.2)
