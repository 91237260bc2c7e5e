-- Rows of numbers in which those below a number come first, up to a place.
use Rattle.std.proofs.Common.{◌≡◌, ℕ, ◌+◌, ◌<◌, ◌≤◌, true, false, ltb, List, get_or, take, length, ◌∙◌, arith}
use Rattle.std.specs.List.Sorted.{IsPartitionedBy, IsPartitionPoint}
use Rattle.windows.specs.CountLimits.{Parted, PartsAt}
use Rattle.std.proofs.lemmas.Bool.{lt-ltb, ltb-false, ltb-true}
use Rattle.std.proofs.lemmas.List.{get_or_default, get_or-take, length-take}

module _ (xs : List ℕ) (m j : ℕ) (inside : m < length xs) where
  -- the first m + 1 of them as the library has them
  first : (k d : ℕ) → k ≤ m → get_or (take (m + 1) xs) k d ≡ get_or xs k 0
  first k d h = get_or-take (m + 1) xs k d (omega arith) ∙ get_or_default xs k d 0 (omega arith)

  -- they part as `partition_point` asks
  pub parted_take : Parted xs m j → IsPartitionedBy (λ n. ltb n j) (take (m + 1) xs)
  parted_take parted i k d h within test =
      let upto : k ≤ m = omega (arith, length-take (m + 1) xs) in
      let less = ltb-true _ j test in
      let below = parted i k h upto (omega (arith, first k d upto)) in
      lt-ltb _ j (omega (arith, first i d (omega arith)))

  -- and its answer is where they part
  pub parts_at : (r : ℕ) → r ≤ length (take (m + 1) xs) → IsPartitionPoint (λ n. ltb n j ≡ true) (λ n. ltb n j ≡ false) (take (m + 1) xs) r → PartsAt xs m j r
  parts_at r within point =
      let long = length-take (m + 1) xs in (
        omega arith,
        λ k h. omega (arith, ltb-true _ j (point.0 k 0 (omega arith) h), first k 0 (omega arith)),
        λ k h upto. omega (arith, ltb-false _ j (point.1 k 0 h (omega arith)), first k 0 upto),
      )
