-- Numbers that begin bytes, the high byte first.
use Rattle.std.proofs.Common.{◌≡◌, ℕ, suc, ◌+◌, ◌-◌, ◌*◌, ◌<◌, ◌≤◌, List, [], ◌∷◌, ◌++◌, drop, get_or, length, take, ap, refl, sym, ◌∙◌, arith}
use Rattle.std.proofs.lemmas.List.{length-append, length-drop, length-take-le, take-append-drop}
use Rattle.std.proofs.lemmas.List.Sums.{fold-append}
use Rattle.std.proofs.Math.Seq.{take-length, take-suc}
use Rattle.std.specs.Int.{w16, w32, w64, from_be_bytes}
use Rattle.job.specs.Records.{Begins, BeginsNumber, number}
use Rattle.job.specs.declared.record.Record.{Record}
use Rattle.job.specs.declared.record.Record.TheVariants.{Add, Weight, Tolerance, Limit, List as Bound, Best}

-- what is left after the first k elements is all that comes after them
rest_all : (k : ℕ) (xs : List ℕ) → take (length xs - k) (drop k xs) ≡ drop k xs
rest_all k xs = ap (λ n. take n (drop k xs)) (sym (length-drop k xs)) ∙ take-length (drop k xs)

-- bytes begin with the number that their first bytes make
first_number : (size : ℕ) (xs : List ℕ) (n : ℕ) → size ≤ length xs → n ≡ number (take size xs) → BeginsNumber size xs n (take (length xs - size) (drop size xs))
first_number size xs n long is =
    (take size xs, length-take-le size xs long, sym (ap (λ rest. take size xs ++ rest) (rest_all size xs) ∙ take-append-drop size xs), is)

-- one byte more
number_more : (xs : List ℕ) (k : ℕ) → k < length xs → number (take (suc k) xs) ≡ 256 * number (take k xs) + get_or xs k 0
number_more xs k here = ap number (take-suc xs k 0 here) ∙ fold-append (λ n digit. 256 * n + digit) 0 (take k xs) (get_or xs k 0 ∷ [])

-- bytes begin with the number of two, four or eight bytes that the library makes of them
pub begins_2 : (xs : List ℕ) (n : ℕ) → 2 ≤ length xs → n ≡ from_be_bytes w16 (get_or xs 0 0 ∷ (get_or xs 1 0 ∷ [])) → BeginsNumber 2 xs n (take (length xs - 2) (drop 2 xs))
begins_2 xs n long is = first_number 2 xs n long (omega (arith, is, number_more xs 0 (omega (arith, long)), number_more xs 1 (omega (arith, long))))

pub begins_4 : (xs : List ℕ) (n : ℕ) → 4 ≤ length xs →
    n ≡ from_be_bytes w32 (get_or xs 0 0 ∷ (get_or xs 1 0 ∷ (get_or xs 2 0 ∷ (get_or xs 3 0 ∷ [])))) → BeginsNumber 4 xs n (take (length xs - 4) (drop 4 xs))
begins_4 xs n long is =
    let more : (k : ℕ) → k < 4 → number (take (suc k) xs) ≡ 256 * number (take k xs) + get_or xs k 0 = λ k here. number_more xs k (omega arith) in
    first_number 4 xs n long (omega (arith, is, more 0 (omega arith), more 1 (omega arith), more 2 (omega arith), more 3 (omega arith)))

pub begins_8 : (xs : List ℕ) (n : ℕ) → 8 ≤ length xs →
    n ≡ from_be_bytes w64 (get_or xs 0 0 ∷ (get_or xs 1 0 ∷ (get_or xs 2 0 ∷ (get_or xs 3 0 ∷ (get_or xs 4 0 ∷ (get_or xs 5 0 ∷ (get_or xs 6 0 ∷ (get_or xs 7 0 ∷ [])))))))) →
    BeginsNumber 8 xs n (take (length xs - 8) (drop 8 xs))
begins_8 xs n long is =
    let more : (k : ℕ) → k < 8 → number (take (suc k) xs) ≡ 256 * number (take k xs) + get_or xs k 0 = λ k here. number_more xs k (omega arith) in
    first_number 8 xs n long
    (omega (arith, is, more 0 (omega arith), more 1 (omega arith), more 2 (omega arith), more 3 (omega arith), more 4 (omega arith), more 5 (omega arith), more 6 (omega arith), more 7 (omega arith)))

-- bytes begin with a channel and a number of two bytes
pub begins_channel : (body : List ℕ) (n : ℕ) → 3 ≤ length body → n ≡ from_be_bytes w16 (get_or body 1 0 ∷ (get_or body 2 0 ∷ [])) →
    (xs : List ℕ) × (body ≡ get_or body 0 0 ∷ xs) × BeginsNumber 2 xs n (take (length body - 3) (drop 3 body))
begins_channel [] n long is = absurd (omega (arith, long))
begins_channel (c ∷ xs) n long is =
    let less : length (c ∷ xs) - 3 ≡ length xs - 2 = omega arith in
    (xs, refl, rw less (begins_2 xs n (omega (arith, long)) is))

-- what comes after a number is shorter by its bytes
number_shorter : (size : ℕ) (xs : List ℕ) (n : ℕ) (rest : List ℕ) → BeginsNumber size xs n rest → length xs ≡ size + length rest
number_shorter size xs n rest begins = omega (arith, ap length begins.2, length-append begins.0 rest, begins.1)

-- and what comes after a record is shorter
pub begins_shorter : (bytes rest : List ℕ) (r : Record) → Begins bytes r rest → length rest < length bytes
begins_shorter bytes rest (Add c n) begins = omega (arith, ap length begins.1, number_shorter 2 begins.0 n rest begins.2)
begins_shorter bytes rest (Weight c w) begins = omega (arith, ap length begins.1, number_shorter 2 begins.0 w rest begins.2)
begins_shorter bytes rest (Tolerance t) begins = omega (arith, ap length begins.1, number_shorter 4 begins.0 t rest begins.2)
begins_shorter bytes rest (Limit e) begins = omega (arith, ap length begins.1, number_shorter 4 begins.0 e rest begins.2)
begins_shorter bytes rest (Bound b) begins = omega (arith, ap length begins.1, number_shorter 8 begins.0 b rest begins.2)
begins_shorter bytes rest Best begins = omega (arith, ap length begins)
