-- A list of which two numbers are exchanged, and then those behind the first of the two are written anew.
use Rattle.std.proofs.Common.{◌≡◌, ℕ, ◌+◌, ◌<◌, List, length, get_or, take, set, ap, ◌∙◌, rules, arith}
use Rattle.std.proofs.lemmas.List.{places, take-set-le}
use Rattle.std.proofs.lemmas.Slice.{take-put_mid_below}
use Rattle.std.specs.List.{SwappedAt}
use Rattle.bruteforce.specs.Arrangements.{After}
use borrow.Rule.Slice.PartMut.{put_mid}

-- it comes after what it was, where the first number is below the other
pub exchanged_after : (l s ys : List ℕ) (i j k : ℕ) → i < j → j < length l → length s ≡ length l → SwappedAt l s i j → get_or l i 0 < get_or l j 0 → After l (put_mid (i + 1) k s ys)
exchanged_after l s ys i j k before within long swapped less =
    let front : take i s ≡ take i l =
    ap (take i) (swapped.3 0) ∙ take-set-le i (set l i (get_or l j 0)) j (get_or l i 0) (omega arith) ∙ take-set-le i l i (get_or l j 0) (omega arith) in
    let same : get_or (put_mid (i + 1) k s ys) i 0 ≡ get_or s i 0 = search (rules, places) in
    let here = swapped.0 0 in
    (i, take-put_mid_below (i + 1) k s ys i (omega arith) (omega arith) ∙ front, omega (arith, same, here, less))
