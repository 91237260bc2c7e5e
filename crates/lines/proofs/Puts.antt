-- Text that is written in memory piece after piece.
use Rattle.std.proofs.Common.{◌≡◌, ℕ, ◌+◌, ◌/◌, ◌%◌, ◌^◌, ◌<◌, ◌≤◌, List, [], ◌∷◌, ◌++◌, length, take, drop, decimal, sym, ap, ◌∙◌, append_assoc, arith, length-append}
use Rattle.std.proofs.lemmas.Fmt.{decimal_step}
use Rattle.std.proofs.lemmas.List.{drop-drop}
use Rattle.lines.specs.Text.{Put}

-- one piece after another is both
pub put_then : {old mid new s t : List ℕ} {at m n : ℕ} → Put old at s mid m → Put mid m t new n → Put old at (s ++ t) new n
put_then {old} {mid} {new} {s} {t} {at} {m} {n} p q =
    let end : m + length t ≡ n = sym q.stops in
    let kept : drop n mid ≡ drop n old = rw (sym end) (sym (drop-drop (length t) m mid) ∙ ap (drop (length t)) p.rest ∙ drop-drop (length t) m old) in
    record {
      stops = omega (arith, q.stops, p.stops, length-append s t);
      front = q.front ∙ ap (λ x. x ++ t) p.front ∙ append_assoc (take at old) s t;
      rest = q.rest ∙ kept;
    }

-- a number of two digits or more has one digit more than its tenth
pub decimal_longer : (n : ℕ) → 10 ≤ n → n < 2 ^ 64 → length (decimal n) ≡ length (decimal (n / 10)) + 1
decimal_longer n big fits = ap length (decimal_step n big fits) ∙ length-append (decimal (n / 10)) ((48 + n % 10) ∷ [])
