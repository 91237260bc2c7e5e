-- What lies past the row, or nothing where the input ends inside it.
use Rattle.std.proofs.Common.{◌≡◌, ℕ, List, [], length, drop, Option, Some, None, Bor, sym, ap, ◌∙◌, arith}
use Rattle.std.proofs.lemmas.List.{drop_all, take_rest}
use Rattle.std.specs.Option.{UnwrapsOrElse}
use Rattle.std.specs.Slice.{IsGetRangeResult}
use Rattle.report.proofs.input.list_of.Goals as goal

drop-unwraps : (n : ℕ) (xs : List ℕ) (r : Option (Bor (List ℕ))) (rest : Bor (List ℕ)) → IsGetRangeResult xs n (length xs) r → UnwrapsOrElse r (λ d. d.now ≡ []) rest → rest.now ≡ drop n xs
drop-unwraps n xs None rest found e = e ∙ sym (drop_all n xs (omega (arith, found.0)))
drop-unwraps n xs (Some part) rest found e = ap (λ d. d.now) e ∙ found.0.2 ∙ take_rest xs n

pub returns : goal.returns
returns c = drop-unwraps 128 c.args.input.now c.get.result c.unwrap_or_default.result c.get.ensures.lookup c.unwrap_or_default.ensures
