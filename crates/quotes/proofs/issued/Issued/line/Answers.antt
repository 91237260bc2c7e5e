-- The line has the figure of the least.
use Rattle.std.proofs.Common.{◌≡◌, ◌*◌, ◌^◌, ◌<◌, SomeIff, ap, refl, subst}
use Rattle.lines.specs.declared.line.Line.TheVariants.{Quote}
use Rattle.quotes.proofs.Same.{same_quotes}
use Rattle.quotes.specs.Figure.{figure_of}
use Rattle.quotes.proofs.issued.Issued.line.Goals as goal

pub returns : goal.returns
returns c =
    let least = c.args.self.now.draft.least in
    let total = c.args.self.now.draft.total in
    let figured : c.unwrap-figure.result ≡ figure_of least total =
    (subst (λ r. SomeIff r ((0 < total) × (100 * least < 2 ^ 64)) (figure_of least total)) c.unwrap-figure.ensures c.figure.ensures).1 in
    ap Quote (same_quotes _ _ refl refl refl refl refl figured)
