-- The lines of a best.
use Rattle.std.proofs.Common.{◌≡◌, ◌∷◌, [], ◌++◌, ◌-◌, ◌+◌, ◌*◌, ◌^◌, ◌<◌, ◌≤◌, SomeIff, ap, drop, length, set, subst, take, ◌∙◌, arith}
use Rattle.std.proofs.lemmas.List.{length-set, length-take-le}
use Rattle.lines.specs.declared.line.Line.TheVariants as line
use Rattle.listing.proofs.Putting.{last_put, no_rows, rows_put, two_put}
use Rattle.listing.specs.Answers.{best_rows}
use Rattle.listing.specs.Rows.{AreRows}
use Rattle.quotes.specs.Figure.{figure_of}
use Rattle.listing.proofs.puts.put_best.Goals as goal

pub returns-in-Least : goal.returns-in-Least
returns-in-Least c =
    let ws = c.args.windows.now in
    let total = c.args.best.now.total in
    let n = c.from-slots.result in
    let rows = c.put_rows.new.rows in
    let least = c.in-Least.least in
    let few : total ≤ 4096 = subst (λ o. best_rows total o ≤ 4096) c.in-Least.is c.requires.few in
    let room : total ≤ length ws = subst (λ o. best_rows total o ≤ length ws) c.in-Least.is c.requires.room in
    let long = length-take-le n ws (omega (arith, c.from-slots.ensures)) in
    let figured : c.unwrap-figure.result ≡ figure_of least total =
    (subst (λ r. SomeIff r ((0 < total) × (100 * least < 2 ^ 64)) (figure_of least total)) c.unwrap-figure.ensures c.figure.ensures).1 in
    let xs = set c.args.lines.now 0 (line.Least least c.unwrap-figure.result) in
    let before = rows_put c.args.lines.now rows (line.Least least c.unwrap-figure.result) n (n + 1 - 1) (omega (arith, c.from-slots.ensures, c.told-lines)) (c.put_rows.ensures.long ∙ long) in
    let lines = take 1 xs ++ (rows ++ drop (n + 1 - 1) (drop 1 xs)) in
    rw c.in-Least.is (
      omega (arith, c.from-slots.ensures),
      rows,
      subst (λ k. AreRows (take k ws) rows) c.from-slots.ensures c.put_rows.ensures,
      last_put lines (line.Least least c.unwrap-figure.result ∷ rows) (line.Below c.below_line.result) n
          (omega (arith, c.from-slots.ensures, length-set lines (n + 1) (line.Below c.below_line.result), c.index-lines-slots.array_long)) before
          ∙ ap (λ f. line.Least least f ∷ (rows ++ (line.Below c.below_line.result ∷ []))) figured
          ∙ ap (λ b. line.Least least (figure_of least total) ∷ (rows ++ (line.Below b ∷ []))) c.below_line.ensures,
    )

pub returns-in-NoLeast : goal.returns-in-NoLeast
returns-in-NoLeast c =
    rw c.in-NoLeast.is (
      omega arith,
      [],
      no_rows c.args.windows.now,
      two_put c.args.lines.now line.NoLeast (line.Blocked c.block_line.result) (omega (arith, c.told-lines))
          ∙ ap (λ b. line.NoLeast ∷ (line.Blocked b ∷ [])) c.block_line.ensures,
    )
