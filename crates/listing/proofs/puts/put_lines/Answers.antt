-- The lines of an answer.
use Rattle.std.proofs.Common.{◌∷◌, [], ◌-◌, ◌+◌, ◌≤◌, ap, length, subst, take, ◌∙◌, arith}
use Rattle.std.proofs.lemmas.List.{length-take-le}
use Rattle.lines.specs.declared.line.Line.TheVariants as line
use Rattle.listing.proofs.Putting.{no_rows, rows_put, two_put}
use Rattle.listing.specs.Answers.{row_count}
use Rattle.listing.specs.Rows.{AreRows}
use Rattle.listing.proofs.puts.put_lines.Goals as goal

pub returns-in-Within : goal.returns-in-Within
returns-in-Within c =
    let ws = c.args.windows.now in
    let n = c.from-slots.result in
    let rows = c.put_rows.new.rows in
    let few : c.in-Within.total ≤ 4096 = subst (λ a. row_count a ≤ 4096) c.in-Within.is c.requires.few in
    let room : c.in-Within.total ≤ length ws = subst (λ a. row_count a ≤ length ws) c.in-Within.is c.requires.room in
    let long = length-take-le n ws (omega (arith, c.from-slots.ensures)) in
    rw c.in-Within.is (
      omega (arith, c.from-slots.ensures),
      rows,
      subst (λ k. AreRows (take k ws) rows) c.from-slots.ensures c.put_rows.ensures,
      rows_put c.args.lines.now rows (line.Within c.in-Within.bound c.in-Within.largest) n (n + 1 - 1) (omega (arith, c.from-slots.ensures, c.told-lines)) (c.put_rows.ensures.long ∙ long),
    )

pub returns-in-Over : goal.returns-in-Over
returns-in-Over c =
    rw c.in-Over.is (
      omega arith,
      [],
      no_rows c.args.windows.now,
      two_put c.args.lines.now (line.Over c.in-Over.bound) (line.Blocked c.block_line.result) (omega (arith, c.told-lines))
          ∙ ap (λ b. line.Over c.in-Over.bound ∷ (line.Blocked b ∷ [])) c.block_line.ensures,
    )
