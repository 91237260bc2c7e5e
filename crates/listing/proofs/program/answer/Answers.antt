-- What is read is the file as far as it may be long, and one byte more.
use Rattle.std.proofs.Common.{◌≡◌, ◌++◌, subst, sym, take}
use Rattle.std.proofs.lemmas.Result.{on_ok_weaker}
use Rattle.std.specs.Io.KnownBytes.{Appends}
use Rattle.std.specs.List.{flat_map}
use Rattle.std.specs.Option.{IfSome, option_map}
use Rattle.lines.specs.Lines.{text}
use Rattle.listing.proofs.Reading.{listing_read}
use Rattle.listing.proofs.program.answer.Goals as goal

pub returns : goal.returns
returns g c =
    let known = g.R.Read.remaining c.args.input in
    let remaining = g.R.Read.remaining in
    let items = c.read_to_end.new.buf.items in
    let front = c.new-file.result.items in
    let limited =
    subst (λ n. IfSome (option_map (take n) (remaining c.take.result.inner)) (λ xs. items ≡ front ++ xs)) c.take.ensures.limit c.in_ok-read_to_end.ensures.bytes in
    let own = subst (λ r. IfSome (option_map (take 4097) (remaining r)) (λ xs. items ≡ front ++ xs)) c.take.ensures.inner limited in
    let alone = subst (λ none. IfSome (option_map (take 4097) known) (λ xs. items ≡ none ++ xs)) c.new-file.ensures.items own in
    let read = subst (λ file. IfSome (option_map (take 4097) known) (λ xs. file ≡ xs)) (sym c.deref.ensures.value) alone in
    on_ok_weaker c.print_job.result
    (λ listed.
    listing_read (g.B.Penalty.cost c.args.bottom) known c.deref.result.now (λ lines. Appends (g.W.Write.contents c.args.out.now) (g.W.Write.contents c.print_job.new.out) (flat_map text lines)) read listed)
    c.print_job.ensures
