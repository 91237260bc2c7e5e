-- A block rules every list out.
use Rattle.std.proofs.Common.{ℕ, List}
use Rattle.matching.proofs.Crowds.{crowd_rules_out}
use Rattle.penalty.specs.Cost.{Cost}
use Rattle.sequencing.specs.Sequences.{HasList, IsBlock}
use Rattle.sequencing.specs.declared.answer.Block.{Block}
use Rattle.sequencing.specs.declared.answer.Block.TheVariants.{Blocked, Shut, Crowded}
use Rattle.sequencing.proofs.Occurrences.{list_assigns}
use Rattle.windows.proofs.Bound.{blocked_rules_out, shut_rules_out}

-- where there is a block at a bound, no complete list is within it
pub block_rules_out : (f : Cost) (t : List ℕ) (b : ℕ) (block : Block) → IsBlock f t b block → HasList f t b → ⊥
block_rules_out f t b (Blocked m) first has = blocked_rules_out t has.0 has.1 f b m.slot m.channel first.blocked has.2
block_rules_out f t b (Shut w) first has =
    let shut = first.1.shut in
    shut_rules_out t has.0 has.1 f b w.channel w.reading (w.earliest, w.latest) shut.0 shut.1 shut.2 has.2
block_rules_out f t b (Crowded crowd) crowded has =
    let slots = list_assigns f t b crowded.0 crowded.1 has.0 has.1 has.2 in
    crowd_rules_out crowded.0 crowd.first crowd.last crowd.number crowded.2 slots.0 slots.1
