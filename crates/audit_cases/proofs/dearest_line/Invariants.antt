-- The heap keeps fewer moments after each that leaves.
use Rattle.audit_cases.proofs.dearest_line.Given as goal

abbrev pub decreases-loop-moment : goal.decreases-loop-moment
decreases-loop-moment l = l.kept.len
