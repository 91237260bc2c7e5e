-- The line of an audit's answer: the largest cost with its moment, or the number of the refusal with its value.
use Rattle.std.specs.Prelude.{Ok, Err, Result}
use Rattle.lines.specs.declared.audited.Audited.{Audited}
use Rattle.lines.specs.declared.audited.Audited.TheVariants.{Largest, Refused, RefusedSlot, RefusedChannel}
use Rattle.lines.specs.declared.line.Line.{Line}
use Rattle.lines.specs.declared.line.Line.TheVariants.{Audited as AuditedLine}
use Rattle.round.specs.Refusals.{number}
use Rattle.round.specs.declared.costed_moment.CostedMoment.{CostedMoment}
use Rattle.round.specs.declared.refusal.Refusal.{Refusal}
use Rattle.round.specs.declared.refusal.Refusal.TheVariants.{NotAChannel, WrongCount}

-- a refusal: its number, and the slot after 15 or the channel after 16
abbrev pub refused_of : Refusal → Audited
refused_of (NotAChannel slot) = RefusedSlot (number (NotAChannel slot)) slot
refused_of (WrongCount channel) = RefusedChannel (number (WrongCount channel)) channel
refused_of other = Refused (number other)

-- the line of an answer
abbrev pub line_of : Result CostedMoment Refusal → Line
line_of (Ok r) = AuditedLine (Largest r.cost r.slot r.channel)
line_of (Err e) = AuditedLine (refused_of e)
