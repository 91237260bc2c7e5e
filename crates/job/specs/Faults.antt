-- The numbers and the layers of the faults that stop a job.
use Rattle.std.specs.Prelude.{ℕ}
use Rattle.job.specs.declared.fault.JobFault.{JobFault}
use Rattle.job.specs.declared.fault.JobFault.TheVariants.{TooLong, Record, Setting, Roster}
use Rattle.job.specs.declared.fault.RecordFault.{RecordFault}
use Rattle.job.specs.declared.fault.RecordFault.TheVariants.{UnknownKind, CutShort}
use Rattle.penalty.specs.Settings.{number as setting_number}
use Rattle.roster.specs.Book.{number as roster_number}

-- the number of a record's fault
abbrev pub record_number : RecordFault → ℕ
record_number UnknownKind = 11
record_number CutShort = 12

-- the number of a fault
abbrev pub number : JobFault → ℕ
number TooLong = 13
number (Record fault) = record_number fault
number (Setting refusal) = setting_number refusal
number (Roster refusal) = roster_number refusal

-- the layer of a fault: 1 the file, 2 a record, 3 a rule or the roster
abbrev pub layer : JobFault → ℕ
layer TooLong = 1
layer (Record fault) = 2
layer (Setting refusal) = 3
layer (Roster refusal) = 3
