-- The records of a job file as bytes.
use Rattle.std.specs.Prelude.{◌≡◌, ℕ, ◌+◌, ◌*◌, ◌<◌, fold, ◌==◌, cond, List, [], ◌∷◌, ◌++◌, length, Option, Some, None, MatchOption}
use Rattle.job.specs.declared.fault.RecordFault.{RecordFault}
use Rattle.job.specs.declared.fault.RecordFault.TheVariants.{UnknownKind, CutShort}
use Rattle.job.specs.declared.record.Record.{Record}
use Rattle.job.specs.declared.record.Record.TheVariants.{Add, Weight, Tolerance, Limit, List as AskList, Best}

-- how many bytes the body of a kind has, nothing for a byte that is no kind
abbrev pub body_of : ℕ → Option ℕ
body_of k = cond (k == 0x43) (Some 3) (cond (k == 0x57) (Some 3) (cond (k == 0x54) (Some 4)
    (cond (k == 0x45) (Some 4) (cond (k == 0x4C) (Some 8) (cond (k == 0x42) (Some 0) None)))))

-- the number that bytes make, the high byte first
abbrev pub number : List ℕ → ℕ
number digits = fold (λ n digit. 256 * n + digit) 0 digits

-- xs begin with the number n of so many bytes, and rest comes after it
abbrev pub BeginsNumber : ℕ → List ℕ → ℕ → List ℕ → Type 0
BeginsNumber size xs n rest = (digits : List ℕ) × (length digits ≡ size) × (xs ≡ digits ++ rest) × (n ≡ number digits)

-- bytes begin with a record, its kind and then its body, and rest comes after it
abbrev pub Begins : List ℕ → Record → List ℕ → Type 0
Begins bytes (Add c n) rest = (xs : List ℕ) × (bytes ≡ 0x43 ∷ (c ∷ xs)) × BeginsNumber 2 xs n rest
Begins bytes (Weight c w) rest = (xs : List ℕ) × (bytes ≡ 0x57 ∷ (c ∷ xs)) × BeginsNumber 2 xs w rest
Begins bytes (Tolerance t) rest = (xs : List ℕ) × (bytes ≡ 0x54 ∷ xs) × BeginsNumber 4 xs t rest
Begins bytes (Limit e) rest = (xs : List ℕ) × (bytes ≡ 0x45 ∷ xs) × BeginsNumber 4 xs e rest
Begins bytes (AskList b) rest = (xs : List ℕ) × (bytes ≡ 0x4C ∷ xs) × BeginsNumber 8 xs b rest
Begins bytes Best rest = bytes ≡ 0x42 ∷ rest

-- a body of this size is cut short: fewer bytes are there
abbrev pub IsCutShort : ℕ → List ℕ → RecordFault → Type 0
IsCutShort size body UnknownKind = ⊥
IsCutShort size body CutShort = length body < size

-- bytes begin with a byte that is no kind; or with a kind whose body is cut short
abbrev pub IsNoRecord : List ℕ → RecordFault → Type 0
IsNoRecord [] fault = ⊥
IsNoRecord (k ∷ body) UnknownKind = body_of k ≡ None
IsNoRecord (k ∷ body) CutShort = MatchOption (body_of k) ⊥ (λ size. IsCutShort size body CutShort)
