-- When the two rows of an owner's table are refused: the numbers, what each says, and which refusal is reported.
use Rattle.std.specs.Prelude.{◌≡◌, ◌≢◌, ℕ, ◌-◌, ◌<◌, ◌⊎◌, List, length, slice_index, Option, MatchOption}
use Rattle.penalty.specs.declared.side.Side.{Side}
use Rattle.penalty.specs.declared.side.Side.TheVariants.{Ahead, Behind}
use Rattle.penalty.specs.declared.row_refusal.RowRefusal.{RowRefusal}
use Rattle.penalty.specs.declared.row_refusal.RowRefusal.TheVariants.{Length, First, Falls}

-- the number of a refusal
abbrev pub number : RowRefusal → ℕ
number (Length row) = 21
number (First row) = 22
number (Falls row step) = 23

-- the row that a refusal names
abbrev pub side : RowRefusal → Side
side (Length row) = row
side (First row) = row
side (Falls row step) = row

-- the step that comes with it, 0 where none does
abbrev pub value : RowRefusal → ℕ
value (Length row) = 0
value (First row) = 0
value (Falls row step) = step

-- the order of the rows: the one ahead is looked at first
abbrev pub turn : Side → ℕ
turn Ahead = 0
turn Behind = 1

-- e is looked for before f: its number is smaller, or at the same number its row comes first, or at the same number and row its
-- step is smaller
abbrev pub Sooner : RowRefusal → RowRefusal → Type 0
Sooner e f =
    (number e < number f)
    ⊎ ((number e ≡ number f) × (turn (side e) < turn (side f)))
    ⊎ ((number e ≡ number f) × (side e ≡ side f) × (value e < value f))

-- a row falls at step s: its number there is below that at the step before
abbrev pub FallsAt : List ℕ → ℕ → Type 0
FallsAt row s = (0 < s) × (s < length row) × (slice_index row s < slice_index row (s - 1))

-- the one of two rows that is named
abbrev pub row_of : List ℕ → List ℕ → Side → List ℕ
row_of ahead behind Ahead = ahead
row_of ahead behind Behind = behind

-- what is wrong with the two rows
abbrev pub Fault : List ℕ → List ℕ → RowRefusal → Type 0
Fault ahead behind (Length row) = length (row_of ahead behind row) ≢ 256
Fault ahead behind (First row) = slice_index (row_of ahead behind row) 0 ≢ 0
Fault ahead behind (Falls row step) = FallsAt (row_of ahead behind row) step

-- nothing is wrong with either row
abbrev pub Accepted : List ℕ → List ℕ → Type 0
Accepted ahead behind = (e : RowRefusal) → Fault ahead behind e → ⊥

-- e is the refusal: its fault is there, and none that is looked for before it
pub record Refused (ahead behind : List ℕ) (e : RowRefusal) : Type 0 where
  pub fault : Fault ahead behind e
  pub first : (s : RowRefusal) → Sooner s e → Fault ahead behind s → ⊥

-- the first step at which a row falls, or nothing where it never does
abbrev pub FirstFall : List ℕ → Option ℕ → Type 0
FirstFall row fall = MatchOption fall ((s : ℕ) → FallsAt row s → ⊥) (λ s. FallsAt row s × ((i : ℕ) → i < s → FallsAt row i → ⊥))
