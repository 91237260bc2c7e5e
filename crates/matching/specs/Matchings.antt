-- What the matching answers: a placement of all readings, or why there is none.
use Rattle.std.specs.Prelude.{◌≡◌, ℕ, ◌+◌, ◌-◌, ◌<◌, ◌≤◌, Bool, ◌&&◌, ◌⊎◌, List, length, count_by, nat_le}
use Rattle.matching.specs.Windows.{Arranged, blank, earliest_at, latest_at, slot_at}
use Rattle.matching.specs.declared.answer.Crowd.{Crowd}
use Rattle.matching.specs.declared.answer.Unplaced.{Unplaced}
use Rattle.matching.specs.declared.answer.Unplaced.TheVariants.{ReadyPlaces, Windows, Crowded}
use Rattle.matching.specs.declared.ready.Ready.{Ready}
use Rattle.matching.specs.declared.window.Window.{Window}

-- an assignment gives each reading a slot inside its window, and no two readings the same
pub record Assignment (ws : List Window) (slot : ℕ → ℕ) : Type 0 where
  pub inside : (i : ℕ) → i < length ws → (earliest_at ws i ≤ slot i) × (slot i ≤ latest_at ws i)
  pub apart : (i j : ℕ) → i < length ws → j < length ws → slot i ≡ slot j → i ≡ j

-- of readings with these latest slots, i is due before j: a smaller latest, or the same latest and a smaller place
abbrev pub Due : (ℕ → ℕ) → ℕ → ℕ → Type 0
Due latest i j = (latest i < latest j) ⊎ ((latest i ≡ latest j) × (i < j))

-- the slots that stand in the records are those of Glover's rule: slot after slot, of the readings that are not
-- placed yet and whose earliest has come, the one that is due first
pub record Placement (ws : List Window) : Type 0 where
  pub assigned : Assignment ws (slot_at ws)
  pub filled : (s : ℕ) → 1 ≤ s → s ≤ length ws → (i : ℕ) × (i < length ws) × (slot_at ws i ≡ s)
  pub soonest : (i j : ℕ) → i < length ws → j < length ws → slot_at ws i < slot_at ws j → earliest_at ws j ≤ slot_at ws i → Due (latest_at ws) i j

-- other slots of the same windows are no placement
abbrev pub OnlyPlacement : List Window → Type 0
OnlyPlacement ws = (ws' : List Window) → blank ws' ≡ blank ws → Placement ws' → ws' ≡ ws

-- whether a window lies wholly inside the slots a to b
abbrev pub within : ℕ → ℕ → Window → Bool
within a b w = nat_le a w.earliest && nat_le w.latest b

-- how many windows lie wholly inside the slots a to b
abbrev pub inside : ℕ → ℕ → List Window → ℕ
inside a b ws = count_by (within a b) ws

-- the slots a to b are crowded: more windows lie wholly inside than there are slots
pub record IsCrowded (ws : List Window) (a b number : ℕ) : Type 0 where
  pub from : 1 ≤ a
  pub upward : a ≤ b
  pub to : b ≤ length ws
  pub counted : number ≡ inside a b ws
  pub over : b - a + 1 < number

-- the slots that a crowd names are crowded
abbrev pub IsCrowd : List Window → Crowd → Type 0
IsCrowd ws c = IsCrowded ws c.first c.last c.number

-- the slots a to b with the number of windows that lie wholly inside
abbrev pub crowd_of : List Window → ℕ → ℕ → Crowd
crowd_of ws a b = record { first = a; last = b; number = inside a b ws }

-- why the windows ws have no slots with the ready places `ready`, and what is left of both: fewer than 64 ready places,
-- or windows that are not arranged, and then nothing has changed; or crowded slots, and then no assignment exists
abbrev pub IsReason : List Window → List Ready → List Window → List Ready → Unplaced → Type 0
IsReason ws ready ws' ready' ReadyPlaces = (length ready < 64) × (ws' ≡ ws) × (ready' ≡ ready)
IsReason ws ready ws' ready' Windows = (64 ≤ length ready) × (Arranged ws → ⊥) × (ws' ≡ ws) × (ready' ≡ ready)
IsReason ws ready ws' ready' (Crowded crowd) = (64 ≤ length ready) × Arranged ws × IsCrowd ws crowd × ((slot : ℕ → ℕ) → Assignment ws slot → ⊥)
