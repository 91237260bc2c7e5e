-- The refusals of a table and a list: their numbers, what each says, and which one is reported.
use Rattle.std.specs.Prelude.{◌≡◌, ℕ, ◌+◌, ◌<◌, ◌≤◌, cond, ◌≢◌, ◌⊎◌, List, length, sum, ◌==◌, slice_index}
use Rattle.round.specs.Lists.{readings, Channel, times}
use Rattle.round.specs.declared.refusal.Refusal.{Refusal}
use Rattle.round.specs.declared.refusal.Refusal.TheVariants.{RowLength, ReadingsAboveLimit, TotalAboveLimit, NoChannel, ListLength, NotAChannel, WrongCount}

-- the number of a refusal
abbrev pub number : Refusal → ℕ
number RowLength = 17
number ReadingsAboveLimit = 2
number TotalAboveLimit = 5
number NoChannel = 6
number ListLength = 14
number (NotAChannel slot) = 15
number (WrongCount channel) = 16

-- the slot or the channel that comes with it, 0 where none does
abbrev pub value : Refusal → ℕ
value RowLength = 0
value ReadingsAboveLimit = 0
value TotalAboveLimit = 0
value NoChannel = 0
value ListLength = 0
value (NotAChannel slot) = slot
value (WrongCount channel) = channel

-- what is wrong with table t and list l
abbrev pub Fault : List ℕ → List ℕ → Refusal → Type 0
Fault t l RowLength = length t ≢ 64
Fault t l ReadingsAboveLimit = (c : ℕ) × (4096 < readings t c)
Fault t l TotalAboveLimit = 4096 < sum t
Fault t l NoChannel = (c : ℕ) → Channel t c → ⊥
Fault t l ListLength = length l ≢ sum t
Fault t l (NotAChannel slot) = (i : ℕ) × (slot ≡ i + 1) × (i < length l) × (readings t (slice_index l i) ≡ 0)
Fault t l (WrongCount channel) = Channel t channel × (times channel l ≢ readings t channel)

-- the order of the checks: 17 comes before all others, which come by number
abbrev pub turn : ℕ → ℕ
turn n = cond (n == 17) 0 n

-- e is looked for before f: its number comes first, or its slot or channel is smaller at the same number
abbrev pub Sooner : Refusal → Refusal → Type 0
Sooner e f = (turn (number e) < turn (number f)) ⊎ ((number e ≡ number f) × (value e < value f))

-- e is the refusal of t and l: its fault is there, and none that is looked for before it
pub record Refused (t l : List ℕ) (e : Refusal) : Type 0 where
  pub fault : Fault t l e
  pub first : (s : Refusal) → Sooner s e → Fault t l s → ⊥

-- e is the refusal of t as a table, by 17, 2 or 5, whatever the list
pub record RowRefused (t : List ℕ) (e : Refusal) : Type 0 where
  pub row : turn (number e) ≤ 5
  pub refused : (l : List ℕ) → Refused t l e
