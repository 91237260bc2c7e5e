-- What the helpers answer: the searches over the counts of a channel, how many of its readings are needed by a slot and how
-- many may stand by it, the first of two moments, the first record that is shut. They serve the proofs only.
use Rattle.std.specs.Prelude.{◌≡◌, ℕ, ◌+◌, ◌<◌, ◌≤◌, ◌↔◌, ◌⊎◌, min, max, List, length, sum, MatchOption, Option, slice_index}
use Rattle.penalty.specs.Cost.{Cost}
use Rattle.matching.specs.Windows.{earliest_at, latest_at, window}
use Rattle.matching.specs.declared.window.Window.{Window}
use Rattle.round.specs.Lists.{Before}
use Rattle.windows.specs.declared.answer.Moment.{Moment}
use Rattle.windows.specs.Allowed.{Allowed, Highest, Lowest}
use Rattle.windows.specs.Extremes.{IsGreatest, IsLeast}
use Rattle.windows.specs.Windows.{Forbidden, Needed, Reading}

-- the smallest allowed count above m, or nothing where there is none
abbrev pub LowestAbove : Cost → List ℕ → ℕ → ℕ → ℕ → ℕ → Option ℕ → Type 0
LowestAbove f t b k c m r = MatchOption r ((x : ℕ) → m < x → Allowed f t b k c x → ⊥) (IsLeast (λ x. (m < x) × Allowed f t b k c x))

-- the greatest allowed count below m, or nothing where there is none
abbrev pub HighestBelow : Cost → List ℕ → ℕ → ℕ → ℕ → ℕ → Option ℕ → Type 0
HighestBelow f t b k c m r = MatchOption r ((x : ℕ) → x < m → Allowed f t b k c x → ⊥) (IsGreatest (λ x. (x < m) × Allowed f t b k c x))

-- readings 1 to n of channel c are those that some moment before k needs
abbrev pub Fewest : Cost → List ℕ → ℕ → ℕ → ℕ → ℕ → Type 0
Fewest f t b k c n = (j : ℕ) → Reading t c j → (j ≤ n) ↔ ((i : ℕ) × (i < k) × Needed f t b c j i)

-- readings above n of channel c are those that some moment from k on forbids
abbrev pub Most : Cost → List ℕ → ℕ → ℕ → ℕ → ℕ → Type 0
Most f t b k c n = (j : ℕ) → Reading t c j → (n < j) ↔ ((i : ℕ) × (k ≤ i) × Forbidden f t b c j i)

-- some count of channel c is allowed after slot k
abbrev pub SomeAllowed : Cost → List ℕ → ℕ → ℕ → ℕ → Type 0
SomeAllowed f t b k c = (x : ℕ) × Allowed f t b k c x

-- how many readings of channel c are needed by slot k where n are before it: as many as the smallest allowed count, but at least n
abbrev pub FewestBy : Cost → List ℕ → ℕ → ℕ → ℕ → ℕ → Option ℕ → Type 0
FewestBy f t b k c n r = MatchOption r (SomeAllowed f t b k c → ⊥) (λ m. (x : ℕ) × Lowest f t b k c x × (m ≡ max n x))

-- how many may stand by slot k where n may after it: as many as the greatest allowed count, but at most n
abbrev pub MostBy : Cost → List ℕ → ℕ → ℕ → ℕ → ℕ → ℕ → Type 0
MostBy f t b k c n m = (x : ℕ) × Highest f t b k c x × (m ≡ min n x)

-- place k of ns tells how many readings of channel c are needed by slot k
abbrev pub AreFewest : Cost → List ℕ → ℕ → ℕ → List ℕ → Type 0
AreFewest f t b c ns = (k : ℕ) → k ≤ sum t → Fewest f t b (k + 1) c (slice_index ns k)

-- place k of ns tells how many readings of channel c are forbidden neither by slot k nor by a later one
abbrev pub AreMost : Cost → List ℕ → ℕ → ℕ → List ℕ → Type 0
AreMost f t b c ns = (k : ℕ) → k ≤ sum t → Most f t b k c (slice_index ns k)

-- both of these of channel c
pub record AreCountLimits (f : Cost) (t : List ℕ) (b c : ℕ) (ns ms : List ℕ) : Type 0 where
  pub fewest : AreFewest f t b c ns
  pub most : AreMost f t b c ms

-- of the numbers at places 0 to m those below j come first
abbrev pub Parted : List ℕ → ℕ → ℕ → Type 0
Parted ns m j = (i k : ℕ) → i ≤ k → k ≤ m → slice_index ns k < j → slice_index ns i < j

-- and they are the first r
abbrev pub PartsAt : List ℕ → ℕ → ℕ → ℕ → Type 0
PartsAt ns m j r = (r ≤ m + 1) × ((k : ℕ) → k < r → slice_index ns k < j) × ((k : ℕ) → r ≤ k → k ≤ m → j ≤ slice_index ns k)

-- r is the first of two moments, the next one and maybe one before: neither comes before it
abbrev pub FirstOfBoth : Option Moment → Moment → Moment → Type 0
FirstOfBoth o next r =
    MatchOption o (r ≡ next)
    (λ m. ((r ≡ m) ⊎ (r ≡ next)) × (Before m.slot m.channel r.slot r.channel → ⊥) × (Before next.slot next.channel r.slot r.channel → ⊥))

-- w is the first record of ws whose window is shut, or there is none
abbrev pub FirstShutIn : List Window → Option Window → Type 0
FirstShutIn ws r =
    MatchOption r ((i : ℕ) → i < length ws → earliest_at ws i ≤ latest_at ws i)
    (λ w. (i : ℕ) × (i < length ws) × (window ws i ≡ w) × (w.latest < w.earliest) × ((h : ℕ) → h < i → earliest_at ws h ≤ latest_at ws h))
