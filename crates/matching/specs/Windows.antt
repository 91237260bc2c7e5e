-- Windows as the matching sees them: a list of records, one for each reading, in as many slots as there are records.
use Rattle.std.specs.Prelude.{◌≡◌, ℕ, ◌+◌, ◌<◌, ◌≤◌, List, map, length, slice_index_or}
use Rattle.std.proofs.Props.{props}
use Rattle.matching.specs.declared.window.Window.{Window}

-- the record at place i, from 0
abbrev pub window : List Window → ℕ → Window
window ws i = slice_index_or ws i (record { channel = 0; reading = 0; earliest = 0; latest = 0; slot = 0 })

-- the channel that it is of
abbrev pub channel_at : List Window → ℕ → ℕ
channel_at ws i = (window ws i).channel

-- the first slot that its reading may stand in
abbrev pub earliest_at : List Window → ℕ → ℕ
earliest_at ws i = (window ws i).earliest

-- and the last one
abbrev pub latest_at : List Window → ℕ → ℕ
latest_at ws i = (window ws i).latest

-- the slot that stands in it
abbrev pub slot_at : List Window → ℕ → ℕ
slot_at ws i = (window ws i).slot

-- a record with another slot
abbrev pub with_slot : Window → ℕ → Window
with_slot w s = record { channel = w.channel; reading = w.reading; earliest = w.earliest; latest = w.latest; slot = s }

-- a record without the slot that it was given
abbrev pub bare : Window → Window
bare w = with_slot w 0

-- the records without the slots that they were given
abbrev pub blank : List Window → List Window
blank ws = map bare ws

-- a window that is not shut, of a channel up to 63, in a round of n slots
pub record Usable (n : ℕ) (w : Window) : Type 0 where
  pub channel : w.channel < 64
  pub first : 1 ≤ w.earliest
  pub opens : w.earliest ≤ w.latest
  pub last : w.latest ≤ n

-- v may stand right after u: no smaller channel, and in the same channel a greater reading and neither end smaller
pub record Follows (u v : Window) : Type 0 where
  pub channel : u.channel ≤ v.channel
  pub reading : u.channel ≡ v.channel → u.reading < v.reading
  pub earliest : u.channel ≡ v.channel → u.earliest ≤ v.earliest
  pub latest : u.channel ≡ v.channel → u.latest ≤ v.latest

-- the records as the matching takes them: at most 4096, each usable, by channel and then reading
pub record Arranged (ws : List Window) : Type 0 where
  pub few : length ws ≤ 4096
  pub usable : (i : ℕ) → i < length ws → Usable (length ws) (window ws i)
  pub follows : (i : ℕ) → i + 1 < length ws → Follows (window ws i) (window ws (i + 1))

-- records are arranged in one way at most, so that a type may say it of the records that it holds
pub Arranged-prop : (ws : List Window) → IsProp (Arranged ws)
Arranged-prop ws = Prim.hlevel props
