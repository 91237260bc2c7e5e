-- Open windows that are placed, and the list of their channels by slot, are the list of the rules.
use Rattle.std.proofs.Common.{◌≡◌, ℕ, ◌-◌, ◌<◌, ◌≤◌, List, length, get_or, sum, sym, refl, ◌∙◌, subst, arith}
use Rattle.matching.proofs.Blanks.{blank-blank, earliest_same, latest_same, length_same, length-blank, window-blank}
use Rattle.matching.specs.Matchings.{Placement}
use Rattle.matching.specs.Windows.{Arranged, bare, blank, channel_at, slot_at, window}
use Rattle.matching.specs.declared.window.Window.{Window}
use Rattle.penalty.specs.Cost.{Cost}
use Rattle.sequencing.specs.Sequences.{IsSequence}
use Rattle.windows.proofs.Arranged.{open_arranged}
use Rattle.windows.specs.Filling.{AreOpen, IsRecord, place_of}

-- records without slots have the same windows
open_blank : (f : Cost) (t : List ℕ) (b : ℕ) (ws : List Window) → AreOpen f t b ws → AreOpen f t b (blank ws)
open_blank f t b ws all = record {
  unblocked = all.unblocked;
  unshut = all.unshut;
  windows = record {
    long = length-blank ws ∙ all.windows.long;
    each = λ c j reading.
        let i = place_of t c j in
        let here = all.windows.each c j reading in
        let without : IsRecord f t b c j (bare (window ws i)) = record { channel = here.channel; reading = here.reading; window = here.window; slot = refl } in
        subst (IsRecord f t b c j) (sym (window-blank ws i)) without;
  };
}

module _ (bs ws : List Window) (same : blank ws ≡ blank bs) (placed : Placement ws) where
  -- the slots of a placement are slots of the round
  pub slots_in_round : Arranged bs → (i : ℕ) → i < length ws → (1 ≤ slot_at ws i) × (slot_at ws i ≤ length ws)
  slots_in_round arranged i h =
      let long : length ws ≡ length bs = length_same ws (blank bs) same ∙ length-blank bs in
      let usable = arranged.usable i (omega arith) in
      let at = placed.assigned.inside i h in
      omega (
        arith,
        usable.first,
        usable.last,
        at.0,
        at.1,
        earliest_same ws (blank bs) same i,
        earliest_same bs (blank bs) refl i,
        latest_same ws (blank bs) same i,
        latest_same bs (blank bs) refl i,
      )

  -- and with the channels in these slots there is the list of the rules
  pub sequence_made : (f : Cost) (t : List ℕ) (b : ℕ) (l : List ℕ) → AreOpen f t b bs → length l ≡ sum t →
      ((i : ℕ) → i < length ws → get_or l (slot_at ws i - 1) 0 ≡ channel_at ws i) → IsSequence f t b ws l
  sequence_made f t b l all long channels =
      record { windows = subst (AreOpen f t b) (sym same) (open_blank f t b bs all); placed = placed; long = long; channels = channels }

-- the readings of the list of the rules stand in slots of the round
pub sequence_slots : (f : Cost) (t : List ℕ) (b : ℕ) (ws : List Window) (l : List ℕ) → length t ≡ 64 → sum t ≤ 4096 → IsSequence f t b ws l →
    (i : ℕ) → i < length ws → (1 ≤ slot_at ws i) × (slot_at ws i ≤ length ws)
sequence_slots f t b ws l long few seq =
    slots_in_round (blank ws) ws (sym (blank-blank ws)) seq.placed (open_arranged f t b few long (blank ws) seq.windows)
