-- What list and best answer of a round that is written out, by tests that the checker computes.
use Rattle.std.proofs.Common.{◌≡◌, ℕ, ◌-◌, ◌<◌, Bool, true, ◌&&◌, leb, ltb, eqb, List, length, get_or, sum, count_by, nat_lt, Option, refl, arith}
use Rattle.std.proofs.lemmas.Bool.{and_parts, eqb-true, leb-true, ltb-true}
use Rattle.matching.specs.Windows.{blank, channel_at, slot_at}
use Rattle.matching.proofs.Blanks.{length-blank}
use Rattle.matching.specs.declared.window.Window.{Window}
use Rattle.penalty.specs.Cost.{Capped, Cost, Valley, top}
use Rattle.round.proofs.Counts.{some_channel}
use Rattle.round.specs.Lists.{Channel, LargestCost, cost_at, readings}
use Rattle.sequencing.specs.Answers.{IsBelow}
use Rattle.sequencing.specs.Sequences.{IsBlock, IsSequence}
use Rattle.sequencing.specs.declared.answer.Best.{Best}
use Rattle.sequencing.specs.declared.answer.Block.{Block}
use Rattle.sequencing.specs.Outcomes.{IsBelowTop}
use Rattle.sequencing.specs.declared.answer.Listed.TheVariants.{Over, Within}
use Rattle.sequencing.specs.declared.answer.Outcome.{Outcome}
use Rattle.sequencing.specs.declared.answer.Outcome.TheVariants.{Least, NoLeast}
use Rattle.sequencing.proofs.Answering.{best_from, least_list, listed_from, shows_exactly, shows_none, some_counted}
use Rattle.sequencing.proofs.Standing.{sequence_complete, sequence_within}
use Rattle.worked_bridges.specs.Answers.{Finds, FindsNone, FindsLeast, FindsNoLeast}
use Rattle.worked_bridges.proofs.Slots.{is_placement, placement_is}
use Rattle.worked_bridges.proofs.Tests.{all_below, each_below}
use Rattle.worked_bridges.proofs.Windows.{are_open, open_windows}

module _ (f : Cost) (t : List ℕ) where
  -- whether l is the list of the rules at bound b, and ws are the windows with their slots
  abbrev pub is_sequence : ℕ → List Window → List ℕ → Bool
  is_sequence b ws l =
      are_open f t b (blank ws) && is_placement ws && eqb (length l) (sum t)
      && all_below (λ i. eqb (get_or l (slot_at ws i - 1) 0) (channel_at ws i)) (length ws)

  -- what passes is
  pub sequence_is : (b : ℕ) (ws : List Window) (l : List ℕ) → is_sequence b ws l ≡ true → IsSequence f t b ws l
  sequence_is b ws l test =
      let p = and_parts _ _ test in
      let q = and_parts _ _ p.0 in
      let r = and_parts _ _ q.0 in
      record {
        windows = open_windows f t b (blank ws) r.0;
        placed = placement_is ws r.1;
        long = eqb-true (length l) (sum t) q.1;
        channels = λ i h. eqb-true _ _ (each_below (λ i. eqb (get_or l (slot_at ws i - 1) 0) (channel_at ws i)) (length ws) p.1 i h);
      }

  -- there are as many windows as slots
  as_many : (b : ℕ) (ws : List Window) (l : List ℕ) → IsSequence f t b ws l → length ws ≡ sum t
  as_many b ws l made = omega (arith, length-blank ws, made.windows.windows.long)

  -- at a bound at which a list passes, list finds it
  pub finds : Valley f → (b : ℕ) (ws : List Window) (l : List ℕ) → is_sequence b ws l ≡ true → Finds f t b ws l
  finds valley b ws l test m =
      let made = sequence_is b ws l test in
      listed_from t m.windows ws m.ready m.ready m.list l (as_many b ws l made) made.long refl f b Within
      (sequence_complete f t b ws l made, sequence_within f t b ws l made valley, made)

  -- at a bound that has a block, list finds none
  pub finds_none : (b : ℕ) (block : Block) → IsBlock f t b block → FindsNone f t b block
  finds_none b block shown m = record {
    exactly = shows_exactly f t b m.windows m.list (Over block) shown;
    shown = shown;
    rest = record { windows = refl; ready = refl; list = refl };
  }

  -- whether the round has readings and channels, and no more than the rules allow
  abbrev pub is_round : Bool
  is_round = ltb 0 (sum t) && leb (sum t) 4096 && leb (count_by (nat_lt 0) t) 64

  -- an outcome with the readings and the channels of the round
  abbrev best_with : is_round ≡ true → (outcome : Outcome) → IsBelowTop outcome → Best
  best_with test outcome below =
      let p = and_parts _ _ test in
      let q = and_parts _ _ p.0 in
      record {
        total = sum t;
        channels = count_by (nat_lt 0) t;
        outcome = outcome;
        some = ltb-true 0 (sum t) q.0;
        few = leb-true (sum t) 4096 q.1;
        some_channel = some_counted t (ltb-true 0 (sum t) q.0);
        few_channels = leb-true (count_by (nat_lt 0) t) 64 p.1;
        below_top = below;
      }

  -- then there is a channel
  round_channel : is_round ≡ true → (c : ℕ) × Channel t c
  round_channel test = some_channel t (ltb-true 0 (sum t) (and_parts _ _ (and_parts _ _ test).0).0)

  -- whether a moment of list l costs n
  abbrev pub is_attained : List ℕ → ℕ → ℕ → ℕ → Bool
  is_attained l n k c = leb k (sum t) && ltb 0 (readings t c) && eqb (cost_at f t l k c) n

  module _ (sound : is_round ≡ true) (capped : Capped f) where
    -- the least is a bound at which a list passes that attains it, where the bound below has a block
    pub finds_least : Valley f → (n : ℕ) (ws : List Window) (l : List ℕ) (below : Option Block) → n < top → is_sequence n ws l ≡ true →
        (k c : ℕ) → is_attained l n k c ≡ true → IsBelow f t n below → FindsLeast f t n ws l below
    finds_least valley n ws l below small test k c attained blocked =
        let made = sequence_is n ws l test in
        let p = and_parts _ _ attained in
        let q = and_parts _ _ p.0 in
        let some = round_channel sound in
        let largest : LargestCost f t l n = record {
          within = sequence_within f t n ws l made valley;
          attained = (k, c, (leb-true k (sum t) q.0, ltb-true 0 (readings t c) q.1), eqb-true (cost_at f t l k c) n p.1);
        } in
        let shown = least_list f t n below ws l capped valley some (small, (l, sequence_complete f t n ws l made, largest), blocked) made in
        let a = best_with sound (Least n below) small in
        (a, refl, λ m. best_from t m.windows ws m.ready m.ready m.list l (as_many n ws l made) made.long refl f a capped some refl refl shown)

    -- there is none where the bound one below the forbidden cost has a block
    pub finds_no_least : (block : Block) → IsBlock f t (top - 1) block → FindsNoLeast f t block
    finds_no_least block blocked = (
      best_with sound (NoLeast block) tt,
      refl,
      λ m. record {
        total = refl;
        channels = refl;
        none = shows_none f t m.windows m.list (NoLeast block) capped (round_channel sound) blocked;
        shown = blocked;
        rest = record { windows = refl; ready = refl; list = refl };
      },
    )
