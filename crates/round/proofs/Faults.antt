-- Which refusal is reported: a fault that is there, once every check before it has passed.
use Rattle.std.proofs.Common.{◌≡◌, ℕ, All, Ok, Err, Result, IsOk, ◌+◌, ◌<◌, ◌≤◌, ◌≢◌, List, length, get_or, sum, sym, refl, ◌∙◌, ⊎_elim, arith}
use Rattle.std.proofs.lemmas.List.Sums.{get_or-le-sum_by}
use Rattle.std.proofs.lemmas.Bool.{cases_eq}
use Rattle.penalty.specs.Cost.{Cost}
use Rattle.round.specs.Audit.{Audited}
use Rattle.round.specs.declared.costed_moment.CostedMoment.{CostedMoment}
use Rattle.round.specs.Lists.{readings, Channel, Complete, Sound, times}
use Rattle.round.proofs.Counts.{absent, channel_below, complete_known, readings_bound, some_channel}
use Rattle.round.specs.Refusals.{Fault, Refused, RowRefused, number, value, turn}
use Rattle.round.specs.declared.refusal.Refusal.{Refusal}
use Rattle.round.specs.declared.refusal.Refusal.TheVariants.{RowLength, ReadingsAboveLimit, TotalAboveLimit, NoChannel, ListLength, NotAChannel, WrongCount}

-- the checks that come before turn n have passed; that of turn 16 is the last, so none comes after it
pub record Passed (t l : List ℕ) (n : ℕ) : Type 0 where
  pub long : 0 < n → length t ≡ 64
  pub small : 2 < n → (c : ℕ) → readings t c ≤ 4096
  pub few : 5 < n → sum t ≤ 4096
  pub some : 6 < n → (c : ℕ) × Channel t c
  pub full : 14 < n → length l ≡ sum t
  pub known : 15 < n → (i : ℕ) → i < length l → Channel t (get_or l i 0)

-- then there is no fault before turn n
no_fault : (t l : List ℕ) (n : ℕ) → n ≤ 16 → Passed t l n → (s : Refusal) → turn (number s) < n → Fault t l s → ⊥
no_fault t l n h p RowLength less f = f (p.long less)
no_fault t l n h p ReadingsAboveLimit less f = let q = p.small less f.0 in omega (arith, f.1)
no_fault t l n h p TotalAboveLimit less f = omega (arith, p.few less)
no_fault t l n h p NoChannel less f = let some = p.some less in f some.0 some.1
no_fault t l n h p ListLength less f = f (p.full less)
no_fault t l n h p (NotAChannel slot) less f = let q = p.known less f.0 f.2 in omega (arith, f.3)
no_fault t l n h p (WrongCount channel) less f = omega arith

-- a fault that is there is reported, where the checks before it have passed and none of its number has a smaller value
refused : (t l : List ℕ) (e : Refusal) → turn (number e) ≤ 16 → Passed t l (turn (number e)) → Fault t l e →
    ((s : Refusal) → number s ≡ number e → value s < value e → Fault t l s → ⊥) → Refused t l e
refused t l e h p f least = record {
  fault = f;
  first = λ s so g. ⊎_elim (λ less. no_fault t l (turn (number e)) h p s less g) (λ same. least s same.0 same.1 g) so;
}

-- refusal 5, of a row
pub total_above : (t : List ℕ) → length t ≡ 64 → All (λ n. n ≤ 4096) t → 4096 < sum t → RowRefused t TotalAboveLimit
total_above t long small above = record {
  row = omega arith;
  refused = λ l.
      refused t l TotalAboveLimit (omega arith)
      (record {
        long = λ _. long;
        small = λ _. readings_bound t 4096 (λ c below. small c 0 below);
        few = λ h. absurd (omega arith);
        some = λ h. absurd (omega arith);
        full = λ h. absurd (omega arith);
        known = λ h. absurd (omega arith);
      })
      above
      (λ s _ less _. omega arith);
}

module _ (t l : List ℕ) (long : length t ≡ 64) (few : sum t ≤ 4096) where
  -- a table has passed the checks of a row
  passed : (n : ℕ) → (6 < n → (c : ℕ) × Channel t c) → (14 < n → length l ≡ sum t) → (15 < n → (i : ℕ) → i < length l → Channel t (get_or l i 0)) → Passed t l n
  passed n some full known = record {
    long = λ _. long;
    small = λ _. readings_bound t 4096 (λ c below. let le = get_or-le-sum_by (λ x. x) t c 0 below in omega arith);
    few = λ _. few;
    some = some;
    full = full;
    known = known;
  }

  module _ (some : 0 < sum t) where
    -- refusal 14
    pub wrong_length : length l ≢ sum t → Refused t l ListLength
    wrong_length other =
        refused t l ListLength (omega arith) (passed 14 (λ _. some_channel t some) (λ h. absurd (omega arith)) (λ h. absurd (omega arith))) other
        (λ s _ less _. omega arith)

    module _ (full : length l ≡ sum t) where
      -- refusal 15
      pub not_a_channel : (i : ℕ) → i < length l → readings t (get_or l i 0) ≡ 0 → ((j : ℕ) → j < i → Channel t (get_or l j 0)) → Refused t l (NotAChannel (i + 1))
      not_a_channel i here none before =
          refused t l (NotAChannel (i + 1)) (omega arith) (passed 15 (λ _. some_channel t some) (λ _. full) (λ h. absurd (omega arith))) (i, refl, here, none) least
        where
          least : (s : Refusal) → number s ≡ 15 → value s < i + 1 → Fault t l s → ⊥
          least RowLength same less f = omega arith
          least ReadingsAboveLimit same less f = omega arith
          least TotalAboveLimit same less f = omega arith
          least NoChannel same less f = omega arith
          least ListLength same less f = omega arith
          least (NotAChannel slot) same less f = let q = before f.0 (omega (arith, f.1)) in omega (arith, f.3)
          least (WrongCount channel) same less f = omega arith

      -- refusal 16
      pub wrong_count : ((i : ℕ) → i < length l → Channel t (get_or l i 0)) → (c : ℕ) → times c l ≢ readings t c →
          ((b : ℕ) → b < c → times b l ≡ readings t b) → Refused t l (WrongCount c)
      wrong_count known c other before =
          refused t l (WrongCount c) (omega arith) (passed 16 (λ _. some_channel t some) (λ _. full) (λ _. known)) (here, other) least
        where
          here : Channel t c
          here = ⊎_elim (λ none. absurd (other (absent t l known c none ∙ sym none))) (λ not. omega arith) (cases_eq (readings t c) 0)

          least : (s : Refusal) → number s ≡ 16 → value s < c → Fault t l s → ⊥
          least RowLength same less f = omega arith
          least ReadingsAboveLimit same less f = omega arith
          least TotalAboveLimit same less f = omega arith
          least NoChannel same less f = omega arith
          least ListLength same less f = omega arith
          least (NotAChannel slot) same less f = omega arith
          least (WrongCount channel) same less f = f.1 (before channel less)

-- a complete list of a table with a channel is not refused
pub sound_complete : (t l : List ℕ) (e : Refusal) → Sound t → Complete t l → Refused t l e → ⊥
sound_complete t l RowLength sound whole r = r.fault sound.long
sound_complete t l ReadingsAboveLimit sound whole r =
    let below = channel_below t r.fault.0 (omega (arith, r.fault.1)) in
    omega (arith, get_or-le-sum_by (λ x. x) t r.fault.0 0 below, r.fault.1, sound.few)
sound_complete t l TotalAboveLimit sound whole r = omega (arith, r.fault, sound.few)
sound_complete t l NoChannel sound whole r = r.fault sound.some.0 sound.some.1
sound_complete t l ListLength sound whole r = r.fault whole.full
sound_complete t l (NotAChannel slot) sound whole r = omega (arith, complete_known t l whole r.fault.0 r.fault.2, r.fault.3)
sound_complete t l (WrongCount channel) sound whole r = r.fault.1 (whole.each channel)

-- so its audit has an answer
pub audited_ok : (f : Cost) (t l : List ℕ) → Sound t → Complete t l → (r : Result CostedMoment Refusal) → Audited f t l r → IsOk r
audited_ok f t l sound whole (Ok r) audited = refl
audited_ok f t l sound whole (Err e) audited = absurd (sound_complete t l e sound whole audited)
