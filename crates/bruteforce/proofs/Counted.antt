-- When a list is complete.
use Rattle.std.proofs.Common.{◌≡◌, ℕ, ◌<◌, List, length, sum, sym, ap, ◌∙◌, ⊎_elim, arith}
use Rattle.std.specs.List.{All}
use Rattle.std.proofs.lemmas.Bool.{cases_lt}
use Rattle.std.proofs.lemmas.List.{get_or_past, take_all}
use Rattle.round.specs.Lists.{Channel, Complete, count, readings, times}
use Rattle.round.proofs.Counts.{absent, count_end}

-- it is where it has as many slots as there are readings, channels only, and each channel number as often as the table says
pub complete_from : (t l : List ℕ) → length t ≡ 64 → length l ≡ sum t → All (Channel t) l → ((c : ℕ) → c < 64 → count l c (sum t) ≡ readings t c) → Complete t l
complete_from t l long full known each = record {
  full = full;
  each = λ c.
      ⊎_elim
      (λ below. sym (ap (times c) (take_all (sum t) l (omega arith))) ∙ each c below)
      (λ past. let none : readings t c ≡ 0 = get_or_past t c 0 (omega arith) in absent t l (λ i h. known i 0 h) c none ∙ sym none)
      (cases_lt c 64);
}

-- and then it has each of them so
pub complete_each : (t l : List ℕ) → Complete t l → (c : ℕ) → c < 64 → count l c (sum t) ≡ readings t c
complete_each t l whole c below = count_end t l whole c (sum t) (omega arith)
