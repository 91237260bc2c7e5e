-- Counting the channels of a list, slot by slot.
use Rattle.std.proofs.Common.{◌≡◌, ℕ, suc, ◌+◌, ◌<◌, ◌≤◌, false, cond, eqb, List, [], ◌∷◌, length, get_or, take, set, replicate, sum, sum_by, ◌≢◌, sym, refl, ap, ◌∙◌, ⊎_elim, arith}
use Rattle.std.proofs.lemmas.List.{get_or-replicate, get_or_past, get_or-set_same, get_or-set_other, length-replicate, length-take, take_all, take-take}
use Rattle.std.proofs.lemmas.List.Sums.{count_by_more_yes, count_by_more_no, count_by-le-length, sum_by-cons, sum_by-take-le}
use Rattle.std.proofs.lemmas.Bool.{cases_eq, cases_lt, eq-eqb, ne_eqb}
use Rattle.round.specs.Lists.{readings, Channel, Complete, times, count}
use Rattle.round.specs.Walk.{Counted}

-- a slot of a channel counts one more of it
pub count_own : (l : List ℕ) (c k : ℕ) → k < length l → c ≡ get_or l k 0 → count l c (k + 1) ≡ count l c k + 1
count_own l c k h here = count_by_more_yes (eqb c) l k 0 h (eq-eqb c (get_or l k 0) here)

-- and none of another channel
pub count_other : (l : List ℕ) (c k : ℕ) → k < length l → c ≢ get_or l k 0 → count l c (k + 1) ≡ count l c k
count_other l c k h other = count_by_more_no (eqb c) l k 0 h (ne_eqb c (get_or l k 0) other)

-- a sum over the first elements never falls from place to place
pub sum_by_rises : {X : Type 0} (size : X → ℕ) (xs : List X) (j k : ℕ) → j ≤ k → sum_by size (take j xs) ≤ sum_by size (take k xs)
sum_by_rises size xs j k h =
    let part = sum_by-take-le size (take k xs) j in
    let same = ap (sum_by size) (take-take j k xs h) in
    omega arith

-- only the numbers of the table are channels
pub channel_below : (t : List ℕ) (c : ℕ) → Channel t c → c < length t
channel_below t c h =
    ⊎_elim (λ below. below) (λ past. let none = get_or_past t c 0 past in absurd (omega arith)) (cases_lt c (length t))

-- before the first slot every count is 0
pub counted_none : (n : ℕ) (l : List ℕ) → Counted (replicate n 0) l 0
counted_none n l c =
    ⊎_elim (λ h. get_or-replicate n c 0 0 h) (λ h. get_or_past (replicate n 0) c 0 (simp length-replicate h)) (cases_lt c n)

-- one slot more, in which b stands
counted_more : (counts l : List ℕ) (k b : ℕ) → k < length l → get_or l k 0 ≡ b → b < length counts →
    Counted counts l k → Counted (set counts b (get_or counts b 0 + 1)) l (k + 1)
counted_more counts l k b h here room old c =
    ⊎_elim
    (λ same.
    let eq : get_or (set counts b (get_or counts b 0 + 1)) c 0 ≡ get_or counts b 0 + 1 = rw same (get_or-set_same counts b (get_or counts b 0 + 1) 0 room) in
    let yes = count_own l c k h (same ∙ sym here) in
    let was = old c in
    let at : get_or counts c 0 ≡ get_or counts b 0 = ap (λ x. get_or counts x 0) same in
    omega arith)
    (λ other.
    let no = count_other l c k h (λ e. other (e ∙ here)) in
    get_or-set_other counts b c (get_or counts b 0 + 1) 0 other ∙ old c ∙ sym no)
    (cases_eq c b)

-- a count is at most the number of slots
count_le : (l : List ℕ) (c k : ℕ) → count l c k ≤ k
count_le l c k = let n = count_by-le-length (eqb c) (take k l) in omega (arith, length-take k l)

-- what count_slot requires: a place for the channel, and a count that still fits
count_room : (t counts l : List ℕ) (k b : ℕ) → length t ≡ 64 → Channel t b → k < 4096 → Counted counts l k → (b < 64) × (get_or counts b 0 < 4096)
count_room t counts l k b long here few old =
    let below = channel_below t b here in
    let was = old b in
    let le = count_le l b k in
    (omega arith, omega arith)

-- what is no channel does not stand in a list of channels
pub absent : (t l : List ℕ) → ((i : ℕ) → i < length l → Channel t (get_or l i 0)) → (c : ℕ) → readings t c ≡ 0 → times c l ≡ 0
absent t [] known c none = refl
absent t (x ∷ xs) known c none =
    let rest = absent t xs (λ i h. known (suc i) (omega arith)) c none in
    let here : Channel t x = known 0 (omega arith) in
    let other : eqb c x ≡ false = ne_eqb c x (λ e. let same = ap (readings t) e in omega arith) in
    let step = sum_by-cons (λ y. cond (eqb c y) 1 0) x xs in
    step ∙ rw (other, rest) refl

-- a complete list has channels only
pub complete_known : (t l : List ℕ) → Complete t l → (i : ℕ) → i < length l → Channel t (get_or l i 0)
complete_known t l whole i h =
    let b = get_or l i 0 in
    let yes = count_own l b i h refl in
    let some = sum_by-take-le (λ x. cond (eqb b x) 1 0) l (i + 1) in
    omega (arith, whole.each b)

module _ (t counts l : List ℕ) (k : ℕ) (long : length t ≡ 64) (whole : Complete t l) (inside : k < length l) (old : Counted counts l k) where
  -- the channel of the next slot can be counted
  pub next_room : k < 4096 → (get_or l k 0 < 64) × (get_or counts (get_or l k 0) 0 < 4096)
  next_room few = count_room t counts l k (get_or l k 0) long (complete_known t l whole k inside) few old

  -- and is
  pub next_counted : length counts ≡ 64 → Counted (set counts (get_or l k 0) (get_or counts (get_or l k 0) 0 + 1)) l (k + 1)
  next_counted places =
      let below = channel_below t (get_or l k 0) (complete_known t l whole k inside) in
      counted_more counts l k (get_or l k 0) inside refl (omega arith) old

-- a bound on the numbers of a table holds of every channel number, since past its end there are no readings
pub readings_bound : (t : List ℕ) (n : ℕ) → ((c : ℕ) → c < length t → readings t c ≤ n) → (c : ℕ) → readings t c ≤ n
readings_bound t n h c = ⊎_elim (λ below. h c below) (λ past. rw (get_or_past t c 0 past) (omega arith)) (cases_lt c (length t))

-- a table with readings has a channel
pub some_channel : (t : List ℕ) → 0 < sum t → (c : ℕ) × Channel t c
some_channel [] h = absurd (omega arith)
some_channel (x ∷ xs) h =
    let step = sum_by-cons (λ y. y) x xs in
    ⊎_elim (λ p. (0, p)) (λ z. let rest = some_channel xs (omega arith) in (suc rest.0, rest.1)) (cases_lt 0 x)

-- a count never falls from slot to slot
pub count_rises : (l : List ℕ) (c j k : ℕ) → j ≤ k → count l c j ≤ count l c k
count_rises l c j k h = sum_by_rises (λ x. cond (eqb c x) 1 0) l j k h

module _ (t l : List ℕ) (whole : Complete t l) where
  -- no count of a complete list passes the readings of its channel
  pub count_most : (c k : ℕ) → count l c k ≤ readings t c
  count_most c k = omega (arith, sum_by-take-le (λ x. cond (eqb c x) 1 0) l k, whole.each c)

  -- after the last slot of a complete list each channel has all its readings
  pub count_end : (c k : ℕ) → sum t ≤ k → count l c k ≡ readings t c
  count_end c k past = ap (times c) (take_all k l (omega (arith, whole.full))) ∙ whole.each c
