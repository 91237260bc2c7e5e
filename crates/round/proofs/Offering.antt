-- The moments of a list, one after another, and that the dearest of them are one list.
use Rattle.std.proofs.Common.{◌≡◌, ℕ, ◌+◌, ◌<◌, cond, List, [], ◌∷◌, ◌++◌, map, append_assoc, sym, refl, ap, subst, ◌∙◌, arith}
use Rattle.std.specs.Prelude.{filter, flat_map, nat_lt}
use Rattle.std.specs.List.{range_with_len}
use Rattle.std.proofs.lemmas.Bool.{lt-ltb}
use Rattle.std.proofs.lemmas.List.{append-nil, map-append, map-id}
use Rattle.std.proofs.lemmas.List.Concat.{flat_map-append}
use Rattle.std.proofs.lemmas.List.FromFn.{map-range_with_len_more}
use Rattle.std.proofs.lemmas.List.Elements.{filter-append}
use Rattle.heap.proofs.Leaving.{leave_as_one}
use Rattle.heap.specs.Heaps.{AreLast}
use Rattle.penalty.specs.Cost.{Cost}
use Rattle.round.specs.Dearest.{DearestAreOne, channels_to, costed, moments, moments_at, moments_to, no_dearer}
use Rattle.round.specs.Lists.{readings}
use Rattle.round.specs.Order.{one_way, total}
use Rattle.round.specs.declared.costed_moment.CostedMoment.{CostedMoment}

-- one number more
range_more : (n : ℕ) → range_with_len 0 (n + 1) ≡ range_with_len 0 n ++ n ∷ []
range_more n =
    sym (map-id (range_with_len 0 (n + 1))) ∙ map-range_with_len_more (λ x. x) 0 n n (omega arith)
    ∙ ap (λ r. r ++ n ∷ []) (map-id (range_with_len 0 n))

module _ (t : List ℕ) (n : ℕ) where
  -- one channel number more
  channels_next : channels_to t (n + 1) ≡ channels_to t n ++ cond (nat_lt 0 (readings t n)) (n ∷ []) []
  channels_next = ap (filter (λ c. nat_lt 0 (readings t c))) (range_more n) ∙ filter-append (λ c. nat_lt 0 (readings t c)) (range_with_len 0 n) (n ∷ [])

  -- one channel more
  pub channels_more : 0 < readings t n → channels_to t (n + 1) ≡ channels_to t n ++ n ∷ []
  channels_more some = channels_next ∙ rw (lt-ltb 0 (readings t n) some) refl

  -- a number that is no channel
  pub channels_same : readings t n ≡ 0 → channels_to t (n + 1) ≡ channels_to t n
  channels_same none = channels_next ∙ rw none (append-nil (channels_to t n))

-- one slot more
moments_more : (f : Cost) (t l : List ℕ) (n : ℕ) → moments_to f t l (n + 1) ≡ moments_to f t l n ++ moments_at f t l n
moments_more f t l n =
    ap (flat_map (moments_at f t l)) (range_more n) ∙ flat_map-append (moments_at f t l) (range_with_len 0 n) (n ∷ [])
    ∙ ap (λ ms. moments_to f t l n ++ ms) (append-nil (moments_at f t l n))

-- one moment more at a slot
pub moment_more : (f : Cost) (t l : List ℕ) (k n : ℕ) (before : List CostedMoment) → 0 < readings t n →
    before ++ map (costed f t l k) (channels_to t (n + 1)) ≡ (before ++ map (costed f t l k) (channels_to t n)) ++ costed f t l k n ∷ []
moment_more f t l k n before some =
    ap (λ cs. before ++ map (costed f t l k) cs) (channels_more t n some)
    ∙ ap (λ ms. before ++ ms) (map-append (costed f t l k) (channels_to t n) (n ∷ []))
    ∙ sym (append_assoc before (map (costed f t l k) (channels_to t n)) (costed f t l k n ∷ []))

-- what is kept of the moments up to a slot and of those at it
pub slot_offered : (f : Cost) (t l : List ℕ) (k slot n places : ℕ) (xs : List CostedMoment) → slot ≡ k → n ≡ places →
    AreLast no_dearer (moments_to f t l k ++ moments_at f t l slot) n xs → AreLast no_dearer (moments_to f t l (k + 1)) places xs
slot_offered f t l k slot n places xs same many kept =
    let at : moments_to f t l k ++ moments_at f t l slot ≡ moments_to f t l (k + 1) =
    ap (λ s. moments_to f t l k ++ moments_at f t l s) same ∙ sym (moments_more f t l k) in
    let here = subst (λ (ms : List CostedMoment). AreLast no_dearer ms n xs) at kept in
    subst (λ (p : ℕ). AreLast no_dearer (moments_to f t l (k + 1)) p xs) many here

-- the dearest n moments leave every heap that keeps them as one list
pub dearest_are_one : (f : Cost) (t l : List ℕ) (n : ℕ) → DearestAreOne f t l n
dearest_are_one f t l n us vs first second =
    leave_as_one no_dearer total one_way (moments f t l) n first.0 second.0 us vs first.1 second.1 first.2 second.2
