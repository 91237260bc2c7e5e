-- Tests that tell, of a round that is written out, which moments are blocked and what the windows are.
use Rattle.std.proofs.Common.{◌≡◌, ℕ, zero, suc, ◌-◌, ◌<◌, ◌≤◌, Bool, true, false, not, ◌&&◌, ◌||◌, leb, ltb, eqb, List, length, sum, inl, inr, subst, ⊎_elim, arith}
use Rattle.std.proofs.lemmas.Bool.{and_from, and_parts, both_ways, cases_Bool, cases_lt, eqb-true, le-leb, leb-true, ltb-true, not-true, or_cases}
use Rattle.matching.specs.Windows.{earliest_at, latest_at, window}
use Rattle.matching.specs.declared.window.Window.{Window}
use Rattle.penalty.specs.Cost.{Cost}
use Rattle.round.specs.Lists.{cost_of, readings}
use Rattle.round.proofs.Counts.{channel_below}
use Rattle.windows.specs.Allowed.{Allowed, Blocked, FirstBlocked, NoneBlocked}
use Rattle.windows.specs.Filling.{AreOpen, AreWindows, IsRecord, place_of}
use Rattle.windows.specs.Windows.{Earliest, Forbidden, Latest, Needed, Reading}
use Rattle.windows.proofs.Ends.{highest_exists, lowest_exists, some_allowed}
use Rattle.windows.proofs.Shut.{shut_none}
use Rattle.worked_bridges.proofs.Tests.{all_below, any_below, each_below, none_below, one_below}

module _ (f : Cost) (t : List ℕ) (b : ℕ) where
  -- whether count x of channel c costs at most b after slot k
  abbrev pub affordable : ℕ → ℕ → ℕ → Bool
  affordable k c x = leb (cost_of f t k c x) b

  -- whether a count of at least j is allowed
  abbrev pub allows_from : ℕ → ℕ → ℕ → Bool
  allows_from k c j = any_below (λ x. leb j x && affordable k c x) (suc (readings t c))

  -- whether a count below j is allowed, for a reading j of the channel
  abbrev pub allows_below : ℕ → ℕ → ℕ → Bool
  allows_below k c j = any_below (affordable k c) j

  -- whether no channel below n is blocked after slot k
  abbrev pub free_below : ℕ → ℕ → Bool
  free_below k n = all_below (λ c. eqb (readings t c) 0 || allows_from k c 0) n

  -- whether no moment is blocked
  abbrev pub is_free : Bool
  is_free = all_below (λ k. free_below k (length t)) (suc (sum t))

  -- whether a moment is the first that is blocked
  abbrev pub is_first_blocked : ℕ → ℕ → Bool
  is_first_blocked k c =
      leb k (sum t) && ltb 0 (readings t c) && not (allows_from k c 0) && all_below (λ j. free_below j (length t)) k && free_below k c

  -- whether a slot is the earliest of a reading
  abbrev pub is_earliest : ℕ → ℕ → ℕ → Bool
  is_earliest c j e =
      leb 1 e && leb e (suc (sum t)) && (not (allows_from (e - 1) c j) || eqb e 1) && all_below (λ k. ltb k e || allows_from k c j) (suc (sum t))

  -- whether a slot is the latest of a reading
  abbrev pub is_latest : ℕ → ℕ → ℕ → Bool
  is_latest c j l = leb l (sum t) && (not (allows_below l c j) || eqb l (sum t)) && all_below (λ k. allows_below k c j) l

  -- a count of at least j is allowed
  from_allowed : (k c j : ℕ) → allows_from k c j ≡ true → (x : ℕ) × (j ≤ x) × Allowed f t b k c x
  from_allowed k c j test =
      let found = one_below (λ x. leb j x && affordable k c x) (suc (readings t c)) test in
      let x = found.0 in
      let parts = and_parts (leb j x) (affordable k c x) found.2 in
      (x, leb-true j x parts.0, (omega (arith, found.1), leb-true (cost_of f t k c x) b parts.1))

  -- none is
  from_none : (k c j : ℕ) → allows_from k c j ≡ false → (x : ℕ) → j ≤ x → Allowed f t b k c x → ⊥
  from_none k c j test x from allowed =
      both_ways (leb j x && affordable k c x)
      (none_below (λ y. leb j y && affordable k c y) (suc (readings t c)) test x (omega (arith, allowed.0)))
      (and_from (leb j x) (affordable k c x) (le-leb j x from) (le-leb (cost_of f t k c x) b allowed.1))

  -- a count below j is allowed
  below_allowed : (k c j : ℕ) → Reading t c j → allows_below k c j ≡ true → (x : ℕ) × (x < j) × Allowed f t b k c x
  below_allowed k c j reading test =
      let found = one_below (affordable k c) j test in
      (found.0, found.1, (omega (arith, found.1, reading.1), leb-true (cost_of f t k c found.0) b found.2))

  -- none is
  below_none : (k c j : ℕ) → allows_below k c j ≡ false → (x : ℕ) → x < j → Allowed f t b k c x → ⊥
  below_none k c j test x less allowed =
      both_ways (affordable k c x) (none_below (affordable k c) j test x less) (le-leb (cost_of f t k c x) b allowed.1)

  -- the channels that pass are not blocked
  free_at : (k n : ℕ) → free_below k n ≡ true → (c : ℕ) → c < n → Blocked f t b k c → ⊥
  free_at k n test c less blocked =
      ⊎_elim
      (λ empty. let none = eqb-true (readings t c) 0 empty in omega (arith, none, blocked.moment.1))
      (λ some. let x = from_allowed k c 0 some in blocked.none x.0 x.2)
      (or_cases (eqb (readings t c) 0) (allows_from k c 0) (each_below (λ a. eqb (readings t a) 0 || allows_from k a 0) n test c less))

  -- where all pass, no moment is blocked
  pub none_blocked : is_free ≡ true → NoneBlocked f t b
  none_blocked test k c blocked =
      let here = blocked.moment in
      free_at k (length t) (each_below (λ j. free_below j (length t)) (suc (sum t)) test k (omega (arith, here.0))) c (channel_below t c here.1) blocked

  -- the moment that passes is the first blocked one
  pub first_blocked : (k c : ℕ) → is_first_blocked k c ≡ true → FirstBlocked f t b k c
  first_blocked k c test =
      let p = and_parts _ _ test in
      let q = and_parts _ _ p.0 in
      let r = and_parts _ _ q.0 in
      let s = and_parts _ _ r.0 in
      record {
        blocked = record {
          moment = (leb-true k (sum t) s.0, ltb-true 0 (readings t c) s.1);
          none = λ x. from_none k c 0 (not-true (allows_from k c 0) r.1) x (omega arith);
        };
        first = λ j a before blocked.
            ⊎_elim
            (λ earlier. free_at j (length t) (each_below (λ i. free_below i (length t)) k q.1 j earlier) a (channel_below t a blocked.moment.1) blocked)
            (λ same. free_at k c p.1 a same.1 (subst (λ i. Blocked f t b i a) same.0 blocked))
            before;
      }

  module _ (none : NoneBlocked f t b) (c j : ℕ) (reading : Reading t c j) where
    -- a slot after which a count of at least j is allowed does not forbid reading j
    not_forbidden : (k : ℕ) → allows_from k c j ≡ true → Forbidden f t b c j k → ⊥
    not_forbidden k test p =
        let x = from_allowed k c j test in
        omega (arith, x.1, p.3, p.2.greatest x.0 x.2)

    -- one after which none is does
    is_forbidden : (k : ℕ) → k ≤ sum t → allows_from k c j ≡ false → Forbidden f t b c j k
    is_forbidden k inside test =
        let some = some_allowed f t b k c (inside, omega (arith, reading.0, reading.1)) (none k c) in
        let high = highest_exists f t b k c some.0 some.1 in
        (inside, high.0, high.1, ⊎_elim (λ less. less) (λ ge. absurd (from_none k c j test high.0 ge high.1.holds)) (cases_lt high.0 j))

    -- a slot by which a count below j is allowed does not need reading j
    not_needed : (k : ℕ) → allows_below k c j ≡ true → Needed f t b c j k → ⊥
    not_needed k test p =
        let x = below_allowed k c j reading test in
        omega (arith, x.1, p.3, p.2.least x.0 x.2)

    -- one by which none is does
    is_needed : (k : ℕ) → k ≤ sum t → allows_below k c j ≡ false → Needed f t b c j k
    is_needed k inside test =
        let some = some_allowed f t b k c (inside, omega (arith, reading.0, reading.1)) (none k c) in
        let low = lowest_exists f t b k c some.0 some.1 in
        (inside, low.0, low.1, ⊎_elim (λ less. absurd (below_none k c j test low.0 less low.1.holds)) (λ ge. ge) (cases_lt low.0 j))

    -- what passes is the earliest slot
    earliest_is : (e : ℕ) → is_earliest c j e ≡ true → Earliest f t b c j e
    earliest_is e test =
        let p = and_parts _ _ test in
        let q = and_parts _ _ p.0 in
        let r = and_parts _ _ q.0 in
        let from = leb-true 1 e r.0 in
        let upto = leb-true e (suc (sum t)) r.1 in
        let later : (k : ℕ) → e ≤ k → Forbidden f t b c j k → ⊥ = λ k ge h.
        ⊎_elim
        (λ less. let before = ltb-true k e less in omega (arith, before))
        (λ allowed. not_forbidden k allowed h)
        (or_cases (ltb k e) (allows_from k c j) (each_below (λ i. ltb i e || allows_from i c j) (suc (sum t)) p.1 k (omega (arith, h.0)))) in
        ⊎_elim
        (λ allowed.
        let first : e ≡ 1 = ⊎_elim
        (λ not. absurd (both_ways (allows_from (e - 1) c j) (not-true (allows_from (e - 1) c j) not) allowed))
        (λ same. eqb-true e 1 same)
        (or_cases (not (allows_from (e - 1) c j)) (eqb e 1) q.1) in
        inr (first, λ k h. ⊎_elim (λ less. not_forbidden k (subst (λ i. allows_from i c j ≡ true) (omega arith) allowed) h) (λ ge. later k ge h) (cases_lt k e)))
        (λ forbids.
        inl (
          e - 1,
          omega arith,
          record {
            holds = is_forbidden (e - 1) (omega arith) forbids;
            greatest = λ k h. ⊎_elim (λ less. omega arith) (λ ge. absurd (later k ge h)) (cases_lt k e);
          },
        ))
        (cases_Bool (allows_from (e - 1) c j))

    -- what passes is the latest slot
    latest_is : (l : ℕ) → is_latest c j l ≡ true → Latest f t b c j l
    latest_is l test =
        let p = and_parts _ _ test in
        let q = and_parts _ _ p.0 in
        let inside = leb-true l (sum t) q.0 in
        let earlier : (k : ℕ) → k < l → Needed f t b c j k → ⊥ = λ k less. not_needed k (each_below (λ i. allows_below i c j) l p.1 k less) in
        ⊎_elim
        (λ allowed.
        let last : l ≡ sum t = ⊎_elim
        (λ not. absurd (both_ways (allows_below l c j) (not-true (allows_below l c j) not) allowed))
        (λ same. eqb-true l (sum t) same)
        (or_cases (not (allows_below l c j)) (eqb l (sum t)) q.1) in
        inr (last, λ k h. ⊎_elim (λ less. earlier k less h) (λ ge. not_needed l allowed (subst (Needed f t b c j) (omega (arith, h.0)) h)) (cases_lt k l)))
        (λ needs.
        inl (record {
          holds = is_needed l inside needs;
          least = λ k h. ⊎_elim (λ less. absurd (earlier k less h)) (λ ge. ge) (cases_lt k l);
        }))
        (cases_Bool (allows_below l c j))

  -- whether a record is that of a reading, with its window
  abbrev pub is_record : ℕ → ℕ → Window → Bool
  is_record c j w = eqb w.channel c && eqb w.reading j && eqb w.slot 0 && is_earliest c j w.earliest && is_latest c j w.latest

  -- whether no moment is blocked, and the records are those of all readings, with open windows
  abbrev pub are_open : List Window → Bool
  are_open ws =
      is_free && eqb (length ws) (sum t) && all_below (λ i. leb (earliest_at ws i) (latest_at ws i)) (length ws)
      && all_below (λ c. all_below (λ i. is_record c (suc i) (window ws (place_of t c (suc i)))) (readings t c)) (length t)

  -- the record that passes is that of its reading
  record_is : NoneBlocked f t b → (c j : ℕ) → Reading t c j → (w : Window) → is_record c j w ≡ true → IsRecord f t b c j w
  record_is none c j reading w test =
      let p = and_parts _ _ test in
      let q = and_parts _ _ p.0 in
      let r = and_parts _ _ q.0 in
      let s = and_parts _ _ r.0 in
      record {
        channel = eqb-true w.channel c s.0;
        reading = eqb-true w.reading j s.1;
        window = (earliest_is none c j reading w.earliest q.1, latest_is none c j reading w.latest p.1);
        slot = eqb-true w.slot 0 r.1;
      }

  -- each reading has its record in its place
  record_at : NoneBlocked f t b → (ws : List Window) → all_below (λ c. all_below (λ i. is_record c (suc i) (window ws (place_of t c (suc i)))) (readings t c)) (length t) ≡ true →
      (c j : ℕ) → Reading t c j → IsRecord f t b c j (window ws (place_of t c j))
  record_at none ws test c zero reading = absurd (omega (arith, reading.0))
  record_at none ws test c (suc i) reading =
      let here = each_below (λ a. all_below (λ i. is_record a (suc i) (window ws (place_of t a (suc i)))) (readings t a)) (length t) test c (channel_below t c (omega (arith, reading.1))) in
      record_is none c (suc i) reading (window ws (place_of t c (suc i)))
      (each_below (λ i. is_record c (suc i) (window ws (place_of t c (suc i)))) (readings t c) here i (omega (arith, reading.1)))

  -- the records that pass are the windows, and all of them are open
  pub open_windows : (ws : List Window) → are_open ws ≡ true → AreOpen f t b ws
  open_windows ws test =
      let p = and_parts _ _ test in
      let q = and_parts _ _ p.0 in
      let r = and_parts _ _ q.0 in
      let none = none_blocked r.0 in
      let each : (c j : ℕ) → Reading t c j → IsRecord f t b c j (window ws (place_of t c j)) = λ c j reading. record_at none ws p.1 c j reading in
      let all : AreWindows f t b ws = record { long = eqb-true (length ws) (sum t) r.1; each = each } in
      record {
        unblocked = none;
        unshut = shut_none f t b ws all (λ i h. leb-true _ _ (each_below (λ k. leb (earliest_at ws k) (latest_at ws k)) (length ws) q.1 i h));
        windows = all;
      }
