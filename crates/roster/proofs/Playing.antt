-- A series of calls, call after call.
use Rattle.std.proofs.Common.{◌≡◌, ℕ, zero, suc, ◌+◌, ◌-◌, ◌<◌, ◌≤◌, Ok, List, [], ◌∷◌, ◌++◌, drop, length, replicate, set, sum_by, take, sym, refl, ap, ◌∙◌, subst, ⊎_elim, arith}
use Rattle.std.proofs.lemmas.Bool.{cases_eq}
use Rattle.std.proofs.lemmas.List.Sums.{sum_by_more}
use Rattle.std.proofs.lemmas.List.{drop-set-lt, get_or-set_other, get_or-set_same, length-drop, length-take-le}
use Rattle.std.proofs.lemmas.Slice.{between-put_mid, between_is, drop-put_mid, take-put_mid_below}
use Rattle.roster.proofs.Rooms.{end_within}
use Rattle.matching.proofs.Queueing.{drop_later}
use Rattle.penalty.specs.Cost.{Cost}
use Rattle.round.proofs.Counts.{sum_by_rises}
use Rattle.sequencing.specs.Memory.{Memory, memory}
use Rattle.roster.specs.Book.{after, book, next}
use Rattle.roster.specs.Series.{Reply, Right, call_at, list_of, memory_of, part_of, ready_of, reply_at, windows_of}
use Rattle.roster.specs.declared.call.Answer.TheVariants.{Done}
use Rattle.roster.specs.declared.call.Call.{Call}
use Rattle.roster.specs.declared.call.Call.TheVariants.{Add}
use Rattle.roster.specs.declared.call.Sizes.{Sizes}

-- call i is lent the part of a list from `from` to `to`: `old` is the list before the series, xs before the call, and `part`
-- what the call leaves in the part
pub record IsLent {X : Type 0} (size : Call → ℕ) (calls : List Call) (i from to : ℕ) (old xs part : List X) : Type 0 where
  pub starts : from ≡ sum_by size (take i calls)
  pub ends : to ≡ from + size (call_at calls i)
  pub room : to ≤ length xs
  pub rest : drop from xs ≡ drop from old
  pub full : length part ≡ to - from

-- it is, where the series is lent no more than there is
pub is_lent : {X : Type 0} (size : Call → ℕ) (calls : List Call) (i from to : ℕ) (old xs part : List X) → i < length calls → from ≡ sum_by size (take i calls) →
    to ≡ from + size (call_at calls i) → sum_by size calls ≤ length old → length xs ≡ length old → drop from xs ≡ drop from old →
    length part ≡ length (take (to - from) (drop from xs)) → IsLent size calls i from to old xs part
is_lent size calls i from to old xs part here starts ends enough long rest same =
    let room = end_within size calls i from to (length old) here starts ends enough in
    record {
      starts = starts;
      ends = ends;
      room = omega arith;
      rest = rest;
      full = omega (arith, same, length-take-le (to - from) (drop from xs) (omega (arith, length-drop from xs)));
    }

module _ {X : Type 0} {size : Call → ℕ} {calls : List Call} {i from to : ℕ} {old xs part : List X} (here : i < length calls) (its : IsLent size calls i from to old xs part) where
  -- the list after the call
  abbrev pub written : List X
  written = take from xs ++ (part ++ drop (to - from) (drop from xs))

  -- the part ends where the next one starts
  pub next_starts : to ≡ sum_by size (take (i + 1) calls)
  next_starts = omega (arith, its.ends, its.starts, sum_by_more size calls i (Add 0 0) here)

  -- before the call it is as it was before the series
  pub part_before : part_of size calls i old ≡ take (to - from) (drop from xs)
  part_before = rw (sym its.starts, sym next_starts) (ap (take (to - from)) (sym its.rest))

  -- after it, as the call leaves it
  pub part_after : part_of size calls i written ≡ part
  part_after = rw (sym its.starts, sym next_starts) (between-put_mid from (to - from) xs part to (omega (arith, its.ends, its.room)) its.full)

  -- the parts of the calls before are as they were
  pub part_other : (j : ℕ) → j < i → part_of size calls j written ≡ part_of size calls j xs
  part_other j before =
      let a = sum_by size (take j calls) in
      let e = sum_by size (take (j + 1) calls) in
      let upto : e ≤ from = omega (arith, its.starts, sum_by_rises size calls (j + 1) i (omega arith)) in
      between_is written a e ∙ ap (drop a) (take-put_mid_below from (to - from) xs part e upto (omega (arith, its.ends, its.room))) ∙ sym (between_is xs a e)

  -- and what comes behind is as it was before the series
  pub rest_after : drop to written ≡ drop to old
  rest_after =
      drop-put_mid from (to - from) xs part to (omega (arith, its.ends)) (omega (arith, its.ends, its.room)) its.full
      ∙ drop_later old xs from to (omega (arith, its.ends)) its.rest

-- the first i calls are made: the next one's memory starts at `start`, the replies and the memory were rs and m before the
-- series, and are rs' and m' now
pub record PlayedTo (f : Cost) (calls : List Call) (rs rs' : List Reply) (m m' : Memory) (entries : List ℕ) (i : ℕ) (start : Sizes) : Type 0 where
  pub booked : entries ≡ book (take i calls)
  pub right : (j : ℕ) → j < i → Right f (book (take j calls)) (call_at calls j) (memory_of calls j m) (memory_of calls j m') (reply_at rs' j)
  pub windows_start : start.windows ≡ sum_by windows_of (take i calls)
  pub ready_start : start.ready ≡ sum_by ready_of (take i calls)
  pub list_start : start.list ≡ sum_by list_of (take i calls)
  pub replies_rest : drop i rs' ≡ drop i rs
  pub windows_rest : drop start.windows m'.windows ≡ drop start.windows m.windows
  pub ready_rest : drop start.ready m'.ready ≡ drop start.ready m.ready
  pub list_rest : drop start.list m'.list ≡ drop start.list m.list

-- the book after one call more
pub after_more : (t : List ℕ) (calls : List Call) (i : ℕ) → i < length calls → after t (take (i + 1) calls) ≡ next (after t (take i calls)) (call_at calls i)
after_more t [] i h = absurd (omega arith)
after_more t (call ∷ calls) zero h = refl
after_more t (call ∷ calls) (suc i) h =
    let step : suc i + 1 ≡ suc (i + 1) = omega arith in
    ap (λ n. after t (take n (call ∷ calls))) step ∙ after_more (next t call) calls i (omega arith)

module _ (calls : List Call) (i : ℕ) (here : i < length calls) (start end : Sizes) (m m' part : Memory) (ws : IsLent windows_of calls i start.windows end.windows m.windows m'.windows part.windows) (rd : IsLent ready_of calls i start.ready end.ready m.ready m'.ready part.ready) (ls : IsLent list_of calls i start.list end.list m.list m'.list part.list) where
  -- the memory that call i is lent, as it stands before the call
  abbrev memory_before : Memory
  memory_before =
      memory (take (end.windows - start.windows) (drop start.windows m'.windows)) (take (end.ready - start.ready) (drop start.ready m'.ready))
      (take (end.list - start.list) (drop start.list m'.list))

  -- all memory after the call
  abbrev memory_after : Memory
  memory_after =
      memory (written here ws)
      (written here rd)
      (written here ls)

  -- one call more
  pub played_more : (f : Cost) (rs rs' : List Reply) (entries entries' : List ℕ) (reply : Reply) → PlayedTo f calls rs rs' m m' entries i start → i < length rs' →
      Right f entries (call_at calls i) memory_before part reply → entries' ≡ next entries (call_at calls i) →
      PlayedTo f calls rs (set rs' i reply) m memory_after entries' (i + 1) end
  played_more f rs rs' entries entries' reply old room right stepped =
      let Rights : ℕ → Type 0 = λ j. Right f (book (take j calls)) (call_at calls j) (memory_of calls j m) (memory_of calls j memory_after) (reply_at (set rs' i reply) j) in
      let own : Rights i =
      rw (
        part_before here ws,
        part_before here rd,
        part_before here ls,
        part_after here ws,
        part_after here rd,
        part_after here ls,
        get_or-set_same rs' i reply (Ok Done) room,
        sym old.booked,
      )
      right in
      let others : (j : ℕ) → j < i → Rights j = λ j before.
      rw (
        part_other here ws j before,
        part_other here rd j before,
        part_other here ls j before,
        get_or-set_other rs' i j reply (Ok Done) (λ e. omega arith),
      )
      (old.right j before) in
      record {
        booked = stepped ∙ ap (λ t. next t (call_at calls i)) old.booked ∙ sym (after_more (replicate 64 0) calls i here);
        right = λ j h. ⊎_elim (λ same. subst Rights (sym same) own) (λ other. others j (omega arith)) (cases_eq j i);
        windows_start = next_starts here ws;
        ready_start = next_starts here rd;
        list_start = next_starts here ls;
        replies_rest = drop-set-lt (i + 1) rs' i reply (omega arith) ∙ drop_later rs rs' i (i + 1) (omega arith) old.replies_rest;
        windows_rest = rest_after here ws;
        ready_rest = rest_after here rd;
        list_rest = rest_after here ls;
      }
