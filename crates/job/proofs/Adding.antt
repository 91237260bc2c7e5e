-- The adds of a table's channels, channel after channel.
use Rattle.std.proofs.Common.{rules, ◌≡◌, ℕ, zero, suc, ◌+◌, ◌-◌, ◌<◌, ◌≤◌, List, [], ◌∷◌, Ok, drop, get_or, length, replicate, set, sum, sum_by, take, sym, refl, ap, ◌∙◌, arith}
use Rattle.std.proofs.lemmas.List.Sums.{sum_by-cons, sum_by_more}
use Rattle.std.proofs.Math.Seq.{take-length}
use Rattle.std.proofs.lemmas.List.{drop-set-lt, get_or_default, get_or-drop, get_or-replicate, get_or-set_same, get_or-take, length-set, length-take-le, set-get_or, take-set, take-take}
use Rattle.std.specs.List.{between}
use Rattle.matching.proofs.Queueing.{drop_later}
use Rattle.round.specs.Lists.{readings}
use Rattle.roster.proofs.Playing.{after_more}
use Rattle.job.specs.Adds.{AreAdds}
use Rattle.penalty.specs.Cost.{Cost}
use Rattle.roster.specs.Book.{book, lengths, lent_of, next, refused}
use Rattle.roster.specs.Series.{IsEnough, IsPlayed, Reply, Right, call_at, list_of, memory_of, part_of, ready_of, reply_at, windows_of}
use Rattle.sequencing.specs.Memory.{Memory}
use Rattle.roster.specs.declared.call.Answer.TheVariants.{Done}
use Rattle.roster.specs.declared.call.Call.{Call}
use Rattle.roster.specs.declared.call.Call.TheVariants.{Add}

-- a table with 0 from entry c on
abbrev pub prefix : List ℕ → ℕ → List ℕ
prefix [] c = []
prefix (x ∷ xs) zero = 0 ∷ prefix xs zero
prefix (x ∷ xs) (suc c) = x ∷ prefix xs c

-- with every entry 0 it is a table without a channel
prefix_none : (t : List ℕ) → prefix t 0 ≡ replicate (length t) 0
prefix_none [] = refl
prefix_none (x ∷ xs) = ap (λ ys. 0 ∷ ys) (prefix_none xs)

-- with no entry 0 it is the table
prefix_all : (t : List ℕ) → prefix t (length t) ≡ t
prefix_all [] = refl
prefix_all (x ∷ xs) = ap (λ ys. x ∷ ys) (prefix_all xs)

-- a table without a channel has no sum
prefix_no_sum : (t : List ℕ) → sum (prefix t 0) ≡ 0
prefix_no_sum [] = refl
prefix_no_sum (x ∷ xs) = prefix_no_sum xs

-- one entry more
prefix_more : (t : List ℕ) (c : ℕ) → set (prefix t c) c (readings t c) ≡ prefix t (c + 1)
prefix_more [] c = refl
prefix_more (x ∷ xs) zero = refl
prefix_more (x ∷ xs) (suc c) =
    let step : suc (c + 1) ≡ suc c + 1 = omega arith in
    ap (λ ys. x ∷ ys) (prefix_more xs c) ∙ ap (prefix (x ∷ xs)) step

-- the entry that comes next is 0 before
prefix_next : (t : List ℕ) (c : ℕ) → readings (prefix t c) c ≡ 0
prefix_next [] c = refl
prefix_next (x ∷ xs) zero = refl
prefix_next (x ∷ xs) (suc c) = prefix_next xs c

-- with it the sum is no more than that of the table
prefix_sum : (t : List ℕ) (c : ℕ) → sum (prefix t c) + readings t c ≤ sum t
prefix_sum [] c = omega arith
prefix_sum (x ∷ xs) zero = omega (arith, prefix_no_sum (x ∷ xs), sum_by-cons (λ n. n) x xs)
prefix_sum (x ∷ xs) (suc c) = omega (arith, prefix_sum xs c, sum_by-cons (λ n. n) x xs, sum_by-cons (λ n. n) x (prefix xs c))

-- the first n calls are the adds of the channels below c of the table t, and are lent no memory
pub record AddsTo (t : List ℕ) (old calls : List Call) (c n : ℕ) : Type 0 where
  pub few : n ≤ c
  pub booked : book (take n calls) ≡ prefix t c
  pub no_windows : sum_by windows_of (take n calls) ≡ 0
  pub no_ready : sum_by ready_of (take n calls) ≡ 0
  pub no_list : sum_by list_of (take n calls) ≡ 0
  pub rest : drop n calls ≡ drop n old

-- what an add enters in the book of the channels before
next_added : (t : List ℕ) (c d : ℕ) → sum t ≤ 4096 → c < 64 → d ≡ readings t c → 0 < d → next (prefix t c) (Add c d) ≡ prefix t (c + 1)
next_added t c d few here is some =
    let zero_there = prefix_next t c in
    let total = prefix_sum t c in
    let more = prefix_more t c in
    let accepted : refused (prefix t c) (Add c d) ≡ 0 = search rules in
    rw accepted (rw is more)

-- a call that is lent none of a kind adds nothing to what the calls are lent
none_more : (size : Call → ℕ) (calls : List Call) (n : ℕ) → n < length calls → sum_by size (take n calls) ≡ 0 → size (call_at calls n) ≡ 0 →
    sum_by size (take (n + 1) calls) ≡ 0
none_more size calls n here before own = omega (arith, sum_by_more size calls n (Add 0 0) here)

module _ (t : List ℕ) (old calls : List Call) (c n : ℕ) (was : AddsTo t old calls c n) (here : c < 64) where
  -- a channel number without readings has no add
  pub adds_same : readings t c ≡ 0 → AddsTo t old calls (c + 1) n
  adds_same none =
      let kept : prefix t c ≡ prefix t (c + 1) = sym (set-get_or (prefix t c) c 0) ∙ ap (set (prefix t c) c) (prefix_next t c ∙ sym none) ∙ prefix_more t c in
      record {
        few = omega (arith, was.few);
        booked = was.booked ∙ kept;
        no_windows = was.no_windows;
        no_ready = was.no_ready;
        no_list = was.no_list;
        rest = was.rest;
      }

  -- a channel has one
  pub adds_more : (d : ℕ) → sum t ≤ 4096 → d ≡ readings t c → 0 < d → n < length calls → AddsTo t old (set calls n (Add c d)) (c + 1) (n + 1)
  adds_more d few is some room =
      let calls' = set calls n (Add c d) in
      let at : call_at calls' n ≡ Add c d = get_or-set_same calls n (Add c d) (Add 0 0) room in
      let before : take n calls' ≡ take n calls = take-set calls n (Add c d) in
      let room' : n < length calls' = rw (length-set calls n (Add c d)) room in
      let none : (size : Call → ℕ) → sum_by size (take n calls) ≡ 0 → size (Add c d) ≡ 0 → sum_by size (take (n + 1) calls') ≡ 0 = λ size sum own.
      none_more size calls' n room' (ap (sum_by size) before ∙ sum) (ap size at ∙ own) in
      record {
        few = omega (arith, was.few);
        booked = after_more (replicate 64 0) calls' n room' ∙ ap (next (book (take n calls'))) at ∙ ap (λ xs. next (book xs) (Add c d)) before ∙ ap (λ b. next b (Add c d)) was.booked ∙ next_added t c d few here is some;
        no_windows = none windows_of was.no_windows refl;
        no_ready = none ready_of was.no_ready refl;
        no_list = none list_of was.no_list refl;
        rest = drop-set-lt (n + 1) calls n (Add c d) (omega arith) ∙ drop_later old calls n (n + 1) (omega arith) was.rest;
      }

-- before the first channel
pub adds_first : (t : List ℕ) (calls : List Call) → length t ≡ 64 → AddsTo t calls calls 0 0
adds_first t calls long =
    record {
      few = omega arith;
      booked = ap (λ n. replicate n 0) (sym long) ∙ sym (prefix_none t);
      no_windows = refl;
      no_ready = refl;
      no_list = refl;
      rest = refl;
    }

-- after the last
pub adds_all : (t : List ℕ) (old calls : List Call) (n : ℕ) → length t ≡ 64 → AddsTo t old calls 64 n → AreAdds t old calls n
adds_all t old calls n long was =
    record {
      few = was.few;
      booked = was.booked ∙ ap (prefix t) (sym long) ∙ prefix_all t;
      no_windows = was.no_windows;
      no_ready = was.no_ready;
      no_list = was.no_list;
      rest = was.rest;
    }

-- from the first element to the last it is the whole list
whole_between : {X : Type 0} (a b : ℕ) (xs : List X) → a ≡ 0 → b ≡ length xs → between a b xs ≡ xs
whole_between a b xs first last =
    let long : b - a ≡ length xs = omega arith in
    rw (long, first) (take-length xs)

module _ (t : List ℕ) (question : Call) (calls : List Call) (n : ℕ) (m : Memory) (long : length calls ≡ 65) (adds : AreAdds t (replicate 65 question) calls n) (lent : lengths m ≡ lent_of question) where
  -- the adds, and the question after them
  abbrev series : List Call
  series = take (n + 1) calls

  -- the adds come before the question
  series_before : take n series ≡ take n calls
  series_before = take-take n (n + 1) calls (omega arith)

  -- there is a call more than adds
  series_long : length series ≡ n + 1
  series_long = length-take-le (n + 1) calls (omega (arith, long, adds.few))

  -- the question comes after them
  series_asks : call_at series n ≡ question
  series_asks =
      let there : call_at (drop n calls) 0 ≡ call_at (drop n (replicate 65 question)) 0 = ap (λ xs. call_at xs 0) adds.rest in
      let place : n + 0 ≡ n = omega arith in
      get_or-take (n + 1) calls n (Add 0 0) (omega arith)
      ∙ ap (call_at calls) (sym place) ∙ sym (get_or-drop n calls 0 (Add 0 0)) ∙ there
      ∙ get_or-drop n (replicate 65 question) 0 (Add 0 0) ∙ get_or-replicate 65 (n + 0) question (Add 0 0) (omega (arith, adds.few))

  -- all that the series is lent, where the adds are lent none of a kind
  series_lent : (size : Call → ℕ) → sum_by size (take n calls) ≡ 0 → sum_by size (take (n + 1) series) ≡ size question
  series_lent size none =
      omega (arith, sum_by_more size series n (Add 0 0) (omega (arith, series_long)), ap (sum_by size) series_before, none, ap size series_asks)

  -- the question is lent all memory
  all_lent : {X : Type 0} (size : Call → ℕ) (xs : List X) → sum_by size (take n calls) ≡ 0 → length xs ≡ size question → part_of size series n xs ≡ xs
  all_lent size xs none own =
      whole_between (sum_by size (take n series)) (sum_by size (take (n + 1) series)) xs (ap (sum_by size) series_before ∙ none) (series_lent size none ∙ sym own)

  -- the replies and the memory are enough for the series
  pub enough_asked : IsEnough series 65 (lengths m)
  enough_asked =
      let whole : take (n + 1) series ≡ series = take-take (n + 1) (n + 1) calls (omega arith) in
      let enough : (size : Call → ℕ) → sum_by size (take n calls) ≡ 0 → sum_by size series ≡ size question = λ size none.
      ap (sum_by size) (sym whole) ∙ series_lent size none in
      record {
        replies = omega (arith, series_long, adds.few);
        windows = omega (arith, enough windows_of adds.no_windows, ap (λ s. s.windows) lent);
        ready = omega (arith, enough ready_of adds.no_ready, ap (λ s. s.ready) lent);
        list = omega (arith, enough list_of adds.no_list, ap (λ s. s.list) lent);
      }

  -- all memory is the question's
  memory_whole : (m'' : Memory) → lengths m'' ≡ lengths m → memory_of series n m'' ≡ m''
  memory_whole m'' same =
      let own = same ∙ lent in
      rw (all_lent windows_of m''.windows adds.no_windows (ap (λ s. s.windows) own), all_lent ready_of m''.ready adds.no_ready (ap (λ s. s.ready) own), all_lent list_of m''.list adds.no_list (ap (λ s. s.list) own)) refl

  -- the reply to the question is right, whatever would stand for one that is not there
  pub right_asked : {f : Cost} {rs rs' : List Reply} {m' : Memory} {entries : List ℕ} → (d : Reply) → length rs' ≡ 65 → lengths m' ≡ lengths m →
      IsPlayed f series rs rs' m m' entries → Right f t question m m' (get_or rs' n d)
  right_asked {f} {rs} {rs'} {m'} {entries} d replies same played =
      let right = played.right n (omega (arith, series_long)) in
      let booked : book (take n series) ≡ t = ap book series_before ∙ adds.booked in
      let read : get_or rs' n d ≡ reply_at rs' n = get_or_default rs' n d (Ok Done) (omega (arith, adds.few, replies)) in
      rw (read, sym booked, sym series_asks, sym (memory_whole m refl), sym (memory_whole m' same)) right
