-- What the calls on a round r and the heap h of its ready readings say of them, before and after.
use Rattle.std.specs.Prelude.{◌≡◌, ℕ, List, take, drop, Option}
use Rattle.heap.specs.declared.lent.Heap.{Heap}
use Rattle.matching.specs.Queues.{Admitted, AdmittedAt, Coming, Queued, Taken, is_ready, next_of}
use Rattle.matching.specs.States.{State}
use Rattle.matching.specs.Windows.{blank}
use Rattle.matching.specs.contracts.ready.ReadyOrdered.TheImpl.{ghosts}
use Rattle.matching.specs.declared.ready.Ready.{Ready}
use Rattle.matching.specs.declared.round.Round.{Round}

-- a heap of ready readings
abbrev pub ReadyHeap : Type 0
ReadyHeap = Heap Ready ghosts

-- the heap keeps one reading of each channel of which none waits, and nothing else
abbrev pub IsQueued : Round → ReadyHeap → Type 0
IsQueued r h = Queued (blank r.windows.now) r.waiting h.items.now h.len

-- the place of the next reading of channel c
abbrev pub next_place : Round → ReadyHeap → ℕ → ℕ
next_place r h = next_of (blank r.windows.now) r.waiting (take h.len h.items.now)

-- the first t slots are filled
abbrev pub IsFilled : Round → ReadyHeap → ℕ → Type 0
IsFilled r h t = State (blank r.windows.now) r.windows.now t (next_place r h) (is_ready r.waiting)

-- the next reading of channel c, if it waits and its earliest is at most t, whichever readings are ready
abbrev pub ComesBy : Round → ℕ → ℕ → Option Ready → Type 0
ComesBy r c t reading = (kept : List Ready) → Coming (blank r.windows.now) r.waiting kept c t reading

-- the next reading of channel c is ready where it was, or where its earliest is at most t
abbrev pub Admits : Round → ReadyHeap → Round → ReadyHeap → ℕ → ℕ → Type 0
Admits r h r' h' t c = AdmittedAt (blank r.windows.now) t (next_place r h) (next_place r' h') (is_ready r.waiting) (is_ready r'.waiting) c

-- the same of every channel below m
abbrev pub AdmitsBelow : Round → ReadyHeap → Round → ReadyHeap → ℕ → ℕ → Type 0
AdmitsBelow r h r' h' t m = Admitted (blank r.windows.now) t (next_place r h) (next_place r' h') (is_ready r.waiting) (is_ready r'.waiting) m

-- the ready reading that is due first is taken out, or nothing where none is ready
abbrev pub Takes : Round → ReadyHeap → Round → ReadyHeap → Option Ready → Type 0
Takes r h r' h' reading = Taken (blank r.windows.now) (next_place r h) (next_place r' h') (is_ready r.waiting) (is_ready r'.waiting) reading

-- the heap keeps what it should, and the windows and the memory past the ready readings are the same
pub record Keeps (r : Round) (h : ReadyHeap) (r' : Round) (h' : ReadyHeap) : Type 0 where
  pub queued : IsQueued r' h'
  pub windows : blank r'.windows.now ≡ blank r.windows.now
  pub rest : drop 64 h'.items.now ≡ drop 64 h.items.now

-- both stand in the memory that was lent
abbrev pub Lent : Round → ReadyHeap → Round → ReadyHeap → Type 0
Lent r h r' h' = (r'.windows.ghost_name ≡ r.windows.ghost_name) × (h'.items.ghost_name ≡ h.items.ghost_name)
