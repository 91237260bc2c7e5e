-- The records without their slots have the same windows.
use Rattle.std.proofs.Common.{◌≡◌, ℕ, zero, suc, List, [], ◌∷◌, length, get_or, set, sym, refl, ap, ◌∙◌, arith}
use Rattle.std.proofs.lemmas.List.{length-map, map-set, set-get_or}
use Rattle.matching.specs.Matchings.{inside, within}
use Rattle.matching.specs.Windows.{bare, blank, channel_at, earliest_at, latest_at, window, with_slot}
use Rattle.matching.specs.declared.window.Window.{Window}
use Rattle.matching.proofs.Counting.{count-cons}

-- there are as many records
pub length-blank : (ws : List Window) → length (blank ws) ≡ length ws
length-blank ws = length-map ws bare

-- each has the same window
pub window-blank : (ws : List Window) (i : ℕ) → window (blank ws) i ≡ bare (window ws i)
window-blank [] i = refl
window-blank (w ∷ ws) zero = refl
window-blank (w ∷ ws) (suc i) = window-blank ws i

-- a record that was read at place i, which the code may name otherwise
pub read-blank : (ws : List Window) (i k : ℕ) (w : Window) → k ≡ i → ((d : Window) → w ≡ get_or ws k d) → window (blank ws) i ≡ bare w
read-blank ws i k w same read = window-blank ws i ∙ ap bare (ap (window ws) (sym same) ∙ sym (read (window [] 0)))

-- a channel that was read at place i
pub channel-blank : (ws : List Window) (i k c : ℕ) → k ≡ i → c ≡ (window ws k).channel → c ≡ channel_at (blank ws) i
channel-blank ws i k c same read = read ∙ ap (λ j. (window ws j).channel) same ∙ sym (ap (λ w. w.channel) (window-blank ws i))

-- without their slots, records and records without slots are the same
pub blank-blank : (ws : List Window) → blank (blank ws) ≡ blank ws
blank-blank [] = refl
blank-blank (w ∷ ws) = ap (λ l. bare w ∷ l) (blank-blank ws)

-- records that are the same without their slots are as many
pub length_same : (ws bs : List Window) → blank ws ≡ bs → length ws ≡ length bs
length_same ws bs same = sym (length-blank ws) ∙ ap length same

-- and have the same windows
pub window_same : (ws bs : List Window) → blank ws ≡ bs → (i : ℕ) → window bs i ≡ bare (window ws i)
window_same ws bs same i = ap (λ (l : List Window). window l i) (sym same) ∙ window-blank ws i

-- so the ends of a window do not depend on the slots: not its earliest
pub earliest_same : (ws bs : List Window) → blank ws ≡ bs → (i : ℕ) → earliest_at bs i ≡ earliest_at ws i
earliest_same ws bs same i = ap (λ w. w.earliest) (window_same ws bs same i)

-- nor its latest
pub latest_same : (ws bs : List Window) → blank ws ≡ bs → (i : ℕ) → latest_at bs i ≡ latest_at ws i
latest_same ws bs same i = ap (λ w. w.latest) (window_same ws bs same i)

-- as many of which lie inside an interval
inside_of_blank : (a b : ℕ) (ws : List Window) → inside a b (blank ws) ≡ inside a b ws
inside_of_blank a b [] = refl
inside_of_blank a b (w ∷ ws) =
    omega (arith, count-cons (within a b) (bare w) (blank ws), count-cons (within a b) w ws, inside_of_blank a b ws)

-- the same of records that have those without slots
pub inside-blank : (a b : ℕ) (ws bs : List Window) → blank ws ≡ bs → inside a b ws ≡ inside a b bs
inside-blank a b ws bs same = sym (inside_of_blank a b ws) ∙ ap (inside a b) same

-- giving a reading a slot changes no window
pub blank-set : (ws : List Window) (i s : ℕ) → blank (set ws i (with_slot (window ws i) s)) ≡ blank ws
blank-set ws i s =
    map-set bare ws i (with_slot (window ws i) s)
    ∙ ap (set (blank ws) i) (sym (window-blank ws i))
    ∙ set-get_or (blank ws) i (window [] 0)
