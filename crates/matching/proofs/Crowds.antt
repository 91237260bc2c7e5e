-- A crowded interval of slots leaves no assignment.
use Rattle.std.proofs.Common.{◌≡◌, ℕ, ◌+◌, ◌-◌, ◌<◌, ◌≤◌, Bool, true, ◌&&◌, leb, List, [], length, arith}
use Rattle.std.proofs.lemmas.Bool.{and_parts, leb-true}
use Rattle.matching.specs.Windows.{window}
use Rattle.matching.specs.Matchings.{Assignment, IsCrowded}
use Rattle.matching.specs.declared.window.Window.{Window}
use Rattle.matching.proofs.Counting.{pigeonhole}

-- the slots a to b have too few places for the windows inside them
pub crowd_rules_out : (ws : List Window) (a b number : ℕ) → IsCrowded ws a b number →
    (slot : ℕ → ℕ) → Assignment ws slot → ⊥
crowd_rules_out ws a b number crowd slot assigned =
    let inner : Window → Bool = λ w. leb a w.earliest && leb w.latest b in
    let between : (i : ℕ) → i < length ws → inner (window ws i) ≡ true → (a ≤ slot i) × (slot i ≤ b) = λ i h passes.
    let parts = and_parts _ _ passes in
    let in_window = assigned.inside i h in
    let from = leb-true a (window ws i).earliest parts.0 in
    let to = leb-true (window ws i).latest b parts.1 in
    (omega arith, omega arith) in
    let few =
    pigeonhole inner ws (window [] 0) (λ i. slot i - a) (b - a + 1)
    (λ i h passes. let s = between i h passes in omega arith)
    (λ i j h k u v same.
    let s = between i h u in
    let t = between j k v in
    assigned.apart i j h k (omega arith)) in
    omega arith
