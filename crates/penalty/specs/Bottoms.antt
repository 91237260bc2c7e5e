-- The valley law of a bottom, from that of the function that gives its costs on the domain.
use Rattle.std.specs.Prelude.{◌≡◌, ℕ, ◌*◌, ◌≤◌, max, true}
use Rattle.std.proofs.Common.{⊎_elim, mul-le-mul_left, arith}
use Rattle.std.proofs.lemmas.Bool.{cases_Bool}
use Rattle.std.proofs.lemmas.Bool.Decides.{nat_tests}
use Rattle.penalty.specs.Cost.{inside, bottom, Capped, Valley}
use Rattle.penalty.specs.Deviation.{size}

-- the domain reaches down from each of its counts
inside_below : (S c d k v w : ℕ) → v ≤ w → inside S c d w k ≡ true → inside S c d v k ≡ true
inside_below S c d k v w h t = grind (arith, nat_tests)

-- the valley law of a function of S, d, x and k
abbrev pub PlainValley : (ℕ → ℕ → ℕ → ℕ → ℕ) → Type 0
PlainValley g = (S d k u v w : ℕ) → u ≤ v → v ≤ w → g S d v k ≤ max (g S d u k) (g S d w k)

-- a bottom keeps the valley law where its function does
pub bottom_valley : (g : ℕ → ℕ → ℕ → ℕ → ℕ) → Capped (bottom g) → PlainValley g → Valley (bottom g)
bottom_valley g capped valley S c d k u v w h l =
    let cap = capped S c d v k in
    let mid = valley S d k u v w h l in
    ⊎_elim
    (λ t.
    let tv : inside S c d v k ≡ true = inside_below S c d k v w l t in
    let tu : inside S c d u k ≡ true = inside_below S c d k u v h tv in
    rw (t, tv, tu) mid)
    (λ f. rw f (omega arith))
    (cases_Bool (inside S c d w k))

-- the size of q keeps the valley law
pub size_valley : PlainValley size
size_valley S d k u v w h l =
    let low : S * u ≤ S * v = mul-le-mul_left S h in
    let high : S * v ≤ S * w = mul-le-mul_left S l in
    omega arith
