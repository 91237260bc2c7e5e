-- The laws of the order of moments: it is total and transitive, and of two different moments one is dearer.
use Rattle.std.specs.Prelude.{◌≡◌, true, false}
use Rattle.std.specs.Cmp.Rules.{comparing}
use Rattle.std.proofs.Common.{rules, arith}
use Rattle.std.proofs.lemmas.Bool.Decides.{nat_tests}
use Rattle.round.specs.Dearest.{no_dearer}
use Rattle.round.specs.declared.costed_moment.CostedMoment.{CostedMoment}

-- of two moments at least one is no dearer than the other
pub total : (x y : CostedMoment) → no_dearer x y ≡ false → no_dearer y x ≡ true
total x y = search (comparing, rules)

-- where x is no dearer than y, and y no dearer than z, x is no dearer than z
pub transitive : (x y z : CostedMoment) → no_dearer x y ≡ true → no_dearer y z ≡ true → no_dearer x z ≡ true
transitive x y z = search (comparing, rules)

-- two moments of which neither is dearer are one
pub one_way : (x y : CostedMoment) → no_dearer x y ≡ true → no_dearer y x ≡ true → x ≡ y
one_way x y first second =
    let cost : x.cost ≡ y.cost = grind (arith, nat_tests) in
    let slot : x.slot ≡ y.slot = grind (arith, nat_tests) in
    let channel : x.channel ≡ y.channel = grind (arith, nat_tests) in
    λ i. record { cost = cost i; slot = slot i; channel = channel i }
