-- The laws of the layers, from those of the penalty below: maps of costs that never fall and keep the forbidden cost, and stops.
use Rattle.std.specs.Prelude.{◌≡◌, ℕ, ◌-◌, ◌*◌, ◌<◌, ◌≤◌, min, List, nat_lt, slice_index, refl}
use Rattle.std.proofs.Common.{◌∙◌, ap, subst, ⊎_elim, mul-le-mul_left, le_refl, arith}
use Rattle.std.proofs.lemmas.Bool.{cases_lt, lt-ltb, le-ltb}
use Rattle.penalty.specs.Cost.{Cost, top, Capped, Outside, Valley}
use Rattle.penalty.specs.Deviation.{ahead}
use Rattle.penalty.specs.Layers.{keep_top, weigh, relax, stopped}
use Rattle.penalty.specs.Rising.{Rising, either_most}

-- a map of costs that never falls and keeps the forbidden cost
pub record CostMap (m : ℕ → ℕ) : Type 0 where
  pub rising : Rising m
  pub keeps : m top ≡ top

-- the cost of f, through the map of its channel
abbrev pub mapped : (ℕ → ℕ → ℕ) → Cost → Cost
mapped m f S c d x k = m c (f S c d x k)

module _ {m : ℕ → ℕ → ℕ} {f : Cost} (map : (c : ℕ) → CostMap (m c)) where
  -- such maps keep every cost at most the forbidden one
  pub map_capped : Capped f → Capped (mapped m f)
  map_capped h S c d x k = subst (λ (n : ℕ). m c (f S c d x k) ≤ n) (map c).keeps ((map c).rising (f S c d x k) top (h S c d x k))

  -- such maps keep the forbidden cost outside the domain
  pub map_outside : Outside f → Outside (mapped m f)
  map_outside h S c d x k t = ap (m c) (h S c d x k t) ∙ (map c).keeps

  -- such maps keep a valley
  pub map_valley : Valley f → Valley (mapped m f)
  map_valley h S c d k u v w l r =
      let mid = h S c d k u v w l r in
      ⊎_elim
      (λ (b : f S c d u k < f S c d w k).
      let s = (map c).rising (f S c d v k) (f S c d w k) (omega (arith, mid, b)) in
      omega (arith, s))
      (λ (b : f S c d w k ≤ f S c d u k).
      let s = (map c).rising (f S c d v k) (f S c d u k) (omega (arith, mid, b)) in
      omega (arith, s))
      (cases_lt (f S c d u k) (f S c d w k))

-- where m never falls, and is at most the forbidden cost up to it, keep_top m is such a map
keep_map : (m : ℕ → ℕ) → Rising m → ((n : ℕ) → n ≤ top → m n ≤ top) → CostMap (keep_top m)
keep_map m rising capped = record {
  rising = λ a b l.
      ⊎_elim
      (λ (h : b < top). rw (lt-ltb a top (omega (arith, l, h)), lt-ltb b top h) (rising a b l))
      (λ (h : top ≤ b).
      ⊎_elim
      (λ (s : a < top). rw (lt-ltb a top s, le-ltb b top h) (capped a (omega (arith, s))))
      (λ (s : top ≤ a). rw (le-ltb a top s, le-ltb b top h) (le_refl top))
      (cases_lt a top))
      (cases_lt b top);
  keeps = refl;
}

-- a weight is such a map
pub weigh_map : (w : ℕ) → CostMap (weigh w)
weigh_map w = keep_map (λ n. min (w * n) (top - 1)) (λ a b l. let p = mul-le-mul_left w l in omega (arith, p)) (λ n h. omega arith)

-- a table of weights gives one for each channel
pub weight_maps : (weights : List ℕ) (c : ℕ) → CostMap (weigh (slice_index weights c))
weight_maps weights c = weigh_map (slice_index weights c)

-- a tolerance is such a map
pub relax_map : (t : ℕ) → CostMap (relax t)
relax_map t = keep_map (λ n. n - t) (λ a b l. omega (arith, l)) (λ n h. omega (arith, h))

module _ (e : ℕ) {f : Cost} (capped : Capped f) where
  -- a stop keeps every cost at most the forbidden one
  pub stop_capped : Capped (stopped e f)
  stop_capped S c d x k = either_most (nat_lt e (ahead S d x k)) (le_refl top) (capped S c d x k)

  -- a stop keeps a valley: where a count is forbidden, so is every greater one
  pub stop_valley : Valley f → Valley (stopped e f)
  stop_valley valley S c d k u v w l r =
      let left : S * u ≤ S * v = mul-le-mul_left S l in
      let right : S * v ≤ S * w = mul-le-mul_left S r in
      ⊎_elim
      (λ (b : e < ahead S d w k).
      let h = stop_capped S c d v k in
      rw (lt-ltb e (ahead S d w k) b) (omega (arith, h)))
      (λ (b : ahead S d w k ≤ e).
      rw (le-ltb e (ahead S d w k) b, le-ltb e (ahead S d v k) (omega (arith, right, b)), le-ltb e (ahead S d u k) (omega (arith, left, right, b)))
      (valley S c d k u v w l r))
      (cases_lt e (ahead S d w k))
