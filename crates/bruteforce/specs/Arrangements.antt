-- The lexicographic order of lists.
use Rattle.std.specs.Prelude.{◌≡◌, ℕ, ◌<◌, List, take, slice_index}

-- m comes after l: they are the same up to a place, and there m has the higher number
abbrev pub After : List ℕ → List ℕ → Type 0
After l m = (i : ℕ) × (take i m ≡ take i l) × (slice_index l i < slice_index m i)
