-- A job file is read only as far as it may be long, and one byte more.
use Rattle.std.proofs.Common.{◌≡◌, ℕ, List, None, Some, Option, inl, inr, subst, take, arith}
use Rattle.std.proofs.lemmas.List.{length-take, take_all}
use Rattle.std.specs.Option.{IfSome, option_map}
use Rattle.lines.specs.declared.line.Line.{Line}
use Rattle.listing.specs.Listing.{IsListing}
use Rattle.penalty.specs.Cost.{Cost}

-- the listing of the first 4097 bytes is that of the whole file
listing_whole : (f : Cost) (file : List ℕ) (lines : List Line) → IsListing f (take 4097 file) lines → IsListing f file lines
listing_whole f file lines (inl long) = inl (omega (arith, long.0, length-take 4097 file), long.1)
listing_whole f file lines (inr short) =
    let all : take 4097 file ≡ file = take_all 4097 file (omega (arith, short.0, length-take 4097 file)) in
    subst (λ bytes. IsListing f bytes lines) all (inr short)

-- so it is for a reader of which 4097 bytes are read, where it is known what it has left
pub listing_read : (f : Cost) (known : Option (List ℕ)) (file : List ℕ) (Written : List Line → Type 0) → IfSome (option_map (take 4097) known) (λ bytes. file ≡ bytes) →
    ((lines : List Line) × IsListing f file lines × Written lines) → IfSome known (λ whole. (lines : List Line) × IsListing f whole lines × Written lines)
listing_read f None file Written read listed = _
listing_read f (Some whole) file Written read listed =
    (listed.0, listing_whole f whole listed.0 (subst (λ bytes. IsListing f bytes listed.0) read listed.1), listed.2)
