-- Lines written one after another.
use Rattle.std.proofs.Common.{◌≡◌, ℕ, List, [], ◌∷◌, ◌++◌, None, Some, Option, ap, sym, ◌∙◌}
use Rattle.std.proofs.lemmas.Grind.{flat_map-append}
use Rattle.std.proofs.lemmas.List.{append_assoc, append-nil}
use Rattle.std.proofs.lemmas.List.Concat.{flat_map-cons}
use Rattle.std.specs.Io.KnownBytes.{Appends}
use Rattle.std.specs.List.{flat_map}
use Rattle.lines.specs.Lines.{text}
use Rattle.lines.specs.declared.line.Line.{Line}

-- nothing is written
writes_none : (old : Option (List ℕ)) → Appends old old []
writes_none None = _
writes_none (Some bytes) = sym (append-nil bytes)

-- two texts are written, one after the other
writes_both : (old mid new : Option (List ℕ)) (xs ys : List ℕ) → Appends old mid xs → Appends mid new ys → Appends old new (xs ++ ys)
writes_both None mid new xs ys first second = _
writes_both (Some a) None new xs ys first second = absurd first
writes_both (Some a) (Some b) None xs ys first second = absurd second
writes_both (Some a) (Some b) (Some c) xs ys first second = second ∙ ap (λ zs. zs ++ ys) first ∙ append_assoc a xs ys

-- what is written are the lines `done`; with any that are left of a listing they are a whole one
pub record WrittenTo (whole left : List Line → Type 0) (old new : Option (List ℕ)) : Type 0 where
  pub done : List Line
  pub written : Appends old new (flat_map text done)
  pub completes : (lines : List Line) → left lines → whole (done ++ lines)

-- nothing is written yet
pub written_none : (whole left : List Line → Type 0) (old : Option (List ℕ)) → ((lines : List Line) → left lines → whole lines) → WrittenTo whole left old old
written_none whole left old all = record { done = []; written = writes_none old; completes = all }

-- one line more
pub written_more : (whole left left' : List Line → Type 0) (old mid new : Option (List ℕ)) (line : Line) → WrittenTo whole left old mid →
    ((lines : List Line) → left' lines → left (line ∷ lines)) → Appends mid new (text line) → WrittenTo whole left' old new
written_more whole left left' old mid new line was next appended =
    let one : flat_map text (line ∷ []) ≡ text line = flat_map-cons text line [] ∙ append-nil (text line) in
    record {
      done = was.done ++ (line ∷ []);
      written = rw (flat_map-append text was.done (line ∷ []), one) (writes_both old mid new (flat_map text was.done) (text line) was.written appended);
      completes = λ lines left. rw (append_assoc was.done (line ∷ []) lines) (was.completes (line ∷ lines) (next lines left));
    }

-- no line is left
pub written_all : (whole left : List Line → Type 0) (old new : Option (List ℕ)) → WrittenTo whole left old new → left [] →
    (lines : List Line) × whole lines × Appends old new (flat_map text lines)
written_all whole left old new was none = (was.done, rw (sym (append-nil was.done)) (was.completes [] none), was.written)
