-- What a draft, an issued quote and its line have of the best, the penalty and the serial number.
use Rattle.std.specs.Prelude.{◌≡◌, ℕ, ◌<◌, ◌≤◌, List, length, Option, Result, Ok, Err}
use Rattle.lines.specs.Lines.{text}
use Rattle.lines.specs.Text.{Written}
use Rattle.lines.specs.declared.line.Line.{Line}
use Rattle.lines.specs.declared.line.Line.TheVariants.{Quote}
use Rattle.quotes.specs.Figure.{figure_of}
use Rattle.quotes.specs.declared.draft.Draft.{Draft}
use Rattle.quotes.specs.declared.issued.Issued.{Issued}
use Rattle.quotes.specs.declared.refusal.Refusal.{Refusal}
use Rattle.quotes.specs.declared.refusal.Refusal.TheVariants.{ShortMemory, SerialOutOfRange, NoLeast}
use Rattle.quotes.specs.declared.refusal.Returned.{Returned}
use Rattle.sequencing.specs.Answers.{HasNoLeast}
use Rattle.sequencing.specs.declared.answer.Best.{Best}
use Rattle.sequencing.specs.declared.answer.Block.{Block}
use Rattle.sequencing.specs.declared.answer.Outcome.TheVariants.{Least}

-- a draft has the readings, the channels and the least of a best, and the depth of a penalty as its layers
pub record IsDrafted (best : Best) (depth : ℕ) (draft : Draft) : Type 0 where
  pub total : draft.total ≡ best.total
  pub channels : draft.channels ≡ best.channels
  pub least : (below : Option Block) × (best.outcome ≡ Least draft.least below)
  pub layers : draft.layers ≡ depth

-- a best that has a least is drafted; any other is refused, with NoLeast
abbrev pub MayDraft : Best → ℕ → Result Draft Refusal → Type 0
MayDraft best depth (Ok draft) = IsDrafted best depth draft
MayDraft best depth (Err refusal) = HasNoLeast best.outcome × (refusal ≡ NoLeast)

-- a serial number is one from 1 to 999,999
abbrev pub IsSerial : ℕ → Type 0
IsSerial n = (0 < n) × (n ≤ 999_999)

-- an issued quote is a draft under a serial number
pub record IsIssued (given : Draft) (n : ℕ) (issued : Issued) : Type 0 where
  pub draft : issued.draft ≡ given
  pub serial : issued.serial ≡ n

-- a draft is issued under a serial number; under any other number it is refused, with SerialOutOfRange, and comes back
abbrev pub MayIssue : Draft → ℕ → Result Issued (Returned Draft) → Type 0
MayIssue draft n (Ok issued) = IsSerial n × IsIssued draft n issued
MayIssue draft n (Err back) = (IsSerial n → ⊥) × (back.refusal ≡ SerialOutOfRange) × (back.quote ≡ draft)

-- the line of an issued quote: what is issued, with the figure of its least; its facts bound the long numbers
abbrev pub line_of : Issued → Line
line_of issued = Quote (record {
  serial = issued.serial;
  least = issued.draft.least;
  total = issued.draft.total;
  channels = issued.draft.channels;
  layers = issued.draft.layers;
  figure = figure_of issued.draft.least issued.draft.total;
  short_serial = issued.short;
  short_least = issued.draft.short_least;
  short_figure = issued.draft.short_figure;
})

-- an issued quote is printed, where the memory has at least 96 bytes: its line stands at the start of it, n is the length
-- of the line, and the rest is as it was; in less memory it is refused, with ShortMemory, comes back, and nothing is written
abbrev pub MayPrint : Issued → List ℕ → List ℕ → Result ℕ (Returned Issued) → Type 0
MayPrint issued old new (Ok n) = (96 ≤ length old) × Written (text (line_of issued)) old new n
MayPrint issued old new (Err back) = (length old < 96) × (new ≡ old) × (back.refusal ≡ ShortMemory) × (back.quote ≡ issued)
