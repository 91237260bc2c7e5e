-- The text of each line.
use Rattle.std.specs.Prelude.{ℕ, List, [], ◌∷◌, ◌++◌, None, Some, codes}
use Rattle.lines.specs.Text.{field}
use Rattle.lines.specs.declared.audited.Audited.{Audited}
use Rattle.lines.specs.declared.audited.Audited.TheVariants.{Largest, Refused, RefusedSlot, RefusedChannel}
use Rattle.lines.specs.declared.block.Block.{Block}
use Rattle.lines.specs.declared.block.Block.TheVariants.{Moment, Shut, Crowd}
use Rattle.lines.specs.declared.line.Line.{Line}
use Rattle.lines.specs.declared.line.Line.TheVariants as line
use Rattle.lines.specs.declared.quote.Quote.{Quote}
use Rattle.lines.specs.declared.reading.Reading.{Reading}

-- a blank and a number
abbrev pub next_field : ℕ → List ℕ
next_field n = field (codes " ") n

-- channel, reading, earliest, latest, slot
abbrev pub reading_text : Reading → List ℕ
reading_text r = field [] r.channel ++ (next_field r.reading ++ (next_field r.earliest ++ (next_field r.latest ++ next_field r.slot)))

-- MOMENT k c, or SHUT c j earliest latest, or CROWD a b number
abbrev pub block_text : Block → List ℕ
block_text (Moment k c) = field (codes "MOMENT ") k ++ next_field c
block_text (Shut c j e l) = field (codes "SHUT ") c ++ (next_field j ++ (next_field e ++ next_field l))
block_text (Crowd a b n) = field (codes "CROWD ") a ++ (next_field b ++ next_field n)

-- LARGEST cost MOMENT k c, or REFUSED number, with SLOT slot or CHANNEL channel after it where the refusal has one
abbrev pub audited_text : Audited → List ℕ
audited_text (Largest cost k c) = field (codes "LARGEST ") cost ++ (field (codes " MOMENT ") k ++ next_field c)
audited_text (Refused number) = field (codes "REFUSED ") number
audited_text (RefusedSlot number slot) = field (codes "REFUSED ") number ++ field (codes " SLOT ") slot
audited_text (RefusedChannel number channel) = field (codes "REFUSED ") number ++ field (codes " CHANNEL ") channel

-- QUOTE serial LEAST least TOTAL D CHANNELS number LAYERS depth FIGURE figure
abbrev pub quote_text : Quote → List ℕ
quote_text q =
    field (codes "QUOTE ") q.serial ++ (field (codes " LEAST ") q.least ++ (field (codes " TOTAL ") q.total
    ++ (field (codes " CHANNELS ") q.channels ++ (field (codes " LAYERS ") q.layers ++ field (codes " FIGURE ") q.figure))))

-- a line without its end
abbrev pub body_text : Line → List ℕ
body_text (line.Least least figure) = field (codes "LEAST ") least ++ field (codes " FIGURE ") figure
body_text line.NoLeast = codes "NONE"
body_text (line.Within bound largest) = field (codes "WITHIN ") bound ++ field (codes " LARGEST ") largest
body_text (line.Over bound) = field (codes "OVER ") bound
body_text (line.Reading r) = reading_text r
body_text (line.Blocked block) = block_text block
body_text (line.Below None) = codes "BELOW NOTHING"
body_text (line.Below (Some block)) = codes "BELOW " ++ block_text block
body_text (line.Fault number layer offset) = field (codes "FAULT ") number ++ (next_field layer ++ next_field offset)
body_text (line.Audited answer) = audited_text answer
body_text (line.Quote quote) = quote_text quote

-- a line, with the byte 10 that ends it
abbrev pub text : Line → List ℕ
text line = body_text line ++ (10 ∷ [])
