-- When two quotes of a line are the same.
use Rattle.std.proofs.Common.{◌≡◌, ◌<◌, ◌^◌}
use Rattle.std.specs.Coded.{le_prop}
use mathlib.Core.HLevel.{is_prop→PathP}
use Rattle.lines.specs.declared.quote.Quote.{Quote}

-- two quotes with the same numbers are the same
pub same_quotes : (a b : Quote) → a.serial ≡ b.serial → a.least ≡ b.least → a.total ≡ b.total →
    a.channels ≡ b.channels → a.layers ≡ b.layers → a.figure ≡ b.figure → a ≡ b
same_quotes a b serial least total channels layers figure = λ i. record {
  serial = serial i;
  least = least i;
  total = total i;
  channels = channels i;
  layers = layers i;
  figure = figure i;
  short_serial = is_prop→PathP (λ j. serial j < 10 ^ 6) (λ j. le_prop) a.short_serial b.short_serial i;
  short_least = is_prop→PathP (λ j. least j < 10 ^ 13) (λ j. le_prop) a.short_least b.short_least i;
  short_figure = is_prop→PathP (λ j. figure j < 10 ^ 15) (λ j. le_prop) a.short_figure b.short_figure i;
}
