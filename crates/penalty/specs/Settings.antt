-- The settings of the layers: when one is refused, and by which number.
use Rattle.std.specs.Prelude.{◌≡◌, ℕ, ◌<◌, Ok, Err, Result}
use Rattle.penalty.specs.declared.settings.SettingRefusal.{SettingRefusal}
use Rattle.penalty.specs.declared.settings.SettingRefusal.TheVariants.{ChannelAboveLimit, WeightAboveLimit, ThresholdAboveLimit}
use Rattle.penalty.specs.declared.threshold.Threshold.{Threshold}

-- the number of a refusal
abbrev pub number : SettingRefusal → ℕ
number ChannelAboveLimit = 1
number WeightAboveLimit = 9
number ThresholdAboveLimit = 10

-- what is wrong with weight w for channel c
abbrev pub WeightFault : ℕ → ℕ → SettingRefusal → Type 0
WeightFault c w ChannelAboveLimit = 63 < c
WeightFault c w WeightAboveLimit = 1000 < w
WeightFault c w ThresholdAboveLimit = ⊥

-- what is wrong with a tolerance or a limit n
abbrev pub ThresholdFault : ℕ → SettingRefusal → Type 0
ThresholdFault n ChannelAboveLimit = ⊥
ThresholdFault n WeightAboveLimit = ⊥
ThresholdFault n ThresholdAboveLimit = 16_777_216 < n

-- nothing is wrong
abbrev pub Accepted : (SettingRefusal → Type 0) → Type 0
Accepted Fault = (e : SettingRefusal) → Fault e → ⊥

-- e is the refusal: its fault is there, and none with a smaller number
pub record Refused (Fault : SettingRefusal → Type 0) (e : SettingRefusal) : Type 0 where
  pub fault : Fault e
  pub first : (s : SettingRefusal) → number s < number e → Fault s → ⊥

-- what is made of a number n: a tolerance or a limit of this value, or a refusal
abbrev pub IsThreshold : ℕ → Result Threshold SettingRefusal → Type 0
IsThreshold n (Ok threshold) = Accepted (ThresholdFault n) × (threshold ≡ n)
IsThreshold n (Err e) = Refused (ThresholdFault n) e
