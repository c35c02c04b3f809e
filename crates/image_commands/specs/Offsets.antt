-- Numbers that are printed of a hash image count from the beginning of its file.
use Rattle.std.specs.Prelude.{ℕ, ◌+◌, ◌-◌, ◌^◌, min}
use Rattle.verity_format.specs.declared.formatting.FormatFault.{FormatFault}
use Rattle.verity_format.specs.declared.formatting.FormatFault.TheVariants.{HashTooSmall}
use Rattle.verity_format.specs.declared.verifying.Verdict.{Verdict}
use Rattle.verity_format.specs.declared.verifying.Verdict.TheVariants.{AreaDiffers}

-- a number that counts from the hash image on, of which so many come before; at most 2^64 - 1
abbrev pub counted_from : ℕ → ℕ → ℕ
counted_from ahead number = min (ahead + number) (2 ^ 64 - 1)

-- a verdict on a hash image before which its file has so many hash blocks
abbrev pub verdict_from : ℕ → Verdict → Verdict
verdict_from ahead (AreaDiffers block) = AreaDiffers (counted_from ahead block)
verdict_from ahead verdict = verdict

-- a fault of the format of a hash image that begins at that sector of its file
abbrev pub format_fault_from : ℕ → FormatFault → FormatFault
format_fault_from first (HashTooSmall needed) = HashTooSmall (counted_from first needed)
format_fault_from first fault = fault
