-- `unstriped`: one stripe of a striped device. Chunk k of the line is chunk k * stripes + stripe, from the offset on,
-- of that device.
use Rattle.std.specs.Prelude.{ℕ, ◌+◌, ◌-◌, ◌*◌, ◌/◌, ◌%◌, ◌==◌, not, [], ◌∷◌, Some}
use Rattle.dm_table.specs.declared.unstriped.Unstriped.{Unstriped}
use Rattle.stack_rules.specs.declared.refusal.LoadKind.TheVariants.{StripesDontDivide}
use Rattle.stack_rules.specs.TargetRules.{TargetRules, bare, range_from}

-- the sector, relative to the offset, that sector s of the line is mapped to
abbrev pub striped_sector : Unstriped → ℕ → ℕ
striped_sector line s = (s / line.chunk * line.stripes + line.stripe) * line.chunk + s % line.chunk

-- the sectors from the offset to the end of the last chunk of a line of `len` sectors
abbrev pub striped_span : Unstriped → ℕ → ℕ
striped_span line len = ((len / line.chunk - 1) * line.stripes + line.stripe + 1) * line.chunk

abbrev pub unstriped : Unstriped → TargetRules
unstriped line = record bare {
  bases = line.base ∷ [];
  lies = λ s. Some (0, striped_sector line s);
  ranges = λ len. range_from (striped_span line len) line.base ∷ [];
  faults = λ len. (StripesDontDivide, not (len % line.chunk == 0)) ∷ [];
}
