-- Writes that cut no unit: each unit of a `crypt` line that they reach is written whole.
use Rattle.std.specs.Prelude.{◌≡◌, ℕ, suc, ◌+◌, ◌-◌, ◌%◌, ◌<◌, Bool, true, false, ◌&&◌, Option, Some, None}
use Rattle.dm_table.specs.declared.crypt.Crypt.{Crypt}
use Rattle.stack_rules.specs.declared.lower.Lower.{Lower}
use Rattle.stack_rules.specs.declared.lower.Lower.TheVariants.{Leaf as leaf, Device as device}
use Rattle.stack_rules.specs.Records.{Configuration}
use Rattle.stack_rules.specs.Descend.{descend}
use Rattle.stack_rules.specs.Units.{crypt_of}
use Rattle.stack_meaning.specs.Beneath.{beneath, said_or}
use Rattle.stack_meaning.specs.Meaning.{said_at, said_by_name}
use Rattle.stack_meaning.specs.MeaningOf.{meaning_of}
use Rattle.stack_meaning.specs.Puts.{in_one_run}
use Rattle.stack_meaning.specs.Sectors.{OnLine, sector_rule}
use Rattle.stack_meaning.specs.TargetMeaning.{Meant, handed, own}
use Rattle.stack_meaning.specs.Units.{units_of, per_unit, unit_first}
use Rattle.stack_lines.specs.declared.source.Source.{Source}
use Rattle.stack_lines.specs.declared.source.Source.TheVariants.{Below, Units, UnitPart, Zeros, Fails, Block, Blocks}
use Rattle.stack_lines.specs.Writing.{SomeEncrypt}

-- Of a sector: that a write which begins with it cuts no unit there, and one which ends with it; and whether it goes down
-- together with the next one, from line to line.
pub record Seam : Type 1 where
  pub begins : Type 0
  pub ends : Type 0
  pub goes_on : Bool

-- if there are no units
abbrev pub plain_seam : Seam
plain_seam = record { begins = Unit {0}; ends = Unit {0}; goes_on = true }

-- no line beneath encrypts the unit of sector s once more
abbrev pub IsLast : Configuration → Crypt → ℕ → Type 0
IsLast c crypt s = SomeEncrypt (said_by_name c crypt.base.device) (unit_first (units_of crypt) s) (per_unit (units_of crypt)) → ⊥

-- sector s of a `crypt` line: the first one of its unit, and the last one
abbrev pub unit_seam : Configuration → ℕ → Crypt → Seam
unit_seam c s crypt = record {
  begins = (s % per_unit (units_of crypt) ≡ 0) × IsLast c crypt s;
  ends = (s + 1) % per_unit (units_of crypt) ≡ 0;
  goes_on = true;
}

abbrev pub seam_of : Configuration → ℕ → Option Crypt → Seam
seam_of c s None = plain_seam
seam_of c s (Some crypt) = unit_seam c s crypt

abbrev pub seam_as : Meant → Seam → Seam → Seam
seam_as handed beneath here = beneath
seam_as (own m) beneath here = here

abbrev pub line_seam : Configuration → OnLine Seam
line_seam c at d l target s = seam_as (meaning_of target).meant (said_or plain_seam at (beneath target s)) (seam_of c s (crypt_of target))

-- of a device, whose run may end with the sector
abbrev pub seam_rule : Configuration → (Lower → ℕ → Seam) → Lower → ℕ → Seam
seam_rule c below (leaf i) s = plain_seam
seam_rule c below (device d) s = let here = sector_rule c plain_seam (λ i s. plain_seam) (line_seam c) below (device d) s in
    record { begins = here.begins; ends = here.ends; goes_on = in_one_run c d.0 s && here.goes_on }

abbrev pub seam_at : Configuration → Lower → ℕ → Seam
seam_at c = descend (λ s. plain_seam) (seam_rule c)

-- A write of n sectors from s on splits no unit: not at its beginning, nor at its end, nor where it is split in two on its way.
pub record CutsNone (c : Configuration) (lower : Lower) (s n : ℕ) : Type 0 where
  pub begins : (seam_at c lower s).begins
  pub ends : (seam_at c lower (s + n - 1)).ends
  pub between : (j : ℕ) → suc j < n → (seam_at c lower (s + j)).goes_on ≡ false → (seam_at c lower (s + j)).ends × (seam_at c lower (s + suc j)).begins

-- ---- where the sectors go

-- n sectors of a source, of which whole units are no longer cut unless a line beneath encrypts them once more
abbrev pub SourceCutsNone : Configuration → Source → ℕ → Type 0
SourceCutsNone c (Below lower first) n = CutsNone c lower first n
SourceCutsNone c (Units x) n = SomeEncrypt (said_at c x.lower) (unit_first x.units x.first) n → ⊥
SourceCutsNone c (UnitPart b) n = ⊥
SourceCutsNone c Zeros n = Unit {0}
SourceCutsNone c Fails n = Unit {0}
SourceCutsNone c (Block b) n = Unit {0}
SourceCutsNone c (Blocks b) n = Unit {0}
