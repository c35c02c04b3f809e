-- The sectors of a unit.
use Rattle.std.proofs.Common.{◌≡◌, ◌/◌, ◌≤◌, ℕ, inl, inr, sym, ap, ◌∙◌, arith}
use Rattle.dm_table.specs.declared.crypt.Crypt.{Crypt}
use Rattle.dm_table.proofs.lemmas.SectorSizeLemmas.{sector_size-is}
use Rattle.stack_rules.specs.Units.{unit_sectors}
use Rattle.stack_meaning.specs.declared.units.CryptUnits.{CryptUnits}
use Rattle.stack_meaning.specs.declared.units.UnitSize.{UnitSize}
use Rattle.stack_meaning.specs.declared.units.UnitSize.TheVariants.{One, Two, Four, Eight}
use Rattle.stack_meaning.specs.Units.{size_sectors, size_of, units_of, per_unit}

some-of : (size : UnitSize) → 1 ≤ size_sectors size
unfolding size_sectors
some-of One = omega arith
some-of Two = omega arith
some-of Four = omega arith
some-of Eight = omega arith

pub per_unit-some : (units : CryptUnits) → 1 ≤ per_unit units
per_unit-some units = some-of units.size

-- as the rules count them
pub per_unit-of : (crypt : Crypt) → per_unit (units_of crypt) ≡ unit_sectors crypt
unfolding size_of size_sectors
per_unit-of crypt = elim (sector_size-is crypt) [
  | inl size ↦ ap (λ (n : ℕ). size_sectors (size_of n)) size ∙ sym (ap (λ (n : ℕ). n / 512) size)
  | inr more ↦ elim more [
    | inl size ↦ ap (λ (n : ℕ). size_sectors (size_of n)) size ∙ sym (ap (λ (n : ℕ). n / 512) size)
    | inr more ↦ elim more [
      | inl size ↦ ap (λ (n : ℕ). size_sectors (size_of n)) size ∙ sym (ap (λ (n : ℕ). n / 512) size)
      | inr size ↦ ap (λ (n : ℕ). size_sectors (size_of n)) size ∙ sym (ap (λ (n : ℕ). n / 512) size)
    ]
  ]
]
