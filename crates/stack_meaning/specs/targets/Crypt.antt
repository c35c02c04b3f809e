-- `crypt`: the sectors of a unit are encrypted and decrypted together.
use Rattle.std.specs.Prelude.{◌≡◌, ℕ, Bool, ◌+◌, ◌/◌, ◌%◌, ◌==◌, nat_lt, List, length, if◌then◌else◌}
use Rattle.std.specs.List.{concat}
use Rattle.block_device.specs.Device.{sectors_of, spliced}
use Rattle.dm_table.specs.declared.crypt.Crypt.{Crypt}
use Rattle.stack_meaning.specs.declared.units.CryptUnits.{CryptUnits}
use Rattle.stack_meaning.specs.Sectors.{SomeOf, IsRun, gathered}
use Rattle.stack_meaning.specs.Outcomes.{Images, Outcome, changed_outcome, span}
use Rattle.stack_meaning.specs.Units.{units_of, per_unit, encrypted_unit, decrypted_unit, unit_part, unit_first}
use Rattle.stack_meaning.specs.Said.{Said}
use Rattle.stack_meaning.specs.Putting.{Putting, read_put}
use Rattle.stack_meaning.specs.TargetMeaning.{TargetMeaning, own}

-- sector s of a `crypt` line: that of its decrypted unit; all sectors of the unit are on its path
abbrev pub crypt_said : (ℕ → Said) → CryptUnits → List ℕ → ℕ → Said
crypt_said lower units key s =
    let first = unit_first units s in
    let n = per_unit units in
    record {
      means = λ images. changed_outcome (unit_part units key s) (span (λ t. (lower t).means images) first n);
      may = λ chains bytes. (below : List ℕ) × IsRun (λ t. (lower t).may chains) first n below × (bytes ≡ unit_part units key s below);
      meets = λ fault. SomeOf (λ t. (lower t).meets fault) first n;
      entries = gathered (λ t. (lower t).entries) first n;
      reaches = gathered (λ t. (lower t).reaches) first n;
      encrypts = Unit {0};
    }

-- the sectors of the unit that contains sector s, encrypted
abbrev pub encrypted_sectors : CryptUnits → List ℕ → ℕ → List ℕ → List (List ℕ)
encrypted_sectors units key s bytes = sectors_of (per_unit units) (encrypted_unit units key (s / per_unit units) bytes)

-- the decrypted bytes of a unit, with the sectors from s on replaced
abbrev pub changed_unit : CryptUnits → List ℕ → ℕ → List (List ℕ) → List ℕ → List ℕ
changed_unit units key s sectors bytes =
    concat (spliced (sectors_of (per_unit units) (decrypted_unit units key (s / per_unit units) bytes)) (s % per_unit units) sectors)

-- a run within one unit, from its sector s on: a whole unit is written directly; for a part, the unit is read,
-- modified and written as a whole
abbrev pub unit_put : (Images → ℕ → Outcome) → (ℕ → Putting) → CryptUnits → List ℕ → ℕ → Putting
unit_put reads puts units key s sectors images =
    if length sectors == per_unit units
    then puts (unit_first units s) (encrypted_sectors units key s (concat sectors)) images
    else read_put (span (reads images) (unit_first units s) (per_unit units))
    (λ bytes. puts (unit_first units s) (encrypted_sectors units key s (changed_unit units key s sectors bytes))) images

-- sector s and the next one are in the same unit
abbrev pub in_unit : CryptUnits → ℕ → Bool
in_unit units s = nat_lt (s % per_unit units + 1) (per_unit units)

abbrev pub crypt_meaning : Crypt → TargetMeaning
crypt_meaning line = record {
  meant = own (record {
    said = λ below d l. crypt_said (below 0) (units_of line) line.key;
    put = λ reads puts. unit_put (λ images t. (reads 0 t).means images) (puts 0) (units_of line) line.key;
    keeps = λ below certain leaves chain. ⊥;
  });
  together = in_unit (units_of line);
}
