-- The semantics of a sector.
use Rattle.std.specs.Prelude.{ℕ, List, [], ◌∷◌, Ok, Err}
use Rattle.std.specs.List.{slice_index_or}
use Rattle.block_device.specs.Device.{IsSector}
use Rattle.stack_meaning.specs.declared.fault.Fault.{Fault}
use Rattle.stack_meaning.specs.Outcomes.{error_target, Images, LeafSector, Outcome, zero_sector}
use Rattle.stack_meaning.specs.Found.{FoundRecord, Entry}

-- the semantics of a sector: its meaning over the leaves' images; and, whatever the leaves return, the bytes that it
-- may have with the chains that were found, the faults possible on its path, the entries of the topmost `verity`
-- lines on its path, the leaf sectors that a write of it may write, and whether a write of it encrypts
pub record Said : Type 1 where
  pub means : Images → Outcome
  pub may : List FoundRecord → List ℕ → Type 0
  pub meets : Fault → Type 0
  pub entries : List Entry
  pub reaches : List LeafSector
  pub encrypts : Type 0

-- sector s of leaf i: it may have any 512 bytes, and a write reaches only this sector
abbrev pub leaf_said : ℕ → ℕ → Said
leaf_said i s = record {
  means = λ images. Ok (slice_index_or (slice_index_or images i []) s zero_sector);
  may = λ chains. IsSector;
  meets = λ fault. ⊥;
  entries = [];
  reaches = (i, s) ∷ [];
  encrypts = ⊥;
}

-- a sector that doesn't exist
abbrev pub none_said : Said
none_said = record { means = λ images. Err error_target; may = λ chains bytes. ⊥; meets = λ fault. ⊥; entries = []; reaches = []; encrypts = ⊥ }
