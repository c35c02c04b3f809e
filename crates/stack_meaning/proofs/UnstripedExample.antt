-- Worked values of `unstriped`: the second stripe of chunks of eight on two leaves.
use Rattle.std.proofs.Common.{◌≡◌, ℕ, true, List, [], ◌∷◌, ◌++◌, refl, codes, Ok}
use Rattle.block_device.specs.Device.{filled_sector, ramp_image}
use Rattle.dm_table.specs.declared.table.Base.{Base}
use Rattle.dm_table.specs.declared.table.Target.{Target}
use Rattle.dm_table.specs.declared.table.Target.TheVariants.{Striped, Unstriped}
use Rattle.stack_rules.specs.Records.{Configuration, DeviceRecord, LeafRecord}
use Rattle.stack_rules.specs.Names.{mapped}
use Rattle.stack_rules.specs.Descend.{descend}
use Rattle.stack_meaning.specs.Outcomes.{Outcome, span}
use Rattle.stack_meaning.specs.Meaning.{sector}

abbrev leaf_of : List ℕ → ℕ → LeafRecord
leaf_of name sectors = record { name = name; sectors = sectors; writable = true }

abbrev base : List ℕ → ℕ → Base
base name offset = record { device = name; offset = offset }

abbrev dev : List ℕ → ℕ → Target → DeviceRecord
dev name length target = record { name = name; writable = true; table = record { start = 0; length = length; target = target } ∷ [] }

abbrev second_stripe : Configuration
second_stripe = record {
  leaves = leaf_of (codes "A") 16 ∷ leaf_of (codes "B") 32 ∷ [];
  devices =
      dev (codes "s") 32 (Striped 8 (base (codes "A") 0 ∷ base (codes "B") 16 ∷ []))
      ∷ dev (codes "u") 16 (Unstriped (record { stripes = 2; chunk = 8; stripe = 1; base = base (codes "/dev/mapper/s") 0 }))
      ∷ [];
}

abbrev read : ℕ → ℕ → Outcome
read first n = span (sector second_stripe (ramp_image 16 ∷ ramp_image 32 ∷ []) (mapped 1)) first n

-- its sectors are those of the second leaf from 16 on
reads_second_stripe : (read 0 1 ≡ Ok (filled_sector 0x10)) × (read 7 2 ≡ Ok (filled_sector 0x17 ++ filled_sector 0x18)) × (read 15 1 ≡ Ok (filled_sector 0x1f))
unfolding descend
reads_second_stripe = (refl, refl, refl)
