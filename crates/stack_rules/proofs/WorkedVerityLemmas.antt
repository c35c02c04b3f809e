-- Worked loads of crypt and verity lines.
use Rattle.std.proofs.Common.{◌≡◌, ℕ, List, [], ◌∷◌, ◌++◌, refl, codes, Bool, true, false, Some, None, Option, replicate}
use Rattle.dm_table.specs.declared.verity.CorruptionMode.TheVariants.{Fail}
use Rattle.dm_table.specs.declared.crypt.Crypt.{Crypt as CryptRecord}
use Rattle.dm_table.specs.declared.stack.Entry.{Entry}
use Rattle.dm_table.specs.declared.table.Target.{Target}
use Rattle.dm_table.specs.declared.table.Target.TheVariants.{Crypt, Verity}
use Rattle.tree_shape.specs.Shape.{levels, level_blocks, area_blocks, area_end}
use Rattle.dm_table.specs.Crypt.{sector_size}
use Rattle.stack_rules.specs.declared.refusal.LoadKind.{LoadKind}
use Rattle.stack_rules.specs.declared.refusal.LoadKind.TheVariants.{BeyondDevice, LineBeyondTree, TreeBeyondDevice, NeedsReadOnly, LowerReadOnly, CostTooLarge}
use Rattle.stack_rules.specs.declared.refusal.Refusal.{Refusal}
use Rattle.stack_rules.specs.Records.{Configuration}
use Rattle.stack_rules.specs.Cycles.{is_on_cycle, leads_below}
use Rattle.stack_rules.specs.Descend.{descend, read_cost, write_cost}
use Rattle.stack_rules.specs.Lines.{key_of_line}
use Rattle.stack_rules.specs.Names.{mapped}
use Rattle.stack_rules.specs.Rules.{first_refusal, after_load}

-- leaves D and H of so many sectors
abbrev over : ℕ → ℕ → Bool → Configuration
over below hash writable = record {
  leaves = record { name = codes "D"; sectors = below; writable = writable } ∷ record { name = codes "H"; sectors = hash; writable = true } ∷ [];
  devices = [];
}

-- a tree on a device and H, with blocks of 4,096 bytes
abbrev tree : List ℕ → List ℕ → ℕ → ℕ → Target
tree below hash blocks start =
    Verity (record { «data» = below; hash = hash; data_block = 4096; hash_block = 4096; blocks = blocks; start = start; root = replicate 32 0; salt = []; ignore_zero_blocks = false; corruption = Fail; in_tasklet = false; parity = None; signature_key = None })

abbrev one : Bool → ℕ → Target → List Entry
one writable sectors target = record { number = 1; name = codes "v"; writable = writable; table = record { start = 0; length = sectors; target = target } ∷ [] } ∷ []

abbrev refused : LoadKind → Option Refusal
refused kind = Some (record { kind = kind; device = 1; line = 1 })

abbrev d : List ℕ
d = codes "D"

abbrev h : List ℕ
h = codes "H"

-- a line as long as its data blocks, and one that is a sector longer; no data block
covered : (first_refusal (over 16 0 true) (one false 8 (tree d h 1 0)) ≡ None) × (first_refusal (over 16 0 true) (one false 9 (tree d h 1 0)) ≡ refused LineBeyondTree) × (first_refusal (over 16 0 true) (one false 1 (tree d h 0 0)) ≡ refused LineBeyondTree)
unfolding first_refusal is_on_cycle leads_below descend levels level_blocks area_blocks area_end
covered = (refl, refl, refl)

-- all data blocks lie inside the data device, also those that the line doesn't show
data_inside : (first_refusal (over 15 0 true) (one false 8 (tree d h 2 0)) ≡ refused BeyondDevice) × (first_refusal (over 16 0 true) (one false 8 (tree d h 18446744073709551615 0)) ≡ refused BeyondDevice)
unfolding first_refusal is_on_cycle leads_below descend levels level_blocks area_blocks area_end
data_inside = (refl, refl)

-- 129 blocks have a tree of 3; one block has none, which lies anywhere
tree_inside : (first_refusal (over 1032 32 true) (one false 1032 (tree d h 129 1)) ≡ None) × (first_refusal (over 1032 31 true) (one false 1032 (tree d h 129 1)) ≡ refused TreeBeyondDevice)
    × (first_refusal (over 1032 32 true) (one false 1032 (tree d h 129 18446744073709551615)) ≡ refused TreeBeyondDevice) × (first_refusal (over 8 0 true) (one false 8 (tree d h 1 18446744073709551615)) ≡ None)
unfolding first_refusal is_on_cycle leads_below descend levels level_blocks area_blocks area_end
tree_inside = (refl, refl, refl, refl)

-- the order of two rules that both refuse
order : (first_refusal (over 1032 31 true) (one true 1033 (tree d h 129 1)) ≡ refused LineBeyondTree) × (first_refusal (over 1032 31 true) (one true 1032 (tree d h 129 1)) ≡ refused TreeBeyondDevice)
    × (first_refusal (over 1032 32 false) (one true 1032 (tree d h 129 1)) ≡ refused NeedsReadOnly) × (first_refusal (over 1031 31 true) (one true 1033 (tree d h 129 1)) ≡ refused BeyondDevice)
unfolding first_refusal is_on_cycle leads_below descend levels level_blocks area_blocks area_end
order = (refl, refl, refl, refl)

abbrev crypt : ℕ → CryptRecord
crypt offset = record { key = replicate 32 7; iv_offset = 3; base = record { device = d; offset = offset }; options = [] }

-- a crypt line is like a linear one
crypts : (first_refusal (over 8 0 true) (one true 6 (Crypt (crypt 2))) ≡ None) × (first_refusal (over 8 0 true) (one true 6 (Crypt (crypt 3))) ≡ refused BeyondDevice) × (first_refusal (over 8 0 false) (one true 6 (Crypt (crypt 2))) ≡ refused LowerReadOnly)
unfolding first_refusal is_on_cycle leads_below descend sector_size
crypts = (refl, refl, refl)

-- the device v of such a line
abbrev with : ℕ → Target → Configuration
with sectors target = after_load (over 1032 32 true) (one false sectors target)

keys : (key_of_line (with 6 (Crypt (crypt 2))) 0 0 ≡ Some (replicate 32 7)) × (key_of_line (with 6 (Crypt (crypt 2))) 0 1 ≡ None) × (key_of_line (with 1032 (tree d h 129 1)) 0 0 ≡ None)
keys = (refl, refl, refl)

-- a data block and a hash block of each of two levels
costs : (read_cost (with 1032 (tree d h 129 1)) (mapped 0) ≡ 24) × (write_cost (with 1032 (tree d h 129 1)) (mapped 0) ≡ 0) × (read_cost (with 6 (Crypt (crypt 2))) (mapped 0) ≡ 1) × (write_cost (with 6 (Crypt (crypt 2))) (mapped 0) ≡ 1)
unfolding descend levels sector_size
costs = (refl, refl, refl, refl)

-- trees over trees, on one device each
abbrev tower : ℕ → List ℕ → List ℕ → Entry
tower number name lower = record { number = number; name = name; writable = false; table = record { start = 0; length = 1032; target = tree lower lower 129 0 } ∷ [] }

abbrev six : List Entry
six = tower 1 (codes "v1") d ∷ tower 2 (codes "v2") (codes "/dev/mapper/v1") ∷ tower 3 (codes "v3") (codes "/dev/mapper/v2") ∷ tower 4 (codes "v4") (codes "/dev/mapper/v3")
    ∷ tower 5 (codes "v5") (codes "/dev/mapper/v4") ∷ tower 6 (codes "v6") (codes "/dev/mapper/v5") ∷ []

dear : (first_refusal (over 1032 0 true) six ≡ None) × (first_refusal (over 1032 0 true) (six ++ tower 7 (codes "v7") (codes "/dev/mapper/v6") ∷ []) ≡ Some (record { kind = CostTooLarge; device = 7; line = 0 }))
    × (read_cost (after_load (over 1032 0 true) six) (mapped 5) ≡ 191102976)
unfolding first_refusal is_on_cycle leads_below descend levels level_blocks area_blocks area_end
dear = (refl, refl, refl)
