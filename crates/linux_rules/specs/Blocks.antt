-- The logical blocks of devices: the smallest units in which Linux accesses them (`logical_block_size` of `struct queue_limits`),
-- here in sectors.
use Rattle.std.specs.Prelude.{◌≡◌, ◌<◌, ◌≤◌, ℕ, max, List, [], ◌∷◌, length, map, slice_index}
use Rattle.std.specs.Option.{option_map_or}
use Rattle.dm_table.specs.declared.table.Target.{Target}
use Rattle.dm_table.specs.declared.table.Line.{Line}
use Rattle.stack_rules.specs.declared.lower.Lower.{Lower}
use Rattle.stack_rules.specs.declared.lower.Lower.TheVariants.{Leaf as leaf, Device as device}
use Rattle.stack_rules.specs.Records.{Configuration}
use Rattle.stack_rules.specs.Names.{mapped, names}
use Rattle.stack_rules.specs.Descend.{descend, depth, cost_rule, by_name, greatest}
use Rattle.stack_rules.specs.Trees.{block_sectors, verity_of}
use Rattle.stack_rules.specs.Units.{crypt_of, unit_sectors}

-- the devices on which a line's own sectors lie (`iterate_devices` of the targets): of a `verity` line the data device
abbrev pub data_names : Target → List (List ℕ)
data_names target = option_map_or (λ line. line.data ∷ []) (verity_of target) (names target)

-- the largest block of those devices, at least one sector (dm-table.c, `dm_set_device_limits`)
abbrev pub lower_block : (List ℕ → ℕ) → Target → ℕ
lower_block block target = max (greatest (map block (data_names target))) 1

-- the unit of a `crypt` line (dm-crypt.c, `crypt_io_hints`), and the data block of a `verity` line (dm-verity-target.c,
-- `verity_io_hints`); of another line one sector
abbrev pub unit_block : Target → ℕ
unit_block target = option_map_or unit_sectors (crypt_of target) 1

abbrev pub data_block : Target → ℕ
data_block target = option_map_or block_sectors (verity_of target) 1

-- a line's block: the largest of these
abbrev pub line_block : (List ℕ → ℕ) → Target → ℕ
line_block block target = max (lower_block block target) (max (unit_block target) (data_block target))

-- a backing device's is a sector, a mapped device's the largest of its lines'
abbrev pub logical_block : Configuration → Lower → ℕ
logical_block c = descend 0 (cost_rule c line_block)

-- the largest block of lines, where those of the devices beneath are given
abbrev pub table_block : Configuration → (Lower → ℕ) → List Line → ℕ
table_block c below lines = greatest (map (λ line. line_block (by_name c 0 below) line.target) lines)

-- the blocks in a list by the places of mapped devices
abbrev pub block_in : List ℕ → Lower → ℕ
block_in blocks (leaf i) = 1
block_in blocks (device d) = slice_index blocks d.0

-- those of all devices of depth k or less
abbrev pub AreBlocks : Configuration → ℕ → List ℕ → Type 0
AreBlocks c k blocks = (d : ℕ) → d < length blocks → depth c (mapped d) ≤ k → slice_index blocks d ≡ logical_block c (mapped d)
