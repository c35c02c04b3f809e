-- The rows of a tree of devices.
use Rattle.std.specs.Prelude.{ℕ, ◌<◌, length, ◌*◌, ◌/◌, ◌==◌, Bool, List, [], ◌++◌, Option, Some, None, slice_get, flat_map, codes, decimal, if◌then◌else◌}
use Rattle.std.specs.Option.{option_map_or}
use Rattle.dm_table.specs.declared.table.Line.{Line}
use Rattle.dm_table.specs.declared.table.Target.{Target}
use Rattle.dm_table.specs.declared.table.Target.TheVariants as targets
use Rattle.dm_table.specs.declared.target_type.TargetType.{TargetType}
use Rattle.dm_table.specs.declared.target_type.TargetType.TheVariants as types
use Rattle.dm_table.specs.TargetTypes.{type_word}
use Rattle.stack_rules.specs.declared.lower.Lower.{Lower}
use Rattle.stack_rules.specs.declared.lower.Lower.TheVariants.{Leaf as leaf, Device as device}
use Rattle.stack_rules.specs.Records.{Configuration}
use Rattle.stack_rules.specs.Names.{name_of, size, may_write}
use Rattle.command_line.specs.Bindings.{BackingRecord, BindingRecord, file, part, partition, mapped, zeros, ramp}
use Rattle.io_fault_text.specs.Paths.{shown_path}

-- the branches at the left of a row: a bar for each device above it that has further rows
abbrev pub bars_text : List Bool → List ℕ
bars_text bars = flat_map (λ bar. if bar then codes "| " else codes "  ") bars

abbrev pub branch_text : Bool → List ℕ
branch_text last = if last then codes "`-" else codes "|-"

abbrev pub type_of : Target → TargetType
type_of (targets.Linear base) = types.Linear
type_of (targets.Striped chunk bases) = types.Striped
type_of targets.Zero = types.Zero
type_of targets.Error = types.Error
type_of (targets.Crypt line) = types.Crypt
type_of (targets.Verity line) = types.Verity
type_of (targets.Unstriped line) = types.Unstriped

-- `TYPE FIRST COUNT`: the target type of a line, and its sectors
unfoldable pub line_text : Line → List ℕ
line_text line = type_word (type_of line.target) ++ (codes " " ++ (decimal line.start ++ (codes " " ++ decimal line.length)))

-- the sector of device i of a target at which its range begins, or its hash tree or parity
abbrev pub offset_of : Target → ℕ → ℕ
offset_of (targets.Linear base) i = base.offset
offset_of (targets.Striped chunk bases) i = option_map_or (λ base. base.offset) (slice_get bases i) 0
offset_of targets.Zero i = 0
offset_of targets.Error i = 0
offset_of (targets.Crypt line) i = line.base.offset
offset_of (targets.Verity line) i =
    if i == 0 then 0
    else if i == 1 then line.start * (line.hash_block / 512)
    else option_map_or (λ parity. parity.start * (line.data_block / 512)) line.parity 0
offset_of (targets.Unstriped line) i = line.base.offset

-- ` sectors S rw`, or `ro`
abbrev pub size_text : ℕ → Bool → List ℕ
size_text sectors writable = codes " sectors " ++ (decimal sectors ++ (codes " " ++ (if writable then codes "rw" else codes "ro")))

abbrev pub lower_name : Configuration → Lower → List ℕ
lower_name c (leaf i) = option_map_or (λ l. l.name) (slice_get c.leaves i) []
lower_name c (device d) = name_of c d.0

-- `NAME sectors S rw`, or `ro`
unfoldable pub lower_text : Configuration → Lower → List ℕ
lower_text c lower = lower_name c lower ++ size_text (size c lower) (may_write c lower)

-- it is a leaf or device of the configuration
abbrev pub IsIn : Configuration → Lower → Type 0
IsIn c (leaf i) = i < length c.leaves
IsIn c (device d) = d.0 < length c.devices

-- ` file PATH` for a leaf in a file
abbrev pub backing_text : BackingRecord → List ℕ
backing_text (file path writable) = codes " file " ++ shown_path path
backing_text (part path writable at) = codes " file " ++ shown_path path
backing_text (partition path writable named) = codes " file " ++ shown_path path
backing_text (mapped path map_file within) = codes " file " ++ shown_path path
backing_text (zeros sectors) = []
backing_text (ramp sectors) = []

abbrev pub file_text : List BindingRecord → ℕ → List ℕ
file_text bindings i = option_map_or (λ binding. backing_text binding.backing) (slice_get bindings i) []
