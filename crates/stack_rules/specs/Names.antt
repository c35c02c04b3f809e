-- The leaves and devices that the names in a table refer to.
use Rattle.std.specs.Prelude.{ℕ, Bool, false, List, [], ◌++◌, map, filter_map, flat_map, sum_by, Option, option_map, slice_get, position, codes}
use Rattle.std.specs.Str.{bytes_eq}
use Rattle.std.specs.Option.{option_or, option_map_or}
use Rattle.dm_table.specs.declared.table.Line.{Line}
use Rattle.dm_table.specs.declared.table.Target.{Target}
use Rattle.stack_rules.specs.declared.lower.Lower.{Lower}
use Rattle.stack_rules.specs.declared.lower.Lower.TheVariants.{Leaf as leaf, Device as device}
use Rattle.stack_rules.specs.Records.{Configuration}
use Rattle.stack_rules.specs.RulesOf.{rules_of}

-- the mapped device with index d
abbrev pub mapped : ℕ → Lower
mapped d = device (record { 0 = d })

-- the names in a target, from left to right
abbrev pub names : Target → List (List ℕ)
names target = map (λ base. base.device) (rules_of target).bases

-- the path by which a table names a mapped device
abbrev pub path_of : List ℕ → List ℕ
path_of name = codes "/dev/mapper/" ++ name

-- the index of the mapped device with this name
abbrev pub device_named : Configuration → List ℕ → Option ℕ
device_named c name = position (λ d. bytes_eq d.name name) c.devices

-- the leaf with this name, or the mapped device with this path
abbrev pub named : Configuration → List ℕ → Option Lower
named c name = option_or
    (option_map leaf (position (λ l. bytes_eq l.name name) c.leaves))
    (option_map mapped (position (λ d. bytes_eq (path_of d.name) name) c.devices))

-- the name of a mapped device
abbrev pub name_of : Configuration → ℕ → List ℕ
name_of c d = option_map_or (λ x. x.name) (slice_get c.devices d) []

-- the lines of a mapped device
abbrev pub lines_of : Configuration → ℕ → List Line
lines_of c d = option_map_or (λ x. x.table) (slice_get c.devices d) []

-- the leaves and devices that the lines of a device name
abbrev pub lowers : Configuration → ℕ → List Lower
lowers c d = filter_map (named c) (flat_map (λ line. names line.target) (lines_of c d))

-- the leaves and devices directly below; a leaf has none
abbrev pub lowers_of : Configuration → Lower → List Lower
lowers_of c (leaf i) = []
lowers_of c (device d) = lowers c d.0

-- the size in sectors
abbrev pub table_sectors : List Line → ℕ
table_sectors lines = sum_by (λ line. line.length) lines

abbrev pub size : Configuration → Lower → ℕ
size c (leaf i) = option_map_or (λ l. l.sectors) (slice_get c.leaves i) 0
size c (device d) = table_sectors (lines_of c d.0)

-- whether the leaf or device is writable
abbrev pub may_write : Configuration → Lower → Bool
may_write c (leaf i) = option_map_or (λ l. l.writable) (slice_get c.leaves i) false
may_write c (device d) = option_map_or (λ x. x.writable) (slice_get c.devices d.0) false
