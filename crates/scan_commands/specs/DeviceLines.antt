-- The devices of a configuration as lines, as a tree, or as an object on one line.
use Rattle.std.specs.Prelude.{ℕ, zero, suc, List, [], ◌++◌, length, codes, decimal, if◌then◌else◌}
use Rattle.stack_rules.specs.Records.{Configuration}
use Rattle.stack_rules.specs.Names.{mapped, name_of, size, may_write}
use Rattle.stack_rules.specs.Descend.{depth, read_cost, write_cost}
use Rattle.program_io.specs.JsonLines.{json_line}
use Rattle.command_line.specs.Bindings.{BindingRecord}
use Rattle.command_line.specs.declared.list_form.ListForm.{ListForm}
use Rattle.command_line.specs.declared.list_form.ListForm.TheVariants.{Lines, Tree, Object}
use Rattle.scan_commands.specs.Devices.{load_json}
use Rattle.scan_commands.specs.Trees.{tree_text}

-- ` sectors S depth D read R write W rw`, or `ro`
abbrev pub device_facts : Configuration → ℕ → List ℕ
device_facts c d =
    codes " sectors " ++ (decimal (size c (mapped d)) ++ (codes " depth " ++ (decimal (depth c (mapped d))
    ++ (codes " read " ++ (decimal (read_cost c (mapped d)) ++ (codes " write " ++ (decimal (write_cost c (mapped d))
    ++ (codes " " ++ ((if may_write c (mapped d) then codes "rw" else codes "ro") ++ codes "\n")))))))))

-- the line of a device
unfoldable pub device_line : Configuration → ℕ → List ℕ
device_line c d = name_of c d ++ device_facts c d

-- a line for each of the first n devices
abbrev pub device_lines : Configuration → ℕ → List ℕ
device_lines c zero = []
device_lines c (suc n) = device_lines c n ++ device_line c n

-- a line for each device
abbrev pub devices_text : Configuration → List ℕ
devices_text c = device_lines c (length c.devices)

-- a line for each device, a tree, or the JSON object
abbrev pub load_text : ListForm → Configuration → List BindingRecord → List ℕ
load_text Lines c bindings = devices_text c
load_text Tree c bindings = tree_text (record { config = c; bindings = bindings })
load_text Object c bindings = json_line (load_json c)
