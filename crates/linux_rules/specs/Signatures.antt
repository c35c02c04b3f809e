-- Signatures of root hashes, which Linux checks.
use Rattle.std.specs.Prelude.{Bool, false, is_some}
use Rattle.std.specs.List.{list_any}
use Rattle.std.specs.Option.{option_map_or}
use Rattle.dm_table.specs.declared.table.Line.{Line}
use Rattle.stack_rules.specs.Records.{Configuration, DeviceRecord}
use Rattle.stack_rules.specs.Trees.{verity_of}

-- a `verity` line names the key that holds the signature of its root hash
abbrev pub is_signed : Line → Bool
is_signed line = option_map_or (λ verity. is_some verity.signature_key) (verity_of line.target) false

-- a line of a device is such a line
abbrev pub has_signed : DeviceRecord → Bool
has_signed device = list_any is_signed device.table

-- a device has one
unfoldable pub has_signature : Configuration → Bool
has_signature c = list_any has_signed c.devices
