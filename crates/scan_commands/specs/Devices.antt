-- The devices of a configuration as a JSON object.
use Rattle.std.specs.Prelude.{ℕ, zero, suc, List, [], ◌∷◌, ◌++◌, length, codes}
use Rattle.serde_json.specs.Data.{Data, array, boolean, number, object, string, unsigned, member, no_members}
use Rattle.serde_json.specs.View.{items_of}
use Rattle.stack_rules.specs.Records.{Configuration}
use Rattle.stack_rules.specs.Names.{mapped, name_of, size, may_write}
use Rattle.stack_rules.specs.Descend.{depth, read_cost, write_cost}

-- the object of a device, with the values of its line
abbrev pub device_json : Configuration → ℕ → Data
device_json c d =
    object
    (member (codes "depth") (number (unsigned (depth c (mapped d))))
    (member (codes "name") (string (name_of c d))
    (member (codes "read") (number (unsigned (read_cost c (mapped d))))
    (member (codes "sectors") (number (unsigned (size c (mapped d))))
    (member (codes "writable") (boolean (may_write c (mapped d)))
    (member (codes "write") (number (unsigned (write_cost c (mapped d))))
    no_members))))))

-- the first n devices
abbrev pub devices_json : Configuration → ℕ → List Data
devices_json c zero = []
devices_json c (suc n) = devices_json c n ++ device_json c n ∷ []

abbrev pub load_json : Configuration → Data
load_json c = object (member (codes "devices") (array (items_of (devices_json c (length c.devices)))) no_members)
