-- What the fields of a `LanesKey` hold.
use Rattle.std.specs.Prelude.{ℕ, List}
use Rattle.aes_block.specs.KeyExpansion.{rounds, key_schedule}
use Rattle.aes_lanes.specs.declared.lanes_key.LanesKey.TheInside.{Inside}
use Rattle.aes_lanes.specs.Keys.{HoldKeys}

-- the bytes of the key
abbrev pub key_of_lanes : Inside → List ℕ
key_of_lanes k = k.key

-- the planes are those of the key's round keys
abbrev pub HoldsPlanes : Inside → Type 0
HoldsPlanes k = HoldKeys (rounds k.key) (key_schedule k.key) k.planes
