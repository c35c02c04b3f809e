-- What the fields of an `XtsKey` hold.
use Rattle.std.specs.Prelude.{◌≡◌, ℕ, List, ◌++◌, length}
use Rattle.xts_sector.specs.declared.xts_key.XtsKey.TheInside.{Inside}

-- the key for the data followed by the key for the tweak
abbrev pub two_keys : Inside → List ℕ
two_keys k = k.data_key ++ k.tweak_key

-- both keys have the same length
abbrev pub HoldsKeys : Inside → Type 0
HoldsKeys k = length k.data_key ≡ length k.tweak_key
