-- Mapped devices by name.
use Rattle.std.specs.Prelude.{◌≡◌, ℕ, List, position}
use Rattle.std.specs.Borrow.{Bor}
use Rattle.std.specs.Str.{bytes_eq}
use Rattle.std.specs.HashMap.{HashMap, get_by}
use Rattle.stack_rules.specs.Records.{DeviceRecord}

-- the map gives the index of the first device with each name
abbrev pub IsPlaces : {S : Type 0} → List DeviceRecord → HashMap (Bor (List ℕ)) ℕ S → Type 0
IsPlaces devices places = (q : List ℕ) → get_by (λ k. bytes_eq q k.now) places ≡ position (λ d. bytes_eq d.name q) devices
