-- An index of leaves and devices by name.
use Rattle.std.specs.Prelude.{◌≡◌, ℕ, List, position}
use Rattle.std.specs.Str.{bytes_eq}
use Rattle.std.specs.HashMap.{get_by}
use Rattle.stack_loader.specs.declared.index.Index.{Index}
use Rattle.stack_rules.specs.Records.{Configuration}

-- the index gives the first leaf and the first device with a name
pub record IsIndex (c : Configuration) (index : Index) : Type 0 where
  pub leaves : (q : List ℕ) → get_by (λ k. bytes_eq q k.now) index.leaves ≡ position (λ l. bytes_eq l.name q) c.leaves
  pub devices : (q : List ℕ) → get_by (λ k. bytes_eq q k.now) index.devices ≡ position (λ d. bytes_eq d.name q) c.devices
