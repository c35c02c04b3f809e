-- Devices by their names.
use Rattle.std.proofs.Common.{◌≡◌, Option, Some, None, refl}
use Rattle.std.specs.Option.{option_map}
use Rattle.std.proofs.lemmas.Option.{none-some}

-- what is nothing under a map is nothing
pub none-mapped : {A B : Type 0} (f : A → B) (o : Option A) → None ≡ option_map f o → o ≡ None
none-mapped f None is = refl
none-mapped f (Some x) is = absurd (none-some (f x) is)
