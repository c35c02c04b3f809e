-- Images in memory with names.
use Rattle.std.specs.Prelude.{◌≡◌, ◌<◌, ℕ, List, length, Option, Some, Vec, String, string_bytes, nat_eq, position, slice_get}
use Rattle.std.specs.Cmp.Lexicographic.{pointwise}
use Rattle.std.specs.Option.{option_map}
use Rattle.block_device.specs.declared.open_fault.OpenFault.{OpenFault}
use Rattle.block_device.specs.declared.open_fault.OpenFault.TheVariants.{NotFound, NoMemory}

-- the first index with that name
abbrev pub named_place : {Z : Type 0} → List (String Z) → List ℕ → Option ℕ
named_place names path = position (λ name. pointwise nat_eq (string_bytes name) path) names

-- the bytes at an index
abbrev pub image_bytes : {Z : Type 0} → List (Vec ℕ Z) → ℕ → Option (List ℕ)
image_bytes images place = option_map (λ bytes. bytes.items) (slice_get images place)

-- these bytes are at this index, which is the first with that name
pub record Stands {Z : Type 0} (names : List (String Z)) (images : List (Vec ℕ Z)) (path : List ℕ) (place : ℕ) (bytes : List ℕ) : Type 0 where
  pub placed : named_place names path ≡ Some place
  pub found : image_bytes images place ≡ Some bytes

-- there is no image with that name
abbrev pub IsMissing : {Z : Type 0} → List (String Z) → List (Vec ℕ Z) → List ℕ → Type 0
IsMissing names images path = (place : ℕ) (bytes : List ℕ) → Stands names images path place bytes → ⊥

-- why there is no copy of the image with that name
abbrev pub IsUncopied : {Z : Type 0} → List (String Z) → List (Vec ℕ Z) → List ℕ → OpenFault → Type 0
IsUncopied names images path NotFound = IsMissing names images path
IsUncopied names images path NoMemory = Unit {0}
IsUncopied names images path fault = ⊥

-- the bytes at an index were changed by this function
pub record IsChanged {Z : Type 0} (old : List (Vec ℕ Z)) (place : ℕ) (change : List ℕ → List ℕ) (new : List (Vec ℕ Z)) : Type 0 where
  pub here : image_bytes new place ≡ option_map change (image_bytes old place)
  pub others : (k : ℕ) → (k ≡ place → ⊥) → image_bytes new k ≡ image_bytes old k

-- the bytes at an index were replaced
pub record AreBytesPut {Z : Type 0} (old : List (Vec ℕ Z)) (place : ℕ) (bytes : List ℕ) (new : List (Vec ℕ Z)) : Type 0 where
  pub here : place < length old → image_bytes new place ≡ Some bytes
  pub others : (k : ℕ) → (k ≡ place → ⊥) → image_bytes new k ≡ image_bytes old k
