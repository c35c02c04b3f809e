-- Images in memory as files.
use Rattle.std.specs.Prelude.{ℕ, true, List, Option, Some, None, Vec}
use Rattle.std.specs.Option.{option_map}
use Rattle.image_files.specs.Promises.{FileRecord}
use Rattle.memory_images.specs.declared.named_images.MemoryImages.{MemoryImages}
use Rattle.memory_images.specs.MemoryRelations.{id_at}
use Rattle.memory_images.specs.Named.{image_bytes, named_place}

abbrev pub file_at : {Z : Type 0} → List (Vec ℕ Z) → ℕ → Option FileRecord
file_at images place = option_map (λ bytes. record { id = id_at place; bytes = bytes; regular = true }) (image_bytes images place)

abbrev pub file_at_place : {Z : Type 0} → List (Vec ℕ Z) → Option ℕ → Option FileRecord
file_at_place images None = None
file_at_place images (Some place) = file_at images place

-- the image with that name
abbrev pub file_under : MemoryImages → List ℕ → Option FileRecord
file_under m path = file_at_place m.images.items (named_place m.names.items path)
