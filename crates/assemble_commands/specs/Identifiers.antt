-- What a seed determines, and UUIDs that are derived from a salt.
use Rattle.std.specs.Prelude.{ℕ, List, [], Option, None, Some, codes, take}
use Rattle.command_line.specs.declared.image_options.ImageOptions.{ImageOptions}
use Rattle.tree_shape.specs.Digests.{digest}
use Rattle.uuid.specs.Parts.{with_variant, with_version}
use Rattle.uuid.specs.declared.Variant.TheVariants.{RFC4122}
use Rattle.uuid.specs.declared.Version.TheVariants.{Custom}

-- the UUID of that name, of version 8: the first bits of SHA-256 of the salt and the name
unfoldable pub identifier : List ℕ → List ℕ → List ℕ
identifier salt name = with_version (with_variant (take 16 (digest salt name)) RFC4122) Custom

-- the salt is SHA-256 of the seed
unfoldable pub seed_salt : List ℕ → List ℕ
seed_salt seed = digest [] seed

-- blocks of 4,096 bytes, as many as the data have
abbrev pub options_with : Option (List ℕ) → Option (List ℕ) → ImageOptions
options_with salt uuid = record { data_block = 4096; hash_block = 4096; blocks = None; salt = salt; uuid = uuid }

-- salt and identifier are drawn, unless a seed determines them
abbrev pub seed_options : Option (List ℕ) → ImageOptions
seed_options None = options_with None None
seed_options (Some seed) = options_with (Some (seed_salt seed)) (Some (identifier (seed_salt seed) (codes "image")))
