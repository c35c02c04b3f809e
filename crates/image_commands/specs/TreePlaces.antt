-- What a tree without a superblock is.
use Rattle.std.specs.Prelude.{◌≡◌, ℕ, List, replicate, Option, None, Some, IsSome, option_map}
use Rattle.tree_shape.specs.Shape.{first_fault}
use Rattle.verity_format.specs.declared.formatting.FormatFault.{FormatFault}
use Rattle.verity_format.specs.declared.formatting.FormatFault.TheVariants.{Shape}
use Rattle.verity_format.specs.declared.formatting.FormatOptions.{FormatOptions}
use Rattle.verity_format.specs.Superblock.{SuperRecord, shape_of}
use Rattle.command_line.specs.declared.image_options.ImageOptions.{ImageOptions}

-- 16 zeros, since no identifier is stored
abbrev pub no_uuid : List ℕ
no_uuid = replicate 16 0

abbrev pub unnamed : ImageOptions → ImageOptions
unnamed options = record options { uuid = Some no_uuid }

-- the options of a tree, if its salt is given
abbrev pub given_options : ImageOptions → Option FormatOptions
given_options options = option_map (λ salt. record { uuid = no_uuid; data_block = options.data_block; hash_block = options.hash_block; blocks = options.blocks; salt = salt }) options.salt

-- a tree of these parts has a shape, and is that one
abbrev pub HasShape : SuperRecord → SuperRecord → Type 0
HasShape s made = (made ≡ s) × (first_fault (shape_of s) ≡ None)

-- no tree has these sizes and so many blocks
abbrev pub HasNoShape : SuperRecord → FormatFault → Type 0
HasNoShape s fault = (fault ≡ Shape) × IsSome (first_fault (shape_of s))
