-- The tree that a format makes.
use Rattle.std.specs.Prelude.{ℕ, Bool, true, false, None, Some}
use Rattle.image_commands.specs.declared.format.MadeImage.{MadeImage}
use Rattle.image_commands.specs.declared.tree_source.TreeSource.{TreeSource}
use Rattle.image_commands.specs.declared.tree_source.TreeSource.TheVariants.{Options, Superblock}
use Rattle.verity_format.specs.declared.formatting.FormatOptions.{FormatOptions}
use Rattle.fec_commands.specs.declared.wanted.WantedTree.{WantedTree}

-- the first block of a tree in its hash image: 1 after a superblock
abbrev pub start_of : Bool → ℕ
start_of true = 0
start_of false = 1

-- what is stated of a tree alone that was made
abbrev pub made_options : WantedTree → MadeImage → FormatOptions
made_options wanted made = record { uuid = made.uuid; data_block = wanted.options.data_block; hash_block = wanted.options.hash_block; blocks = Some made.blocks; salt = made.salt }

abbrev pub source_for : Bool → WantedTree → MadeImage → TreeSource
source_for true wanted made = Options (made_options wanted made)
source_for false wanted made = Superblock None

-- where the tree that was made is stated: in its superblock or, if it has none, in these
abbrev pub made_source : WantedTree → MadeImage → TreeSource
made_source wanted made = source_for wanted.bare wanted made
