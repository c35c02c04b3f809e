-- The block sizes in the options.
use Rattle.std.specs.Prelude.{◌==◌, not, ℕ, Bool, false, Option, None, Some}
use Rattle.command_line.specs.FormatOptions.{OptionTexts, block_size_of}

-- both are numbers, and they differ
abbrev pub differ : Option ℕ → Option ℕ → Bool
differ (Some a) (Some b) = not (a == b)
differ (Some a) None = false
differ None b = false

-- data blocks and hash blocks are to have different sizes
abbrev pub says_two_sizes : OptionTexts → Bool
says_two_sizes texts = differ (block_size_of texts.data_block) (block_size_of texts.hash_block)
