-- Which of the options that say what an image is says no value.
use Rattle.std.specs.Prelude.{ℕ, nat_le, List, length, codes, Option, None, Some, option_map, Ok, if◌then◌else◌}
use Rattle.std.specs.Option.{option_and_then}
use Rattle.uuid.specs.Text.{parsed}
use Rattle.dm_table.specs.Numbers.{number}
use Rattle.command_line.specs.declared.misuse.Cause.TheVariants.{BlockSize, Identifier, Number, Salt}
use Rattle.command_line.specs.FormatOptions.{OptionTexts, block_size_of, salt_of}
use Rattle.command_line.specs.Misuses.{Reading, wanted, wanted_if, when}

-- a salt of at most 256 bytes
abbrev pub short_salt : List ℕ → Option (List ℕ)
short_salt word = option_and_then (λ bytes. if nat_le (length bytes) 256 then Some bytes else None) (salt_of word)

unfoldable pub options_read : OptionTexts → Reading (Unit {0})
options_read texts =
    when (wanted (codes "--data-block") BlockSize (block_size_of texts.data_block)) (λ a.
    when (wanted (codes "--hash-block") BlockSize (block_size_of texts.hash_block)) (λ b.
    when (wanted_if (codes "--blocks") Number (option_map number texts.blocks)) (λ c.
    when (wanted_if (codes "--salt") Salt (option_map short_salt texts.salt)) (λ d.
    when (wanted_if (codes "--uuid") Identifier (option_map parsed texts.uuid)) (λ e. Ok tt)))))
