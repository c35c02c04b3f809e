-- The parity of a `verity` line, as documented on the kernel's dm-verity page.
use Rattle.std.specs.Prelude.{ℕ, ◌^◌, ◌<◌, ◌≤◌, Bool, ◌&&◌, nat_le, IsTrue, if◌then◌else◌, List, [], ◌∷◌, decimal, Option, Some, None, Ok, Err}
use Rattle.std.specs.List.{list_any}
use Rattle.dm_table.specs.declared.parity.Parity.{Parity}
use Rattle.dm_table.specs.declared.fault.TextKind.TheVariants as kinds
use Rattle.dm_table.specs.Words.{Word}
use Rattle.dm_table.specs.Names.{is_device}
use Rattle.dm_table.specs.Reading.{Read, ◌>>=◌}
use Rattle.dm_table.specs.Arguments.{device_at, number_at}
use Rattle.dm_table.specs.Options.{is_one_of}
use Rattle.dm_table.specs.ValuedOptions.{fec_blocks, fec_roots, fec_start, option_value, parity_options, use_fec_from_device}

-- 2 to 24 bytes of parity in a codeword
abbrev pub roots_at : Word → Read ℕ
roots_at word = do
  n ← number_at word
  if nat_le 2 n && nat_le n 24 then Ok n else Err kinds.Option

-- `use_fec_from_device <dev> fec_roots <n> fec_blocks <n> fec_start <n>` in any order, among other options
unfoldable pub fec_at : List Word → Read Parity
fec_at words = do
  name ← option_value use_fec_from_device words
  device ← device_at name
  count ← option_value fec_roots words
  roots ← roots_at count
  covered ← option_value fec_blocks words
  blocks ← number_at covered
  begin ← option_value fec_start words
  start ← number_at begin
  Ok (record { device = device; roots = roots; blocks = blocks; start = start })

-- one of the options is an option of parity
abbrev pub has_parity : List Word → Bool
has_parity options = list_any (λ name. is_one_of name options) parity_options

-- the parity of a line with these options, from its options and their values: all four options or none
unfoldable pub parity_at : List Word → List Word → Read (Option Parity)
parity_at options words =
    if has_parity options then (fec_at words >>= (λ parity. Ok (Some parity))) else Ok None

-- the options of parity and their values, in the order in which the kernel prints them
abbrev pub parity_words : Option Parity → List Word
parity_words None = []
parity_words (Some parity) =
    use_fec_from_device ∷ parity.device ∷ fec_blocks ∷ decimal parity.blocks ∷ fec_start ∷ decimal parity.start ∷ fec_roots ∷ decimal parity.roots ∷ []

-- a device argument, 2 to 24 bytes of parity in a codeword, and the number of covered blocks and the offset, in blocks
pub record IsParityOfGrammar (parity : Parity) : Type 0 where
  pub device : IsTrue (is_device parity.device)
  pub some_roots : 2 ≤ parity.roots
  pub most_roots : parity.roots ≤ 24
  pub blocks : parity.blocks < 2 ^ 64
  pub start : parity.start < 2 ^ 64
