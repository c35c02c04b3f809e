-- The text of a pin: a header line, followed by lines of a name and a value.
use Rattle.std.specs.Prelude.{ℕ, nat_lt, List, [], ◌∷◌, ◌++◌, codes, decimal, length, Option, Some, None, Result, Ok, Err, if◌then◌else◌}
use Rattle.std.specs.Borrow.{Bor}
use Rattle.std.specs.Str.{bytes_eq}
use Rattle.hex.specs.Hex.{encode_lower}
use Rattle.dm_table.specs.Reading.{◌>>=◌}
use Rattle.dm_table.specs.Words.{Word, text_lines, words}
use Rattle.verity_format.specs.Line.{salt_word}
use Rattle.image_pin.specs.declared.fault.PinFault.{PinFault}
use Rattle.image_pin.specs.declared.fault.PinFault.TheVariants as fault
use Rattle.image_pin.specs.declared.fields.PinFields.{PinFields}
use Rattle.image_pin.specs.declared.name.PinName.{PinName}
use Rattle.image_pin.specs.declared.name.PinName.TheVariants.{Root, Salt, DataBlockSize, HashBlockSize, DataBlocks}
use Rattle.image_pin.specs.declared.pin.Pin.{Pin}
use Rattle.image_pin.specs.Fields.{finish, no_fields, set_field}
use Rattle.image_pin.specs.Names.{name_of, name_text}

-- ---- reading

abbrev pub take_named : PinFields → Option PinName → Word → Result PinFields PinFault
take_named fields None value = Err fault.Unknown
take_named fields (Some name) value = set_field fields name value

-- the fields with those of a line added: a name and a value
abbrev pub take_line : PinFields → List Word → Result PinFields PinFault
take_line fields (name ∷ value ∷ []) = take_named fields (name_of name) value
take_line fields other = Err fault.Line

-- the fields, if no lines remain
abbrev pub at_end : PinFields → List (List ℕ) → Result PinFields PinFault
at_end fields [] = Ok fields
at_end fields (line ∷ more) = Err fault.Line

-- the fields of all lines; nothing follows the last newline
abbrev pub take_lines : PinFields → List (List ℕ) → Result PinFields PinFault
take_lines fields [] = Ok fields
take_lines fields ([] ∷ more) = at_end fields more
take_lines fields ((byte ∷ line) ∷ more) = take_line fields (words (byte ∷ line)) >>= (λ fields. take_lines fields more)

-- the fields of the lines after the first, which must be the header
abbrev pub fields_behind : List (List ℕ) → Result PinFields PinFault
fields_behind [] = Err fault.Header
fields_behind (line ∷ more) = if bytes_eq line (codes "dmstack-pin 1") then take_lines no_fields more else Err fault.Header

-- the pin of a text, or its first fault in reading order
unfoldable pub pin_of : List ℕ → Result Pin PinFault
pin_of text = fields_behind (text_lines text) >>= finish

-- the pin of a text of at most 4,096 bytes, or its first fault
abbrev pub limited_pin : List ℕ → Result Pin PinFault
limited_pin text = if nat_lt 4096 (length text) then Err fault.TooLong else pin_of text

-- the remaining lines of a text
abbrev pub rest_lines : Option (Bor (List ℕ)) → List (List ℕ)
rest_lines None = []
rest_lines (Some rest) = text_lines rest.now

-- ---- writing

-- a name, a space and a value
abbrev pub line_text : PinName → Word → List ℕ
line_text name value = name_text name ++ 32 ∷ value

-- a name, a space, a value and a newline
abbrev pub pin_line : PinName → Word → List ℕ
pin_line name value = line_text name value ++ 10 ∷ []

abbrev pub pin_lines : List (PinName × Word) → List ℕ
pin_lines [] = []
pin_lines (line ∷ more) = pin_line line.0 line.1 ++ pin_lines more

-- the names and values in the order in which they are printed
unfoldable pub pin_words : Pin → List (PinName × Word)
pin_words pin =
    (Root, encode_lower pin.root) ∷ (Salt, salt_word pin.salt) ∷ (DataBlockSize, decimal pin.data_block)
    ∷ (HashBlockSize, decimal pin.hash_block) ∷ (DataBlocks, decimal pin.blocks) ∷ []

unfoldable pub pin_text : Pin → List ℕ
pin_text pin = (codes "dmstack-pin 1" ++ 10 ∷ []) ++ pin_lines (pin_words pin)
