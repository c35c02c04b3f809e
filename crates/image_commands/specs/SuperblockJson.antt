-- The fields of a superblock as a JSON object, and in which form they are printed.
use Rattle.std.specs.Prelude.{ℕ, List, Option, codes}
use Rattle.std.specs.Io.KnownBytes.{Appends}
use Rattle.allocation.specs.Refusal.{IsOutOfMemory}
use Rattle.program_io.specs.Counted.{CountedRecord}
use Rattle.uuid.specs.Text.{hyphenated_text, lower}
use Rattle.serde_json.specs.Data.{Data, number, object, string, unsigned, member, no_members}
use Rattle.program_io.specs.JsonLines.{json_line}
use Rattle.verity_format.specs.Line.{salt_word}
use Rattle.verity_format.specs.Superblock.{SuperRecord}
use Rattle.command_line.specs.declared.words.dump.DumpForm.{DumpForm}
use Rattle.command_line.specs.declared.words.dump.DumpForm.TheVariants.{Lines, Object, Pin}
use Rattle.image_pin.specs.PinTexts.{pin_text}
use Rattle.image_commands.specs.PinFiles.{pin_in}
use Rattle.image_commands.specs.SuperblockTexts.{superblock_text}

-- the hash type and the algorithm are always these
abbrev pub fields_json : ℕ → ℕ → ℕ → Data → Data → Data
fields_json data_block blocks hash_block salt uuid =
    object
    (member (codes "algorithm") (string (codes "sha256"))
    (member (codes "data_block") (number (unsigned data_block))
    (member (codes "data_blocks") (number (unsigned blocks))
    (member (codes "hash_block") (number (unsigned hash_block))
    (member (codes "hash_type") (number (unsigned 1))
    (member (codes "salt") salt
    (member (codes "uuid") uuid
    no_members)))))))

-- the fields that the lines print, as an object
abbrev pub superblock_json : SuperRecord → Data
superblock_json s = fields_json s.data_block s.blocks s.hash_block (string (salt_word s.salt)) (string (hyphenated_text lower s.uuid))

-- as lines, as an object, or as the pin of a root hash with these values
abbrev pub dump_text : DumpForm → SuperRecord → List ℕ
dump_text Lines s = superblock_text s
dump_text Object s = json_line (superblock_json s)
dump_text (Pin root) s = pin_text (pin_in root s)

-- why memory runs out: lines need none; an object grows within `serde_json`, which makes no evidence; a pin's text was refused
abbrev pub RefusesDump : DumpForm → Type 0
RefusesDump Lines = ⊥
RefusesDump Object = Unit {0}
RefusesDump (Pin root) = IsOutOfMemory 512

-- one of these was written
abbrev pub SaysDump : {W : Type 0} → (W → Option (List ℕ)) → CountedRecord W → CountedRecord W → DumpForm → SuperRecord → Type 0
SaysDump contents writer writer' form s = Appends (contents writer.inner) (contents writer'.inner) (dump_text form s)
