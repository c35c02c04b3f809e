-- The printed form of a table: each line ends with a newline, and its words are separated by single spaces.
use Rattle.std.specs.Prelude.{◌≡◌, ℕ, Bool, List, Vec, [], ◌∷◌, ◌++◌, length, flat_map, codes, decimal}
use Rattle.std.specs.Global.{Global}
use Rattle.std.specs.List.{join_with_byte}
use Rattle.dm_table.specs.declared.table.Base.{Base}
use Rattle.dm_table.specs.declared.table.Line.{Line}
use Rattle.dm_table.specs.declared.table.Target.{Target}
use Rattle.dm_table.specs.declared.table.Target.TheVariants as targets
use Rattle.dm_table.specs.Words.{Word}
use Rattle.table_text.specs.ArgumentWords.{crypt_words, verity_words}
use Rattle.table_text.specs.Unstriped.{unstriped_words}

abbrev pub base_words : Base → List Word
base_words base = base.device ∷ decimal base.offset ∷ []

-- a target's type and arguments, with its key or with zeros
unfoldable pub target_words : Bool → Target → List Word
target_words show (targets.Linear base) = codes "linear" ∷ base_words base
target_words show (targets.Striped chunk bases) = codes "striped" ∷ decimal (length bases) ∷ decimal chunk ∷ flat_map base_words bases
target_words show targets.Zero = codes "zero" ∷ []
target_words show targets.Error = codes "error" ∷ []
target_words show (targets.Crypt crypt) = codes "crypt" ∷ crypt_words show crypt
target_words show (targets.Verity verity) = codes "verity" ∷ verity_words verity
target_words show (targets.Unstriped line) = codes "unstriped" ∷ unstriped_words line

abbrev pub line_words : Bool → Line → List Word
line_words show line = decimal line.start ∷ decimal line.length ∷ target_words show line.target

unfoldable pub line_text : Bool → Line → List ℕ
line_text show line = join_with_byte 32 (line_words show line)

-- the text of a table; numbers have no leading zeros
abbrev pub printed_table : Bool → List Line → List ℕ
printed_table show lines = flat_map (λ line. line_text show line ++ 10 ∷ []) lines

-- a word after a space
abbrev pub spaced_word : Word → List ℕ
spaced_word word = 32 ∷ word

-- the length of these words in bytes, each with a space before it
abbrev pub printed_length : List Word → ℕ
printed_length words = length (flat_map spaced_word words)

-- the new text is the old one followed by these words, each with a space before it
abbrev pub PrintsWords : Vec ℕ Global → List Word → Vec ℕ Global → Type 0
PrintsWords old words new = new.items ≡ old.items ++ flat_map spaced_word words

-- the type and arguments of a `striped` line
abbrev pub striped_words : ℕ → List Base → List Word
striped_words chunk bases = codes "striped" ∷ decimal (length bases) ∷ decimal chunk ∷ flat_map base_words bases
