-- The bytes of a text, and how it is split into words, lines, entries and fields.
use Rattle.std.specs.Prelude.{ℕ, ◌-◌, Bool, not, ◌&&◌, ◌||◌, ◌==◌, nat_lt, nat_le, List, [], ◌∷◌, ◌≡◌, length, filter, take, drop, Option, Some, None}
use Rattle.std.specs.Borrow.{Bor}
use Rattle.std.specs.List.{slice_split, list_all, prefix_len, suffix_len}

-- bytes without white space
abbrev pub Word : Type 0
Word = List ℕ

-- space, tab, carriage return or newline
abbrev pub is_white : ℕ → Bool
is_white b = (b == 32) || (b == 9) || (b == 13) || (b == 10)

-- a printing ASCII character other than the backslash
abbrev pub is_graphic : ℕ → Bool
is_graphic b = nat_le 0x21 b && nat_le b 0x7e && not (b == 0x5c)

-- every byte is white space or a printing character
abbrev pub is_text : List ℕ → Bool
is_text text = list_all (λ b. is_white b || is_graphic b) text

-- the maximal runs of bytes that aren't white space
unfoldable pub words : List ℕ → List Word
words text = filter (λ word. nat_lt 0 (length word)) (slice_split is_white text)

-- the text without white space at either end
unfoldable pub trimmed_text : List ℕ → List ℕ
trimmed_text text = let rest = drop (prefix_len is_white text) text in take (length rest - suffix_len is_white rest) rest

-- the lines of a text, which newlines separate
unfoldable pub text_lines : List ℕ → List (List ℕ)
text_lines text = slice_split (λ b. b == 10) text

-- the entries of a stack text, which semicolons separate
unfoldable pub entries_of : List ℕ → List (List ℕ)
entries_of text = slice_split (λ b. b == 59) text

-- the fields of an entry, which commas separate
unfoldable pub fields_of : List ℕ → List (List ℕ)
fields_of entry = slice_split (λ b. b == 44) entry

-- the pieces that remain of a text being split at a separator; none if nothing remains
unfoldable pub pieces_left : ℕ → Option (Bor (List ℕ)) → List (List ℕ)
pieces_left separator None = []
pieces_left separator (Some rest) = slice_split (λ b. b == separator) rest.now

-- the list of words isn't empty
abbrev pub IsCons : List Word → Type 0
IsCons ws = (first : Word) × (rest : List Word) × (ws ≡ first ∷ rest)
