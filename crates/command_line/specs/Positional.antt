-- The positional arguments, one after the other.
use Rattle.std.specs.Prelude.{ℕ, List, [], ◌∷◌, codes, Option, None, Some, Ok, is_some, if◌then◌else◌}
use Rattle.std.specs.Borrow.{Bor}
use Rattle.dm_table.specs.Names.{is_device}
use Rattle.dm_table.specs.Numbers.{number}
use Rattle.command_line.specs.FormatOptions.{texts_of}
use Rattle.command_line.specs.Misuses.{Reading, misused, refuse_if, wanted, when}
use Rattle.command_line.specs.Values.{RootOrPinRecord, RootRecord, digest, path_said, pin_file, root_file, root_said, root_word}
use Rattle.command_line.specs.declared.misuse.Cause.TheVariants.{DeviceName, Missing, Number, Surplus, WithPin}

-- the next one, whose name in the usage is the first argument, and those after it
unfoldable pub positional : List ℕ → List (List ℕ) → Reading (List ℕ × List (List ℕ))
positional name [] = misused name Missing
positional name (word ∷ words) = Ok (word, words)

-- there is no further one
unfoldable pub no_more : List (List ℕ) → Reading (Unit {0})
no_more [] = Ok tt
no_more (word ∷ words) = misused word Surplus

-- the next one, which is a number
unfoldable pub number_at : List ℕ → List (List ℕ) → Reading (ℕ × List (List ℕ))
number_at name words = when (positional name words) (λ found. when (wanted name Number (number found.0)) (λ n. Ok (n, found.1)))

-- the next one, which is the device argument of a table line
unfoldable pub device_at : List ℕ → List (List ℕ) → Reading (List ℕ × List (List ℕ))
device_at name words = when (positional name words) (λ found. if is_device found.0 then Ok found else misused name DeviceName)

-- the root, which is the next one unless a file holds it, and those after it
unfoldable pub root_first : Option (List ℕ) → List (List ℕ) → Reading (RootRecord × List (List ℕ))
root_first (Some path) words = Ok (root_file path, words)
root_first None words =
    when (positional (codes "ROOT") words) (λ found. when (root_said (codes "ROOT") found.0) (λ bytes. Ok (digest bytes, found.1)))

-- the root, and none after it
unfoldable pub root_alone : Option (List ℕ) → List (List ℕ) → Reading RootRecord
root_alone file words = when (root_first file words) (λ found. when (no_more found.1) (λ none. Ok found.0))

-- the root, or the pin that holds it, and those after them; a root is the next one unless a file or the pin holds it
unfoldable pub root_or_pin_first : Option (List ℕ) → Option (List ℕ) → List (List ℕ) → Reading (RootOrPinRecord × List (List ℕ))
root_or_pin_first None file words = when (root_first file words) (λ found. Ok (root_word found.0, found.1))
root_or_pin_first (Some word) file words =
    when (refuse_if (is_some file) (codes "--root-hash-file") WithPin) (λ a. when (path_said (codes "--pin") word) (λ path. Ok (pin_file path, words)))

-- the root, or the pin that holds it, and none after them
unfoldable pub root_or_pin_alone : Option (List ℕ) → Option (List ℕ) → List (List ℕ) → Reading RootOrPinRecord
root_or_pin_alone pin file words = when (root_or_pin_first pin file words) (λ found. when (no_more found.1) (λ none. Ok found.0))

-- the next one, which has that name in the usage, unless the file of a pin or of a root hash is named in its place; and those after it
unfoldable pub word_or_file : Option (List ℕ) → Option (List ℕ) → List ℕ → List (List ℕ) → Reading (List ℕ × List (List ℕ))
word_or_file None None name words = positional name words
word_or_file None (Some path) name words = Ok (path, words)
word_or_file (Some path) file name words = Ok (path, words)

-- the device arguments of data and hashes, and none after them
unfoldable pub device_names : List (List ℕ) → Reading (List ℕ × List ℕ)
device_names words =
    when (device_at (codes "DATANAME") words) (λ first.
    when (device_at (codes "HASHNAME") first.1) (λ second. when (no_more second.1) (λ none. Ok (first.0, second.0))))

-- what the program's own values say
abbrev pub next_word : Bor (List ℕ) × Bor (List (Bor (List ℕ))) → List ℕ × List (List ℕ)
next_word found = (found.0.now, texts_of found.1.now)

abbrev pub next_number : ℕ × Bor (List (Bor (List ℕ))) → ℕ × List (List ℕ)
next_number found = (found.0, texts_of found.1.now)
