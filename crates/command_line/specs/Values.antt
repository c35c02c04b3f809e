-- What the values of options say.
use Rattle.std.specs.Prelude.{ℕ, Bool, true, false, ◌==◌, ◌||◌, ◌%◌, nat_le, List, length, codes, Option, Some, None, Ok, is_some, option_map, if◌then◌else◌}
use Rattle.std.specs.Borrow.{Bor}
use Rattle.std.specs.Result.{result_ok}
use Rattle.std.specs.Str.{bytes_eq}
use Rattle.charts.specs.declared.form.ReportForm.{ReportForm}
use Rattle.charts.specs.declared.form.ReportForm.TheVariants as form
use Rattle.hex.specs.Hex.{decode_sized}
use Rattle.dm_table.specs.Names.{is_mapped_name}
use Rattle.dm_table.specs.Numbers.{number, number_if}
use Rattle.command_line.specs.FormatOptions.{texts_of}
use Rattle.command_line.specs.Misuses.{Reading, misused, refuse_if, wanted, when}
use Rattle.command_line.specs.declared.list_form.ListForm.{ListForm}
use Rattle.command_line.specs.declared.list_form.ListForm.TheVariants as list_forms
use Rattle.command_line.specs.declared.misuse.Cause.TheVariants.{CacheBlocks, FilePath, MappedName, Missing, Number, Offset, RootHash, RunCount, SectorSize, WithChart, WithPin, WithRoot, WithStack, WithTree}
use Rattle.command_line.specs.declared.values.PartitionForm.{PartitionForm}
use Rattle.command_line.specs.declared.values.PartitionForm.TheVariants.{Lines, Object, Stack, Root, Pin as PinForm}
use Rattle.command_line.specs.declared.values.RootOrPin.{RootOrPin}
use Rattle.command_line.specs.declared.values.RootOrPin.TheVariants.{Root as RootAlone, Pin}
use Rattle.command_line.specs.declared.values.RootWord.{RootWord}
use Rattle.command_line.specs.declared.values.RootWord.TheVariants.{Digest, File}

-- 64 blocks are cached unless the words say so, and at most 65,536
unfoldable pub cache_said : Option (List ℕ) → Reading ℕ
cache_said None = Ok 64
cache_said (Some word) = wanted (codes "--cache") CacheBlocks (number_if (λ n. nat_le n 65536) (number word))

-- the first sector is 0 unless the word says another
unfoldable pub first_said : Option (List ℕ) → Reading ℕ
first_said None = Ok 0
first_said (Some word) = wanted (codes "--first") Number (number word)

-- how many sectors, or no word
unfoldable pub count_said : Option (List ℕ) → Reading (Option ℕ)
count_said None = Ok None
count_said (Some word) = wanted (codes "--count") Number (option_map (λ n. Some n) (number word))

-- lost sectors aren't read again unless the word says how many times
unfoldable pub retries_said : Option (List ℕ) → Reading ℕ
retries_said None = Ok 0
retries_said (Some word) = wanted (codes "--retries") Number (number word)

-- how many runs at most, which is at least one, or no word
unfoldable pub runs_said : Option (List ℕ) → Reading (Option ℕ)
runs_said None = Ok None
runs_said (Some word) = wanted (codes "--runs") RunCount (option_map (λ n. Some n) (number_if (λ n. nat_le 1 n) (number word)))

-- a hash image begins at byte 0 of its file, or at a multiple of 512, by the option of that name
unfoldable pub offset_of : List ℕ → Option (List ℕ) → Reading ℕ
offset_of option None = Ok 0
offset_of option (Some word) = wanted option Offset (number_if (λ n. n % 512 == 0) (number word))

-- sectors of 512 bytes, or of 4,096
unfoldable pub sector_size_of : Option (List ℕ) → Reading ℕ
sector_size_of None = Ok 512
sector_size_of (Some word) = wanted (codes "--sector-size") SectorSize (number_if (λ n. n == 512 || n == 4096) (number word))

-- the name of a mapped device, or no word
unfoldable pub name_said : Option (List ℕ) → Reading (Option (List ℕ))
name_said None = Ok None
name_said (Some word) = if is_mapped_name word then Ok (Some word) else misused (codes "--name") MappedName

-- the path of a file, which isn't empty and isn't `-`, the standard input
unfoldable pub path_said : List ℕ → List ℕ → Reading (List ℕ)
path_said option word = if length word == 0 || bytes_eq word (codes "-") then misused option FilePath else Ok word

-- the path of a map file, or no word
unfoldable pub map_said : Option (List ℕ) → Reading (Option (List ℕ))
map_said None = Ok None
map_said (Some word) = when (path_said (codes "--map") word) (λ path. Ok (Some path))

-- the path of a pin's file
unfoldable pub pin_of : Option (List ℕ) → Reading (List ℕ)
pin_of None = misused (codes "--pin") Missing
pin_of (Some word) = path_said (codes "--pin") word

-- 64 hexadecimal digits as 32 bytes
unfoldable pub root_of : List ℕ → Option (List ℕ)
root_of word = result_ok (decode_sized word 32)

-- the root hash of an argument of that name
abbrev pub root_said : List ℕ → List ℕ → Reading (List ℕ)
root_said name word = wanted name RootHash (root_of word)

-- a root digest, or the path of a file that holds one
pub data RootRecord : Type 0 where
  digest : List ℕ → RootRecord
  root_file : List ℕ → RootRecord

-- a root digest, or the path of the pin that holds one
pub data RootOrPinRecord : Type 0 where
  root_word : RootRecord → RootOrPinRecord
  pin_file : List ℕ → RootOrPinRecord

-- the pin of that option or the file of a root digest, if one is given, or else the root digest of the argument of that name
unfoldable pub root_or_pin_said : List ℕ → Option (List ℕ) → Option (List ℕ) → List ℕ → List ℕ → Reading RootOrPinRecord
root_or_pin_said option None None name word = when (root_said name word) (λ bytes. Ok (root_word (digest bytes)))
root_or_pin_said option None (Some path) name word = Ok (root_word (root_file path))
root_or_pin_said option (Some pin) file name word = when (path_said option pin) (λ path. Ok (pin_file path))

-- how partitions are printed: a line each, as a JSON object, as a stack text, or as the stack text of the partitions of a root, or of
-- the root of a pin's file
pub data FormRecord : Type 0 where
  lines : FormRecord
  object : FormRecord
  stack : FormRecord
  root : List ℕ → FormRecord
  pin : List ℕ → FormRecord

-- how a command reports; at most one of `--json` and `--chart` is given
abbrev pub report_form : Bool → Bool → Reading ReportForm
report_form false false = Ok form.Lines
report_form false true = Ok form.Chart
report_form true false = Ok form.Object
report_form true true = misused (codes "--json") WithChart

-- how the devices of a stack are printed; at most one of `--json` and `--tree` is given
abbrev pub list_form : Bool → Bool → Reading ListForm
list_form false false = Ok list_forms.Lines
list_form false true = Ok list_forms.Tree
list_form true false = Ok list_forms.Object
list_form true true = misused (codes "--json") WithTree

-- at most one of `--root ROOT`, `--stack` and `--json` is given
unfoldable pub form_without_pin : Option (List ℕ) → Bool → Bool → Reading FormRecord
form_without_pin None false false = Ok lines
form_without_pin None false true = Ok object
form_without_pin None true false = Ok stack
form_without_pin None true true = misused (codes "--json") WithStack
form_without_pin (Some word) true is_object = misused (codes "--stack") WithRoot
form_without_pin (Some word) false true = misused (codes "--json") WithRoot
form_without_pin (Some word) false false = when (root_said (codes "--root") word) (λ bytes. Ok (root bytes))

-- none of them is given beside `--pin FILE`
unfoldable pub form_with_pin : List ℕ → Option (List ℕ) → Bool → Bool → Reading FormRecord
form_with_pin file word is_stack is_object =
    when (refuse_if (is_some word) (codes "--root") WithPin) (λ a.
    when (refuse_if is_stack (codes "--stack") WithPin) (λ b.
    when (refuse_if is_object (codes "--json") WithPin) (λ c. when (path_said (codes "--pin") file) (λ path. Ok (pin path)))))

-- at most one of `--pin FILE`, `--root ROOT`, `--stack` and `--json` is given
unfoldable pub form_of : Option (List ℕ) → Option (List ℕ) → Bool → Bool → Reading FormRecord
form_of None word is_stack is_object = form_without_pin word is_stack is_object
form_of (Some file) word is_stack is_object = form_with_pin file word is_stack is_object

-- what the program's own values say
abbrev pub root_record : RootWord → RootRecord
root_record (Digest bytes) = digest bytes
root_record (File path) = root_file path.now

abbrev pub root_first_record : RootWord × Bor (List (Bor (List ℕ))) → RootRecord × List (List ℕ)
root_first_record found = (root_record found.0, texts_of found.1.now)

abbrev pub root_or_pin_record : RootOrPin → RootOrPinRecord
root_or_pin_record (RootAlone word) = root_word (root_record word)
root_or_pin_record (Pin path) = pin_file path.now

abbrev pub root_or_pin_first_record : RootOrPin × Bor (List (Bor (List ℕ))) → RootOrPinRecord × List (List ℕ)
root_or_pin_first_record found = (root_or_pin_record found.0, texts_of found.1.now)

abbrev pub form_record : PartitionForm → FormRecord
form_record Lines = lines
form_record Object = object
form_record Stack = stack
form_record (Root bytes) = root bytes
form_record (PinForm path) = pin path.now
