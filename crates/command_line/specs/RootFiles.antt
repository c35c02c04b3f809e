-- The file of an image's root hash, as arguments say it.
use Rattle.std.specs.Prelude.{◌&&◌, not, codes, is_some, List, None, Ok, Option, Some, ℕ, if◌then◌else◌}
use Rattle.command_line.specs.Misuses.{Reading, refuse_if, when}
use Rattle.command_line.specs.Values.{path_said, pin_of}
use Rattle.command_line.specs.declared.misuse.Cause.TheVariants.{WithPin}
use Rattle.command_line.specs.declared.root_file.RootFile.{RootFile}
use Rattle.command_line.specs.declared.root_file.RootForm.{RootForm}
use Rattle.command_line.specs.declared.root_file.RootForm.TheVariants.{Digits, Pin}

-- the file to which a root hash is written, and what of it: its digits alone, or its pin
pub record RootFileRecord : Type 0 where
  pub path : List ℕ
  pub form : RootForm

-- by the values of `--pin` and `--root-hash-file`, of which one is given
unfoldable pub root_file_of : Option (List ℕ) → Option (List ℕ) → Reading RootFileRecord
root_file_of pin None = when (pin_of pin) (λ path. Ok (record { path = path; form = Pin }))
root_file_of pin (Some word) =
    when (refuse_if (is_some pin) (codes "--root-hash-file") WithPin) (λ a.
    when (path_said (codes "--root-hash-file") word) (λ path. Ok (record { path = path; form = Digits })))

-- by the same values; no file if neither option is given
unfoldable pub root_choice_of : Option (List ℕ) → Option (List ℕ) → Reading (Option RootFileRecord)
root_choice_of pin file =
    if not (is_some pin) && not (is_some file) then Ok None
    else when (root_file_of pin file) (λ found. Ok (Some found))

-- what the program's own value says
abbrev pub root_file_record : RootFile → RootFileRecord
root_file_record file = record { path = file.path.now; form = file.form }
