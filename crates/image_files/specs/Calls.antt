-- What a proof sees of a file system. S is the file system, F a file that was created.
use Rattle.std.specs.Prelude.{◌≡◌, ◌⊎◌, ℕ, List, Result}
use Rattle.std.specs.declared.io.ErrorKind.{ErrorKind}
use Rattle.image_files.specs.declared.calls.CallFault.{CallFault}
use Rattle.image_files.specs.declared.calls.CreateFault.{CreateFault}
use Rattle.image_files.specs.declared.texts.ReplaceFault.{ReplaceFault}
use Rattle.image_files.specs.declared.texts.ReplaceFault.TheVariants.{NoMemory, Write}

-- why no file is created for a text
abbrev pub IsNoDraft : ReplaceFault → Type 0
IsNoDraft fault = (fault ≡ NoMemory) ⊎ (fault ≡ Write)

-- Relations of the file system before a call, the call's arguments, its outcome, and the file system after it. What is generic
-- over the file system knows none of them but by a call, so that a clause that cites one says which call was made.
pub record FileRelations (S F : Type 0) : Type 1 where
  -- a path, and the one that its symbolic links lead to, or why they can't be followed
  pub resolves : S → List ℕ → Result (List ℕ) ReplaceFault → S → Type 0
  -- the name of a file, the path of the one that it is to be like, and the file, or why it isn't created
  pub creates : S → List ℕ → List ℕ → Result F CreateFault → S → Type 0
  -- the name of a file that is created exclusively, and the file, or what the system says
  pub makes : S → List ℕ → Result F ErrorKind → S → Type 0
  -- a file, the bytes that are written, and the file then
  pub writes : S → F → List ℕ → Result (Unit {0}) CallFault → F → S → Type 0
  pub syncs : S → F → Result (Unit {0}) CallFault → S → Type 0
  -- a file's name, and its name from then on
  pub renames : S → List ℕ → List ℕ → Result (Unit {0}) CallFault → S → Type 0
  -- a path whose folder is synced
  pub lists : S → List ℕ → Result (Unit {0}) CallFault → S → Type 0
  -- the name of a file
  pub removes : S → List ℕ → S → Type 0
