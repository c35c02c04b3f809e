-- What holds of files in histories of calls.
use Rattle.std.specs.Prelude.{◌≡◌, ℕ, List, Option}
use Rattle.block_device.specs.declared.file_id.FileId.{FileId}
use Rattle.block_device.specs.Device.{Device}
use Rattle.image_files.specs.FilesAfter.{files_at}
use Rattle.image_files.specs.Histories.{AreMade, in_history}
use Rattle.image_files.specs.ImageCalls.{ImageCall}
use Rattle.image_files.specs.Opener.{Opener}
use Rattle.image_files.specs.Promises.{ChangesFiles, Files, KeepsFiles}

-- whichever calls a history has, what they returned, and what is there at its start: there are files that change by its calls
abbrev pub CallsChangeFiles : {D : Type 0} → (D → Device) → Type 0
CallsChangeFiles {D} state = (ids : ℕ → Option FileId) (start : Files) (calls : List (ImageCall D)) → ChangesFiles (in_history calls) state (files_at state ids start calls)

-- the files of a history of calls on an opener whose values keep files
pub record HasFiles {S D : Type 0} (o : Opener S D) (state : D → Device) (at : S → Files) (old : S) (calls : List (ImageCall D)) : Type 0 where
  pub files : ℕ → Files
  pub first : files 0 ≡ at old
  pub keeps : KeepsFiles (in_history calls) state files

-- an opener whose values keep files keeps files in each history of its calls
abbrev pub HistoriesKeepFiles : {S D : Type 0} → Opener S D → (D → Device) → Type 0
HistoriesKeepFiles {S} {D} o state =
    (at : S → Files) → KeepsFiles o state at → (old : S) (calls : List (ImageCall D)) (new : S) → AreMade o old calls new → HasFiles o state at old calls
