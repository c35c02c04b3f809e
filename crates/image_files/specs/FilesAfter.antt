-- What files hold after the calls of a history, by the effects of its calls alone.
use Rattle.std.specs.Prelude.{◌||◌, ◌+◌, ◌*◌, ◌++◌, ℕ, suc, Bool, true, List, [], ◌∷◌, length, take, drop, replicate, Option, Some, None, Ok, if◌then◌else◌}
use Rattle.std.specs.List.{concat}
use Rattle.std.specs.Option.{option_and_then, option_map}
use Rattle.std.specs.Str.{bytes_eq}
use Rattle.block_device.specs.declared.file_id.FileId.{FileId}
use Rattle.block_device.specs.Device.{Device}
use Rattle.image_files.specs.ImageCalls.{ImageCall, Close, ClosePart, Grow, Replace, Shrink}
use Rattle.image_files.specs.OneFile.{is_one_file}
use Rattle.image_files.specs.Promises.{FileRecord, Files, grown_bytes, shrunk_bytes}

abbrev pub id_under : Files → List ℕ → Option FileId
id_under files path = option_and_then (λ (file : FileRecord). file.id) (files path)

-- the path itself, or another one of the same file
abbrev pub is_name_of : Files → List ℕ → List ℕ → Bool
is_name_of files path other = bytes_eq path other || is_one_file (id_under files path) (id_under files other)

-- the files once the one under a path holds other bytes
abbrev pub with_changed : Files → List ℕ → (FileRecord → List ℕ) → Files
with_changed files path change =
    λ other. if is_name_of files path other then option_map (λ (file : FileRecord). record file { bytes = change file }) (files other) else files other

-- the files once a path leads to a new regular file
abbrev pub with_new : Files → List ℕ → Option FileId → List ℕ → Files
with_new files path id bytes = λ other. if bytes_eq path other then Some (record { id = id; bytes = bytes; regular = true }) else files other

-- the file's bytes with others in their place from an offset on
abbrev pub overwritten_bytes : ℕ → List ℕ → FileRecord → List ℕ
overwritten_bytes offset bytes file = take offset file.bytes ++ (bytes ++ drop (offset + length bytes) file.bytes)

-- a missing file is made
abbrev pub grown_files : Option FileRecord → Files → List ℕ → Option FileId → ℕ → Files
grown_files None files path id sectors = with_new files path id (replicate (sectors * 512) 0)
grown_files (Some file) files path id sectors = with_changed files path (grown_bytes sectors)

-- the files after a call, by which a new file gets this identity; a call that fails changes nothing here
abbrev pub files_after : {D : Type 0} → (D → Device) → Option FileId → Files → ImageCall D → Files
files_after state id files (Close path device) = with_changed files path (λ file. concat (state device).image)
files_after state id files (ClosePart path part device) = with_changed files path (overwritten_bytes (part.first * 512) (concat (state device).image))
files_after state id files (Grow path sectors (Ok done)) = grown_files (files path) files path id sectors
files_after state id files (Shrink path sectors (Ok done)) = with_changed files path (shrunk_bytes sectors)
files_after state id files (Replace path bytes (Ok done)) = with_new files path id bytes
files_after state id files call = files

-- the files after all these calls; `ids` are the identities that new files get by them
abbrev pub files_after_all : {D : Type 0} → (D → Device) → (ℕ → Option FileId) → Files → List (ImageCall D) → Files
files_after_all state ids files [] = files
files_after_all state ids files (call ∷ rest) = files_after_all state (λ k. ids (suc k)) (files_after state (ids 0) files call) rest

-- the files after the first n calls of a history
abbrev pub files_at : {D : Type 0} → (D → Device) → (ℕ → Option FileId) → Files → List (ImageCall D) → ℕ → Files
files_at state ids start calls n = files_after_all state ids start (take n calls)
