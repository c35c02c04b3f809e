-- Which files an opener has locked: each that it opened for writing, once.
use Rattle.std.specs.Prelude.{◌≡◌, ◌⊎◌, ◌++◌, ℕ, Bool, List, [], ◌∷◌, Option, None, Some, if◌then◌else◌}
use Rattle.std.specs.List.{list_any}
use Rattle.allocation.specs.Refusal.{IsOutOfMemory}
use Rattle.block_device.specs.declared.file.FileDev.{FileDev}
use Rattle.block_device.specs.declared.file_id.FileId.{FileId}
use Rattle.block_device.specs.declared.open_fault.OpenFault.{OpenFault}
use Rattle.block_device.specs.declared.open_fault.OpenFault.TheVariants.{InUse, NoMemory}
use Rattle.block_device.specs.FileCalls.{IsUnlocked, Opened}
use Rattle.block_device.specs.FileId.{file_of}
use Rattle.block_device.specs.Unopened.{IsUnopenedImage}
use Rattle.image_files.specs.OneFile.{is_one_file}

abbrev pub is_locked : List FileId → FileId → Bool
is_locked files id = list_any (λ file. is_one_file (Some file) (Some id)) files

-- the locked files once one more is opened for writing
abbrev pub with_lock : Option FileId → List FileId → List FileId
with_lock None files = files
with_lock (Some id) files = if is_locked files id then files else files ++ (id ∷ [])

-- what opening a file leaves of the locks: one that may be written is locked
abbrev pub Locks : Bool → Option FileId → List FileId → List FileId → Type 0
Locks writable id old new = new ≡ (if writable then with_lock id old else old)

-- what a call leaves that may fail after it locked a file
abbrev pub LocksAtMost : List FileId → List FileId → Type 0
LocksAtMost old new = (new ≡ old) ⊎ ((id : FileId) × (new ≡ with_lock (Some id) old))

-- the system didn't lock the file of a device, and it has locks
abbrev pub IsLockRefused : FileDev → OpenFault → Type 0
IsLockRefused device fault = ((fault ≡ InUse) ⊎ (fault ≡ NoMemory)) × IsUnlocked (file_of device) fault

-- an allocation for one more was refused
abbrev pub IsUnkept : OpenFault → Type 0
IsUnkept fault = (fault ≡ NoMemory) × IsOutOfMemory 1

-- why a file isn't locked
abbrev pub IsNoLock : FileDev → OpenFault → Type 0
IsNoLock device fault = IsLockRefused device fault ⊎ IsUnkept fault

-- why no file is opened and locked: it isn't opened, or was, and isn't locked
abbrev pub IsUnopenedFile : List ℕ → Bool → OpenFault → Type 0
IsUnopenedFile path writable fault = IsUnopenedImage path writable fault ⊎ ((device : FileDev) × Opened path writable (file_of device) × IsNoLock device fault)
