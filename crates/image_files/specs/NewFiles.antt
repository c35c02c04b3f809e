-- A file that is created if there is none: which calls are made, and in which order.
use Rattle.std.specs.Prelude.{◌≡◌, ◌⊎◌, ℕ, List, Ok, Err}
use Rattle.std.specs.declared.io.ErrorKind.{ErrorKind}
use Rattle.std.specs.declared.io.ErrorKind.TheVariants.{AlreadyExists}
use Rattle.block_device.specs.declared.open_fault.OpenFault.{OpenFault}
use Rattle.block_device.specs.declared.open_fault.OpenFault.TheVariants.{NoMemory, OtherFault}
use Rattle.block_device.specs.OpenFault.{fault_of}
use Rattle.image_files.specs.declared.calls.CallFault.{CallFault}
use Rattle.image_files.specs.declared.texts.ReplaceFault.{ReplaceFault}
use Rattle.image_files.specs.declared.texts.ReplaceFault.TheVariants as replace_fault
use Rattle.image_files.specs.Calls.{FileRelations}

-- the path was resolved, a file created exclusively under what it names, and then the folder synced
pub record IsNewFile {S F : Type 0} (r : FileRelations S F) (old : S) (path : List ℕ) (new : S) : Type 0 where
  pub target : List ℕ
  pub file : F
  pub resolved : S
  pub made : S
  pub resolves : r.resolves old path (Ok target) resolved
  pub makes : r.makes resolved target (Ok file) made
  pub lists : r.lists made target (Ok tt) new

-- the path was resolved, and what it names can't be created for this reason
pub record IsRefusedFile {S F : Type 0} (r : FileRelations S F) (old : S) (path : List ℕ) (kind : ErrorKind) (new : S) : Type 0 where
  pub target : List ℕ
  pub resolved : S
  pub resolves : r.resolves old path (Ok target) resolved
  pub refused : r.makes resolved target (Err kind) new

-- it was created, and the folder can't be synced
pub record IsUnlistedFile {S F : Type 0} (r : FileRelations S F) (old : S) (path : List ℕ) (new : S) : Type 0 where
  pub target : List ℕ
  pub file : F
  pub cause : CallFault
  pub resolved : S
  pub made : S
  pub resolves : r.resolves old path (Ok target) resolved
  pub makes : r.makes resolved target (Ok file) made
  pub failed : r.lists made target (Err cause) new

-- a file was created, or one is there
abbrev pub Makes : {S F : Type 0} → FileRelations S F → S → List ℕ → S → Type 0
Makes r old path new = IsNewFile r old path new ⊎ IsRefusedFile r old path AlreadyExists new

-- the fault for why a path isn't resolved
abbrev pub resolve_fault : ReplaceFault → OpenFault
resolve_fault replace_fault.NoMemory = NoMemory
resolve_fault _ = OtherFault

-- why there is no file: the path can't be resolved, no file created, or the folder not synced
abbrev pub FailsToMake : {S F : Type 0} → FileRelations S F → S → List ℕ → OpenFault → S → Type 0
FailsToMake r old path fault new =
    ((why : ReplaceFault) × r.resolves old path (Err why) new × (fault ≡ resolve_fault why))
    ⊎ (((kind : ErrorKind) × IsRefusedFile r old path kind new × (fault ≡ fault_of kind)) ⊎ (IsUnlistedFile r old path new × (fault ≡ OtherFault)))
