-- Evidence of calls on files, for the proofs of this crate alone.
use Rattle.std.proofs.Common.{◌≡◌, ℕ, Bool, true, false, List, Option, None, Some, Result, Ok, Err, inl, inr, subst, sym}
use Rattle.std.specs.Prelude.{IfErr, IsErrAnd, OnErr}
use Rattle.block_device.specs.declared.file.FileDev.{FileDev}
use Rattle.block_device.specs.declared.file_id.FileId.{FileId}
use Rattle.block_device.specs.declared.open_fault.OpenFault.{OpenFault}
use Rattle.block_device.specs.FileCalls.{Opened}
use Rattle.block_device.specs.FileId.{file_id, file_of}
use Rattle.block_device.specs.Unopened.{IsUnopenedImage}
use Rattle.image_files.specs.FileLocks.{IsNoLock, IsUnopenedFile, Locks, LocksAtMost}
use Rattle.image_files.specs.FileRelations.{LocksOpened}
use Rattle.image_files.specs.ImageCalls.{ImageCall, WasMade, was-made}
use Rattle.image_files.specs.Sizes.{IsSized}
use Rattle.image_files.specs.SystemFiles.{SystemCall, WasAsked, was-asked}
use Rattle.image_files.specs.declared.seal.Seal.TheVariants.{Files}

pub made : {S D : Type 0} (old : S) (call : ImageCall D) (new : S) → WasMade old call new
made old call new = was-made old call new Files

pub asked_of : {S : Type 0} (old : S) (call : SystemCall) (new : S) → WasAsked old call new
asked_of old call new = was-asked old call new Files

-- a file that was opened is locked, or was
pub locks_at_most : (writable : Bool) (id : Option FileId) (old new : List FileId) → Locks writable id old new → LocksAtMost old new
locks_at_most false id old new same = inl same
locks_at_most true None old new same = inl same
locks_at_most true (Some id) old new more = inr (id, more)

-- it is locked by its identity
pub locks_opened : (device : FileDev) (sectors : ℕ) (old new : List FileId) → IsSized device sectors → Locks true (file_id device) old new → LocksOpened (file_of device) old new
locks_opened device sectors old new sized locked = record { id = file_id device; said = sized.0; of = sized.1; told = sized.2.identity; locked = locked }

-- a file that was opened, and isn't locked
pub unlocked : {T : Type 0} (result : Result T OpenFault) (path : List ℕ) (writable : Bool) (fault : OpenFault) (device : FileDev) → IsErrAnd result (λ e. e ≡ fault) → Opened path writable (file_of device) → IsNoLock device fault
    → IfErr result (IsUnopenedFile path writable)
unlocked (Ok done) path writable fault device is opened why = tt
unlocked (Err e) path writable fault device is opened why = inr (device, opened, subst (IsNoLock device) (sym is) why)

-- a file that wasn't opened
pub not-opened : {T : Type 0} (result : Result T OpenFault) (path : List ℕ) (writable : Bool) (fault : OpenFault) → IsErrAnd result (λ e. e ≡ fault) → IsUnopenedImage path writable fault → IfErr result (IsUnopenedFile path writable)
not-opened (Ok done) path writable fault is why = tt
not-opened (Err e) path writable fault is why = inl (subst (IsUnopenedImage path writable) (sym is) why)

-- what holds if a call failed
pub holds-on-err : {T E : Type 0} {X : Type 0} (result : Result T E) → X → OnErr result X
holds-on-err (Ok done) holds = tt
holds-on-err (Err fault) holds = holds
