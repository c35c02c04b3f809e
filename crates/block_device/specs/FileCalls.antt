-- Calls of the operating system on files of images, as evidence: no definition here is unfoldable, so code knows each only
-- from a call of this crate's function that makes the system's call.
use Rattle.std.specs.Prelude.{◌≡◌, ℕ, Bool, true, List, Result, Ok, Err}
use Rattle.std.specs.Fs.{new_options, with_read, with_write}
use Rattle.std.specs.declared.fs.File.{File}
use Rattle.std.specs.declared.fs.attrs.Metadata.{Metadata}
use Rattle.std.specs.declared.fs.options.OpenOptions.{OpenOptions}
use Rattle.std.specs.declared.io.ErrorKind.{ErrorKind}
use Rattle.block_device.specs.declared.file_calls.FileNumbers.{FileNumbers}
use Rattle.block_device.specs.declared.open_fault.OpenFault.{OpenFault}
use Rattle.block_device.specs.declared.seal.Seal.{Seal}
use Rattle.block_device.specs.Call.{Call}
use Rattle.block_device.specs.OpenFault.{fault_of}

-- the system was called to open this path by these options, and answered so
pub OpenedBy : OpenOptions → List ℕ → Result File ErrorKind → Type 0
OpenedBy options path answer = Unit {0}

-- the options of an image: for reading, and for writing too if that is true; no file is created, emptied or appended to
abbrev pub options_to_open : Bool → OpenOptions
options_to_open writable = with_write (with_read new_options true) writable

-- the system opened this path as this file by these options, or it didn't, for this reason
abbrev pub Opened : List ℕ → Bool → File → Type 0
Opened path writable file = OpenedBy (options_to_open writable) path (Ok file)

abbrev pub IsOpeningRefused : List ℕ → Bool → OpenFault → Type 0
IsOpeningRefused path writable fault = (kind : ErrorKind) × OpenedBy (options_to_open writable) path (Err kind) × (fault ≡ fault_of kind)

-- the system was called to seek to the end of an open file, and answered with the number of bytes before it, or refused
pub SoughtEnd : {S : Type 0} → S → Result ℕ OpenFault → Type 0
SoughtEnd file answer = Unit {0}

-- the system was asked of the file under that path, and refused, for this reason
pub IsUnsaidOfPath : List ℕ → OpenFault → Type 0
IsUnsaidOfPath path fault = Unit {0}

-- the system was asked of an open file, and refused, for this reason
pub IsUnsaidOfFile : File → OpenFault → Type 0
IsUnsaidOfFile file fault = Unit {0}

-- the system said this of the file under that path
pub IsOfPath : List ℕ → Metadata → Type 0
IsOfPath path metadata = Unit {0}

-- the system said this of an open file
pub IsOfFile : File → Metadata → Type 0
IsOfFile file metadata = Unit {0}

-- the system made the file so many bytes long
pub WasResized : File → ℕ → File → Type 0
WasResized old bytes new = Unit {0}

-- the system refused to make the file so many bytes long, for this reason
pub WasNotResized : File → ℕ → OpenFault → Type 0
WasNotResized file bytes fault = Unit {0}

-- the system told these numbers of a file
pub Told : Metadata → FileNumbers → Type 0
Told metadata numbers = Unit {0}

-- the system didn't lock the file, for this reason
pub IsUnlocked : File → OpenFault → Type 0
IsUnlocked file fault = Unit {0}

-- The system was called on the file once: to read or to write these bytes from that sector on, or to sync it; and what it
-- answered. The file before the call and after it make a chain of calls.
pub Called : File → Call → File → Type 0
Called old call new = Unit {0}

-- the system refused to write these bytes from that sector on, for this reason
pub IsWriteRefused : File → ℕ → List ℕ → ErrorKind → Type 0
IsWriteRefused file first bytes kind = Unit {0}

-- only the proofs of this crate can name a `Seal`
pub was-opened : (options : OpenOptions) (path : List ℕ) (answer : Result File ErrorKind) → Seal → OpenedBy options path answer
unfolding OpenedBy
was-opened options path answer seal = tt

pub was-sought : {S : Type 0} (file : S) (answer : Result ℕ OpenFault) → Seal → SoughtEnd file answer
unfolding SoughtEnd
was-sought file answer seal = tt

pub was-unsaid-of-path : (path : List ℕ) (fault : OpenFault) → Seal → IsUnsaidOfPath path fault
unfolding IsUnsaidOfPath
was-unsaid-of-path path fault seal = tt

pub was-unsaid-of-file : (file : File) (fault : OpenFault) → Seal → IsUnsaidOfFile file fault
unfolding IsUnsaidOfFile
was-unsaid-of-file file fault seal = tt

pub was-said-of-path : (path : List ℕ) (metadata : Metadata) → Seal → IsOfPath path metadata
unfolding IsOfPath
was-said-of-path path metadata seal = tt

pub was-said-of-file : (file : File) (metadata : Metadata) → Seal → IsOfFile file metadata
unfolding IsOfFile
was-said-of-file file metadata seal = tt

pub was-resized : (old : File) (bytes : ℕ) (new : File) → Seal → WasResized old bytes new
unfolding WasResized
was-resized old bytes new seal = tt

pub was-not-resized : (file : File) (bytes : ℕ) (fault : OpenFault) → Seal → WasNotResized file bytes fault
unfolding WasNotResized
was-not-resized file bytes fault seal = tt

pub was-told : (metadata : Metadata) (numbers : FileNumbers) → Seal → Told metadata numbers
unfolding Told
was-told metadata numbers seal = tt

pub was-unlocked : (file : File) (fault : OpenFault) → Seal → IsUnlocked file fault
unfolding IsUnlocked
was-unlocked file fault seal = tt

pub was-called : (old : File) (call : Call) (new : File) → Seal → Called old call new
unfolding Called
was-called old call new seal = tt

pub was-write-refused : (file : File) (first : ℕ) (bytes : List ℕ) (kind : ErrorKind) → Seal → IsWriteRefused file first bytes kind
unfolding IsWriteRefused
was-write-refused file first bytes kind seal = tt
