-- Calls of the operating system by which a text is replaced or a file made, as evidence: the definition isn't unfoldable, so code knows it
-- only from a call of `SystemCalls`.
use Rattle.std.specs.Prelude.{◌≡◌, ℕ, Bool, true, false, List, Result, Ok, Err}
use Rattle.std.specs.Fs.{new_options, with_create_new, with_read, with_write}
use Rattle.std.specs.declared.fs.File.{File}
use Rattle.std.specs.declared.fs.options.OpenOptions.{OpenOptions}
use Rattle.std.specs.declared.io.ErrorKind.{ErrorKind}
use Rattle.std.specs.declared.io.ErrorKind.TheVariants.{AlreadyExists}
use Rattle.block_device.specs.declared.open_fault.OpenFault.{OpenFault}
use Rattle.block_device.specs.OpenFault.{fault_of}
use Rattle.image_files.specs.Calls.{FileRelations}
use Rattle.image_files.specs.declared.calls.CallFault.{CallFault}
use Rattle.image_files.specs.declared.calls.CreateFault.{CreateFault}
use Rattle.image_files.specs.declared.calls.CreateFault.TheVariants.{Exists, Failed}
use Rattle.image_files.specs.declared.seal.Seal.{Seal}
use Rattle.image_files.specs.declared.texts.ReplaceFault.{ReplaceFault}

-- a call, its arguments, and its outcome if it has one; `OpenBy` is one call by these options, apart from the mode
pub data SystemCall : Type 0 where
  Resolve : List ℕ → Result (List ℕ) ReplaceFault → SystemCall
  OpenBy : OpenOptions → List ℕ → Result File ErrorKind → SystemCall
  Create : List ℕ → List ℕ → Result File CreateFault → SystemCall
  Write : File → List ℕ → Result (Unit {0}) CallFault → File → SystemCall
  Sync : File → Result (Unit {0}) CallFault → SystemCall
  Rename : List ℕ → List ℕ → Result (Unit {0}) CallFault → SystemCall
  SyncFolder : List ℕ → Result (Unit {0}) CallFault → SystemCall
  Remove : List ℕ → SystemCall

-- the system was called so
pub WasAsked : {S : Type 0} → S → SystemCall → S → Type 0
WasAsked old call new = Unit {0}

-- only the proofs of this crate can name a `Seal`
pub was-asked : {S : Type 0} (old : S) (call : SystemCall) (new : S) → Seal → WasAsked old call new
unfolding WasAsked
was-asked old call new seal = tt

-- options of a file that is created, and refused if its name is taken: nothing that is there is opened or emptied
abbrev pub exclusive : Bool → OpenOptions
exclusive read = with_create_new (with_write (with_read new_options read) true) true

-- the system created a file exclusively, or said that its name is taken
abbrev pub CreatesNew : {S : Type 0} → S → List ℕ → Result File CreateFault → S → Type 0
CreatesNew old name (Ok file) new = WasAsked old (OpenBy (exclusive false) name (Ok file)) new
CreatesNew old name (Err Exists) new = WasAsked old (OpenBy (exclusive false) name (Err AlreadyExists)) new
CreatesNew old name (Err Failed) new = Unit {0}

-- the system opened the file under a path for reading alone
abbrev pub IsOpenText : (S : Type 0) → List ℕ → File → Type 0
IsOpenText S path file = (s : S) × WasAsked s (OpenBy (with_read new_options true) path (Ok file)) s

-- it didn't, for this reason
abbrev pub IsUnopenedText : (S : Type 0) → List ℕ → OpenFault → Type 0
IsUnopenedText S path fault = (s : S) × (kind : ErrorKind) × WasAsked s (OpenBy (with_read new_options true) path (Err kind)) s × (fault ≡ fault_of kind)

abbrev pub system_relations : {S : Type 0} → FileRelations S File
system_relations = record {
  resolves = λ old path outcome new. WasAsked old (Resolve path outcome) new;
  creates = λ old name like outcome new. WasAsked old (Create name like outcome) new × CreatesNew old name outcome new;
  makes = λ old name outcome new. WasAsked old (OpenBy (exclusive true) name outcome) new;
  writes = λ old file bytes result file' new. WasAsked old (Write file bytes result file') new;
  syncs = λ old file result new. WasAsked old (Sync file result) new;
  renames = λ old from to result new. WasAsked old (Rename from to result) new;
  lists = λ old path result new. WasAsked old (SyncFolder path result) new;
  removes = λ old name new. WasAsked old (Remove name) new;
}
