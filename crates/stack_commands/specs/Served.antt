-- What the functions of the commands that read the input do: it is said of the opener, the reader and the writer before the
-- call and after it.
use Rattle.std.specs.Prelude.{ℕ, Bool, List, Ok, Option, map}
use Rattle.std.specs.Borrow.{MutBor}
use Rattle.block_device.specs.Device.{Device}
use Rattle.program_io.specs.Counted.{CountedRecord}
use Rattle.program_io.specs.Streams.{Streams, streams}
use Rattle.command_line.specs.declared.bindings.Binding.{Binding}
use Rattle.command_line.specs.declared.invocation.ServedDevice.{ServedDevice}
use Rattle.command_line.specs.declared.words.exports.ExportsWords.{ExportsWords}
use Rattle.command_line.specs.declared.words.nbd.NbdWords.{NbdWords}
use Rattle.command_line.specs.declared.words.session.SessionWords.{SessionWords}
use Rattle.command_line.specs.declared.words.store.StoreWords.{StoreWords}
use Rattle.command_line.specs.Bindings.{binding_record}
use Rattle.command_line.specs.words.Exports.{exports_record}
use Rattle.command_line.specs.words.Nbd.{nbd_record}
use Rattle.command_line.specs.words.Session.{session_record}
use Rattle.command_line.specs.words.Store.{store_record}
use Rattle.image_files.specs.Opener.{Calls, Opener, calls}
use Rattle.nbd_server.specs.declared.session_end.SessionEnd.{SessionEnd}
use Rattle.stack_files.specs.Warnings.{Notes, notes_of}
use Rattle.stack_files.specs.NamedDevices.{DeviceWords}
use Rattle.stack_commands.specs.declared.client.Client.{Client}
use Rattle.stack_commands.specs.declared.fault.CommandFault.{CommandFault}
use Rattle.stack_commands.specs.Invocations.{IsExportsWordsEnd, IsNbdWordsEnd, IsSessionWordsEnd, IsStoreCommandEnd, ServesDevices, ServesInputLines, ServesNamedDevice, SessionNotes, StoreNotes, StoresSectors}
use Rattle.stack_commands.specs.ManyExports.{IsExportsEnd, ServesExports}
use Rattle.stack_commands.specs.ServiceLog.{Exchange, JournalRecord, exchange}
use Rattle.stack_commands.specs.StackCommands.{IsClientEnd, ServesClient, ServesWell, device_on, on}

abbrev served_device : ServedDevice → List Binding → DeviceWords
served_device device bindings = device_on device.stack.now device.name.now device.cache (map binding_record bindings)

-- what is printed among the errors of the stack that is written to
abbrev pub NotesOfStore : {S D : Type 0} → Opener S D → (D → Device) → S → S → StoreWords → Notes → Type 0
NotesOfStore relations state old new words = StoreNotes (calls relations state old new) (store_record words)

module _ {S D R T : Type 0} (relations : Opener S D) (state : D → Device) (remaining : R → Option (List ℕ)) (contents : T → Option (List ℕ))
    (images images' : S) (reader reader' : CountedRecord R) (writer writer' : CountedRecord T) where
  abbrev served_calls : Calls S D
  served_calls = calls relations state images images'

  abbrev served_before : Streams
  served_before = streams (remaining reader.inner) (contents writer.inner)

  abbrev served_behind : Streams
  served_behind = streams (remaining reader'.inner) (contents writer'.inner)

  -- by the words of a command
  abbrev pub DoesStore : StoreWords → Type 0
  DoesStore words = StoresSectors served_calls (store_record words) served_before served_behind

  abbrev pub EndsStore : StoreWords → CommandFault → Type 0
  EndsStore words = IsStoreCommandEnd served_calls (store_record words) served_before served_behind writer'.failed

  abbrev pub DoesSession : SessionWords → Type 0
  DoesSession words = ServesInputLines served_calls (session_record words) served_before served_behind

  abbrev pub EndsSession : SessionWords → CommandFault → Type 0
  EndsSession words = IsSessionWordsEnd served_calls (session_record words) served_before served_behind writer'.failed

  abbrev pub NotesOfInput : SessionWords → Notes → Type 0
  NotesOfInput words = SessionNotes served_calls (session_record words) served_before served_behind

-- ---- with a client, lent by who runs the command

-- what was exchanged with a client, by what its references held before the call and hold after it
abbrev pub exchanged : {R T E J X : Type 0} → (R → Option (List ℕ)) → (T → Option (List ℕ)) → (E → Option (List ℕ)) → (J → JournalRecord) → Client R T E J
    → MutBor (CountedRecord R) × (MutBor (CountedRecord T) × (MutBor (CountedRecord E) × X)) → Exchange
exchanged remaining contents printed journal old new = exchange
    (streams (remaining old.reader.now.inner) (contents old.writer.now.inner))
    (streams (remaining new.0.now.inner) (contents new.1.0.now.inner))
    old.quiet
    (notes_of printed old.errors.now new.1.1.0.now)
    (journal old.journal.now)

module _ {S D R T E J X : Type 0} (relations : Opener S D) (state : D → Device) (remaining : R → Option (List ℕ)) (contents : T → Option (List ℕ)) (printed : E → Option (List ℕ)) (journal : J → JournalRecord)
    (images images' : S) (old : Client R T E J) (new : MutBor (CountedRecord R) × (MutBor (CountedRecord T) × (MutBor (CountedRecord E) × X))) where
  abbrev client_calls : Calls S D
  client_calls = calls relations state images images'

  abbrev client_exchange : Exchange
  client_exchange = exchanged remaining contents printed journal old new

  abbrev client_failed : Bool
  client_failed = new.1.0.now.failed

  -- by the words of a command
  abbrev pub DoesNbd : NbdWords → Type 0
  DoesNbd words = ServesNamedDevice client_calls (nbd_record words) client_exchange

  abbrev pub EndsNbd : NbdWords → CommandFault → Type 0
  EndsNbd words = IsNbdWordsEnd client_calls (nbd_record words) client_exchange client_failed

  abbrev pub DoesExports : ExportsWords → Type 0
  DoesExports words = ServesDevices client_calls (exports_record words) client_exchange

  abbrev pub EndsExports : ExportsWords → CommandFault → Type 0
  EndsExports words = IsExportsWordsEnd client_calls (exports_record words) client_exchange client_failed

  -- over a stack file
  abbrev pub ServesDevice : ServedDevice → List Binding → Type 0
  ServesDevice device bindings = ServesWell (λ log. (end : SessionEnd) × ServesClient client_calls (served_device device bindings) client_exchange log (Ok end) (Ok tt))

  abbrev pub EndsClient : ServedDevice → List Binding → CommandFault → Type 0
  EndsClient device bindings = IsClientEnd client_calls (served_device device bindings) client_exchange client_failed

  abbrev pub ServesEach : ℕ → List ℕ → List Binding → Type 0
  ServesEach cache stack bindings = ServesWell (λ log. (end : SessionEnd) × ServesExports client_calls (on stack (map binding_record bindings)) cache client_exchange log (Ok end) (Ok tt))

  abbrev pub EndsAll : ℕ → List ℕ → List Binding → CommandFault → Type 0
  EndsAll cache stack bindings = IsExportsEnd client_calls (on stack (map binding_record bindings)) cache client_exchange client_failed
