-- What the commands on stacks print if they succeed, and how they end early.
use Rattle.std.specs.Prelude.{◌≡◌, ◌≢◌, ◌⊎◌, ℕ, Bool, true, false, List, [], ◌∷◌, length, Option, Some, None, Result, Ok, Err}
use Rattle.std.specs.Io.KnownBytes.{Appends}
use Rattle.image_files.specs.Opener.{Calls}
use Rattle.stack_rules.specs.Records.{Configuration}
use Rattle.linux_rules.specs.declared.refusal.LinuxFault.{LinuxFault}
use Rattle.linux_rules.specs.Rules.{IsChecked, linux_refusal}
use Rattle.stack_files.specs.Unchecked.{NotesStack, unchecked_text}
use Rattle.stack_files.specs.Warnings.{IsNoted, Notes}
use Rattle.stack_engine.specs.Pieces.{stack_keeping}
use Rattle.stack_engine.specs.Stacks.{StackRecord}
use Rattle.stack_meaning.specs.declared.fault.IoFault.{IoFault}
use Rattle.nbd_protocol.specs.declared.fault.ServiceFault.{ServiceFault}
use Rattle.nbd_protocol.specs.declared.fault.ServiceFault.TheVariants as service_fault
use Rattle.nbd_protocol.specs.Exports.{ExportRecord, HasNoExport, IsExport}
use Rattle.nbd_server.specs.declared.session_end.SessionEnd.{SessionEnd}
use Rattle.nbd_server.specs.declared.session_log.SessionLog.{SessionLog}
use Rattle.request_queue.specs.declared.reply.Reply.{Reply}
use Rattle.request_queue.specs.Requests.{RequestRecord}
use Rattle.request_queue.specs.World.{World}
use Rattle.transfer_commands.specs.Reads.{FailsToRead, ReadsSectors}
use Rattle.transfer_commands.specs.Requests.{new_world}
use Rattle.transfer_commands.specs.Writes.{IsPutEnd, PutWords, PutsBack}
use Rattle.stack_session.specs.declared.fault.SessionFault.{SessionFault}
use Rattle.stack_session.specs.declared.fault.SessionFault.TheVariants.{WriteFault}
use Rattle.stack_session.specs.Accesses.{first_of}
use Rattle.stack_session.specs.QueueSessions.{IsQueueSession}
use Rattle.program_io.specs.Streams.{Streams}
use Rattle.scan_commands.specs.DeviceLines.{load_text}
use Rattle.allocation.specs.Refusal.{IsOutOfMemory}
use Rattle.stack_session.specs.Texts.{reply_text, written_text}
use Rattle.stack_commands.specs.declared.fault.CommandFault.{CommandFault}
use Rattle.stack_commands.specs.declared.fault.CommandFault.TheVariants.{Faults, Io, Linux, NoMemory, Service, Session, Stack}
use Rattle.command_line.specs.Bindings.{BindingRecord}
use Rattle.command_line.specs.SourceWords.{SourceRecord, on_disk, on_stack}
use Rattle.command_line.specs.declared.list_form.ListForm.{ListForm}
use Rattle.command_line.specs.declared.list_form.ListForm.TheVariants.{Object}
use Rattle.stack_files.specs.declared.stack_fault.StackFault.{StackFault}
use Rattle.stack_files.specs.declared.stack_fault.StackFault.TheVariants.{NoSuchDevice}
use Rattle.stack_files.specs.BareLeaves.{FailsToStand, StandsOnLeaves}
use Rattle.stack_files.specs.Closings.{GivesBack}
use Rattle.stack_files.specs.DeviceSources.{SourceWords, of_disk, of_stack}
use Rattle.stack_files.specs.Disks.{disk_at}
use Rattle.stack_files.specs.NamedDevices.{DeviceWords, device_words}
use Rattle.stack_files.specs.StacksOfTexts.{Configures, FailsToLoadFile, Loads}
use Rattle.stack_files.specs.OpenStacks.{StackWords}
use Rattle.stack_commands.specs.Endings.{IsReplyUnwritten}
use Rattle.stack_commands.specs.ServiceLog.{Exchange, IsUnbegun, ServesNoted}
use Rattle.stack_commands.specs.Uses.{IsRequestEnd, IsStackEnd}

abbrev pub on : List ℕ → List BindingRecord → StackWords
on stack bindings = record { stack = stack; bindings = bindings }

abbrev pub device_on : List ℕ → List ℕ → ℕ → List BindingRecord → DeviceWords
device_on stack name cache bindings = device_words (on stack bindings) name cache

-- a device of a stack, or a disk
abbrev pub source_on : SourceRecord → ℕ → Bool → List BindingRecord → SourceWords
source_on (on_stack stack name) cache grow bindings = of_stack (device_on stack name cache bindings)
source_on (on_disk place) cache grow bindings = of_disk (disk_at place cache grow)

-- ---- `load`

-- with `linux`, no rule of Linux applies to a configuration
abbrev pub IsTaken : Bool → Configuration → Type 0
IsTaken true config = linux_refusal config ≡ None
IsTaken false config = Unit {0}

-- the result of a check that is made with `linux` alone
abbrev pub IsCheckedIf : Bool → Configuration → Result Unit LinuxFault → Type 0
IsCheckedIf true config result = IsChecked config result
IsCheckedIf false config result = result ≡ Ok tt

-- with `linux`, the first rule of Linux that applies ends the command, or a refused allocation of room for as many numbers as
-- there are devices
abbrev pub IsLinuxEnd : Bool → Configuration → CommandFault → Type 0
IsLinuxEnd linux config (Linux refusal) = (linux ≡ true) × (linux_refusal config ≡ Some refusal)
IsLinuxEnd linux config NoMemory = (linux ≡ true) × IsOutOfMemory (length config.devices)
IsLinuxEnd linux config fault = ⊥

-- the object isn't made, since memory ran out; its library makes no evidence of that
abbrev pub IsObjectUnmade : ListForm → CommandFault → Type 0
IsObjectUnmade Object fault = fault ≡ NoMemory
IsObjectUnmade form fault = ⊥

-- a line for each mapped device, a tree or an object of them; among the errors, that no signature is checked
pub record PrintsDevices {S D : Type 0} (form : ListForm) (linux : Bool) (w : Calls S D) (words : StackWords) (notes : Notes) (old new : Option (List ℕ)) : Type 0 where
  pub config : Configuration
  pub made : Configures w words config
  pub noted : IsNoted notes (unchecked_text config)
  pub taken : IsTaken linux config
  pub printed : Appends old new (load_text form config words.bindings)

-- the devices of the one that is made aren't printed
pub record FailsToListDevices {S D : Type 0} (form : ListForm) (linux : Bool) (w : Calls S D) (words : StackWords) (notes : Notes) (failed : Bool) (fault : CommandFault) : Type 0 where
  pub config : Configuration
  pub made : Configures w words config
  pub noted : IsNoted notes (unchecked_text config)
  pub why : (IsTaken linux config × IsObjectUnmade form fault) ⊎ (IsLinuxEnd linux config fault ⊎ IsReplyUnwritten failed fault)

-- that, or the text makes none, and nothing is printed among the errors
abbrev pub IsListEnd : {S D : Type 0} → ListForm → Bool → Calls S D → StackWords → Notes → Bool → CommandFault → Type 0
IsListEnd form linux w words notes failed fault =
    (IsStackEnd (FailsToLoadFile w words) fault × (notes.new ≡ notes.old)) ⊎ FailsToListDevices form linux w words notes failed fault

-- ---- `read`

-- what a request for sectors gave
pub record PrintsReply {S D : Type 0} (w : Calls S D) (words : StackWords) (cache : ℕ) (request : RequestRecord) (old new : Option (List ℕ)) : Type 0 where
  pub reply : Reply
  pub read : ReadsSectors w words cache request reply
  pub printed : Appends old new (reply_text (first_of request) reply)

-- it isn't served, or what it gave isn't printed
abbrev pub IsReadEnd : {S D : Type 0} → Calls S D → StackWords → ℕ → RequestRecord → Bool → CommandFault → Type 0
IsReadEnd w words cache request failed fault =
    IsRequestEnd (FailsToRead w words cache request) fault ⊎ ((reply : Reply) × ReadsSectors w words cache request reply × IsReplyUnwritten failed fault)

-- ---- `write`

-- the source's bytes were written and synced, and the images closed with them
abbrev pub PrintsWritten : {S D : Type 0} → Calls S D → PutWords → Option (List ℕ) → Option (List ℕ) → Type 0
PrintsWritten w words old new = PutsBack w words (Ok tt) × Appends old new written_text

-- they weren't, or that can't be printed
abbrev pub IsWriteEnd : {S D : Type 0} → Calls S D → PutWords → Bool → CommandFault → Type 0
IsWriteEnd w words failed fault = IsRequestEnd (IsPutEnd w words) fault ⊎ (PutsBack w words (Ok tt) × IsReplyUnwritten failed fault)

-- ---- `session`

-- an image wasn't synced after what was done
abbrev pub IsSyncEnd : (Result Unit IoFault → Type 0) → CommandFault → Type 0
IsSyncEnd Done (Io fault) = Done (Err fault)
IsSyncEnd Done fault = ⊥

-- The replies to the lines of the input, over no mapped device at first, with so many hash blocks kept. The images were closed,
-- synced or not.
pub record ServesSession {S D : Type 0} (w : Calls S D) (cache : ℕ) (bindings : List BindingRecord) (old new : Streams) (outcome : Result Unit SessionFault) (synced : Result Unit IoFault) : Type 0 where
  pub stack : StackRecord
  pub last : World
  pub between : S
  pub stands : StandsOnLeaves (record w { new = between }) bindings cache stack
  pub served : IsQueueSession (new_world stack) last old new outcome
  pub back : GivesBack (record w { old = between }) bindings last.stack.leaves synced

-- the stack that the lines of the input left
pub record LeavesStack {S D : Type 0} (w : Calls S D) (cache : ℕ) (bindings : List BindingRecord) (old new : Streams) (stack : StackRecord) : Type 0 where
  pub first : StackRecord
  pub last : World
  pub between : S
  pub outcome : Result Unit SessionFault
  pub stands : StandsOnLeaves (record w { new = between }) bindings cache first
  pub served : IsQueueSession (new_world first) last old new outcome
  pub is : stack ≡ last.stack

-- what is printed among the errors of that stack
abbrev pub NotesLeft : {S D : Type 0} → Calls S D → ℕ → List BindingRecord → Streams → Streams → Notes → Type 0
NotesLeft w cache bindings old new = NotesStack (LeavesStack w cache bindings old new) ((fault : StackFault) × FailsToStand w bindings fault)

-- A session ends early: nothing was served, as an image isn't opened or the leaves aren't taken; or by the session's
-- own fault, as a failure of the writer; or all was served, and then an image isn't synced.
abbrev pub IsServeEnd : {S D : Type 0} → Calls S D → ℕ → List BindingRecord → Streams → Streams → Bool → CommandFault → Type 0
IsServeEnd w cache bindings old new failed (Session fault) =
    ((synced : Result Unit IoFault) × ServesSession w cache bindings old new (Err fault) synced) × (fault ≡ WriteFault → failed ≡ true)
IsServeEnd w cache bindings old new failed (Io fault) = ServesSession w cache bindings old new (Ok tt) (Err fault)
IsServeEnd w cache bindings old new failed (Stack fault) = (new ≡ old) × FailsToStand w bindings fault
IsServeEnd w cache bindings old new failed fault = ⊥

-- ---- `nbd`

-- The service of a client, over the device of that name in the stack, which keeps a data block too, and the log of its requests. The
-- images were then closed, synced or not.
pub record ServesClient {S D : Type 0} (w : Calls S D) (words : DeviceWords) (x : Exchange) (log : SessionLog) (outcome : Result SessionEnd ServiceFault) (synced : Result Unit IoFault) : Type 0 where
  pub stack : StackRecord
  pub export : ExportRecord
  pub last : World
  pub between : S
  pub loaded : Loads (record w { new = between }) words.words words.cache stack
  pub is_export : IsExport stack.config export
  pub named : export.name ≡ words.name
  pub served : ServesNoted x (export ∷ []) (new_world (stack_keeping stack)) last log outcome
  pub back : GivesBack (record w { old = between }) words.words.bindings last.stack.leaves synced

-- all was served and synced, and no request ended with a fault
abbrev pub ServesWell : (SessionLog → Type 0) → Type 0
ServesWell Done = (log : SessionLog) × (log.tally.faults ≡ 0) × Done log

-- all was served and synced, but requests ended with a fault
abbrev pub IsFaultsEnd : (SessionLog → Type 0) → CommandFault → Type 0
IsFaultsEnd Done (Faults tally) = (tally.faults ≢ 0) × ((log : SessionLog) × (tally ≡ log.tally) × Done log)
IsFaultsEnd Done fault = ⊥

-- all was served, and an image wasn't synced or requests ended with a fault
abbrev pub IsServedEnd : (SessionLog → Result Unit IoFault → Type 0) → CommandFault → Type 0
IsServedEnd Done fault = IsSyncEnd (λ synced. (log : SessionLog) × Done log synced) fault ⊎ IsFaultsEnd (λ log. Done log (Ok tt)) fault

-- the stack has no device of that name that a client can be told of
pub record HasNoDevice {S D : Type 0} (w : Calls S D) (words : DeviceWords) (fault : StackFault) : Type 0 where
  pub stack : StackRecord
  pub loaded : Loads w words.words words.cache stack
  pub none : HasNoExport stack.config words.name
  pub is : fault ≡ NoSuchDevice

-- that, or the text makes no stack
abbrev pub FailsToExport : {S D : Type 0} → Calls S D → DeviceWords → StackFault → Type 0
FailsToExport w words fault = FailsToLoadFile w words.words fault ⊎ HasNoDevice w words fault

-- the service itself ended early, as by a failure of the writer
pub record FailsToServeClient {S D : Type 0} (w : Calls S D) (words : DeviceWords) (x : Exchange) (failed : Bool) (fault : CommandFault) : Type 0 where
  pub service : ServiceFault
  pub log : SessionLog
  pub synced : Result Unit IoFault
  pub served : ServesClient w words x log (Err service) synced
  pub is : fault ≡ Service service
  pub written : service ≡ service_fault.WriteFault → failed ≡ true

-- The service of a client ends early: nothing was served; or by the service's own fault; or all was served, and then an
-- image isn't synced, or requests had faults.
abbrev pub IsClientEnd : {S D : Type 0} → Calls S D → DeviceWords → Exchange → Bool → CommandFault → Type 0
IsClientEnd w words x failed fault =
    (IsUnbegun x × IsStackEnd (FailsToExport w words) fault)
    ⊎ (FailsToServeClient w words x failed fault ⊎ IsServedEnd (λ log synced. (end : SessionEnd) × ServesClient w words x log (Ok end) synced) fault)
