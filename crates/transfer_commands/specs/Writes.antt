-- Writes of a file's bytes to a stack file's device, and why they fail.
use Rattle.std.specs.Prelude.{◌⊎◌, ℕ, List, Result, Ok, Err}
use Rattle.block_device.specs.Device.{Device}
use Rattle.command_line.specs.declared.invocation.Transfer.{Transfer}
use Rattle.image_files.specs.declared.images.FileText.{FileText}
use Rattle.image_files.specs.Opener.{Calls, Opener, calls}
use Rattle.stack_meaning.specs.declared.fault.IoFault.{IoFault}
use Rattle.stack_engine.specs.Stacks.{StackRecord}
use Rattle.stack_files.specs.declared.stack_file.OpenStack.{OpenStack}
use Rattle.stack_files.specs.OpenStacks.{FailsToOpenSource, OpensSource, StackWords, stack_words}
use Rattle.stack_files.specs.declared.stack_file.StackFile.{StackFile}
use Rattle.stack_files.specs.declared.stack_fault.StackFault.{StackFault}
use Rattle.stack_files.specs.Closings.{GivesBack}
use Rattle.stack_files.specs.Endings.{IsOpeningEnd}
use Rattle.stack_files.specs.StacksOfTexts.{FailsToLoad, IsStackOf}
use Rattle.stack_files.specs.Unchecked.{NotesStack}
use Rattle.stack_files.specs.Warnings.{Notes}
use Rattle.request_queue.specs.declared.reply.Reply.{Reply}
use Rattle.request_queue.specs.Requests.{RequestRecord}
use Rattle.request_queue.specs.World.{World}
use Rattle.transfer_commands.specs.declared.request_fault.RequestFault.{RequestFault}
use Rattle.transfer_commands.specs.declared.request_fault.RequestFault.TheVariants.{Io}
use Rattle.transfer_commands.specs.Reads.{IsRequestStackless}
use Rattle.transfer_commands.specs.Requests.{FailsToServe, HasReply, new_world, write_request}

-- a stack file, a source, bindings, how many hash blocks are cached, and the request to write some bytes
pub record PutWords : Type 0 where
  pub words : StackWords
  pub cache : ℕ
  pub source : List ℕ
  pub put : List ℕ → RequestRecord

abbrev pub put_words : StackWords → ℕ → List ℕ → (List ℕ → RequestRecord) → PutWords
put_words words cache source put = record { words = words; cache = cache; source = source; put = put }

-- the source's bytes were written, by the first request of a new queue over the stack
pub record Puts {S D : Type 0} (w : Calls S D) (words : PutWords) (after : World) : Type 0 where
  pub over : OpenStack D
  pub source : FileText
  pub stack : StackRecord
  pub reply : Reply
  pub opened : OpensSource w words.words words.source over source
  pub made : IsStackOf w.state over words.cache stack
  pub served : HasReply (new_world stack) (words.put source.bytes.items) reply after

-- the source's bytes were written, and the images were closed, synced or not
pub record PutsBack {S D : Type 0} (w : Calls S D) (words : PutWords) (synced : Result Unit IoFault) : Type 0 where
  pub after : World
  pub between : S
  pub put : Puts (record w { new = between }) words after
  pub back : GivesBack (record w { old = between }) words.words.bindings after.stack.leaves synced

-- the text makes no stack
pub record MakesNoStack {S D : Type 0} (w : Calls S D) (words : PutWords) (fault : StackFault) : Type 0 where
  pub over : OpenStack D
  pub source : FileText
  pub opened : OpensSource w words.words words.source over source
  pub fails : FailsToLoad over fault

-- the text makes no stack, or a file can't be opened
abbrev pub FailsToLoadSource : {S D : Type 0} → Calls S D → PutWords → StackFault → Type 0
FailsToLoadSource w words fault = IsOpeningEnd (FailsToOpenSource w words.words words.source) fault ⊎ MakesNoStack w words fault

-- the request isn't served to its end, and the images are closed, synced or not
pub record FailsToPut {S D : Type 0} (w : Calls S D) (words : PutWords) (fault : RequestFault) : Type 0 where
  pub over : OpenStack D
  pub source : FileText
  pub stack : StackRecord
  pub after : World
  pub between : S
  pub opened : OpensSource (record w { new = between }) words.words words.source over source
  pub made : IsStackOf w.state over words.cache stack
  pub fails : FailsToServe (new_world stack) (words.put source.bytes.items) fault after
  pub synced : Result Unit IoFault
  pub back : GivesBack (record w { old = between }) words.words.bindings after.stack.leaves synced

-- the sync of an image failed after the request
abbrev pub IsUnsyncedBehind : (Result Unit IoFault → Type 0) → RequestFault → Type 0
IsUnsyncedBehind Done (Io fault) = Done (Err fault)
IsUnsyncedBehind Done fault = ⊥

-- nothing was written, or not all, or it isn't synced
abbrev pub IsPutEnd : {S D : Type 0} → Calls S D → PutWords → RequestFault → Type 0
IsPutEnd w words fault = IsRequestStackless (FailsToLoadSource w words) fault ⊎ (FailsToPut w words fault ⊎ IsUnsyncedBehind (PutsBack w words) fault)

-- the source and the stack that the bytes are written to
pub record LoadsSource {S D : Type 0} (w : Calls S D) (words : PutWords) (stack : StackRecord) : Type 0 where
  pub over : OpenStack D
  pub source : FileText
  pub between : S
  pub opened : OpensSource (record w { new = between }) words.words words.source over source
  pub made : IsStackOf w.state over words.cache stack

-- what is printed among the errors of that stack
abbrev pub NotesPut : {S D : Type 0} → Calls S D → PutWords → Notes → Type 0
NotesPut w words = NotesStack (LoadsSource w words) ((fault : StackFault) × FailsToLoadSource w words fault)

-- ---- in terms of the opener, before and after its calls, and of the program's arguments

-- the write of the source's bytes to a transfer's destination
abbrev pub words_to_put : StackFile → ℕ → Transfer → PutWords
words_to_put file cache transfer = put_words (stack_words file) cache transfer.source.now (write_request transfer)

-- the source's bytes were written, and the images synced and closed
abbrev pub PutsBy : {S D : Type 0} → Opener S D → (D → Device) → S → S → StackFile → ℕ → Transfer → Type 0
PutsBy relations state old new file cache transfer = PutsBack (calls relations state old new) (words_to_put file cache transfer) (Ok tt)

-- the source's bytes weren't written and synced
abbrev pub UnputBy : {S D : Type 0} → Opener S D → (D → Device) → S → S → StackFile → ℕ → Transfer → RequestFault → Type 0
UnputBy relations state old new file cache transfer = IsPutEnd (calls relations state old new) (words_to_put file cache transfer)

-- what is printed among the errors
abbrev pub NotesPutBy : {S D : Type 0} → Opener S D → (D → Device) → S → S → PutWords → Notes → Type 0
NotesPutBy relations state old new words = NotesPut (calls relations state old new) words
