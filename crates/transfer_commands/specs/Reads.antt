-- Requests for sectors of a stack file's device: the reply, or why there is none.
use Rattle.std.specs.Prelude.{◌⊎◌, ℕ}
use Rattle.block_device.specs.Device.{Device}
use Rattle.command_line.specs.declared.invocation.Sectors.{Sectors}
use Rattle.image_files.specs.Opener.{Calls, Opener, calls}
use Rattle.stack_engine.specs.Stacks.{StackRecord}
use Rattle.stack_files.specs.OpenStacks.{StackWords, stack_words}
use Rattle.stack_files.specs.declared.stack_file.StackFile.{StackFile}
use Rattle.stack_files.specs.declared.stack_fault.StackFault.{StackFault}
use Rattle.stack_files.specs.StacksOfTexts.{FailsToLoadFile, Loads}
use Rattle.request_queue.specs.declared.reply.Reply.{Reply}
use Rattle.request_queue.specs.Requests.{RequestRecord}
use Rattle.request_queue.specs.World.{World}
use Rattle.transfer_commands.specs.declared.request_fault.RequestFault.{RequestFault}
use Rattle.transfer_commands.specs.declared.request_fault.RequestFault.TheVariants.{Stack}
use Rattle.transfer_commands.specs.Requests.{FailsToServe, HasReply, new_world, read_request}

-- the request was served with that reply, as the first of a new queue over the stack, which caches so many hash blocks
pub record ReadsSectors {S D : Type 0} (w : Calls S D) (words : StackWords) (cache : ℕ) (request : RequestRecord) (reply : Reply) : Type 0 where
  pub stack : StackRecord
  pub after : World
  pub loaded : Loads w words cache stack
  pub served : HasReply (new_world stack) request reply after

-- the request isn't served
pub record FailsToAsk {S D : Type 0} (w : Calls S D) (words : StackWords) (cache : ℕ) (request : RequestRecord) (fault : RequestFault) : Type 0 where
  pub stack : StackRecord
  pub after : World
  pub loaded : Loads w words cache stack
  pub fails : FailsToServe (new_world stack) request fault after

-- there is no stack
abbrev pub IsRequestStackless : (StackFault → Type 0) → RequestFault → Type 0
IsRequestStackless Fails (Stack fault) = Fails fault
IsRequestStackless Fails fault = ⊥

abbrev pub FailsToRead : {S D : Type 0} → Calls S D → StackWords → ℕ → RequestRecord → RequestFault → Type 0
FailsToRead w words cache request fault = IsRequestStackless (FailsToLoadFile w words) fault ⊎ FailsToAsk w words cache request fault

-- ---- in terms of the opener, before and after its calls, and of the program's arguments

-- the sectors are read
abbrev pub ReadsBy : {S D : Type 0} → Opener S D → (D → Device) → S → S → StackFile → ℕ → Sectors → Reply → Type 0
ReadsBy relations state old new file cache sectors = ReadsSectors (calls relations state old new) (stack_words file) cache (read_request sectors)

-- the sectors aren't read
abbrev pub UnreadBy : {S D : Type 0} → Opener S D → (D → Device) → S → S → StackFile → ℕ → Sectors → RequestFault → Type 0
UnreadBy relations state old new file cache sectors = FailsToRead (calls relations state old new) (stack_words file) cache (read_request sectors)
