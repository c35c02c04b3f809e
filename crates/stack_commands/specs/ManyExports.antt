-- `nbd --all`: each device of a stack is an export under its name.
use Rattle.std.specs.Prelude.{◌≡◌, ◌⊎◌, ℕ, Bool, true, List, Result, Ok, Err}
use Rattle.allocation.specs.Refusal.{IsOutOfMemory}
use Rattle.image_files.specs.Opener.{Calls}
use Rattle.nbd_protocol.specs.Exports.{ExportRecord}
use Rattle.nbd_protocol.specs.Offers.{AreNames, Offers, longest_name}
use Rattle.nbd_protocol.specs.declared.fault.ServiceFault.{ServiceFault}
use Rattle.nbd_protocol.specs.declared.fault.ServiceFault.TheVariants as service_fault
use Rattle.nbd_server.specs.declared.session_end.SessionEnd.{SessionEnd}
use Rattle.nbd_server.specs.declared.session_log.SessionLog.{SessionLog}
use Rattle.request_queue.specs.World.{World}
use Rattle.stack_engine.specs.Pieces.{stack_keeping}
use Rattle.stack_engine.specs.Stacks.{StackRecord}
use Rattle.stack_meaning.specs.declared.fault.IoFault.{IoFault}
use Rattle.stack_files.specs.OpenStacks.{StackWords}
use Rattle.stack_files.specs.Closings.{GivesBack}
use Rattle.stack_files.specs.StacksOfTexts.{FailsToLoadFile, Loads}
use Rattle.transfer_commands.specs.Requests.{new_world}
use Rattle.stack_commands.specs.declared.fault.CommandFault.{CommandFault}
use Rattle.stack_commands.specs.declared.fault.CommandFault.TheVariants.{NoMemory, Service}
use Rattle.stack_commands.specs.ServiceLog.{Exchange, IsUnbegun, ServesNoted}
use Rattle.stack_commands.specs.StackCommands.{IsServedEnd}
use Rattle.stack_commands.specs.Uses.{IsStackEnd}

-- the exports of a stack are its devices under their names, in their order
pub record AreOffered (stack : StackRecord) (exports : List ExportRecord) : Type 0 where
  pub names : List (List ℕ)
  pub named : AreNames stack.config.devices names
  pub offered : Offers stack.config names exports

-- The service of a client, over each device of the stack, which keeps a data block too, and the log of its requests. The images were closed with what was
-- written to them, synced or not.
pub record ServesExports {S D : Type 0} (w : Calls S D) (words : StackWords) (cache : ℕ) (x : Exchange) (log : SessionLog) (outcome : Result SessionEnd ServiceFault) (synced : Result Unit IoFault) : Type 0 where
  pub stack : StackRecord
  pub exports : List ExportRecord
  pub last : World
  pub between : S
  pub loaded : Loads (record w { new = between }) words cache stack
  pub offered : AreOffered stack exports
  pub served : ServesNoted x exports (new_world (stack_keeping stack)) last log outcome
  pub back : GivesBack (record w { old = between }) words.bindings last.stack.leaves synced

-- the service itself ended early, as by a failure of the writer
pub record FailsToServeExports {S D : Type 0} (w : Calls S D) (words : StackWords) (cache : ℕ) (x : Exchange) (failed : Bool) (fault : CommandFault) : Type 0 where
  pub service : ServiceFault
  pub log : SessionLog
  pub synced : Result Unit IoFault
  pub served : ServesExports w words cache x log (Err service) synced
  pub is : fault ≡ Service service
  pub written : service ≡ service_fault.WriteFault → failed ≡ true

-- the stack was made, and an allocation of a name or of an export was refused before its devices were listed
pub record FailsToOffer {S D : Type 0} (w : Calls S D) (words : StackWords) (cache : ℕ) (fault : CommandFault) : Type 0 where
  pub stack : StackRecord
  pub loaded : Loads w words cache stack
  pub is : fault ≡ NoMemory
  pub refused : IsOutOfMemory longest_name

-- The service ends early: nothing was served; or by its own fault; or all was served, and then an image isn't synced,
-- or requests had faults.
abbrev pub IsExportsEnd : {S D : Type 0} → Calls S D → StackWords → ℕ → Exchange → Bool → CommandFault → Type 0
IsExportsEnd w words cache x failed fault =
    (IsUnbegun x × (IsStackEnd (FailsToLoadFile w words) fault ⊎ FailsToOffer w words cache fault))
    ⊎ (FailsToServeExports w words cache x failed fault ⊎ IsServedEnd (λ log synced. (end : SessionEnd) × ServesExports w words cache x log (Ok end) synced) fault)
