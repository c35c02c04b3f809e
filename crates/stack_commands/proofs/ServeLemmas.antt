-- Sessions and services of clients.
use Rattle.std.proofs.Common.{◌≡◌, ℕ, subst, List, [], ◌∷◌, Result}
use Rattle.program_io.specs.Streams.{Streams}
use Rattle.command_line.specs.Bindings.{BindingRecord}
use Rattle.image_files.specs.Opener.{Calls}
use Rattle.nbd_protocol.specs.declared.fault.ServiceFault.{ServiceFault}
use Rattle.nbd_protocol.specs.Exports.{ExportRecord, IsExport}
use Rattle.nbd_protocol.specs.Offers.{AreNames, Offers}
use Rattle.nbd_server.specs.declared.session_end.SessionEnd.{SessionEnd}
use Rattle.nbd_server.specs.declared.session_log.SessionLog.{SessionLog}
use Rattle.request_queue.specs.World.{World}
use Rattle.transfer_commands.specs.Requests.{new_world}
use Rattle.stack_engine.specs.Pieces.{stack_keeping}
use Rattle.stack_engine.specs.Stacks.{StackRecord}
use Rattle.stack_meaning.specs.declared.fault.IoFault.{IoFault}
use Rattle.stack_files.specs.BareLeaves.{StandsOnLeaves}
use Rattle.stack_files.specs.Closings.{GivesBack}
use Rattle.stack_files.specs.NamedDevices.{DeviceWords}
use Rattle.stack_files.specs.StacksOfTexts.{Loads}
use Rattle.stack_files.specs.OpenStacks.{StackWords}
use Rattle.stack_session.specs.declared.fault.SessionFault.{SessionFault}
use Rattle.stack_session.specs.QueueSessions.{IsQueueSession}
use Rattle.stack_commands.specs.ManyExports.{ServesExports}
use Rattle.stack_commands.specs.ServiceLog.{Exchange, ServesNoted}
use Rattle.stack_commands.specs.StackCommands.{ServesSession, ServesClient}

-- a session by a new queue over no mapped device
pub session-served : {S D : Type 0} (w : Calls S D) (cache : ℕ) (between : S) (bindings : List BindingRecord) (stack : StackRecord) (queue last : World) (old new : Streams)
    (outcome : Result Unit SessionFault) (synced : Result Unit IoFault) → StandsOnLeaves (record w { new = between }) bindings cache stack
    → queue ≡ new_world stack → IsQueueSession queue last old new outcome
    → GivesBack (record w { old = between }) bindings last.stack.leaves synced → ServesSession w cache bindings old new outcome synced
session-served w cache between bindings stack queue last old new outcome synced stands is served back = record {
  stack = stack;
  last = last;
  between = between;
  stands = stands;
  served = subst (λ (q : World). IsQueueSession q last old new outcome) is served;
  back = back;
}

-- a client that was served by a new queue over the stack
pub client-served : {S D : Type 0} (w : Calls S D) (between : S) (words : DeviceWords) (stack : StackRecord) (queue last : World) (e : ExportRecord) (x : Exchange)
    (log : SessionLog) (outcome : Result SessionEnd ServiceFault) (synced : Result Unit IoFault) → Loads (record w { new = between }) words.words words.cache stack → queue ≡ new_world (stack_keeping stack)
    → IsExport queue.stack.config e → e.name ≡ words.name → ServesNoted x (e ∷ []) queue last log outcome → GivesBack (record w { old = between }) words.words.bindings last.stack.leaves synced
    → ServesClient w words x log outcome synced
client-served w between words stack queue last e x log outcome synced loaded is export named service back = record {
  stack = stack;
  export = e;
  last = last;
  between = between;
  loaded = loaded;
  is_export = subst (λ (q : World). IsExport q.stack.config e) is export;
  named = named;
  served = subst (λ (q : World). ServesNoted x (e ∷ []) q last log outcome) is service;
  back = back;
}

-- a client that was served each device of the stack by a new queue over it
pub exports-served : {S D : Type 0} (w : Calls S D) (between : S) (words : StackWords) (cache : ℕ) (stack : StackRecord) (queue last : World) (names : List (List ℕ)) (es : List ExportRecord) (x : Exchange)
    (log : SessionLog) (outcome : Result SessionEnd ServiceFault) (synced : Result Unit IoFault) → Loads (record w { new = between }) words cache stack → queue ≡ new_world (stack_keeping stack)
    → AreNames queue.stack.config.devices names → Offers queue.stack.config names es → ServesNoted x es queue last log outcome → GivesBack (record w { old = between }) words.bindings last.stack.leaves synced
    → ServesExports w words cache x log outcome synced
exports-served w between words cache stack queue last names es x log outcome synced loaded is named offered service back = record {
  stack = stack;
  exports = es;
  last = last;
  between = between;
  loaded = loaded;
  offered = record {
    names = names;
    named = subst (λ (q : World). AreNames q.stack.config.devices names) is named;
    offered = subst (λ (q : World). Offers q.stack.config names es) is offered;
  };
  served = subst (λ (q : World). ServesNoted x es q last log outcome) is service;
  back = back;
}
