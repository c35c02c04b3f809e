-- The service of one device.
use Rattle.std.specs.Prelude.{◌≡◌, ℕ, List, [], ◌∷◌, Option, Result}
use Rattle.program_io.specs.Counted.{CountedRecord}
use Rattle.program_io.specs.Streams.{streams}
use Rattle.request_queue.specs.World.{World}
use Rattle.nbd_protocol.specs.Exports.{ExportRecord, IsExport}
use Rattle.nbd_protocol.specs.Streaming.{HasRead, HasWritten, result_fault}
use Rattle.nbd_protocol.specs.declared.fault.ServiceFault.{ServiceFault}
use Rattle.nbd_server.specs.FaultLines.{AnyFaults}
use Rattle.nbd_server.specs.Service.{IsService}
use Rattle.nbd_server.specs.declared.session_end.SessionEnd.{SessionEnd}
use Rattle.nbd_server.specs.declared.session_log.SessionLog.{SessionLog}

-- the device with that name was served as the only export
pub record ServesDevice {R W : Type 0} (remaining : R → Option (List ℕ)) (contents : W → Option (List ℕ)) (name : List ℕ) (w w' : World) (reader reader' : CountedRecord R) (writer writer' : CountedRecord W) (result : Result SessionEnd ServiceFault) : Type 0 where
  pub export : ExportRecord
  pub named : export.name ≡ name
  pub is : IsExport w.stack.config export
  pub log : SessionLog
  pub service : IsService (export ∷ []) w w' (streams (remaining reader.inner) (contents writer.inner)) (streams (remaining reader'.inner) (contents writer'.inner)) log AnyFaults result
  pub reads : HasRead 0 reader reader' (result_fault result)
  pub writes : HasWritten writer writer' (result_fault result)
