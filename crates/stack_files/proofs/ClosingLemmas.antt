-- Leaves that were synced, or not.
use Rattle.std.proofs.Common.{◌≡◌, List, map, Result, Ok, Err}
use Rattle.std.specs.Prelude.{IfErr, OnOk}
use Rattle.block_device.specs.Device.{Device, synced}
use Rattle.stack_meaning.specs.declared.fault.IoFault.{IoFault}
use Rattle.stack_engine.specs.Syncs.{FailsToSync}
use Rattle.stack_files.specs.Closings.{AreSynced}

pub are-synced : (leaves leaves' : List Device) (outcome : Result Unit IoFault) → OnOk outcome (leaves' ≡ map synced leaves) → IfErr outcome (FailsToSync leaves leaves') → AreSynced leaves outcome leaves'
are-synced leaves leaves' (Ok done) ok err = ok
are-synced leaves leaves' (Err fault) ok err = err
