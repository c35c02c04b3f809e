use Rattle.block_device.specs.declared.seal.Seal.TheVariants.{System}
use Rattle.block_device.specs.FileCalls.{was-opened}
use Rattle.block_device.proofs.file_calls.open_by.Goals as goal

pub returns-in-Ok : goal.returns-in-Ok
returns-in-Ok g c = was-opened _ _ _ System

pub returns-in-Err : goal.returns-in-Err
returns-in-Err g c = was-opened _ _ _ System
