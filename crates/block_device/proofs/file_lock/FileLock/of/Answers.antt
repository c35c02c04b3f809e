use Rattle.block_device.specs.declared.seal.Seal.TheVariants.{System}
use Rattle.block_device.specs.declared.open_fault.OpenFault.TheVariants.{InUse}
use Rattle.block_device.specs.FileCalls.{was-unlocked}
use Rattle.block_device.proofs.file_lock.FileLock.of.Goals as goal

pub returns-in-Err : goal.returns-in-Err
returns-in-Err c = was-unlocked c.args.file.now c.from.result System

pub returns-in-Err-WouldBlock : goal.returns-in-Err-WouldBlock
returns-in-Err-WouldBlock c = was-unlocked c.args.file.now InUse System

pub returns : goal.returns
returns c = was-unlocked c.args.file.now c.from-in-Err-Error.result System
