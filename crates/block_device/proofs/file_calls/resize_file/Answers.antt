use Rattle.block_device.specs.declared.seal.Seal.TheVariants.{System}
use Rattle.block_device.specs.FileCalls.{was-not-resized, was-resized}
use Rattle.block_device.proofs.file_calls.resize_file.Goals as goal

pub returns-in-Ok-clause-ok : goal.returns-in-Ok-clause-ok
returns-in-Ok-clause-ok c = was-resized c.args.file.now c.args.bytes c.args.file.now System

pub returns-in-Err-clause-err : goal.returns-in-Err-clause-err
returns-in-Err-clause-err c = was-not-resized c.args.file.now c.args.bytes c.from.result System
