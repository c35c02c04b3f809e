use Rattle.block_device.specs.declared.seal.Seal.TheVariants.{System}
use Rattle.block_device.specs.FileCalls.{was-said-of-file, was-unsaid-of-file}
use Rattle.block_device.proofs.file_calls.metadata_of.Goals as goal

pub returns-in-Ok-clause-ok : goal.returns-in-Ok-clause-ok
returns-in-Ok-clause-ok c = was-said-of-file c.args.file.now c.in-Ok.metadata System

pub returns-in-Err-clause-err : goal.returns-in-Err-clause-err
returns-in-Err-clause-err c = was-unsaid-of-file c.args.file.now c.from.result System
