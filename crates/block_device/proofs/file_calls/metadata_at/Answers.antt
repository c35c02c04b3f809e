use Rattle.block_device.specs.declared.seal.Seal.TheVariants.{System}
use Rattle.block_device.specs.FileCalls.{was-said-of-path, was-unsaid-of-path}
use Rattle.block_device.proofs.file_calls.metadata_at.Goals as goal

pub returns-in-Ok-clause-ok : goal.returns-in-Ok-clause-ok
returns-in-Ok-clause-ok g c = was-said-of-path c.args.path.now c.in-Ok.metadata System

pub returns-in-Err-clause-err : goal.returns-in-Err-clause-err
returns-in-Err-clause-err g c = was-unsaid-of-path c.args.path.now c.from.result System
