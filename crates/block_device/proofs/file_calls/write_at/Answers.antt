use Rattle.std.specs.Prelude.{true, false}
use Rattle.block_device.specs.declared.seal.Seal.TheVariants.{System}
use Rattle.block_device.specs.Call.{Write}
use Rattle.block_device.specs.FileCalls.{was-called, was-write-refused}
use Rattle.block_device.proofs.file_calls.write_at.Goals as goal

pub returns-in-Ok-clause-call : goal.returns-in-Ok-clause-call
returns-in-Ok-clause-call c = was-called c.args.file.now (Write c.args.first c.args.bytes.now true) c.args.file.now System

pub returns-in-Err-clause-call : goal.returns-in-Err-clause-call
returns-in-Err-clause-call c = was-called c.args.file.now (Write c.args.first c.args.bytes.now false) c.args.file.now System

pub returns-in-Err-clause-err : goal.returns-in-Err-clause-err
returns-in-Err-clause-err c = was-write-refused c.args.file.now c.args.first c.args.bytes.now c.kind.result System
