use Rattle.block_device.specs.declared.seal.Seal.TheVariants.{System}
use Rattle.block_device.specs.Call.{Sync}
use Rattle.block_device.specs.FileCalls.{was-called}
use Rattle.block_device.proofs.file_calls.sync_all.Goals as goal

pub returns : goal.returns
returns c = was-called c.args.file.now (Sync c.is_ok.result) c.args.file.now System
