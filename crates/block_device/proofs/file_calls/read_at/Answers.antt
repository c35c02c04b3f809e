use Rattle.block_device.specs.declared.seal.Seal.TheVariants.{System}
use Rattle.block_device.specs.Call.{Read}
use Rattle.block_device.specs.FileCalls.{was-called}
use Rattle.block_device.proofs.file_calls.read_at.Goals as goal

pub returns : goal.returns
returns c = was-called c.args.file.now (Read c.args.first c.read_exact_at.new.buf c.is_ok.result) c.args.file.now System
