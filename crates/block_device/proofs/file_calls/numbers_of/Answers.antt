use Rattle.block_device.specs.declared.seal.Seal.TheVariants.{System}
use Rattle.block_device.specs.FileCalls.{was-told}
use Rattle.block_device.proofs.file_calls.numbers_of.Goals as goal

pub returns : goal.returns
returns c = was-told c.args.metadata.now (record { device = c.dev.result; inode = c.ino.result; block_device = c.rdev.result }) System
