use Rattle.std.proofs.Common.{inl, inr, refl}
use Rattle.std.proofs.lemmas.Result.{on_ok_weaker}
use Rattle.block_device.specs.Call.{DeviceDoes}
use Rattle.block_device.specs.Device.{sectors_of}
use Rattle.verity_format.specs.Blocks.{block_at}
use Rattle.image_commands.proofs.ClearingLemmas.{false-from_not, fewer-ended, true-from_not}
use Rattle.image_commands.proofs.clearing.clear_superblock.Goals as goal

pub returns-then-ne-clause-ok : goal.returns-then-ne-clause-ok
unfolding block_at
returns-then-ne-clause-ok g c =
    on_ok_weaker c.sync.result
    (λ kept. inl (record {
      sector = c.read.new.out;
      read_dev = g.H.BlockDev.state c.read.new.self;
      first = c.in_ok-read.ensures.bytes;
      other = false-from_not _ c.if-ne.ensures;
      read = c.in_ok-read.ensures.moved;
      kept = kept;
    }))
    c.sync.ensures.ok

pub returns-clause-ok : goal.returns-clause-ok
unfolding block_at sectors_of
returns-clause-ok g c =
    on_ok_weaker c.sync-2.result
    (λ kept. inr (record {
      sector = c.read.new.out;
      read_dev = g.H.BlockDev.state c.read.new.self;
      written_dev = g.H.BlockDev.state c.write.new.self;
      first = c.in_ok-read.ensures.bytes;
      begins = true-from_not _ c.if-ne.ensures;
      read = c.in_ok-read.ensures.moved;
      written = c.in_ok-write.ensures.moved;
      zeros = c.in_ok-write.ensures.image;
      kept = kept;
    }))
    c.sync-2.ensures.ok

pub returns-in_err-read-clause-handed : goal.returns-in_err-read-clause-handed
returns-in_err-read-clause-handed g c =
    fewer-ended (DeviceDoes g.H.BlockDev.state g.H.BlockDev.does) c.args.hash_dev.now c.read.new.self _ c.from_residual.result c.from_residual.ensures.1
    (inl (c.read.new.out, (c.read.new.self, c.in_err-read.ensures.call, refl)))

pub returns-then-ne-clause-handed : goal.returns-then-ne-clause-handed
returns-then-ne-clause-handed g c = inr (inl (record {
  sector = c.read.new.out;
  other = false-from_not _ c.if-ne.ensures;
  made = (c.read.new.self, c.in_ok-read.ensures.call, (c.sync.new.self, c.sync.ensures.call, refl));
}))

pub returns-in_err-write-clause-handed : goal.returns-in_err-write-clause-handed
returns-in_err-write-clause-handed g c =
    fewer-ended (DeviceDoes g.H.BlockDev.state g.H.BlockDev.does) c.args.hash_dev.now c.write.new.self _ c.from_residual-in_err-write.result c.from_residual-in_err-write.ensures.1
    (inr (record {
      sector = c.read.new.out;
      begins = true-from_not _ c.if-ne.ensures;
      made = (c.read.new.self, c.in_ok-read.ensures.call, (c.write.new.self, c.in_err-write.ensures.call, refl));
    }))

pub returns-clause-handed : goal.returns-clause-handed
returns-clause-handed g c = inl (record {
  sector = c.read.new.out;
  begins = true-from_not _ c.if-ne.ensures;
  made = (c.read.new.self, c.in_ok-read.ensures.call, (c.write.new.self, c.in_ok-write.ensures.call, (c.sync-2.new.self, c.sync-2.ensures.call, refl)));
})
