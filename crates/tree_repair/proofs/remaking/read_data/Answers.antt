use Rattle.std.proofs.Common.{◌/◌, refl, arith}
use Rattle.std.specs.Prelude.{is_ok}
use Rattle.block_device.specs.Call.{DeviceDoes}
use Rattle.verity_format.proofs.lemmas.SizeLemmas.{block-inside, block-size}
use Rattle.tree_repair.specs.RepairCalls.{IsNoWrite}
use Rattle.tree_repair.proofs.RepairCallLemmas.{calls-read}
use Rattle.tree_repair.proofs.remaking.read_data.Goals as goal

pub overflow_mul-first : goal.overflow_mul-first
overflow_mul-first g c =
    let s = c.args.shape.now in
    let room = block-inside c.args.number s.blocks (s.data_block / 512) c.requires.inside in
    rw c.requires.size (omega (arith, room, c.requires.valid.data_fits))

pub read-requires : goal.read-requires
read-requires g c =
    let s = c.args.shape.now in
    let block = block-size s.data_block c.requires.valid.data_size in
    let room = block-inside c.args.number s.blocks (s.data_block / 512) c.requires.inside in
    rw c.requires.size (record { some = block.some; whole = block.whole; inside = omega (arith, room, c.requires.fits) })

pub returns-clause-called : goal.returns-clause-called
returns-clause-called g c =
    calls-read (DeviceDoes g.D.BlockDev.state g.D.BlockDev.does) IsNoWrite _ c.read.new.out c.args.data_dev.now c.read.new.self (is_ok c.read.result, (c.read.new.self, c.read.ensures.call, refl))
