use Rattle.std.proofs.Common.{◌/◌, refl, arith}
use Rattle.std.specs.Prelude.{is_ok}
use Rattle.block_device.specs.Call.{DeviceDoes}
use Rattle.tree_shape.specs.Shape.{area_end}
use Rattle.verity_format.proofs.lemmas.SizeLemmas.{block-inside, block-size}
use Rattle.tree_repair.specs.RepairCalls.{IsNoWrite}
use Rattle.tree_repair.proofs.RepairCallLemmas.{calls-read}
use Rattle.tree_repair.proofs.remaking.read_hash.Goals as goal

pub overflow_mul-first : goal.overflow_mul-first
overflow_mul-first g c =
    let s = c.args.shape.now in
    let room = block-inside c.position-place.result (area_end s) (s.hash_block / 512) c.position-place.ensures.inside in
    rw c.requires.size (omega (arith, room, c.requires.valid.tree_fits))

pub read-requires : goal.read-requires
read-requires g c =
    let s = c.args.shape.now in
    let block = block-size s.hash_block c.requires.valid.hash_size in
    let room = block-inside c.position-place.result (area_end s) (s.hash_block / 512) c.position-place.ensures.inside in
    rw c.requires.size (record { some = block.some; whole = block.whole; inside = omega (arith, room, c.requires.fits) })

pub returns-clause-called : goal.returns-clause-called
returns-clause-called g c =
    calls-read (DeviceDoes g.H.BlockDev.state g.H.BlockDev.does) IsNoWrite _ c.read.new.out c.args.hash_dev.now c.read.new.self (is_ok c.read.result, (c.read.new.self, c.read.ensures.call, refl))
