use Rattle.std.proofs.Common.{arith}
use Rattle.stack_lines.proofs.lemmas.SourceLemmas.{served-depth, served-holds}
use Rattle.nbd_server.proofs.ExtentLemmas.{zeros-extent, source-other, below-extent, device-extent, leaf-extent}
use Rattle.nbd_server.proofs.extent.+extent.Goals as goal

pub device_extent-source_extent-requires : goal.device_extent-source_extent-requires
device_extent-source_extent-requires t c =
    let config = c.args.config.now in
    let run = c.run_at-run.result in
    let served = c.run_at-run.ensures.served in
    let deep = served-depth config c.args.d.0 c.args.first run.count run.source c.requires.loaded c.run_at-run.ensures.some served in
    (omega (arith, deep), (c.requires.loaded, (c.run_at-run.ensures.some, served-holds config c.args.d.0 c.args.first run.count run.source served)))

pub device_extent-returns : goal.device_extent-returns
device_extent-returns t c =
    let run = c.run_at-run.result in
    device-extent c.args.config.now c.args.d.0 c.args.first c.args.most run.count run.source c.source_extent.result c.requires.loaded c.run_at-run.ensures.served c.run_at-run.ensures.most c.source_extent.ensures

pub source_extent-returns-in-Zeros : goal.source_extent-returns-in-Zeros
source_extent-returns-in-Zeros t c = rw c.in-Zeros.is (zeros-extent c.args.config.now c.args.most c.requires.some)

pub source_extent-returns-in-Below : goal.source_extent-returns-in-Below
source_extent-returns-in-Below t c =
    let run = c.in-Below in
    rw run.is (below-extent c.args.config.now run.lower run.first c.args.most c.lower_extent.result c.lower_extent.ensures)

pub lower_extent-returns-in-Device : goal.lower_extent-returns-in-Device
lower_extent-returns-in-Device t c = rw c.in-Device.is c.device_extent.ensures

pub source_extent-returns-in-Block : goal.source_extent-returns-in-Block
source_extent-returns-in-Block t c = rw c.in-Block.is c.verity_extent.ensures

pub source_extent-returns-in-Blocks : goal.source_extent-returns-in-Blocks
source_extent-returns-in-Blocks t c = rw c.in-Blocks.is c.verity_extent-in-Blocks.ensures

pub source_extent-returns-in_default : goal.source_extent-returns-in_default
source_extent-returns-in_default t c =
    source-other c.args.config.now c.args.source c.args.most c.requires.some c.in_default.not-Zeros c.in_default.not-Below c.in_default.not-Block c.in_default.not-Blocks

pub lower_extent-returns-in-Leaf : goal.lower_extent-returns-in-Leaf
lower_extent-returns-in-Leaf t c = leaf-extent c.args.config.now c.args.lower _ c.args.first c.args.most c.in-Leaf.is c.requires.some
