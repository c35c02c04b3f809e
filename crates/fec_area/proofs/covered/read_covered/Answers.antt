use Rattle.std.proofs.Common.{◌+◌, ◌-◌, ◌*◌, ℕ, subst}
use Rattle.std.specs.Prelude.{is_ok}
use Rattle.block_device.specs.Call.{DeviceDoes, Read}
use Rattle.fec_area.proofs.AskingLemmas.{data-asked, hash-asked}
use Rattle.fec_area.proofs.GivenLemmas.{data-given, hash-given}
use Rattle.fec_area.proofs.covered.read_covered.Goals as goal

pub returns-then-index-layout-clause-asks : goal.returns-then-index-layout-clause-asks
returns-then-index-layout-clause-asks g c = data-asked c.args.layout.now c.args.index _ c.requires.size c.if-index-layout.true c.read.ensures.moved

pub returns-clause-asks : goal.returns-clause-asks
returns-clause-asks g c = hash-asked c.args.layout.now c.args.index _ c.requires.size c.if-index-layout.false c.requires.index c.read-2.ensures.moved

pub returns-then-index-layout-clause-sure : goal.returns-then-index-layout-clause-sure
returns-then-index-layout-clause-sure g c never = c.read.ensures.sure never.0

pub returns-clause-sure : goal.returns-clause-sure
returns-clause-sure g c never = c.read-2.ensures.sure never.1

pub returns-then-index-layout-clause-given : goal.returns-then-index-layout-clause-given
returns-then-index-layout-clause-given g c =
    let asks = DeviceDoes g.D.BlockDev.state g.D.BlockDev.does in
    let does = DeviceDoes g.H.BlockDev.state g.H.BlockDev.does in
    data-given asks does c.args.layout.now c.args.index c.read.new.out c.args.data_dev.now c.read.new.self c.args.hash_dev.now (is_ok c.read.result) c.if-index-layout.true
    (subst (λ (n : ℕ). asks c.args.data_dev.now (Read (c.args.index * n) c.read.new.out (is_ok c.read.result)) c.read.new.self) c.from-sectors.ensures c.read.ensures.call)

pub returns-clause-given : goal.returns-clause-given
returns-clause-given g c =
    let asks = DeviceDoes g.D.BlockDev.state g.D.BlockDev.does in
    let does = DeviceDoes g.H.BlockDev.state g.H.BlockDev.does in
    let l = c.args.layout.now in
    hash-given asks does l c.args.index c.read-2.new.out c.args.data_dev.now c.args.hash_dev.now c.read-2.new.self (is_ok c.read-2.result) c.if-index-layout.false
    (subst (λ (n : ℕ). does c.args.hash_dev.now (Read ((l.hash_first + (c.args.index - l.data_blocks)) * n) c.read-2.new.out (is_ok c.read-2.result)) c.read-2.new.self) c.from-sectors.ensures c.read-2.ensures.call)
