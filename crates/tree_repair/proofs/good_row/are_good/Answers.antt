use Rattle.std.proofs.Common.{◌≡◌, ◌+◌, ◌-◌, ◌/◌, ℕ, true, arith, subst}
use Rattle.block_device.specs.Call.{DeviceDoes}
use Rattle.verity_format.proofs.lemmas.DeviceLemmas.{only_read-none, only_read-then}
use Rattle.tree_path.proofs.lemmas.AtMostLemmas.{at_most-fewer}
use Rattle.tree_repair.specs.Coverage.{AreGoodFrom}
use Rattle.tree_repair.specs.Jobs.{job}
use Rattle.tree_repair.proofs.BillLemmas.{at_most-then, piece-few}
use Rattle.tree_repair.specs.AccessBudgets.{piece_of}
use Rattle.tree_repair.proofs.GoodLemmas.{good-more, good-none}
use Rattle.tree_repair.specs.RepairCalls.{IsNoWrite}
use Rattle.tree_repair.proofs.RepairCallLemmas.{calls-more, calls-nothing}
use Rattle.tree_repair.proofs.good_row.are_good.Goals as goal

pub pieces-init : goal.pieces-init
pieces-init g c = record {
  read = only_read-none (g.D.BlockDev.state c.args.data_dev.now);
  counted = omega arith;
  low = omega arith;
  most = omega arith;
  asked = omega arith;
  good = good-none (job c.args.repair.now) c.args.path.now (g.D.BlockDev.state c.args.data_dev.now) c.args.row.first _ (omega arith);
  called = calls-nothing (DeviceDoes g.D.BlockDev.state g.D.BlockDev.does) IsNoWrite c.args.data_dev.now;
}

pub good_piece-requires-clause-fits : goal.good_piece-requires-clause-fits
good_piece-requires-clause-fits g c = omega (arith, c.requires.fits, c.pieces.invariant.read.same.size)

pub pieces-preserved : goal.pieces-preserved
pieces-preserved g c =
    let first = c.args.row.first in
    let at = c.pieces.index in
    let count = c.in-Some.count in
    let here : at ≡ first + (at - first) = omega (arith, c.pieces.invariant.low) in
    record {
      read = only_read-then c.pieces.invariant.read c.good_piece.ensures.read;
      counted = omega (arith, c.pieces.invariant.counted, c.good_piece.ensures.counted);
      low = omega (arith, c.pieces.invariant.low);
      most = omega (arith, c.pieces.invariant.low, c.in-Some.ensures.few);
      asked =
          at_most-then (g.D.BlockDev.state c.args.data_dev.now) (g.D.BlockDev.state c.pieces.data_dev) (g.D.BlockDev.state c.good_piece.new.data_dev) (c.args.repair.now.shape.data_block / 512) (at - first) count (at + count - first)
          (omega (arith, c.pieces.invariant.low)) c.pieces.invariant.asked (rw c.in-Some.is at c.good_piece.ensures.asked);
      good = good-more (job c.args.repair.now) c.args.path.now (g.D.BlockDev.state c.args.data_dev.now) (g.D.BlockDev.state c.pieces.data_dev) first (at - first) count (at + count - first)
          c.pieces.invariant.read c.pieces.invariant.good
          (subst (λ (n : ℕ). AreGoodFrom (job c.args.repair.now) c.args.path.now (g.D.BlockDev.state c.pieces.data_dev) n count) here c.in-Some.ensures.good)
          (omega (arith, c.pieces.invariant.low));
      called = calls-more (DeviceDoes g.D.BlockDev.state g.D.BlockDev.does) IsNoWrite true c.args.data_dev.now c.pieces.data_dev c.good_piece.new.data_dev c.pieces.invariant.called c.good_piece.ensures.called;
    }

pub returns-clause-read : goal.returns-clause-read
returns-clause-read g c = c.pieces.invariant.read

pub returns-clause-good : goal.returns-clause-good
returns-clause-good g c = λ ok.
    let all : c.pieces.index - c.args.row.first ≡ c.args.row.end - c.args.row.first = omega (arith, c.pieces.invariant.low, c.pieces.invariant.most, c.pieces-test.false) in
    subst (AreGoodFrom (job c.args.repair.now) c.args.path.now (g.D.BlockDev.state c.args.data_dev.now) c.args.row.first) all c.pieces.invariant.good

pub returns-in_default-clause-asked : goal.returns-in_default-clause-asked
returns-in_default-clause-asked g c =
    let first = c.args.row.first in
    let at = c.pieces.index in
    let left : ℕ = c.args.row.end - at in
    let k : ℕ = c.args.repair.now.shape.data_block / 512 in
    let old = g.D.BlockDev.state c.args.data_dev.now in
    let now = g.D.BlockDev.state c.pieces.data_dev in
    let new = g.D.BlockDev.state c.good_piece.new.data_dev in
    at_most-then old now new k (at - first) left (c.args.row.end - first) (omega (arith, c.pieces.invariant.low, c.pieces-test.true)) c.pieces.invariant.asked
    (at_most-fewer now new k (piece_of left c.good_piece.result) left (piece-few c.good_piece.result at c.args.row.end c.good_piece.ensures.few) c.good_piece.ensures.asked)

pub returns-clause-asked : goal.returns-clause-asked
returns-clause-asked g c =
    at_most-fewer (g.D.BlockDev.state c.args.data_dev.now) (g.D.BlockDev.state c.pieces.data_dev) (c.args.repair.now.shape.data_block / 512) (c.pieces.index - c.args.row.first) (c.args.row.end - c.args.row.first)
    c.pieces.invariant.most c.pieces.invariant.asked

pub returns-in_default-clause-called : goal.returns-in_default-clause-called
returns-in_default-clause-called g c = calls-more (DeviceDoes g.D.BlockDev.state g.D.BlockDev.does) IsNoWrite true c.args.data_dev.now c.pieces.data_dev c.good_piece.new.data_dev c.pieces.invariant.called c.good_piece.ensures.called

pub returns-clause-called : goal.returns-clause-called
returns-clause-called g c = c.pieces.invariant.called
