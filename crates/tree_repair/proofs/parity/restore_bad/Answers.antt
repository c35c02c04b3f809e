use Rattle.std.proofs.Common.{◌+◌, Bool, IsTrue, arith, refl, subst, sym, take, true}
use Rattle.std.proofs.lemmas.Bool.{and_parts}
use Rattle.std.proofs.lemmas.List.{take_all}
use Rattle.tree_repair.specs.Jobs.{job}
use Rattle.tree_repair.specs.Passes.{AreBack}
use Rattle.tree_repair.specs.ParitySearches.{AreSought}
use Rattle.fec_area.specs.declared.layout.Layout.{Layout}
use Rattle.tree_repair.proofs.BackLemmas.{back-next, back-none}
use Rattle.tree_repair.proofs.LosingLemmas.{all-sought-alike, alike-permuted}
use Rattle.tree_repair.proofs.TryLemmas.{sought-next}
use Rattle.tree_repair.proofs.RunLemmas.{can-later, ended-from, ends-read, has-none, has-then, laid-later, memory-within, parity-none, parity-then, refused-within, world-none}
use Rattle.tree_repair.specs.ParityBounds.{IsAskedWithin, parity_bill, sought_among}
use Rattle.tree_repair.proofs.ParityBillLemmas.{asked-none}
use Rattle.tree_repair.proofs.ParityPassLemmas.{tells-came, tells-none, tells-then, work-last, work-next}
use Rattle.block_device.specs.Call.{DeviceDoes}
use Rattle.tree_repair.proofs.RunCallLemmas.{hands-ended, hands-none, hands-then}
use Rattle.tree_repair.proofs.parity.restore_bad.Goals as goal

pub returns-in_err-lost-clause-parity : goal.returns-in_err-lost-clause-parity
returns-in_err-lost-clause-parity g c = parity-none (g.P.BlockDev.state c.args.parity.now)

pub returns-in_err-lost-clause-run : goal.returns-in_err-lost-clause-run
returns-in_err-lost-clause-run g c = ended-from c.from_residual.result c.from_residual.ensures.1 (ends-read (world-none c.args.image.now.world) (refused-within 1 (omega arith) c.in_err-lost.ensures.err.1))

pub returns-in_err-last_path-clause-parity : goal.returns-in_err-last_path-clause-parity
returns-in_err-last_path-clause-parity g c = parity-none (g.P.BlockDev.state c.args.parity.now)

pub returns-in_err-last_path-clause-run : goal.returns-in_err-last_path-clause-run
returns-in_err-last_path-clause-run g c = ended-from c.from_residual-in_err-last_path.result c.from_residual-in_err-last_path.ensures.1 (ends-read (world-none c.args.image.now.world) (memory-within 4096 (omega arith) c.in_err-last_path.ensures.err))

pub each-init : goal.each-init
each-init g c = record { handed = hands-none (DeviceDoes g.D.BlockDev.state g.D.BlockDev.does) (DeviceDoes g.H.BlockDev.state g.H.BlockDev.does) (job c.args.repair.now) c.args.image.now; tree = c.in_ok-last_path.ensures.ok; back = λ yes. back-none (job c.args.repair.now) c.args.image.now.world; came = tells-none 1 has-none; within = asked-none _ c.args.image.now.world (g.P.BlockDev.state c.args.parity.now); sought = (refl, (refl, refl)); parity = parity-none (g.P.BlockDev.state c.args.parity.now); run = has-none }

pub restore_block_at-requires-clause-can : goal.restore_block_at-requires-clause-can
restore_block_at-requires-clause-can g c = can-later c.each.invariant.run c.requires.can

pub restore_block_at-requires-clause-laid : goal.restore_block_at-requires-clause-laid
restore_block_at-requires-clause-laid g c = rw c.of-losses.ensures.layout (laid-later c.each.invariant.run c.requires.laid)

pub each-preserved : goal.each-preserved
each-preserved g c = record {
  sought = subst (λ (tree : Bool). AreSought (job c.args.repair.now) c.of-losses.result.layout c.of-losses.result.lost.items (take (c.each.bad-index + 1) c.args.blocks.now) c.args.image.now.world c.restore_block_at.new.image.world
      (g.P.BlockDev.state c.args.parity.now) (g.P.BlockDev.state c.restore_block_at.new.parity) tree)
      (sym c.is_in_tree-tree.ensures)
      (sought-next (job c.args.repair.now) c.of-losses.result.layout c.of-losses.result.lost.items c.args.blocks.now c.each.bad-index _ c.args.image.now.world c.each.image.world c.restore_block_at.new.image.world
      (g.P.BlockDev.state c.args.parity.now) (g.P.BlockDev.state c.each.parity) (g.P.BlockDev.state c.restore_block_at.new.parity) c.each.tree c.in_ok-back.back c.each-test.true c.each.invariant.sought c.in_ok-back.ensures.sought);
  back = back-next (job c.args.repair.now) c.of-losses.result.layout c.of-losses.result.lost.items c.args.blocks.now c.each.bad-index _ c.args.image.now.world c.each.image.world c.restore_block_at.new.image.world
      (g.P.BlockDev.state c.each.parity) (g.P.BlockDev.state c.restore_block_at.new.parity) c.each.all c.in_ok-back.back c.are_both-all.result c.each-test.true c.are_both-all.ensures c.each.invariant.back c.in_ok-back.ensures.sought;
  came = tells-then c.each.tree c.in_ok-back.back c.is_in_tree-tree.result c.is_in_tree-tree.ensures c.each.invariant.came c.in_ok-back.ensures.came;
  within = work-next c.args.repair.now.shape c.of-losses.result.layout c.args.blocks.now c.each.bad-index _ c.each-test.true c.each.invariant.within c.restore_block_at.ensures.within;
  parity = parity-then c.each.invariant.parity c.restore_block_at.ensures.parity;
  run = has-then c.each.invariant.run c.in_ok-back.ensures.run;
  handed = hands-then (DeviceDoes g.D.BlockDev.state g.D.BlockDev.does) (DeviceDoes g.H.BlockDev.state g.H.BlockDev.does) (job c.args.repair.now) true c.args.image.now c.each.image c.restore_block_at.new.image c.each.invariant.handed c.in_ok-back.ensures.handed;
  tree = c.restore_block_at.ensures.tree;
}

pub returns-in_err-back-clause-parity : goal.returns-in_err-back-clause-parity
returns-in_err-back-clause-parity g c = parity-then c.each.invariant.parity c.restore_block_at.ensures.parity

pub returns-in_err-back-clause-run : goal.returns-in_err-back-clause-run
returns-in_err-back-clause-run g c = ended-from c.from_residual-in_err-back.result c.from_residual-in_err-back.ensures.1 (has-then c.each.invariant.run c.in_err-back.ensures.run)

pub returns-clause-parity : goal.returns-clause-parity
returns-clause-parity g c = c.each.invariant.parity

pub returns-clause-run : goal.returns-clause-run
returns-clause-run g c = c.each.invariant.run

pub returns-clause-sought : goal.returns-clause-sought
returns-clause-sought g c =
    let l = c.args.layout.now in
    let sorted = c.of-losses.result.lost.items in
    let given = c.in_ok-lost.lost.items in
    let p = g.P.BlockDev.state c.args.parity.now in
    let p' = g.P.BlockDev.state c.each.parity in
    let all : AreSought (job c.args.repair.now) c.of-losses.result.layout sorted c.args.blocks.now c.args.image.now.world c.each.image.world p p' c.each.tree =
    subst (λ xs. AreSought (job c.args.repair.now) c.of-losses.result.layout sorted xs c.args.image.now.world c.each.image.world p p' c.each.tree) (take_all c.each.bad-index c.args.blocks.now c.each-test.false) c.each.invariant.sought in
    record {
      lost = given;
      are = c.in_ok-lost.ensures.ok;
      sought = all-sought-alike (job c.args.repair.now) l sorted given (λ index. alike-permuted l index given sorted c.of-losses.ensures.same) c.args.blocks.now c.args.image.now.world c.each.image.world p p' c.each.tree
          (subst (λ (x : Layout). AreSought (job c.args.repair.now) x sorted c.args.blocks.now c.args.image.now.world c.each.image.world p p' c.each.tree) c.of-losses.ensures.layout all);
    }

pub returns-clause-back : goal.returns-clause-back
returns-clause-back g c = λ both. let yes = (and_parts c.each.all c.each.kept (subst IsTrue c.are_both-sure.ensures both)).0 in subst (λ xs. AreBack (job c.args.repair.now) xs c.args.image.now.world c.each.image.world) (take_all c.each.bad-index c.args.blocks.now c.each-test.false) (c.each.invariant.back yes)

pub returns-in_err-lost-clause-within : goal.returns-in_err-lost-clause-within
returns-in_err-lost-clause-within g c = asked-none (parity_bill c.args.repair.now.shape c.args.layout.now 0 0 (sought_among c.args.blocks.now)) c.args.image.now.world (g.P.BlockDev.state c.args.parity.now)

pub returns-in_err-last_path-clause-within : goal.returns-in_err-last_path-clause-within
returns-in_err-last_path-clause-within g c = asked-none (parity_bill c.args.repair.now.shape c.args.layout.now 0 0 (sought_among c.args.blocks.now)) c.args.image.now.world (g.P.BlockDev.state c.args.parity.now)

pub returns-in_err-back-clause-within : goal.returns-in_err-back-clause-within
returns-in_err-back-clause-within g c =
    subst (λ (x : Layout). IsAskedWithin (parity_bill c.args.repair.now.shape x 0 0 (sought_among c.args.blocks.now)) c.args.image.now.world c.restore_block_at.new.image.world (g.P.BlockDev.state c.args.parity.now) (g.P.BlockDev.state c.restore_block_at.new.parity))
    c.of-losses.ensures.layout
    (work-last c.args.repair.now.shape c.of-losses.result.layout c.args.blocks.now c.each.bad-index _ c.each-test.true c.each.invariant.within c.restore_block_at.ensures.within)

pub returns-clause-within : goal.returns-clause-within
returns-clause-within g c =
    subst (λ (x : Layout). IsAskedWithin (parity_bill c.args.repair.now.shape x 0 0 (sought_among c.args.blocks.now)) c.args.image.now.world c.each.image.world (g.P.BlockDev.state c.args.parity.now) (g.P.BlockDev.state c.each.parity))
    c.of-losses.ensures.layout
    (subst (λ xs. IsAskedWithin (parity_bill c.args.repair.now.shape c.of-losses.result.layout 0 0 (sought_among xs)) c.args.image.now.world c.each.image.world (g.P.BlockDev.state c.args.parity.now) (g.P.BlockDev.state c.each.parity))
    (take_all c.each.bad-index c.args.blocks.now c.each-test.false) c.each.invariant.within)

pub returns-in_err-lost-clause-came : goal.returns-in_err-lost-clause-came
returns-in_err-lost-clause-came g c = tells-came c.from_residual.result c.from_residual.ensures.1 (ends-read (world-none c.args.image.now.world) (refused-within 1 (omega arith) c.in_err-lost.ensures.err.1))

pub returns-in_err-last_path-clause-came : goal.returns-in_err-last_path-clause-came
returns-in_err-last_path-clause-came g c = tells-came c.from_residual-in_err-last_path.result c.from_residual-in_err-last_path.ensures.1 (ends-read (world-none c.args.image.now.world) (memory-within 4096 (omega arith) c.in_err-last_path.ensures.err))

pub returns-in_err-back-clause-came : goal.returns-in_err-back-clause-came
returns-in_err-back-clause-came g c = tells-came c.from_residual-in_err-back.result c.from_residual-in_err-back.ensures.1 (has-then c.each.invariant.run c.in_err-back.ensures.run)

pub returns-clause-came : goal.returns-clause-came
returns-clause-came g c = c.each.invariant.came

pub returns-in_err-lost-clause-handed : goal.returns-in_err-lost-clause-handed
returns-in_err-lost-clause-handed g c =
    let asks = DeviceDoes g.D.BlockDev.state g.D.BlockDev.does in
    let does = DeviceDoes g.H.BlockDev.state g.H.BlockDev.does in
    hands-ended asks does (job c.args.repair.now) c.args.image.now c.args.image.now c.from_residual.result _ c.from_residual.ensures.1 (hands-none asks does (job c.args.repair.now) c.args.image.now)

pub returns-in_err-last_path-clause-handed : goal.returns-in_err-last_path-clause-handed
returns-in_err-last_path-clause-handed g c =
    let asks = DeviceDoes g.D.BlockDev.state g.D.BlockDev.does in
    let does = DeviceDoes g.H.BlockDev.state g.H.BlockDev.does in
    hands-ended asks does (job c.args.repair.now) c.args.image.now c.args.image.now c.from_residual-in_err-last_path.result _ c.from_residual-in_err-last_path.ensures.1 (hands-none asks does (job c.args.repair.now) c.args.image.now)

pub returns-in_err-back-clause-handed : goal.returns-in_err-back-clause-handed
returns-in_err-back-clause-handed g c =
    let asks = DeviceDoes g.D.BlockDev.state g.D.BlockDev.does in
    let does = DeviceDoes g.H.BlockDev.state g.H.BlockDev.does in
    hands-ended asks does (job c.args.repair.now) c.args.image.now c.restore_block_at.new.image c.from_residual-in_err-back.result _ c.from_residual-in_err-back.ensures.1
    (hands-then asks does (job c.args.repair.now) _ c.args.image.now c.each.image c.restore_block_at.new.image c.each.invariant.handed c.in_err-back.ensures.handed)

pub returns-clause-handed : goal.returns-clause-handed
returns-clause-handed g c = c.each.invariant.handed
