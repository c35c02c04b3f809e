use Rattle.std.proofs.Common.{◌+◌, ◌-◌, arith, ◌∙◌, ℕ, subst, sym, true}
use Rattle.std.proofs.lemmas.Bool.{false≢true}
use Rattle.tree_repair.specs.Jobs.{job}
use Rattle.tree_repair.specs.Passes.{ArePasses}
use Rattle.tree_repair.proofs.BackLemmas.{all-good-behind}
use Rattle.tree_repair.proofs.PassLemmas.{passes-first, passes-next}
use Rattle.tree_repair.proofs.RunLemmas.{can-later, ended-from, has-then, laid-later, parity-then}
use Rattle.tree_repair.proofs.ParityPassLemmas.{runs-end, runs-from, runs-more, runs-then}
use Rattle.block_device.specs.Call.{DeviceDoes}
use Rattle.tree_repair.proofs.RunCallLemmas.{hands-ended, hands-then}
use Rattle.tree_repair.proofs.passes.run_passes.Goals as goal

pub returns-in_err-came-clause-parity : goal.returns-in_err-came-clause-parity
returns-in_err-came-clause-parity g c = c.run_pass.ensures.parity

pub returns-in_err-came-clause-run : goal.returns-in_err-came-clause-run
returns-in_err-came-clause-run g c = ended-from c.from_residual.result c.from_residual.ensures.1 c.in_err-came.ensures.run

pub passes-init : goal.passes-init
passes-init g c = record { handed = c.in_ok-came.ensures.handed; whole = c.in_ok-came.ensures.whole; within = runs-more 1 (1 + c.args.layout.now.hash_blocks - c.args.layout.now.hash_blocks) (omega arith) c.in_ok-came.ensures.within; parity = c.run_pass.ensures.parity; run = c.in_ok-came.ensures.run; passes = subst (λ (n : ℕ). ArePasses (job c.args.repair.now) c.args.layout.now n c.args.image.now.world c.run_pass.new.image.world (g.P.BlockDev.state c.args.parity.now) (g.P.BlockDev.state c.run_pass.new.parity) c.in_ok-came.came.tree) (omega arith) (passes-first c.in_ok-came.ensures.pass); few = omega arith }

pub run_pass-requires-in-passes-clause-can : goal.run_pass-requires-in-passes-clause-can
run_pass-requires-in-passes-clause-can g c = can-later c.passes.invariant.run c.requires.can

pub run_pass-requires-in-passes-clause-laid : goal.run_pass-requires-in-passes-clause-laid
run_pass-requires-in-passes-clause-laid g c = laid-later c.passes.invariant.run c.requires.laid

pub passes-preserved : goal.passes-preserved
passes-preserved g c = record {
  whole = λ yes. all-good-behind c.passes.invariant.run (c.in_ok-came-2.ensures.whole yes);
  within =
      let n = c.args.layout.now.hash_blocks in
      runs-then (1 + n - c.passes.left) (1 + n - (c.passes.left - 1)) (omega (arith, c.passes.invariant.few, c.if-left-gt0.true)) c.passes-test.true c.passes.invariant.within c.in_ok-came-2.ensures.within;
  parity = parity-then c.passes.invariant.parity c.run_pass-in-passes.ensures.parity;
  run = has-then c.passes.invariant.run c.in_ok-came-2.ensures.run;
  handed = hands-then (DeviceDoes g.D.BlockDev.state g.D.BlockDev.does) (DeviceDoes g.H.BlockDev.state g.H.BlockDev.does) (job c.args.repair.now) true c.args.image.now c.passes.image c.run_pass-in-passes.new.image c.passes.invariant.handed c.in_ok-came-2.ensures.handed;
  passes = subst (λ (n : ℕ). ArePasses (job c.args.repair.now) c.args.layout.now n c.args.image.now.world c.run_pass-in-passes.new.image.world (g.P.BlockDev.state c.args.parity.now) (g.P.BlockDev.state c.run_pass-in-passes.new.parity) c.in_ok-came-2.came.tree)
      (omega (arith, c.passes.invariant.few, c.if-left-gt0.true)) (passes-next c.passes.invariant.run c.passes.invariant.parity c.passes.invariant.passes c.passes-test.true c.in_ok-came-2.ensures.pass);
  few = omega (arith, c.passes.invariant.few);
}

pub returns-in_err-came-2-clause-parity : goal.returns-in_err-came-2-clause-parity
returns-in_err-came-2-clause-parity g c = parity-then c.passes.invariant.parity c.run_pass-in-passes.ensures.parity

pub returns-in_err-came-2-clause-run : goal.returns-in_err-came-2-clause-run
returns-in_err-came-2-clause-run g c = ended-from c.from_residual-in_err-came-2.result c.from_residual-in_err-came-2.ensures.1 (has-then c.passes.invariant.run c.in_err-came-2.ensures.run)

pub returns-after-passes-clause-parity : goal.returns-after-passes-clause-parity
returns-after-passes-clause-parity g c = c.passes.invariant.parity

pub returns-after-passes-clause-run : goal.returns-after-passes-clause-run
returns-after-passes-clause-run g c = c.passes.invariant.run

pub returns-after-passes-clause-asks : goal.returns-after-passes-clause-asks
returns-after-passes-clause-asks g c = record {
  count = c.args.layout.now.hash_blocks - c.passes.left;
  again = c.passes.came.tree;
  passes = c.passes.invariant.passes;
  few = omega arith;
  over = λ again. absurd (false≢true (sym c.passes-test.false ∙ again));
}

pub returns-else-left-gt0-clause-parity : goal.returns-else-left-gt0-clause-parity
returns-else-left-gt0-clause-parity g c = c.passes.invariant.parity

pub returns-else-left-gt0-clause-run : goal.returns-else-left-gt0-clause-run
returns-else-left-gt0-clause-run g c = c.passes.invariant.run

pub returns-else-left-gt0-clause-asks : goal.returns-else-left-gt0-clause-asks
returns-else-left-gt0-clause-asks g c = record {
  count = c.args.layout.now.hash_blocks - c.passes.left;
  again = c.passes.came.tree;
  passes = c.passes.invariant.passes;
  few = omega arith;
  over = λ again. omega (arith, c.if-left-gt0.false, c.passes.invariant.few);
}

pub returns-in_err-came-clause-within : goal.returns-in_err-came-clause-within
returns-in_err-came-clause-within g c = runs-from c.from_residual.result c.from_residual.ensures.1 (runs-more 1 (1 + c.args.layout.now.hash_blocks) (omega arith) c.in_err-came.ensures.within)

pub returns-in_err-came-2-clause-within : goal.returns-in_err-came-2-clause-within
returns-in_err-came-2-clause-within g c =
    let n = c.args.layout.now.hash_blocks in
    runs-from c.from_residual-in_err-came-2.result c.from_residual-in_err-came-2.ensures.1
    (runs-then (1 + n - c.passes.left) (1 + n) (omega (arith, c.passes.invariant.few, c.if-left-gt0.true)) c.passes-test.true c.passes.invariant.within c.in_err-came-2.ensures.within)

pub returns-after-passes-clause-whole : goal.returns-after-passes-clause-whole
returns-after-passes-clause-whole g c = c.passes.invariant.whole

pub returns-else-left-gt0-clause-whole : goal.returns-else-left-gt0-clause-whole
returns-else-left-gt0-clause-whole g c = c.passes.invariant.whole

pub returns-after-passes-clause-within : goal.returns-after-passes-clause-within
returns-after-passes-clause-within g c =
    let n = c.args.layout.now.hash_blocks in
    runs-end (1 + n - c.passes.left) (1 + n) (omega arith) c.passes.invariant.within

pub returns-else-left-gt0-clause-within : goal.returns-else-left-gt0-clause-within
returns-else-left-gt0-clause-within g c =
    let n = c.args.layout.now.hash_blocks in
    runs-end (1 + n - c.passes.left) (1 + n) (omega arith) c.passes.invariant.within

pub returns-in_err-came-clause-handed : goal.returns-in_err-came-clause-handed
returns-in_err-came-clause-handed g c =
    let asks = DeviceDoes g.D.BlockDev.state g.D.BlockDev.does in
    let does = DeviceDoes g.H.BlockDev.state g.H.BlockDev.does in
    hands-ended asks does (job c.args.repair.now) c.args.image.now c.run_pass.new.image c.from_residual.result _ c.from_residual.ensures.1 c.in_err-came.ensures.handed

pub returns-in_err-came-2-clause-handed : goal.returns-in_err-came-2-clause-handed
returns-in_err-came-2-clause-handed g c =
    let asks = DeviceDoes g.D.BlockDev.state g.D.BlockDev.does in
    let does = DeviceDoes g.H.BlockDev.state g.H.BlockDev.does in
    hands-ended asks does (job c.args.repair.now) c.args.image.now c.run_pass-in-passes.new.image c.from_residual-in_err-came-2.result _ c.from_residual-in_err-came-2.ensures.1
    (hands-then asks does (job c.args.repair.now) _ c.args.image.now c.passes.image c.run_pass-in-passes.new.image c.passes.invariant.handed c.in_err-came-2.ensures.handed)

pub returns-after-passes-clause-handed : goal.returns-after-passes-clause-handed
returns-after-passes-clause-handed g c = c.passes.invariant.handed

pub returns-else-left-gt0-clause-handed : goal.returns-else-left-gt0-clause-handed
returns-else-left-gt0-clause-handed g c = c.passes.invariant.handed
