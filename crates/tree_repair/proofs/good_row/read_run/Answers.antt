use Rattle.std.proofs.Common.{◌≡◌, ◌*◌, ◌/◌, ◌∙◌, ap, sym, arith, refl, length, rules, true, false}
use Rattle.block_device.specs.Call.{DeviceDoes}
use Rattle.hash_tree.specs.Tree.{cut}
use Rattle.verity_format.specs.Blocks.{blocks_at}
use Rattle.tree_repair.proofs.PieceLemmas.{run-cut, run-sectors}
use Rattle.tree_repair.specs.RepairCalls.{IsNoWrite}
use Rattle.tree_repair.proofs.RepairCallLemmas.{calls-read}
use Rattle.tree_repair.proofs.good_row.read_run.Goals as goal

pub returns-in-Ok-clause-good : goal.returns-in-Ok-clause-good
returns-in-Ok-clause-good g c = λ ok.
    let old = g.D.BlockDev.state c.args.device.now in
    let whole = g.met.D.BlockDev.whole c.args.device.now in
    let size = c.args.size in
    let n = length c.args.digests.now in
    record {
      contents = cut size c.read.new.out;
      are = c.digest_blocks.ensures;
      over = λ steady.
          run-cut old.image size c.requires.size whole.sectors c.read.new.out c.args.first n (c.args.first * (size / 512)) (length c.args.run.now / 512)
          (omega (arith, whole.length, c.requires.inside))
          refl
          (ap (λ k. k / 512) c.requires.run ∙ run-sectors size n c.requires.size)
          (c.in-Ok.ensures.bytes steady)
          ∙ ap (λ k. blocks_at old.image size c.args.first k) (sym c.digest_blocks.auto.out);
      full = search rules;
    }

pub returns-in-Ok-clause-asked : goal.returns-in-Ok-clause-asked
returns-in-Ok-clause-asked g c =
    let n = length c.args.digests.now in
    let sectors : length c.args.run.now / 512 ≡ n * (c.args.size / 512) = ap (λ k. k / 512) c.requires.run ∙ run-sectors c.args.size n c.requires.size in
    omega (arith, sectors, c.read.ensures.moved.reads)

pub returns-in-Err-clause-asked : goal.returns-in-Err-clause-asked
returns-in-Err-clause-asked g c =
    let n = length c.args.digests.now in
    let sectors : length c.args.run.now / 512 ≡ n * (c.args.size / 512) = ap (λ k. k / 512) c.requires.run ∙ run-sectors c.args.size n c.requires.size in
    omega (arith, sectors, c.read.ensures.moved.reads)

pub returns-in-Ok-clause-called : goal.returns-in-Ok-clause-called
returns-in-Ok-clause-called g c =
    calls-read (DeviceDoes g.D.BlockDev.state g.D.BlockDev.does) IsNoWrite _ c.read.new.out c.args.device.now c.read.new.self (true, (c.read.new.self, c.in-Ok.ensures.call, refl))

pub returns-in-Err-clause-called : goal.returns-in-Err-clause-called
returns-in-Err-clause-called g c =
    calls-read (DeviceDoes g.D.BlockDev.state g.D.BlockDev.does) IsNoWrite _ c.read.new.out c.args.device.now c.read.new.self (false, (c.read.new.self, c.in-Err.ensures.call, refl))
