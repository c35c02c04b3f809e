use Rattle.std.proofs.Common.{ℕ, subst, ◌∙◌}
use Rattle.block_device.specs.Call.{DeviceDoes}
use Rattle.tree_repair.specs.Fetches.{IsWholeRun}
use Rattle.tree_repair.specs.Jobs.{job}
use Rattle.tree_repair.proofs.FetchLemmas.{lacking-behind, run-before, whole-before}
use Rattle.tree_repair.proofs.RepairCallLemmas.{both-more}
use Rattle.tree_repair.proofs.RunLemmas.{can-read, world-then}
use Rattle.tree_repair.proofs.lacking.next_run.Goals as goal

pub end_of_run-end-requires-clause-can : goal.end_of_run-end-requires-clause-can
end_of_run-end-requires-clause-can g c = can-read c.next_lacking.ensures.read c.requires.can

pub end_of_run-end-requires-clause-size : goal.end_of_run-end-requires-clause-size
end_of_run-end-requires-clause-size g c = c.next_lacking.auto.block ∙ c.requires.size

pub returns-in_default-clause-read : goal.returns-in_default-clause-read
returns-in_default-clause-read g c = c.next_lacking.ensures.read

pub returns-in_default-clause-called : goal.returns-in_default-clause-called
returns-in_default-clause-called g c = c.next_lacking.ensures.called

pub returns-clause-read : goal.returns-clause-read
returns-clause-read g c = world-then c.args.image.now.world c.next_lacking.new.image.world c.end_of_run-end.new.image.world c.next_lacking.ensures.read c.end_of_run-end.ensures.read

pub returns-clause-lacking : goal.returns-clause-lacking
returns-clause-lacking g c =
    let j = job c.args.repair.now in
    let a = c.args.image.now.world in
    let b = c.next_lacking.new.image.world in
    let w = c.end_of_run-end.new.image.world in (
      lacking-behind j c.in-Some.first a b w c.in-Some.ensures.lacking c.end_of_run-end.ensures.read,
      run-before j c.in-Some.first c.end_of_run-end.result a b w c.next_lacking.ensures.read c.end_of_run-end.ensures.lacking,
    )

pub returns-clause-called : goal.returns-clause-called
returns-clause-called g c =
    let asks = DeviceDoes g.D.BlockDev.state g.D.BlockDev.does in
    let does = DeviceDoes g.H.BlockDev.state g.H.BlockDev.does in
    both-more asks does c.args.image.now c.next_lacking.new.image c.end_of_run-end.new.image c.next_lacking.ensures.called c.end_of_run-end.ensures.called

pub returns-clause-full : goal.returns-clause-full
returns-clause-full g c =
    let j = job c.args.repair.now in
    let a = c.args.image.now.world in
    subst (λ (n : ℕ). IsWholeRun j n c.in-Some.first c.end_of_run-end.result a) (c.next_lacking.auto.block ∙ c.requires.size)
    (whole-before j _ c.in-Some.first c.end_of_run-end.result a c.next_lacking.new.image.world c.next_lacking.ensures.read c.end_of_run-end.ensures.full)

pub returns-in_default-clause-kept : goal.returns-in_default-clause-kept
returns-in_default-clause-kept g c = c.next_lacking.ensures.kept

pub returns-clause-kept : goal.returns-clause-kept
returns-clause-kept g c = c.end_of_run-end.ensures.kept ∙ c.next_lacking.ensures.kept

pub returns-clause-apart : goal.returns-clause-apart
returns-clause-apart g c = (c.in-Some.ensures.low, c.end_of_run-end.ensures.after)
