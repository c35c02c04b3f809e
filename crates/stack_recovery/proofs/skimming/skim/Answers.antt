use Rattle.std.proofs.Common.{List, Bool, IfErr, IfOk, length, subst}
use Rattle.block_device.specs.Call.{DeviceDoes}
use Rattle.rescue_map.specs.Maps.{marks}
use Rattle.stack_recovery.specs.declared.fault.RecoveryFault.{RecoveryFault}
use Rattle.stack_recovery.specs.declared.skimming.Skimmed.{Skimmed}
use Rattle.stack_recovery.specs.FirstPasses.{EndsSkim, HandsSkimsPart, HandsSkimsUntil, SkimsUntil, skipping_of, transfer}
use Rattle.stack_recovery.specs.LeafReads.{CopiesOver}
use Rattle.stack_recovery.proofs.skimming.skim.Goals as goal

pub returns-clause-ok : goal.returns-clause-ok
returns-clause-ok g c =
    let old = transfer c.args.stack.now (g.O.BlockDev.state c.args.out.now) in
    let new = transfer c.skim_ahead.new.stack (g.O.BlockDev.state c.skim_ahead.new.out) in
    subst (λ (l : List Bool). IfOk c.skim_ahead.result (λ (made : Skimmed). SkimsUntil c.args.pass.deadline (skipping_of c.args.pass) l c.args.pass.device.0 old made new)) c.of_map.ensures.marks c.skim_ahead.ensures.ok

pub returns-clause-err : goal.returns-clause-err
returns-clause-err g c =
    let old = transfer c.args.stack.now (g.O.BlockDev.state c.args.out.now) in
    let new = transfer c.skim_ahead.new.stack (g.O.BlockDev.state c.skim_ahead.new.out) in
    subst (λ (l : List Bool). IfErr c.skim_ahead.result (λ (fault : RecoveryFault). EndsSkim (skipping_of c.args.pass) l c.args.pass.device.0 old new fault)) c.of_map.ensures.marks c.skim_ahead.ensures.err

pub returns-clause-handed : goal.returns-clause-handed
returns-clause-handed g c =
    let Did = DeviceDoes g.O.BlockDev.state g.O.BlockDev.does in
    let old = transfer c.args.stack.now c.args.out.now in
    let new = transfer c.skim_ahead.new.stack c.skim_ahead.new.out in
    subst (λ (l : List Bool). IfOk c.skim_ahead.result (λ (made : Skimmed). HandsSkimsUntil Did l c.args.pass.device.0 old new made)) c.of_map.ensures.marks c.skim_ahead.ensures.handed

pub returns-clause-stopped : goal.returns-clause-stopped
returns-clause-stopped g c =
    let Did = DeviceDoes g.O.BlockDev.state g.O.BlockDev.does in
    let old = transfer c.args.stack.now c.args.out.now in
    let new = transfer c.skim_ahead.new.stack c.skim_ahead.new.out in
    subst (λ (l : List Bool). IfErr c.skim_ahead.result (λ (fault : RecoveryFault). HandsSkimsPart Did l c.args.pass.device.0 old new fault)) c.of_map.ensures.marks c.skim_ahead.ensures.stopped

pub returns-clause-called : goal.returns-clause-called
returns-clause-called g c =
    subst (λ (l : List Bool). CopiesOver g.D.BlockDev.state g.D.BlockDev.does (DeviceDoes g.O.BlockDev.state g.O.BlockDev.does) l c.args.pass.device.0 c.args.stack.now c.args.out.now c.skim_ahead.new.stack c.skim_ahead.new.out c.skim_ahead.result (λ (made : Skimmed). length (marks made.map)))
    c.of_map.ensures.marks c.skim_ahead.ensures.called
