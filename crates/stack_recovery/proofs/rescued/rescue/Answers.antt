use Rattle.std.proofs.Common.{ℕ, Bool, List, inl, subst}
use Rattle.std.proofs.lemmas.Result.{err_from_is_err_and}
use Rattle.block_device.specs.Call.{DeviceDoes}
use Rattle.stack_recovery.specs.LeafReads.{CopiesLeaves, EndsCopying}
use Rattle.stack_recovery.specs.Recoveries.{counted_sectors}
use Rattle.stack_recovery.proofs.rescued.rescue.Goals as goal

pub returns-in_err-course-clause-called : goal.returns-in_err-course-clause-called
returns-in_err-course-clause-called g c =
    let p = err_from_is_err_and c.from_residual.result c.from_residual.ensures.1 in
    rw p.1
    (subst (λ (l : List Bool). EndsCopying g.D.BlockDev.state g.D.BlockDev.does (DeviceDoes g.O.BlockDev.state g.O.BlockDev.does) l c.args.pass.device.0 c.args.stack.now c.args.out.now c.go_over.new.stack c.go_over.new.out) c.of_map-ahead.ensures.marks c.in_err-course.ensures.called)

pub returns-in-Some-clause-called : goal.returns-in-Some-clause-called
returns-in-Some-clause-called g c =
    let p = c.in_ok-course.ensures.called in (
      p.0,
      subst (λ (l : List Bool). CopiesLeaves g.D.BlockDev.state g.D.BlockDev.does (DeviceDoes g.O.BlockDev.state g.O.BlockDev.does) l c.args.pass.device.0 c.args.stack.now c.args.out.now (counted_sectors c.in_ok-course.course.counts) p.0 c.go_over.new.stack c.go_over.new.out) c.of_map-ahead.ensures.marks
          p.1,
    )

pub returns-in-None-clause-called : goal.returns-in-None-clause-called
returns-in-None-clause-called g c =
    let p = c.in_ok-course.ensures.called in
    let end : ℕ = counted_sectors c.in_ok-course.course.counts in
    inl (
      end,
      p.0,
      subst (λ (l : List Bool). CopiesLeaves g.D.BlockDev.state g.D.BlockDev.does (DeviceDoes g.O.BlockDev.state g.O.BlockDev.does) l c.args.pass.device.0 c.args.stack.now c.args.out.now end p.0 c.go_over.new.stack c.go_over.new.out) c.of_map-ahead.ensures.marks
          p.1,
    )
