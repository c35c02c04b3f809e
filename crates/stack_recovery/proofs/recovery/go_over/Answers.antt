use Rattle.stack_recovery.proofs.recovery.go_over.Goals as goal

pub returns-clause-called : goal.returns-clause-called
returns-clause-called g c = c.go_over_by.ensures.called
