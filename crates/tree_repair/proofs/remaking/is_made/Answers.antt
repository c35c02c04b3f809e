use Rattle.tree_repair.proofs.remaking.is_made.Goals as goal

pub returns-then-not-make-clause-called : goal.returns-then-not-make-clause-called
returns-then-not-make-clause-called g c = c.make.ensures.called

pub returns-clause-called : goal.returns-clause-called
returns-clause-called g c = c.make.ensures.called
