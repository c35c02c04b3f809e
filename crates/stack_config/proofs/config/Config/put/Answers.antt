use Rattle.stack_config.proofs.config.Config.put.Goals as goal

pub invariant_of-self : goal.invariant_of-self
invariant_of-self c = rw (← c.self.view_is) at c.requires
