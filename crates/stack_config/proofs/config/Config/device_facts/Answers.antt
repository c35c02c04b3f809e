use Rattle.stack_config.proofs.lemmas.FactLemmas.{have-device, is-of-device}
use Rattle.stack_config.proofs.config.Config.device_facts.Goals as goal

pub index-requires : goal.index-requires
index-requires c = let inside = rw (← c.self.view_is) at c.requires in have-device c.args.d.0 c.self.invariant.facts inside

pub returns : goal.returns
returns c = let inside = rw (← c.self.view_is) at c.requires in rw (← c.self.view_is) (is-of-device c.self.invariant.facts inside c.index.ensures c.self.invariant.loaded)
