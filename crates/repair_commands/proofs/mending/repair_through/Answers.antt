use Rattle.std.proofs.Common.{None, inl, inr}
use Rattle.repair_commands.proofs.GoingOnLemmas.{allowed-then, cut-then}
use Rattle.repair_commands.proofs.mending.repair_through.Goals as goal

pub returns-in-Ok-clause-ok : goal.returns-in-Ok-clause-ok
returns-in-Ok-clause-ok g c = record {
  repair = c.in-Ok.ensures.ok;
  all = c.in-Ok.ensures.looked;
  within = elim c.in-Ok.ensures.within [ inl none ↦ absurd none | inr runs ↦ runs ];
  whole = c.in-Ok.ensures.whole;
}

pub go_on-requires-clause-allowed : goal.go_on-requires-clause-allowed
go_on-requires-clause-allowed g c = allowed-then c.args.plan.now _ c.args.image.now.world c.repair_image.new.image.world _ _ c.in-Err.fault c.in-Err.ensures.err c.requires.allowed

pub returns-in-Err-clause-err : goal.returns-in-Err-clause-err
returns-in-Err-clause-err g c = cut-then c.repair_image.new.writer c.args.plan.now None None c.args.image.now.world c.repair_image.new.image.world c.go_on.new.image.world _ _ c.in-Err.fault c.go_on.result tt c.in-Err.ensures.told c.in-Err.ensures.err c.go_on.ensures
