use Rattle.std.proofs.Common.{inl, inr, refl}
use Rattle.verity_format.proofs.lemmas.DeviceLemmas.{only_read-then}
use Rattle.repair_commands.specs.Mends.{parity_use}
use Rattle.repair_commands.proofs.GoingOnLemmas.{allowed-then, cut-then, laid-then}
use Rattle.repair_commands.proofs.by_parity.repair_through.Goals as goal

pub returns-in-Ok-clause-ok : goal.returns-in-Ok-clause-ok
returns-in-Ok-clause-ok g c = record {
  repair = c.in-Ok.ensures.ok;
  within = elim c.in-Ok.ensures.within [ inl none ↦ absurd none.0 | inr runs ↦ runs ];
  sought = c.in-Ok.ensures.sought;
  whole = c.in-Ok.ensures.whole;
}

pub go_on-requires-clause-allowed : goal.go_on-requires-clause-allowed
go_on-requires-clause-allowed g c = allowed-then c.args.plan.now _ c.args.image.now.world c.repair_with_parity.new.image.world _ _ c.in-Err.fault c.in-Err.ensures.err c.requires.allowed

pub go_on-requires-clause-laid : goal.go_on-requires-clause-laid
go_on-requires-clause-laid g c = laid-then c.args.layout.now c.args.plan.now _ c.args.image.now.world c.repair_with_parity.new.image.world _ _ c.in-Err.fault c.in-Err.ensures.err c.requires.laid

pub returns-in-Err-clause-err : goal.returns-in-Err-clause-err
returns-in-Err-clause-err g c =
    cut-then c.repair_with_parity.new.writer c.args.plan.now (parity_use g.P.BlockDev.state c.args.layout.now c.args.parity_dev.now c.go_on.new.parity_dev) (parity_use g.P.BlockDev.state c.args.layout.now c.repair_with_parity.new.parity_dev c.go_on.new.parity_dev)
    c.args.image.now.world c.repair_with_parity.new.image.world c.go_on.new.image.world _ _ c.in-Err.fault c.go_on.result (c.repair_with_parity.ensures.parity, (refl, refl)) c.in-Err.ensures.told c.in-Err.ensures.err c.go_on.ensures.ended

pub returns-in-Err-clause-parity : goal.returns-in-Err-clause-parity
returns-in-Err-clause-parity g c = only_read-then c.repair_with_parity.ensures.parity c.go_on.ensures.parity
