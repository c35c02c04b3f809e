use Rattle.std.proofs.Common.{◌∙◌}
use Rattle.repair_commands.proofs.ScanLemmas.{read-only-call, read-only-read}
use Rattle.repair_commands.proofs.only_read.OnlyReadBlockDev.read.Goals as goal

pub returns-clause-moved : goal.returns-clause-moved
returns-clause-moved g c = read-only-read _ _ _ _ c.read.ensures.moved

pub returns-clause-call : goal.returns-clause-call
returns-clause-call g c = (read-only-call _ _ _ _ _ _ c.read.ensures.call.0, c.read.ensures.call)

pub invariant_of-self : goal.invariant_of-self
invariant_of-self g c =
    let moved = c.read.ensures.moved in
    record {
      kept = λ former is. record { may_write = moved.same.may_write ∙ (c.args.self.now.kept former is).may_write; dirty = moved.dirty ∙ (c.args.self.now.kept former is).dirty };
    }
