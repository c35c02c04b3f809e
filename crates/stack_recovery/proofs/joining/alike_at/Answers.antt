use Rattle.std.proofs.Common.{ap, ◌∙◌}
use Rattle.rescue_map.specs.declared.status.Status.{Status}
use Rattle.rescue_map.specs.Stages.{run_status}
use Rattle.stack_recovery.specs.Joins.{or_before}
use Rattle.stack_recovery.proofs.lemmas.JoinLemmas.{have-joined}
use Rattle.stack_recovery.proofs.joining.alike_at.Goals as goal

pub returns-clause-state : goal.returns-clause-state
returns-clause-state c =
    have-joined (run_status c.args.run) c.args.before.now c.args.rest.now c.args.at c.alike_in-found.result.count c.alike_in-known.result.count c.alike_in-known.result.loss c.alike_in-found.result.loss _
    c.alike_in-found.ensures.state c.alike_in-known.ensures.state c.alike_in-known.ensures.few (c.or_before.ensures ∙ ap (λ (s : Status). or_before s c.alike_in-known.result.loss c.alike_in-found.result.loss) c.run_status.ensures)
