use Rattle.std.proofs.Common.{ap, ◌∙◌}
use Rattle.command_line.specs.Bindings.{named_backing, or_mapped}
use Rattle.command_line.proofs.bindings.named_backing.Goals as goal

pub returns-in-Some : goal.returns-in-Some
unfolding named_backing
returns-in-Some c = ap (λ o. or_mapped o c.args.kind.now c.args.rest.now) c.in-Some.ensures

pub returns-in-None : goal.returns-in-None
unfolding named_backing
returns-in-None c = c.mapped_backing.ensures ∙ ap (λ o. or_mapped o c.args.kind.now c.args.rest.now) c.in-None.ensures
