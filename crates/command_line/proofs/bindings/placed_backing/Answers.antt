use Rattle.std.proofs.Common.{ap, ◌∙◌}
use Rattle.command_line.specs.Bindings.{or_named, placed_backing}
use Rattle.command_line.proofs.bindings.placed_backing.Goals as goal

pub returns-in-Some : goal.returns-in-Some
unfolding placed_backing
returns-in-Some c = ap (λ o. or_named o c.args.kind.now c.args.rest.now) c.in-Some.ensures

pub returns-in-None : goal.returns-in-None
unfolding placed_backing
returns-in-None c = c.named_backing.ensures ∙ ap (λ o. or_named o c.args.kind.now c.args.rest.now) c.in-None.ensures
