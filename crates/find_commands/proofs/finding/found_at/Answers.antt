use Rattle.std.proofs.Common.{sym, refl, ◌∙◌}
use Rattle.find_commands.specs.Findings.{found_at}
use Rattle.find_commands.proofs.finding.found_at.Goals as goal

pub returns-in-Some : goal.returns-in-Some
unfolding found_at
returns-in-Some c = rw (sym c.kind_at.ensures ∙ c.in-Some.is) c.found_as.ensures

pub returns-in-None : goal.returns-in-None
unfolding found_at
returns-in-None c = rw (sym c.kind_at.ensures ∙ c.in-None.is) refl
