use Rattle.std.proofs.Common.{sym, ◌∙◌}
use Rattle.find_commands.proofs.sectors.tell_sector.Goals as goal

pub returns-in-Some-clause-ok : goal.returns-in-Some-clause-ok
returns-in-Some-clause-ok g c = rw (sym c.found_at.ensures ∙ c.in-Some.is) c.tell_finding.ensures.ok

pub returns-in-None-clause-ok : goal.returns-in-None-clause-ok
returns-in-None-clause-ok g c = rw (sym c.found_at.ensures ∙ c.in-None.is) c.go_on.ensures.ok
