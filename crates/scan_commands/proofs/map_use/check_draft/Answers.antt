use Rattle.std.proofs.Common.{inl, inr, refl, sym, ◌∙◌}
use Rattle.scan_commands.proofs.map_use.check_draft.Goals as goal

pub returns-in-Ok-clause-ok : goal.returns-in-Ok-clause-ok
returns-in-Ok-clause-ok g c = inl c.in-Ok.ensures

pub returns-then-find_complete-clause-ok : goal.returns-then-find_complete-clause-ok
returns-then-find_complete-clause-ok g c = inr (c.in-Err.fault, record { between = c.try_replace.new.self; tried = c.in-Err.ensures; read = rw c.if-find_complete.true at c.find_complete.ensures })

pub returns-else-find_complete-clause-err : goal.returns-else-find_complete-clause-err
returns-else-find_complete-clause-err g c = record { between = c.try_replace.new.self; tried = c.in-Err.ensures; read = rw c.if-find_complete.false at c.find_complete.ensures }
