use Rattle.find_commands.proofs.find.find_on.Goals as goal

pub returns-then-json-clause-ok : goal.returns-then-json-clause-ok
returns-then-json-clause-ok g c = rw c.if-json.true c.find_object.ensures.ok

pub returns-then-json-clause-err : goal.returns-then-json-clause-err
returns-then-json-clause-err g c = rw c.if-json.true c.find_object.ensures.err

pub returns-clause-ok : goal.returns-clause-ok
returns-clause-ok g c = rw c.if-json.false c.find_lines.ensures.ok

pub returns-clause-err : goal.returns-clause-err
returns-clause-err g c = rw c.if-json.false c.find_lines.ensures.err
