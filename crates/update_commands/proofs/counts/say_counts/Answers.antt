use Rattle.update_commands.proofs.counts.say_counts.Goals as goal

pub returns-then-json-clause-ok : goal.returns-then-json-clause-ok
returns-then-json-clause-ok g c = rw c.if-json.true c.say_object.ensures.ok

pub returns-then-json-clause-err : goal.returns-then-json-clause-err
returns-then-json-clause-err g c = rw c.if-json.true c.say_object.ensures.err

pub returns-clause-ok : goal.returns-clause-ok
returns-clause-ok g c = rw c.if-json.false c.in_ok-say_line.ensures.ok
