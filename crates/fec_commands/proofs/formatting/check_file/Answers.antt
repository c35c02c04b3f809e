use Rattle.fec_commands.proofs.formatting.check_file.Goals as goal

pub returns-then-grow-clause-ok : goal.returns-then-grow-clause-ok
returns-then-grow-clause-ok g c = rw c.if-grow.true c.check_grown.ensures.ok

pub returns-then-grow-clause-err : goal.returns-then-grow-clause-err
returns-then-grow-clause-err g c = rw c.if-grow.true c.check_grown.ensures.err

pub returns-clause-ok : goal.returns-clause-ok
returns-clause-ok g c = rw c.if-grow.false c.measure_words.ensures.ok

pub returns-clause-err : goal.returns-clause-err
returns-clause-err g c = rw c.if-grow.false c.measure_words.ensures.err
