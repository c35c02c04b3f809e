use Rattle.std.proofs.Common.{arith}
use Rattle.stack_files.proofs.source.read_stack.Goals as goal

pub returns-then-len-gt-MOST_TEXT-clause-err : goal.returns-then-len-gt-MOST_TEXT-clause-err
returns-then-len-gt-MOST_TEXT-clause-err g c =
    record { text = c.in_ok-text.text; told = c.in_ok-text.ensures.ok; long = omega (arith, c.if-len-gt-MOST_TEXT.true, c.len.ensures) }
