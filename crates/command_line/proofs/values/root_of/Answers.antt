use Rattle.std.proofs.Common.{Some, ap, ◌∙◌}
use Rattle.command_line.proofs.CommandWordLemmas.{root_of-ok, root_of-err}
use Rattle.command_line.proofs.values.root_of.Goals as goal

pub returns-in-Ok : goal.returns-in-Ok
returns-in-Ok c = ap (λ bytes. Some bytes) c.new.ensures ∙ root_of-ok c.args.word.now c.decode_to_slice.new.out c.decode_to_slice.result c.in-Ok.field-0 c.in-Ok.is c.decode_to_slice.ensures.value

pub returns-in-Err : goal.returns-in-Err
returns-in-Err c = root_of-err c.args.word.now c.decode_to_slice.new.out c.decode_to_slice.result c.in-Err.field-0 c.in-Err.is c.decode_to_slice.ensures.value
