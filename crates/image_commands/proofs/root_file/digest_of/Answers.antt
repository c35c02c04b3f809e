use Rattle.std.proofs.Common.{Some, ap, ◌∙◌}
use Rattle.image_commands.proofs.DigitLemmas.{digest_of-ok, digest_of-err}
use Rattle.image_commands.proofs.root_file.digest_of.Goals as goal

pub returns-in-Ok : goal.returns-in-Ok
returns-in-Ok c = ap (λ bytes. Some bytes) c.new.ensures ∙ digest_of-ok c.args.digits.now c.decode_to_slice.new.out c.decode_to_slice.result c.in-Ok.field-0 c.in-Ok.is c.decode_to_slice.ensures.value

pub returns-in-Err : goal.returns-in-Err
returns-in-Err c = digest_of-err c.args.digits.now c.decode_to_slice.new.out c.decode_to_slice.result c.in-Err.field-0 c.in-Err.is c.decode_to_slice.ensures.value
