use Rattle.table_text.proofs.BytesLemmas.{bytes_at-ok, bytes_at-err}
use Rattle.table_text.proofs.digits.decode_digits.Goals as goal

pub returns-in-Ok : goal.returns-in-Ok
returns-in-Ok c = bytes_at-ok _ c.args.kind c.args.word.now c.decode_to_slice.new.out c.decode_to_slice.result c.in-Ok.field-0 c.in-Ok.is c.decode_to_slice.ensures.value

pub returns-in-Err : goal.returns-in-Err
returns-in-Err c = bytes_at-err _ c.args.kind c.args.word.now c.decode_to_slice.new.out c.decode_to_slice.result c.in-Err.field-0 c.in-Err.is c.decode_to_slice.ensures.value
