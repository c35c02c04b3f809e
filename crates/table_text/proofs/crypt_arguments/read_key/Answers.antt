use Rattle.std.proofs.Common.{Ok, ap, sym, ◌∙◌, arith}
use Rattle.std.proofs.lemmas.List.{take_all}
use Rattle.table_text.proofs.ReadLemmas.{exit_value}
use Rattle.table_text.proofs.CryptLemmas.{key_at-long, key_at-short, key-front}
use Rattle.table_text.proofs.crypt_arguments.read_key.Goals as goal

pub returns-in_err-decode_digits : goal.returns-in_err-decode_digits
returns-in_err-decode_digits c =
    exit_value _ _ _ c.from_residual.ensures.1 (key_at-long c.args.word.now _ c.if-word-eq128.true c.in_err-decode_digits.ensures)

pub returns-then-word-eq128 : goal.returns-then-word-eq128
returns-then-word-eq128 c =
    let size = c.decode_digits.auto.out in
    ap Ok (c.new.ensures ∙ take_all 64 c.decode_digits.new.out (omega (arith, size))) ∙ sym (key_at-long c.args.word.now _ c.if-word-eq128.true c.in_ok-decode_digits.ensures)

pub returns-in_err-decode_digits-2 : goal.returns-in_err-decode_digits-2
returns-in_err-decode_digits-2 c =
    exit_value _ _ _ c.from_residual-in_err-decode_digits-2.ensures.1 (key_at-short c.args.word.now _ c.if-word-eq128.false c.in_err-decode_digits-2.ensures)

pub returns : goal.returns
returns c =
    ap Ok (c.new-2.ensures ∙ key-front c.decode_digits-2.new.out _ c.decode_digits-2.auto.out) ∙ sym (key_at-short c.args.word.now _ c.if-word-eq128.false c.in_ok-decode_digits-2.ensures)
