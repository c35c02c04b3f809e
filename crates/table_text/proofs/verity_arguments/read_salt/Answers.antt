use Rattle.std.proofs.Common.{◌≡◌, true, false, [], codes, ap, sym, ◌∙◌, arith}
use Rattle.std.specs.Str.{bytes_eq}
use Rattle.dm_table.proofs.lemmas.ReadLineLemmas.{salt_at-none, salt_at-digits}
use Rattle.table_text.proofs.VerityLemmas.{salt_at-size, salt-made}
use Rattle.table_text.proofs.verity_arguments.read_salt.Goals as goal

pub returns-then-eq : goal.returns-then-eq
returns-then-eq c =
    let word = c.args.word.now in
    let none : bytes_eq word (codes "-") ≡ true = sym (c.eq.ensures ∙ ap (bytes_eq word) c.as_slice.ensures) ∙ c.if-eq.true in
    c.ok_or.ensures.value ∙ salt-made _ [] c.new.ensures.found c.new.ensures.value (omega arith) ∙ sym (salt_at-none word none)

pub returns-then-word-lt2 : goal.returns-then-word-lt2
returns-then-word-lt2 c =
    let word = c.args.word.now in
    let some : bytes_eq word (codes "-") ≡ false = sym (c.eq.ensures ∙ ap (bytes_eq word) c.as_slice.ensures) ∙ c.if-eq.false in
    sym (salt_at-size word some c.then-word-lt2.either)

pub returns : goal.returns
returns c =
    let word = c.args.word.now in
    let some : bytes_eq word (codes "-") ≡ false = sym (c.eq.ensures ∙ ap (bytes_eq word) c.as_slice.ensures) ∙ c.if-eq.false in
    c.decode_salt.ensures ∙ sym (salt_at-digits word some c.if-word-lt2.false c.if-word-gt-MOST_SALT_DIGITS.false)
