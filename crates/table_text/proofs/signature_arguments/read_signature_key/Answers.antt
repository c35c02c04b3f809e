use Rattle.std.proofs.Common.{drop, ap, sym, ◌∙◌}
use Rattle.dm_table.specs.SignatureKey.{description_at}
use Rattle.table_text.proofs.OptionLemmas.{next-drop}
use Rattle.table_text.proofs.ReadLemmas.{exit_part}
use Rattle.table_text.proofs.VerityLemmas.{signature_key-none, signature_key-some}
use Rattle.table_text.proofs.signature_arguments.read_signature_key.Goals as goal

pub returns-then-not-is_kept : goal.returns-then-not-is_kept
returns-then-not-is_kept c = signature_key-none c.args.options.now (drop 1 c.args.arguments) (sym c.is_kept.ensures ∙ c.if-not-is_kept.true)

pub returns-in_err-key : goal.returns-in_err-key
returns-in_err-key c =
    let words = next-drop c.args.arguments c.next_word.new.self c.next_word.result c.next_word.ensures in
    let some = sym c.is_kept.ensures ∙ c.if-not-is_kept.false in
    exit_part _ _ _ _ c.from_residual.ensures.1 c.in_err-key.ensures (λ kind e. signature_key-some c.args.options.now (drop 1 c.args.arguments) _ some (ap description_at words ∙ e))

pub returns : goal.returns
returns c =
    let words = next-drop c.args.arguments c.next_word.new.self c.next_word.result c.next_word.ensures in
    let some = sym c.is_kept.ensures ∙ c.if-not-is_kept.false in
    signature_key-some c.args.options.now (drop 1 c.args.arguments) _ some (ap description_at words ∙ c.in_ok-key.ensures)
