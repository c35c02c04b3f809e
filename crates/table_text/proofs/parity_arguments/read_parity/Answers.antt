use Rattle.std.proofs.Common.{drop, ap, sym, ◌∙◌}
use Rattle.dm_table.specs.Parity.{fec_at}
use Rattle.table_text.proofs.OptionLemmas.{next-drop}
use Rattle.table_text.proofs.ReadLemmas.{exit_part}
use Rattle.table_text.proofs.VerityLemmas.{parity-none, parity-some}
use Rattle.table_text.proofs.parity_arguments.read_parity.Goals as goal

pub returns-then-not-has_parity : goal.returns-then-not-has_parity
returns-then-not-has_parity c = parity-none c.args.options.now (drop 1 c.args.arguments) (sym c.has_parity.ensures ∙ c.if-not-has_parity.true)

pub returns-in_err-parity : goal.returns-in_err-parity
returns-in_err-parity c =
    let words = next-drop c.args.arguments c.next_word.new.self c.next_word.result c.next_word.ensures in
    let some = sym c.has_parity.ensures ∙ c.if-not-has_parity.false in
    exit_part _ _ _ _ c.from_residual.ensures.1 c.in_err-parity.ensures (λ kind e. parity-some c.args.options.now (drop 1 c.args.arguments) _ some (ap fec_at words ∙ e))

pub returns : goal.returns
returns c =
    let words = next-drop c.args.arguments c.next_word.new.self c.next_word.result c.next_word.ensures in
    let some = sym c.has_parity.ensures ∙ c.if-not-has_parity.false in
    parity-some c.args.options.now (drop 1 c.args.arguments) _ some (ap fec_at words ∙ c.in_ok-parity.ensures)
