use Rattle.std.proofs.Common.{◌++◌, length, decimal, ap, sym, subst, ◌∙◌}
use Rattle.dm_table.specs.Parity.{parity_words}
use Rattle.dm_table.specs.SignatureKey.{signature_words}
use Rattle.dm_table.specs.Verity.{corruption_words, ignore_zero_blocks, try_verify_in_tasklet, verity_options, word_if}
use Rattle.table_text.specs.Print.{PrintsWords}
use Rattle.table_text.proofs.PrintLemmas.{counted-words, then_word, then_words}
use Rattle.table_text.proofs.print_verity.print_options.Goals as goal

pub returns-clause-ok : goal.returns-clause-ok
returns-clause-ok c =
    let v = c.args.verity.now in
    let count = c.option_count-count.ensures in
    let start = c.push_spaced_number.new.text.items in
    let last = c.print_signature_key.new.text.items in
    let one = corruption_words v.corruption in
    let two = word_if v.ignore_zero_blocks ignore_zero_blocks in
    let three = word_if v.in_tasklet try_verify_in_tasklet in
    let four = parity_words v.parity in
    let words =
    then_words start c.print_parity.new.text.items last (one ++ two ++ three ++ four) (signature_words v.signature_key)
    (then_words start c.print_if-2.new.text.items c.print_parity.new.text.items (one ++ two ++ three) four
    (then_words start c.print_if.new.text.items c.print_if-2.new.text.items (one ++ two) three
    (then_words start c.print_corruption.new.text.items c.print_if.new.text.items one two c.in_ok-print_corruption.ensures.ok c.in_ok-print_if.ensures.ok)
    c.in_ok-print_if-2.ensures.ok)
    c.in_ok-print_parity.ensures.ok)
    c.in_ok-print_signature_key.ensures.ok in
    let counted = counted-words (verity_options v) (λ none. c.if-count-eq0.false (count ∙ none)) in
    subst (λ ws. PrintsWords c.args.text.now ws c.print_signature_key.new.text) (sym counted)
    (then_word c.args.text.now.items start last (decimal (length (verity_options v))) (decimal c.option_count-count.result) (verity_options v) (ap decimal count) c.in_ok-push_spaced_number.ensures.ok words)
