use Rattle.std.proofs.Common.{◌-◌, length, take, drop, ◌∙◌, ap}
use Rattle.std.specs.List.{suffix_len}
use Rattle.std.proofs.lemmas.List.{take_rest}
use Rattle.dm_table.specs.Words.{is_white, trimmed_text}
use Rattle.table_text.proofs.cut.trim.Goals as goal

pub returns : goal.returns
unfolding trimmed_text
returns c =
    let text = c.args.text.now in
    let found = simp take_rest at c.trimmed_len.ensures.value in
    simp take_rest
    (ap (λ n. take n (drop c.white_len.result text)) found
    ∙ ap (λ n. take (length (drop n text) - suffix_len is_white (drop n text)) (drop n text)) c.white_len.ensures.value)
