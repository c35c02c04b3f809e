use Rattle.std.proofs.Common.{◌+◌, ◌∷◌, take, ap, sym, ◌∙◌}
use Rattle.std.proofs.lemmas.List.{take_rest}
use Rattle.dm_table.specs.Words.{text_lines}
use Rattle.image_pin.proofs.CutLemmas.{lines-last, lines-more}
use Rattle.image_pin.proofs.read.cut_line.Goals as goal

pub returns-then-end-text : goal.returns-then-end-text
returns-then-end-text c =
    let text = c.args.text.now in
    let n = c.line_len-end.result in
    lines-more text n c.line_len-end.ensures.value c.if-end-text.true ∙ ap (λ t. take n text ∷ text_lines t) (sym (take_rest text (n + 1)))

pub returns-else-end-text : goal.returns-else-end-text
returns-else-end-text c = lines-last c.args.text.now c.line_len-end.result c.line_len-end.ensures.value c.if-end-text.false
