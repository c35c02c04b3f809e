use Rattle.std.proofs.Common.{sym, ◌∙◌}
use Rattle.std.proofs.lemmas.List.{take_rest}
use Rattle.table_text.proofs.CutLemmas.{words-first, words-empty}
use Rattle.table_text.proofs.cut.Words.next_word.Goals as goal

pub returns-then-end-eq0 : goal.returns-then-end-eq0
returns-then-end-eq0 c =
    let found = simp take_rest at c.word_len-end.ensures.value in
    let none = sym c.self.view_is ∙ words-empty c.self.inside.rest.now _ _ c.white_len.ensures.value found c.if-end-eq0.true in
    (none, none)

pub returns : goal.returns
returns c =
    let found = simp take_rest at c.word_len-end.ensures.value in
    simp take_rest (sym c.self.view_is ∙ words-first c.self.inside.rest.now _ _ c.white_len.ensures.value found c.if-end-eq0.false)
