use Rattle.std.proofs.Common.{map, sym, ◌∙◌, ap, Err}
use Rattle.std.proofs.lemmas.List.{take_all}
use Rattle.command_line.specs.Bindings.{binding_of}
use Rattle.command_line.proofs.CommandWordLemmas.{bindings_of-each, bindings_of-first}
use Rattle.command_line.proofs.binding_words.bindings_of.Goals as goal

pub returns-in-None-clause-err : goal.returns-in-None-clause-err
returns-in-None-clause-err c = bindings_of-first c.args.words.now c.words.bindings.items c.words.word-index _ c.words-test.true c.words.invariant (sym c.in-None.ensures) ∙ ap Err (sym c.new.ensures)

pub returns-clause-ok : goal.returns-clause-ok
returns-clause-ok c =
    bindings_of-each c.args.words.now c.words.bindings.items
    (c.words.invariant ∙ ap (map (λ word. binding_of word.now)) (take_all c.words.word-index c.args.words.now c.words-test.false))
