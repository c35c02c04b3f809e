use Rattle.std.proofs.Common.{◌≡◌, false, true, map, Ok, Err, ok_or, MatchResult, ap, sym, subst, ◌∙◌}
use Rattle.std.specs.Str.{bytes_eq}
use Rattle.dm_table.specs.declared.fault.TextKind.TheVariants as kinds
use Rattle.dm_table.specs.Options.{value_of}
use Rattle.table_text.proofs.OptionLemmas.{value-after, value-first}
use Rattle.table_text.proofs.option_words.value_of.Goals as goal

pub returns-then-eq : goal.returns-then-eq
returns-then-eq c =
    let valued = map (λ word. word.now) c.args.valued.now in
    let name = c.args.name.now in
    let word = c.in-Some.word.now in
    let rest = c.next_word.new.self in
    let whole = c.words.invariant ∙ ap (value_of valued name false) c.in-Some.ensures in
    let same : bytes_eq word name ≡ true = sym c.eq.ensures ∙ c.if-eq.true in
    subst (λ r. MatchResult r (λ value. value_of valued name false c.args.words ≡ Ok value.now) (λ kind. value_of valued name false c.args.words ≡ Err kind)) (sym c.ok_or.ensures.value)
    (subst (λ read. MatchResult (ok_or c.next_word-then-eq.result kinds.Option) (λ value. read ≡ Ok value.now) (λ kind. read ≡ Err kind)) (sym whole)
    (value-first valued name word rest c.next_word-then-eq.new.self c.next_word-then-eq.result same c.next_word-then-eq.ensures))

pub words-preserved : goal.words-preserved
words-preserved c =
    let valued = map (λ word. word.now) c.args.valued.now in
    let name = c.args.name.now in
    let word = c.in-Some.word.now in
    let other : bytes_eq word name ≡ false = sym c.eq.ensures ∙ c.if-eq.false in
    c.words.invariant ∙ ap (value_of valued name false) c.in-Some.ensures ∙ value-after valued name word c.next_word.new.self other
    ∙ ap (value_of valued name false) (sym c.skip_value.ensures)

pub returns : goal.returns
unfolding value_of
returns c =
    let valued = map (λ word. word.now) c.args.valued.now in
    c.words.invariant ∙ ap (value_of valued c.args.name.now false) c.in_default.ensures.0
