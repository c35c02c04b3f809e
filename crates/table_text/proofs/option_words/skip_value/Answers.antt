use Rattle.std.proofs.Common.{map, sym, ◌∙◌}
use Rattle.std.specs.Str.{bytes_eq}
use Rattle.table_text.proofs.OptionLemmas.{list_any-map, value-left, value-removed}
use Rattle.table_text.proofs.option_words.skip_value.Goals as goal

pub returns-then-is_known : goal.returns-then-is_known
returns-then-is_known c =
    let word = c.args.word.now in
    let valued = map (λ word. word.now) c.args.valued.now in
    let known = list_any-map (λ one. bytes_eq one word) (λ w. w.now) c.args.valued.now ∙ sym c.is_known.ensures ∙ c.if-is_known.true in
    value-removed valued word c.args.words.now c.next_word.new.self c.next_word.result known c.next_word.ensures

pub returns-else-is_known : goal.returns-else-is_known
returns-else-is_known c =
    let word = c.args.word.now in
    let valued = map (λ word. word.now) c.args.valued.now in
    let known = list_any-map (λ one. bytes_eq one word) (λ w. w.now) c.args.valued.now ∙ sym c.is_known.ensures ∙ c.if-is_known.false in
    value-left valued word c.args.words.now known
