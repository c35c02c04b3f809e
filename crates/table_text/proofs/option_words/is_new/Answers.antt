use Rattle.std.proofs.Common.{◌&&◌, not, ap, sym, ◌∙◌}
use Rattle.std.specs.Str.{bytes_eq}
use Rattle.dm_table.specs.Options.{has_name_of}
use Rattle.table_text.proofs.OptionLemmas.{list_any-map}
use Rattle.table_text.proofs.option_words.is_new.Goals as goal

pub returns-then-is_known : goal.returns-then-is_known
returns-then-is_known c =
    let word = c.args.word.now in
    let known = list_any-map (λ one. bytes_eq one word) (λ w. w.now) c.args.known.now ∙ sym c.is_known.ensures ∙ c.if-is_known.true in
    ap not c.is_named.ensures ∙ sym (ap (λ t. t && not (has_name_of word c.args.options.now)) known)

pub returns-else-is_known : goal.returns-else-is_known
returns-else-is_known c =
    let word = c.args.word.now in
    let known = list_any-map (λ one. bytes_eq one word) (λ w. w.now) c.args.known.now ∙ sym c.is_known.ensures ∙ c.if-is_known.false in
    c.if-is_known.false ∙ sym (ap (λ t. t && not (has_name_of word c.args.options.now)) known)
