use Rattle.std.proofs.Common.{◌∷◌, ◌++◌, [], false, map, ap, sym, ◌∙◌, append_assoc, append-nil, arith}
use Rattle.std.proofs.lemmas.Bool.{and_parts}
use Rattle.dm_table.specs.Names.{most_name}
use Rattle.dm_table.specs.Options.{after_option, known_at, are_options, is_one_of, option_names}
use Rattle.dm_table.proofs.lemmas.NameLengthLemmas.{one-length}
use Rattle.table_text.proofs.ReadLemmas.{exit_memory}
use Rattle.table_text.proofs.OptionLemmas.{names-after, options-fault, options-push}
use Rattle.dm_table.proofs.lemmas.ReadLineLemmas.{known_at-ok}
use Rattle.table_text.proofs.option_words.read_known.Goals as goal

pub returns-then-not-is_new : goal.returns-then-not-is_new
returns-then-not-is_new c =
    let known = map (λ word. word.now) c.args.known.now in
    let valued = map (λ word. word.now) c.args.valued.now in
    let rest = option_names valued false (after_option valued c.in-Some.word.now c.next_word.new.self) in
    let words = c.words.invariant.0 ∙ ap (λ ws. c.words.options ++ option_names valued false ws) c.in-Some.ensures
    ∙ ap (λ ws. c.words.options ++ ws) (names-after valued c.in-Some.word.now c.next_word.new.self) in
    ap (known_at known) words ∙ options-fault known c.in-Some.word.now c.words.options rest (sym c.is_new.ensures ∙ c.if-not-is_new.true)

pub returns-in_err-new : goal.returns-in_err-new
returns-in_err-new c =
    let known = map (λ word. word.now) c.args.known.now in
    let kept = and_parts (is_one_of c.in-Some.word.now known) _ (sym c.is_new.ensures ∙ c.if-not-is_new.false) in
    let short = one-length most_name known c.in-Some.word.now c.requires kept.0 in
    exit_memory _ _ c.in_err-new.field-0.0 c.from_residual.ensures.1 (omega (arith, c.in_err-new.ensures.err.0))

pub words-preserved : goal.words-preserved
words-preserved c =
    let known = map (λ word. word.now) c.args.known.now in
    let valued = map (λ word. word.now) c.args.valued.now in
    let rest = option_names valued false c.skip_value.new.words in
    let pushed = c.in_ok-push.ensures.ok ∙ ap (λ w. c.words.options ++ w ∷ []) c.in_ok-new.ensures.ok in (
      c.words.invariant.0 ∙ ap (λ ws. c.words.options ++ option_names valued false ws) c.in-Some.ensures
          ∙ ap (λ ws. c.words.options ++ ws) (names-after valued c.in-Some.word.now c.next_word.new.self)
          ∙ ap (λ ws. c.words.options ++ c.in-Some.word.now ∷ option_names valued false ws) (sym c.skip_value.ensures)
          ∙ sym (append_assoc c.words.options (c.in-Some.word.now ∷ []) rest)
          ∙ ap (λ os. os ++ rest) (sym pushed),
      ap (are_options known) pushed ∙ options-push known c.words.options c.in-Some.word.now c.words.invariant.1 (sym c.is_new.ensures ∙ c.if-not-is_new.false),
    )

pub returns : goal.returns
unfolding option_names
returns c =
    let known = map (λ word. word.now) c.args.known.now in
    let valued = map (λ word. word.now) c.args.valued.now in
    ap (known_at known) (c.words.invariant.0 ∙ ap (λ ws. c.words.options ++ option_names valued false ws) c.in_default.ensures.0 ∙ append-nil c.words.options) ∙ known_at-ok known c.words.options c.words.invariant.1
