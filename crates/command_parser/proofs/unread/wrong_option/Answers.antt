use Rattle.std.proofs.Common.{◌∷◌, ◌-◌, map, length, take, drop, ap, sym, ◌∙◌}
use Rattle.std.specs.Prelude.{option_map, string_bytes}
use Rattle.command_parser.specs.Grammar.{option_text}
use Rattle.command_parser.specs.OptionNames.{option_of}
use Rattle.command_parser.proofs.UnreadLemmas.{texts-first, texts-none, wrong_option-end, wrong_option-fault, wrong_option-more, wrong_option-none, wrong_option-value}
use Rattle.command_parser.proofs.unread.wrong_option.Goals as goal

pub words-preserved-then-is_value : goal.words-preserved-then-is_value
words-preserved-then-is_value c =
    c.words.invariant
    ∙ wrong_option-value (map option_text c.args.rows.now) c.words.is_value _ _ _ c.if-is_value.true (texts-first c.words.rest.now c.word-item.result _ c.word-item.is c.in-len1-up.len_at_least)

pub returns-then-ends_options : goal.returns-then-ends_options
returns-then-ends_options c =
    let first = texts-first c.words.rest.now c.word-item.result _ c.word-item.is c.in-len1-up.len_at_least in
    let are = first ∙ ap (λ w. w ∷ map string_bytes (take (length c.words.rest.now - 1) (drop 1 c.words.rest.now))) (sym c.as_str-word.ensures.value) in
    sym (c.words.invariant
    ∙ wrong_option-end (map option_text c.args.rows.now) c.words.is_value _ _ _ c.if-is_value.false are (sym c.ends_options.ensures ∙ c.if-ends_options.true))

pub returns-in-Some : goal.returns-in-Some
returns-in-Some c =
    let first = texts-first c.words.rest.now c.word-item.result _ c.word-item.is c.in-len1-up.len_at_least in
    let are = first ∙ ap (λ w. w ∷ map string_bytes (take (length c.words.rest.now - 1) (drop 1 c.words.rest.now))) (sym c.as_str-word.ensures.value) in
    let names = ap (option_map option_text) c.copied-option.ensures ∙ (c.option_of.ensures ∙ ap (option_of (map option_text c.args.rows.now)) c.as_bytes.ensures.value) in
    sym (c.words.invariant
    ∙ wrong_option-fault (map option_text c.args.rows.now) c.words.is_value _ c.as_str-word.result.now _ (option_map option_text c.copied-option.result) c.option_fault.result c.in-Some.cause _
    c.if-is_value.false are (sym c.ends_options.ensures ∙ c.if-ends_options.false) names c.option_fault.ensures c.in-Some.is c.new.ensures)

pub words-preserved : goal.words-preserved
words-preserved c =
    let first = texts-first c.words.rest.now c.word-item.result _ c.word-item.is c.in-len1-up.len_at_least in
    let are = first ∙ ap (λ w. w ∷ map string_bytes (take (length c.words.rest.now - 1) (drop 1 c.words.rest.now))) (sym c.as_str-word.ensures.value) in
    let names = ap (option_map option_text) c.copied-option.ensures ∙ (c.option_of.ensures ∙ ap (option_of (map option_text c.args.rows.now)) c.as_bytes.ensures.value) in
    c.words.invariant
    ∙ wrong_option-more (map option_text c.args.rows.now) c.words.is_value _ c.as_str-word.result.now _ (option_map option_text c.copied-option.result) c.option_fault.result c.takes_next-is_value.result
    c.if-is_value.false are (sym c.ends_options.ensures ∙ c.if-ends_options.false) names c.option_fault.ensures c.in-None.is c.takes_next-is_value.ensures

pub returns : goal.returns
returns c = sym (c.words.invariant ∙ wrong_option-none _ _ _ (texts-none c.words.rest.now c.in_default.len_below))
