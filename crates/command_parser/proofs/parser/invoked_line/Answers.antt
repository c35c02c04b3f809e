use Rattle.std.proofs.Common.{Err, [], map, rules, refl, ap, sym, ◌∙◌}
use Rattle.std.specs.Prelude.{string_bytes, unwrap_or}
use Rattle.clap.proofs.TakesLemmas.{passed_up}
use Rattle.clap.specs.Matches.{found_of}
use Rattle.command_line.specs.CommandWords.{invocation_of}
use Rattle.command_line.specs.FormatOptions.{option_texts, texts_of}
use Rattle.command_line.specs.Misuses.{MisuseRecord, said_as}
use Rattle.command_parser.specs.CommandLines.{is_behind_dashes, line_with}
use Rattle.std.proofs.lemmas.List.{length-map}
use Rattle.command_parser.proofs.CommandLemmas.{none-said, reader-memory, refused-line, said-is, texts-are, unread-invoked}
use Rattle.command_parser.proofs.parser.invoked_line.Goals as goal

pub returns-in_err-matches-clause-err : goal.returns-in_err-matches-clause-err
returns-in_err-matches-clause-err c = passed_up c.from_residual.result c.in_err-matches.field-0.0 _ c.from_residual.ensures.1 (unread-invoked _ c.in_err-matches.field-0.0 c.in_err-matches.ensures.err)

pub returns-in_err-matches-clause-memory : goal.returns-in_err-matches-clause-memory
returns-in_err-matches-clause-memory c = passed_up c.from_residual.result c.in_err-matches.field-0.0 _ c.from_residual.ensures.1 c.in_err-matches.ensures.memory

pub returns-in_default-clause-err : goal.returns-in_default-clause-err
returns-in_default-clause-err c =
    none-said _ c.in_ok-matches.matches c.in_ok-matches.ensures.taken c.in_ok-matches.ensures.ok (search rules) ∙ ap (λ (m : MisuseRecord). Err m) (sym c.new.ensures)

pub returns-in-Ok-clause-ok : goal.returns-in-Ok-clause-ok
returns-in-Ok-clause-ok c =
    said-is (map string_bytes c.args.words.now) c.in_ok-matches.matches (found_of c.in-Some.found.now) c.in-Some.name.now c.as_bytes.result.now
    (option_texts c.option_words-options.result) (texts_of c.unwrap_or-positional.result.now) c.is_behind_dashes-behind_dashes.result
    c.in_ok-matches.ensures.taken c.in_ok-matches.ensures.ok (search rules) (search rules)
    c.as_bytes.ensures.value c.option_words-options.ensures
    (ap (λ s. texts_of s.now) c.unwrap_or-positional.ensures ∙ (texts-are c.get_strs.result _ refl ∙ ap (λ o. unwrap_or o []) c.get_strs.ensures))
    (c.is_behind_dashes-behind_dashes.ensures ∙ ap (is_behind_dashes (map string_bytes c.args.words.now)) (sym (length-map c.unwrap_or-positional.result.now (λ word. word.now))))
    ∙ ap (said_as (line_with (option_texts c.option_words-options.result))) c.in-Ok.ensures

pub returns-clause-err : goal.returns-clause-err
returns-clause-err c =
    let is = said-is (map string_bytes c.args.words.now) c.in_ok-matches.matches (found_of c.in-Some.found.now) c.in-Some.name.now c.as_bytes.result.now
    (option_texts c.option_words-options.result) (texts_of c.unwrap_or-positional.result.now) c.is_behind_dashes-behind_dashes.result
    c.in_ok-matches.ensures.taken c.in_ok-matches.ensures.ok (search rules) (search rules)
    c.as_bytes.ensures.value c.option_words-options.ensures
    (ap (λ s. texts_of s.now) c.unwrap_or-positional.ensures ∙ (texts-are c.get_strs.result _ refl ∙ ap (λ o. unwrap_or o []) c.get_strs.ensures))
    (c.is_behind_dashes-behind_dashes.ensures ∙ ap (is_behind_dashes (map string_bytes c.args.words.now)) (sym (length-map c.unwrap_or-positional.result.now (λ word. word.now)))) in
    refused-line _ (option_texts c.option_words-options.result) _ c.in-Err.fault is c.in-Err.ensures

pub returns-clause-memory : goal.returns-clause-memory
returns-clause-memory c =
    reader-memory (map string_bytes c.args.words.now)
    (invocation_of c.as_bytes.result.now (option_texts c.option_words-options.result) (texts_of c.unwrap_or-positional.result.now) c.is_behind_dashes-behind_dashes.result)
    c.in-Err.fault c.in-Err.ensures
