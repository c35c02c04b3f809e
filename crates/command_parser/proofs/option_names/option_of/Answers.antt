use Rattle.std.proofs.Common.{◌≡◌, ◌==◌, ◌-◌, ◌≤◌, true, find, map, codes, drop, length, rules, arith, refl, ap, ◌∙◌}
use Rattle.std.specs.List.{before_first, starts_with}
use Rattle.std.proofs.lemmas.List.{length-drop, take_all}
use Rattle.command_parser.specs.Grammar.{option_text}
use Rattle.command_parser.specs.OptionNames.{is_named, long_name, option_of}
use Rattle.command_parser.proofs.UnreadLemmas.{found-map}
use Rattle.command_parser.proofs.option_names.option_of.Goals as goal

pub returns : goal.returns
unfolding option_of
returns c =
    let begins : starts_with ◌==◌ c.args.word.now (codes "--") ≡ true = search rules in
    let few : length (drop 2 c.args.word.now) ≤ length c.args.word.now - 2 = omega (arith, length-drop 2 c.args.word.now) in
    let named : c.before_equals.result.now ≡ long_name c.args.word.now =
    c.before_equals.ensures ∙ ap (before_first (λ b. b == 61)) (take_all (length c.args.word.now - 2) (drop 2 c.args.word.now) few) in
    rw begins (found-map option_text (is_named c.before_equals.result.now) _ c.args.rows.now _ c.option_named.ensures (λ row. refl) ∙ ap (λ name. find (is_named name) (map option_text c.args.rows.now)) named)
