use Rattle.std.proofs.Common.{ap, ap₂, ◌∙◌, rules, true}
use Rattle.std.proofs.lemmas.Result.{IfOk-weaker}
use Rattle.clap.specs.Simple.{app_of_fields, on_top, with_rule}
use Rattle.command_parser.proofs.GrammarLemmas.{rule_of-words}
use Rattle.command_parser.proofs.grammar.positional.Goals as goal

pub returns-clause-app : goal.returns-clause-app
returns-clause-app c =
    let words_are = rule_of-words c.new.result c.num_args.result c.action.result c.trailing_var_arg-words.result c.new.ensures.rule c.num_args.ensures.0 c.num_args.ensures.1
    c.action.ensures c.trailing_var_arg-words.ensures in
    IfOk-weaker c.arg.result _ _ (λ command adds. adds.shape (search rules)
    ∙ ap₂ with_rule (ap app_of_fields c.disable_help_flag.ensures ∙ ap (on_top (λ s. record s { disable_help_flag = true })) c.new-2.ensures.app) words_are) c.arg.ensures
