use Rattle.std.proofs.Common.{◌≡◌, Some, refl, ap, ◌∙◌}
use Rattle.std.specs.Prelude.{if◌then◌else◌}
use Rattle.std.proofs.lemmas.Result.{IfOk-weaker}
use Rattle.clap.specs.declared.builder.action.ArgAction.{ArgAction}
use Rattle.clap.specs.declared.builder.action.ArgAction.TheVariants.{Set, SetTrue}
use Rattle.command_parser.specs.Grammar.{option_rule, option_text}
use Rattle.command_parser.proofs.GrammarLemmas.{rule_of-option}
use Rattle.command_parser.proofs.grammar.option_of.Goals as goal
use Rattle.command_parser.proofs.grammar.option_of.Goals.{then-row, else-row}

pub returns-clause-rule : goal.returns-clause-rule
returns-clause-rule c =
    let action : c.if-row.action ≡ (if c.args.row.has_value then Set else SetTrue) = elim c.if-row.branch [
      | then-row w ↦ rw (w.action-is, w.if-row.true) refl
      | else-row w ↦ rw (w.action-is, w.if-row.false) refl
    ] in
    IfOk-weaker c.aliases.result _ _ (λ r adds. rule_of-option c.new.result c.long.result c.action.result r c.args.row.name c.args.row.others.now c.if-row.action
    c.new.ensures.rule c.long.ensures c.action.ensures adds
    ∙ ap (λ (act : ArgAction). record (option_rule (option_text c.args.row)) { action = Some act }) action) c.aliases.ensures
