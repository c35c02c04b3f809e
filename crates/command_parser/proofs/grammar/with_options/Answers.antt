use Rattle.std.proofs.Common.{refl, ap₂, sym, ◌∙◌}
use Rattle.clap.specs.Simple.{app_of, with_rule}
use Rattle.command_parser.proofs.GrammarLemmas.{or-none, with_options-more, with_options-none}
use Rattle.command_parser.proofs.grammar.with_options.Goals as goal

pub rows-init : goal.rows-init
rows-init c = (with_options-none (app_of c.args.command), refl)

pub rows-preserved : goal.rows-preserved
rows-preserved c = (
  c.in_ok-all.ensures.shape c.in_ok-option_of.ensures.local
      ∙ (ap₂ with_rule c.rows.invariant.0 c.in_ok-option_of.ensures.rule
      ∙ sym (with_options-more (app_of c.args.command) c.args.rows.now c.rows.row-index _ c.rows-test.true)),
  c.in_ok-all.ensures.globals ∙ (or-none _ _ c.in_ok-option_of.ensures.local ∙ c.rows.invariant.1),
)
