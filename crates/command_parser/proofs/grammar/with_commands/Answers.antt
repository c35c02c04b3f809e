use Rattle.std.proofs.Common.{ap₂, sym, ◌∙◌}
use Rattle.clap.specs.Simple.{App, app_of, with_subcommand}
use Rattle.command_parser.proofs.GrammarLemmas.{with_commands-more, with_commands-none}
use Rattle.command_parser.proofs.grammar.with_commands.Goals as goal

pub rows-init : goal.rows-init
rows-init c = with_commands-none (app_of c.args.command)

pub rows-preserved : goal.rows-preserved
rows-preserved c =
    c.in_ok-all.ensures.shape c.in_ok-command_of.ensures.local
    ∙ (ap₂ (λ (a b : App). with_subcommand a b.top) c.rows.invariant c.in_ok-command_of.ensures.app
    ∙ sym (with_commands-more (app_of c.args.command) c.args.rows.now c.rows.row-index _ c.rows-test.true))
