use Rattle.std.proofs.Common.{ap, ◌∙◌}
use Rattle.aes_block.specs.Columns.{state_of_columns}
use Rattle.aes_block.specs.Rounds.{add_round_key}
use Rattle.aes_block.proofs.TableLemmas.{below_four}
use Rattle.aes_block.proofs.StateColumnLemmas.{same_columns, length-mixed}
use Rattle.aes_block.proofs.rounds.round.Goals as goal

pub returns : goal.returns
returns c =
    c.add_round_key.ensures
    ∙ ap (λ s. add_round_key s (state_of_columns c.args.key)) (same_columns _ _ (length-mixed _) (below_four _ c.mixed_column.ensures c.mixed_column-2.ensures c.mixed_column-3.ensures c.mixed_column-4.ensures))
