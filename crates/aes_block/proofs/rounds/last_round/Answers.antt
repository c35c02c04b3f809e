use Rattle.std.proofs.Common.{ap, ◌∙◌}
use Rattle.aes_block.specs.Columns.{state_of_columns}
use Rattle.aes_block.specs.Rounds.{add_round_key}
use Rattle.aes_block.proofs.TableLemmas.{below_four}
use Rattle.aes_block.proofs.StateColumnLemmas.{same_columns, length-shifted}
use Rattle.aes_block.proofs.rounds.last_round.Goals as goal

pub returns : goal.returns
returns c =
    c.add_round_key.ensures
    ∙ ap (λ s. add_round_key s (state_of_columns c.args.key)) (same_columns _ _ (length-shifted _) (below_four _ c.shifted_column.ensures c.shifted_column-2.ensures c.shifted_column-3.ensures c.shifted_column-4.ensures))
