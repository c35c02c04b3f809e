use Rattle.std.proofs.Common.{ap, ◌∙◌}
use Rattle.aes_block.specs.Columns.{state_of_columns}
use Rattle.aes_block.specs.Rounds.{add_round_key}
use Rattle.aes_block.proofs.TableLemmas.{below_four}
use Rattle.aes_block.proofs.StateColumnLemmas.{same_columns, length-unshifted}
use Rattle.aes_block.proofs.rounds.last_inverse_round.Goals as goal

pub returns : goal.returns
returns c =
    c.add_round_key.ensures
    ∙ ap (λ s. add_round_key s (state_of_columns c.args.key)) (same_columns _ _ (length-unshifted _) (below_four _ c.unshifted_column.ensures c.unshifted_column-2.ensures c.unshifted_column-3.ensures c.unshifted_column-4.ensures))
