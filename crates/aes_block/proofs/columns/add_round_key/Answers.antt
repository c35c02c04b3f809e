use Rattle.std.proofs.Common.{refl}
use Rattle.aes_block.proofs.TableLemmas.{below_four}
use Rattle.aes_block.proofs.StateColumnLemmas.{state_of_columns-add}
use Rattle.aes_block.proofs.columns.add_round_key.Goals as goal

pub returns : goal.returns
returns c = state_of_columns-add c.args.state c.args.key _ (below_four _ refl refl refl refl)
