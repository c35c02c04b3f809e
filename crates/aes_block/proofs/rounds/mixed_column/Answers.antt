use Rattle.aes_block.proofs.StateColumnLemmas.{mixed_from_tables}
use Rattle.aes_block.proofs.rounds.mixed_column.Goals as goal

pub returns : goal.returns
returns c = mixed_from_tables c.args.state.now c.args.column c.requires _ _ _ _ c.shifted_byte.ensures c.shifted_byte-2.ensures c.shifted_byte-3.ensures c.shifted_byte-4.ensures
