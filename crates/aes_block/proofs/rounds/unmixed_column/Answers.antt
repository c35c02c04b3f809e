use Rattle.aes_block.proofs.StateColumnLemmas.{unmixed_from_tables}
use Rattle.aes_block.proofs.rounds.unmixed_column.Goals as goal

pub returns : goal.returns
returns c = unmixed_from_tables c.args.state.now c.args.column c.requires _ _ _ _ c.unshifted_byte.ensures c.unshifted_byte-2.ensures c.unshifted_byte-3.ensures c.unshifted_byte-4.ensures
