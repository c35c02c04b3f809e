use Rattle.std.proofs.Common.{ap, ◌∙◌}
use Rattle.aes_block.specs.Columns.{row_of}
use Rattle.aes_block.proofs.StateColumnLemmas.{shifted_from_box}
use Rattle.aes_block.proofs.rounds.shifted_column.Goals as goal

pub returns : goal.returns
returns c row h = ap (λ n. row_of n row) c.from_le_bytes.ensures ∙ shifted_from_box c.args.state.now c.args.column c.requires _ _ _ _ c.shifted_byte.ensures c.shifted_byte-2.ensures c.shifted_byte-3.ensures c.shifted_byte-4.ensures row h
