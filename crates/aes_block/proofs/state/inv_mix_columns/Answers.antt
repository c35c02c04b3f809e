use Rattle.std.proofs.Common.{rules}
use Rattle.aes_block.specs.Rounds.{inv_mix_columns}
use Rattle.aes_block.proofs.lemmas.StateLemmas.{same_state}
use Rattle.aes_block.proofs.state.inv_mix_columns.Goals as goal

pub returns : goal.returns
unfolding inv_mix_columns
returns c = same_state c.state_of.result _ (search rules) (λ row column in_rows in_columns. search (rules, c.state_of.ensures row column in_rows in_columns))
