use Rattle.std.proofs.Common.{take, ap}
use Rattle.dm_table.specs.Options.{option_name}
use Rattle.table_text.proofs.option_words.option_name.Goals as goal

pub returns : goal.returns
unfolding option_name
returns c = ap (λ n. take n c.args.word.now) c.piece_len.ensures.value
