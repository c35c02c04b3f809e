use Rattle.std.proofs.Common.{refl}
use Rattle.dm_table.specs.Words.{pieces_left}
use Rattle.table_text.proofs.cut.Pieces.new.Goals as goal

pub returns : goal.returns
unfolding pieces_left
returns c = refl
