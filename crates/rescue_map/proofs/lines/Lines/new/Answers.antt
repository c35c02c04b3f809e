use Rattle.std.proofs.Common.{refl}
use Rattle.dm_table.specs.Words.{text_lines, pieces_left}
use Rattle.rescue_map.proofs.lines.Lines.new.Goals as goal

pub returns : goal.returns
unfolding pieces_left text_lines
returns c = refl
