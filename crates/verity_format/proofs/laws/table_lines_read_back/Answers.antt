use Rattle.verity_format.proofs.LineLemmas.{lines-read-back}
use Rattle.verity_format.proofs.laws.table_lines_read_back.Goals as goal

pub returns : goal.returns
returns c = lines-read-back
