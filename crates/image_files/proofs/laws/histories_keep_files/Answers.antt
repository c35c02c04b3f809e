use Rattle.image_files.proofs.HistoryLemmas.{kept-in-history}
use Rattle.image_files.proofs.laws.histories_keep_files.Goals as goal

pub returns : goal.returns
returns g c = kept-in-history _ _
