use Rattle.reed_solomon.proofs.lemmas.FewerErasuresLemmas.{fewer-restored}
use Rattle.reed_solomon.proofs.laws.fewer_erasures_restore_the_same.Goals as goal

pub returns : goal.returns
returns c = fewer-restored
