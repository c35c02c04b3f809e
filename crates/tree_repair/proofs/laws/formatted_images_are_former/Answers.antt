use Rattle.tree_repair.proofs.FreshLemmas.{fresh-former}
use Rattle.tree_repair.proofs.laws.formatted_images_are_former.Goals as goal

pub returns : goal.returns
returns c = fresh-former
