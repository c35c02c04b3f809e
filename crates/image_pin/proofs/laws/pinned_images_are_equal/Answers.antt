use Rattle.image_pin.proofs.PinnedLemmas.{pinned-equal}
use Rattle.image_pin.proofs.laws.pinned_images_are_equal.Goals as goal

pub returns : goal.returns
returns c = pinned-equal c.formed_chains_are_good.ensures c.good_chains_collide.ensures
