use Rattle.nbd_server.proofs.ExtentLemmas.{ignoring-extent, other-extent}
use Rattle.nbd_server.proofs.extent.verity_extent.Goals as goal

pub returns-then-part : goal.returns-then-part
returns-then-part c = ignoring-extent c.args.config.now c.args.part c.args.most c.requires c.if-part.true

pub returns : goal.returns
returns c = other-extent c.args.config.now c.args.part c.args.most c.requires c.if-part.false
