use Rattle.std.proofs.Common.{◌∙◌, sym}
use Rattle.std.proofs.lemmas.Bool.{true≢false}
use Rattle.block_device.specs.Call.{DeviceDoes}
use Rattle.tree_repair.specs.Jobs.{job}
use Rattle.tree_repair.specs.Noting.{was_put}
use Rattle.tree_repair.proofs.KeepLemmas.{read-due, unread}
use Rattle.tree_repair.proofs.RepairCallLemmas.{reads-none}
use Rattle.tree_repair.proofs.RunLemmas.{world-none}
use Rattle.tree_repair.proofs.keeping.is_kept.Goals as goal

pub returns-then-not-was_put-clause-read : goal.returns-then-not-was_put-clause-read
returns-then-not-was_put-clause-read g c = world-none c.args.image.now.world

pub returns-then-not-was_put-clause-kept : goal.returns-then-not-was_put-clause-kept
returns-then-not-was_put-clause-kept g c = λ put. absurd (true≢false (sym put ∙ sym c.was_put.ensures ∙ c.if-not-was_put.true))

pub returns-then-not-was_put-clause-asked : goal.returns-then-not-was_put-clause-asked
returns-then-not-was_put-clause-asked g c = unread c.args.repair.now.shape c.args.place.height c.args.image.now.world

pub returns-clause-kept : goal.returns-clause-kept
returns-clause-kept g c =
    read-due (job c.args.repair.now) c.args.place.height c.args.place.index (was_put c.args.repair.now.write c.args.mended) c.args.image.now.world c.is_read_back.new.image.world c.is_read_back.result c.is_read_back.ensures.kept

pub returns-then-not-was_put-clause-called : goal.returns-then-not-was_put-clause-called
returns-then-not-was_put-clause-called g c = reads-none (DeviceDoes g.D.BlockDev.state g.D.BlockDev.does) (DeviceDoes g.H.BlockDev.state g.H.BlockDev.does) c.args.place.height c.args.image.now

pub returns-clause-called : goal.returns-clause-called
returns-clause-called g c = c.is_read_back.ensures.called
