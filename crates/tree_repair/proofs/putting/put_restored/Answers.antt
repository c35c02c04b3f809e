use Rattle.std.proofs.Common.{Bool, IsTrue, refl, subst, arith}
use Rattle.std.proofs.lemmas.Bool.{and_parts}
use Rattle.block_device.specs.Call.{DeviceDoes}
use Rattle.tree_repair.specs.declared.mending.Mended.TheVariants as mended
use Rattle.tree_repair.specs.Jobs.{job}
use Rattle.tree_repair.specs.Noting.{was_put}
use Rattle.tree_repair.specs.RepairCalls.{IsPlaceWrite}
use Rattle.tree_repair.specs.Searching.{HandsMissing}
use Rattle.tree_repair.proofs.KeepLemmas.{has-kept, read-good, tells-kept}
use Rattle.tree_repair.proofs.ParityBillLemmas.{put-read, put-unread}
use Rattle.tree_repair.proofs.RepairCallLemmas.{ended-all, reads-after}
use Rattle.tree_repair.proofs.RunLemmas.{can-later, ended-from, ends-unsaid, ends-unwritten, has-one, has-read}
use Rattle.tree_repair.proofs.ParityPassLemmas.{tells-from, tells-none, tells-one}
use Rattle.tree_repair.proofs.putting.put_restored.Goals as goal

pub returns-in_err-back-clause-run : goal.returns-in_err-back-clause-run
returns-in_err-back-clause-run g c = ended-from c.from_residual.result c.from_residual.ensures.1 (ends-unwritten c.in_err-back.ensures.err tt refl)

pub returns-then-not-back-clause-run : goal.returns-then-not-back-clause-run
returns-then-not-back-clause-run g c = has-read (rw c.if-not-back.true at c.in_ok-back.ensures.ok).0

pub returns-then-not-back-clause-placed : goal.returns-then-not-back-clause-placed
returns-then-not-back-clause-placed g c = rw c.if-not-back.true at c.in_ok-back.ensures.ok

pub returns-in_err-say_mended-clause-run : goal.returns-in_err-say_mended-clause-run
returns-in_err-say_mended-clause-run g c =
    ended-from c.from_residual-in_err-say_mended.result c.from_residual-in_err-say_mended.ensures.1 (ends-unsaid (rw c.if-not-back.false at c.in_ok-back.ensures.ok) refl)

pub returns-clause-placed : goal.returns-clause-placed
returns-clause-placed g c = (c.put_block.new.image.world, (rw c.if-not-back.false at c.in_ok-back.ensures.ok, c.is_kept-there.ensures.read))

pub returns-clause-run : goal.returns-clause-run
returns-clause-run g c = has-kept (has-one (rw c.if-not-back.false at c.in_ok-back.ensures.ok) refl c.in_ok-say_mended.ensures.ok) c.is_kept-there.ensures.read

pub is_kept-there-requires-clause-can : goal.is_kept-there-requires-clause-can
is_kept-there-requires-clause-can g c = can-later (has-one (rw c.if-not-back.false at c.in_ok-back.ensures.ok) refl c.in_ok-say_mended.ensures.ok) c.requires.can

pub is_kept-there-requires-clause-room : goal.is_kept-there-requires-clause-room
is_kept-there-requires-clause-room g c = omega (arith, c.requires.size, c.put_block.auto.block)

pub say_mended-requires : goal.say_mended-requires
say_mended-requires g c = c.requires.place.inside

pub returns-in_err-back-clause-within : goal.returns-in_err-back-clause-within
returns-in_err-back-clause-within g c = λ p. put-unread (c.put_block.ensures.within p)

pub returns-then-not-back-clause-within : goal.returns-then-not-back-clause-within
returns-then-not-back-clause-within g c = λ p. put-unread (c.put_block.ensures.within p)

pub returns-in_err-say_mended-clause-within : goal.returns-in_err-say_mended-clause-within
returns-in_err-say_mended-clause-within g c = λ p. put-unread (c.put_block.ensures.within p)

pub returns-clause-within : goal.returns-clause-within
returns-clause-within g c =
    put-read c.args.missing.now.repair.now.shape c.args.missing.now.place.height c.args.image.now.world c.put_block.new.image.world c.is_kept-there.new.image.world c.put_block.ensures.within c.is_kept-there.ensures.asked

pub returns-clause-kept : goal.returns-clause-kept
returns-clause-kept g c = λ yes. (and_parts c.args.kept.now c.is_kept-there.result (subst IsTrue c.are_both.ensures yes)).0

pub returns-in_err-back-clause-came : goal.returns-in_err-back-clause-came
returns-in_err-back-clause-came g c = tells-from c.args.missing.now.place.height c.from_residual.result c.from_residual.ensures.1 (ends-unwritten c.in_err-back.ensures.err tt refl)

pub returns-then-not-back-clause-came : goal.returns-then-not-back-clause-came
returns-then-not-back-clause-came g c = tells-none c.args.missing.now.place.height (has-read (rw c.if-not-back.true at c.in_ok-back.ensures.ok).0)

pub returns-in_err-say_mended-clause-came : goal.returns-in_err-say_mended-clause-came
returns-in_err-say_mended-clause-came g c =
    tells-from c.args.missing.now.place.height c.from_residual-in_err-say_mended.result c.from_residual-in_err-say_mended.ensures.1 (ends-unsaid (rw c.if-not-back.false at c.in_ok-back.ensures.ok) refl)

pub returns-clause-came : goal.returns-clause-came
returns-clause-came g c =
    tells-kept (tells-one c.args.missing.now.place.height c.args.missing.now.place.index c.args.bytes.now (rw c.if-not-back.false at c.in_ok-back.ensures.ok) c.in_ok-say_mended.ensures.ok)
    c.is_kept-there.ensures.read

pub returns-clause-there : goal.returns-clause-there
returns-clause-there g c = λ back yes. record {
  mended = mended.Parity;
  bytes = c.args.bytes.now;
  behind = c.put_block.new.image.world;
  visited = rw c.if-not-back.false at c.in_ok-back.ensures.ok;
  there = read-good (job c.args.missing.now.repair.now) c.args.missing.now.place.height c.args.missing.now.place.index (was_put c.args.missing.now.repair.now.write mended.Parity) c.put_block.new.image.world c.is_kept-there.new.image.world c.is_kept-there.result c.is_kept-there.ensures.kept (and_parts c.args.kept.now c.is_kept-there.result (subst IsTrue c.are_both.ensures yes)).1;
  read_back = c.is_kept-there.ensures.read;
}

pub returns-in_err-back-clause-handed : goal.returns-in_err-back-clause-handed
returns-in_err-back-clause-handed g c =
    let asks = DeviceDoes g.D.BlockDev.state g.D.BlockDev.does in
    let does = DeviceDoes g.H.BlockDev.state g.H.BlockDev.does in
    subst (λ (done : Bool). HandsMissing asks does c.args.missing.now done c.args.image.now c.put_block.new.image) (ended-all c.from_residual.result _ c.from_residual.ensures.1) c.in_err-back.ensures.handed

pub returns-then-not-back-clause-handed : goal.returns-then-not-back-clause-handed
returns-then-not-back-clause-handed g c = c.in_ok-back.ensures.handed

pub returns-in_err-say_mended-clause-handed : goal.returns-in_err-say_mended-clause-handed
returns-in_err-say_mended-clause-handed g c =
    let asks = DeviceDoes g.D.BlockDev.state g.D.BlockDev.does in
    let does = DeviceDoes g.H.BlockDev.state g.H.BlockDev.does in
    subst (λ (done : Bool). HandsMissing asks does c.args.missing.now done c.args.image.now c.put_block.new.image) (ended-all c.from_residual-in_err-say_mended.result _ c.from_residual-in_err-say_mended.ensures.1) c.in_ok-back.ensures.handed

pub returns-clause-handed : goal.returns-clause-handed
returns-clause-handed g c =
    let asks = DeviceDoes g.D.BlockDev.state g.D.BlockDev.does in
    let does = DeviceDoes g.H.BlockDev.state g.H.BlockDev.does in
    let m = c.args.missing.now in
    reads-after asks does m.place.height (IsPlaceWrite (job m.repair.now) m.path.now m.place.height m.place.index) c.args.image.now c.put_block.new.image c.is_kept-there.new.image c.in_ok-back.ensures.handed c.is_kept-there.ensures.called
