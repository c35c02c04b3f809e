use Rattle.std.proofs.Common.{arith, ◌/◌, ℕ, ap, length, subst, true, false, Bool}
use Rattle.block_device.specs.Call.{DeviceDoes}
use Rattle.tree_repair.proofs.ParityLemmas.{if_ok-from}
use Rattle.tree_repair.proofs.SourceLemmas.{on_err-from}
use Rattle.tree_repair.specs.RepairCalls.{IsBlockWrite, MakesRepairCalls}
use Rattle.tree_repair.specs.Sources.{due}
use Rattle.tree_repair.proofs.BillLemmas.{put-once}
use Rattle.tree_repair.proofs.RepairCallLemmas.{calls-put, calls-read, unfinished}
use Rattle.tree_repair.proofs.putting.replace.Goals as goal

pub is_there-requires : goal.is_there-requires
is_there-requires g c = rw c.requires.size c.requires.inside

pub put-requires-clause-inside : goal.put-requires-clause-inside
put-requires-clause-inside g c = record {
  some = c.requires.inside.some;
  whole = c.requires.inside.whole;
  inside = omega (arith, c.requires.inside.inside, c.is_there.ensures.read.same.size);
}

pub returns-then-is_there-clause-ok : goal.returns-then-is_there-clause-ok
returns-then-is_there-clause-ok g c = ((c.is_there.ensures.read, c.is_there.ensures.counted), (c.is_there.new.block, rw c.requires.size at (c.is_there.ensures.good c.if-is_there.true)))

pub returns-clause-ok : goal.returns-clause-ok
returns-clause-ok g c = record {
  between = g.B.BlockDev.state c.is_there.new.device;
  read = c.is_there.ensures.read;
  more = c.is_there.ensures.counted;
  bad = rw c.requires.size at (c.is_there.ensures.bad c.if-is_there.false);
  good = c.requires.good;
  put = c.in_ok-put.ensures.put;
}

pub returns-in_err-put-clause-ok : goal.returns-in_err-put-clause-ok
returns-in_err-put-clause-ok g c = if_ok-from c.from_residual.result _ _ c.from_residual.ensures.1

pub returns-in_err-put-clause-err : goal.returns-in_err-put-clause-err
returns-in_err-put-clause-err g c =
    on_err-from c.from_residual.result _ _ c.from_residual.ensures.1 (record {
      between = g.B.BlockDev.state c.is_there.new.device;
      read = c.is_there.ensures.read;
      more = c.is_there.ensures.counted;
      bad = rw c.requires.size at (c.is_there.ensures.bad c.if-is_there.false);
      good = c.requires.good;
      put = c.in_err-put.ensures.put;
    })

pub returns-then-is_there-clause-within : goal.returns-then-is_there-clause-within
returns-then-is_there-clause-within g c = record { reads = omega (arith, c.is_there.ensures.asked, ap (λ (n : ℕ). n / 512) c.requires.size); writes = omega (arith, c.is_there.ensures.read.writes) }

pub returns-clause-within : goal.returns-clause-within
returns-clause-within g c =
    let once = put-once c.args.repair.now.write (g.B.BlockDev.state c.is_there.new.device) c.args.first (length c.args.bytes.now / 512) c.args.bytes.now true (g.B.BlockDev.state c.put.new.device) c.in_ok-put.ensures.put in
    record { reads = omega (arith, c.is_there.ensures.asked, ap (λ (n : ℕ). n / 512) c.requires.size, once.reads); writes = omega (arith, c.is_there.ensures.read.writes, once.writes) }

pub returns-in_err-put-clause-within : goal.returns-in_err-put-clause-within
returns-in_err-put-clause-within g c =
    let once = put-once c.args.repair.now.write (g.B.BlockDev.state c.is_there.new.device) c.args.first (length c.args.bytes.now / 512) c.args.bytes.now false (g.B.BlockDev.state c.put.new.device) c.in_err-put.ensures.put in
    record { reads = omega (arith, c.is_there.ensures.asked, ap (λ (n : ℕ). n / 512) c.requires.size, once.reads); writes = omega (arith, c.is_there.ensures.read.writes, once.writes) }

pub returns-then-is_there-clause-handed : goal.returns-then-is_there-clause-handed
returns-then-is_there-clause-handed g c =
    let w = due c.args.repair.now.salt c.args.expected.now c.args.bytes.now in
    calls-read (DeviceDoes g.B.BlockDev.state g.B.BlockDev.does) (IsBlockWrite c.args.first w) c.args.first c.is_there.new.block c.args.device.now c.is_there.new.device c.is_there.ensures.called

pub returns-clause-handed : goal.returns-clause-handed
returns-clause-handed g c =
    let state = g.B.BlockDev.state in
    let w = due c.args.repair.now.salt c.args.expected.now c.args.bytes.now in
    calls-put (DeviceDoes state g.B.BlockDev.does) c.args.first w c.is_there.new.block c.args.bytes.now c.args.repair.now.write true c.args.device.now c.is_there.new.device c.put.new.device c.is_there.ensures.called
    (state c.is_there.new.device) (length c.args.bytes.now / 512) (state c.put.new.device) c.in_ok-put.ensures.put (omega (arith, c.requires.inside.whole)) c.requires.good c.in_ok-put.ensures.handed

pub returns-in_err-put-clause-handed : goal.returns-in_err-put-clause-handed
returns-in_err-put-clause-handed g c =
    let state = g.B.BlockDev.state in
    let does = DeviceDoes state g.B.BlockDev.does in
    let w = due c.args.repair.now.salt c.args.expected.now c.args.bytes.now in
    subst (λ (done : Bool). MakesRepairCalls does (IsBlockWrite c.args.first w) done c.args.device.now c.put.new.device) (unfinished c.from_residual.result _ c.from_residual.ensures.1)
    (calls-put does c.args.first w c.is_there.new.block c.args.bytes.now c.args.repair.now.write false c.args.device.now c.is_there.new.device c.put.new.device c.is_there.ensures.called
    (state c.is_there.new.device) (length c.args.bytes.now / 512) (state c.put.new.device) c.in_err-put.ensures.put (omega (arith, c.requires.inside.whole)) c.requires.good c.in_err-put.ensures.handed)
