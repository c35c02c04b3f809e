use Rattle.std.proofs.Common.{◌≡◌, ◌/◌, ℕ, [], true, false, length, map, arith, ap, ◌∙◌, subst, Bool}
use Rattle.block_device.specs.Call.{DeviceDoes}
use Rattle.verity_format.proofs.lemmas.DeviceLemmas.{only_read-none}
use Rattle.tree_repair.specs.Mending.{IsAllowedPut}
use Rattle.tree_repair.specs.RepairCalls.{IsBlockWrite, MakesRepairCalls}
use Rattle.tree_repair.specs.Sources.{AreIn, AreInNone, due, wanted}
use Rattle.tree_repair.proofs.BillLemmas.{at_most-none, put-once}
use Rattle.tree_repair.proofs.RepairCallLemmas.{calls-put, calls-read, unfinished}
use Rattle.tree_repair.proofs.SourceLemmas.{each-none, on_err-from}
use Rattle.tree_repair.proofs.mending.mend.Goals as goal

pub put-requires-clause-inside : goal.put-requires-clause-inside
put-requires-clause-inside g c =
    let long : length c.seek.new.block ≡ length c.args.block.now = c.seek.auto.block ∙ c.is_there.auto.block in
    rw long (record {
      some = c.requires.inside.some;
      whole = c.requires.inside.whole;
      inside = omega (arith, c.requires.inside.inside, c.is_there.ensures.read.same.size);
    })

pub returns-then-is_there-clause-ok : goal.returns-then-is_there-clause-ok
returns-then-is_there-clause-ok g c =
    (c.is_there.new.block, record { read = c.is_there.ensures.read; more = c.is_there.ensures.counted; copies_read = each-none (map g.C.BlockDev.state c.args.copies.now.items); there = c.is_there.ensures.good c.if-is_there.true })

pub returns-in-None-clause-ok : goal.returns-in-None-clause-ok
returns-in-None-clause-ok g c =
    let cs = map g.C.BlockDev.state c.args.copies.now.items in
    let s = c.args.sought.now in
    let long : length c.is_there.new.block / 512 ≡ length c.args.block.now / 512 = ap (λ (n : ℕ). n / 512) c.is_there.auto.block in (
      [],
      record {
        seen = g.B.BlockDev.state c.is_there.new.device;
        read = c.is_there.ensures.read;
        more = c.is_there.ensures.counted;
        bad = c.is_there.ensures.bad c.if-is_there.false;
        copies_read = c.seek.ensures.read;
        beneath_read = only_read-none (g.B.BlockDev.state c.is_there.new.device);
        beneath_more = omega arith;
        none = subst (λ (n : ℕ). AreInNone cs (map g.C.BlockDev.state c.seek.new.copies.items) s.copy_first (wanted c.args.sought.now.repair.now.salt s.digest n)) long c.in-None.ensures.none;
      },
    )

pub returns-in_ok-put-in-Some-clause-ok : goal.returns-in_ok-put-in-Some-clause-ok
returns-in_ok-put-in-Some-clause-ok g c =
    let cs = map g.C.BlockDev.state c.args.copies.now.items in
    let s = c.args.sought.now in
    let bytes = c.seek.new.block in
    let between = g.B.BlockDev.state c.is_there.new.device in
    let long : length c.is_there.new.block / 512 ≡ length c.args.block.now / 512 = ap (λ (n : ℕ). n / 512) c.is_there.auto.block in
    let same : length c.seek.new.block / 512 ≡ length c.args.block.now / 512 = ap (λ (n : ℕ). n / 512) (c.seek.auto.block ∙ c.is_there.auto.block) in (
      bytes,
      record {
        between = between;
        read = c.is_there.ensures.read;
        more = c.is_there.ensures.counted;
        bad = c.is_there.ensures.bad c.if-is_there.false;
        copies_read = c.seek.ensures.read;
        copy = subst (λ (n : ℕ). AreIn cs s.copy_first (wanted c.args.sought.now.repair.now.salt s.digest n) c.in-Some.number bytes) long c.in-Some.ensures.found;
        good = (c.in-Some.ensures.found.there between).good;
        put = subst (λ (n : ℕ). IsAllowedPut c.args.sought.now.repair.now.write between s.first n bytes true (g.B.BlockDev.state c.put.new.device)) same c.in_ok-put-in-Some.ensures.put;
      },
    )

pub returns-in_err-put-in-Some-clause-err : goal.returns-in_err-put-in-Some-clause-err
returns-in_err-put-in-Some-clause-err g c =
    let cs = map g.C.BlockDev.state c.args.copies.now.items in
    let s = c.args.sought.now in
    let bytes = c.seek.new.block in
    let between = g.B.BlockDev.state c.is_there.new.device in
    let long : length c.is_there.new.block / 512 ≡ length c.args.block.now / 512 = ap (λ (n : ℕ). n / 512) c.is_there.auto.block in
    let same : length c.seek.new.block / 512 ≡ length c.args.block.now / 512 = ap (λ (n : ℕ). n / 512) (c.seek.auto.block ∙ c.is_there.auto.block) in
    on_err-from c.from_residual.result _ _ c.from_residual.ensures.1 (
      c.in-Some.number,
      (
        bytes,
        record {
          between = between;
          read = c.is_there.ensures.read;
          more = c.is_there.ensures.counted;
          bad = c.is_there.ensures.bad c.if-is_there.false;
          copies_read = c.seek.ensures.read;
          copy = subst (λ (n : ℕ). AreIn cs s.copy_first (wanted c.args.sought.now.repair.now.salt s.digest n) c.in-Some.number bytes) long c.in-Some.ensures.found;
          good = (c.in-Some.ensures.found.there between).good;
          put = subst (λ (n : ℕ). IsAllowedPut c.args.sought.now.repair.now.write between s.first n bytes false (g.B.BlockDev.state c.put.new.device)) same c.in_err-put-in-Some.ensures.put;
        },
      ),
    )

pub returns-then-is_there-clause-asked : goal.returns-then-is_there-clause-asked
returns-then-is_there-clause-asked g c = record {
  reads = c.is_there.ensures.asked;
  writes = omega (arith, c.is_there.ensures.read.writes);
  copies_read = at_most-none (map g.C.BlockDev.state c.args.copies.now.items) (length c.args.block.now / 512);
}

pub returns-in-None-clause-asked : goal.returns-in-None-clause-asked
returns-in-None-clause-asked g c =
    let long : length c.is_there.new.block / 512 ≡ length c.args.block.now / 512 = ap (λ (n : ℕ). n / 512) c.is_there.auto.block in
    record { reads = c.is_there.ensures.asked; writes = omega (arith, c.is_there.ensures.read.writes); copies_read = rw long at c.seek.ensures.asked }

pub returns-in_ok-put-in-Some-clause-asked : goal.returns-in_ok-put-in-Some-clause-asked
returns-in_ok-put-in-Some-clause-asked g c =
    let between = g.B.BlockDev.state c.is_there.new.device in
    let new = g.B.BlockDev.state c.put.new.device in
    let sectors : ℕ = length c.seek.new.block / 512 in
    let long : length c.is_there.new.block / 512 ≡ length c.args.block.now / 512 = ap (λ (n : ℕ). n / 512) c.is_there.auto.block in
    let same : sectors ≡ length c.args.block.now / 512 = ap (λ (n : ℕ). n / 512) (c.seek.auto.block ∙ c.is_there.auto.block) in
    let once = put-once c.args.sought.now.repair.now.write between c.args.sought.now.first sectors c.seek.new.block true new c.in_ok-put-in-Some.ensures.put in
    record {
      reads = omega (arith, c.is_there.ensures.asked, once.reads);
      writes = omega (arith, c.is_there.ensures.read.writes, once.writes, same);
      copies_read = rw long at c.seek.ensures.asked;
    }

pub returns-in_err-put-in-Some-clause-asked : goal.returns-in_err-put-in-Some-clause-asked
returns-in_err-put-in-Some-clause-asked g c =
    let between = g.B.BlockDev.state c.is_there.new.device in
    let new = g.B.BlockDev.state c.put.new.device in
    let sectors : ℕ = length c.seek.new.block / 512 in
    let long : length c.is_there.new.block / 512 ≡ length c.args.block.now / 512 = ap (λ (n : ℕ). n / 512) c.is_there.auto.block in
    let same : sectors ≡ length c.args.block.now / 512 = ap (λ (n : ℕ). n / 512) (c.seek.auto.block ∙ c.is_there.auto.block) in
    let once = put-once c.args.sought.now.repair.now.write between c.args.sought.now.first sectors c.seek.new.block false new c.in_err-put-in-Some.ensures.put in
    record {
      reads = omega (arith, c.is_there.ensures.asked, once.reads);
      writes = omega (arith, c.is_there.ensures.read.writes, once.writes, same);
      copies_read = rw long at c.seek.ensures.asked;
    }

pub returns-then-is_there-clause-handed : goal.returns-then-is_there-clause-handed
returns-then-is_there-clause-handed g c =
    let s = c.args.sought.now in
    let w = due s.repair.now.salt s.digest c.args.block.now in
    calls-read (DeviceDoes g.B.BlockDev.state g.B.BlockDev.does) (IsBlockWrite s.first w) s.first c.is_there.new.block c.args.device.now c.is_there.new.device c.is_there.ensures.called

pub returns-in-None-clause-handed : goal.returns-in-None-clause-handed
returns-in-None-clause-handed g c =
    let s = c.args.sought.now in
    let w = due s.repair.now.salt s.digest c.args.block.now in
    calls-read (DeviceDoes g.B.BlockDev.state g.B.BlockDev.does) (IsBlockWrite s.first w) s.first c.is_there.new.block c.args.device.now c.is_there.new.device c.is_there.ensures.called

pub returns-in_ok-put-in-Some-clause-handed : goal.returns-in_ok-put-in-Some-clause-handed
returns-in_ok-put-in-Some-clause-handed g c =
    let state = g.B.BlockDev.state in
    let does = DeviceDoes state g.B.BlockDev.does in
    let between = state c.is_there.new.device in
    let s = c.args.sought.now in
    let w = due s.repair.now.salt s.digest c.args.block.now in
    calls-put does s.first w c.is_there.new.block c.seek.new.block s.repair.now.write true c.args.device.now c.is_there.new.device c.put.new.device c.is_there.ensures.called
    between (length c.seek.new.block / 512) (state c.put.new.device) c.in_ok-put-in-Some.ensures.put (omega (arith, c.seek.auto.block, c.is_there.auto.block, c.requires.inside.whole)) (c.in-Some.ensures.found.there between).good c.in_ok-put-in-Some.ensures.handed

pub returns-in_err-put-in-Some-clause-handed : goal.returns-in_err-put-in-Some-clause-handed
returns-in_err-put-in-Some-clause-handed g c =
    let state = g.B.BlockDev.state in
    let does = DeviceDoes state g.B.BlockDev.does in
    let between = state c.is_there.new.device in
    let s = c.args.sought.now in
    let w = due s.repair.now.salt s.digest c.args.block.now in
    subst (λ (done : Bool). MakesRepairCalls does (IsBlockWrite s.first w) done c.args.device.now c.put.new.device) (unfinished c.from_residual.result _ c.from_residual.ensures.1)
    (calls-put does s.first w c.is_there.new.block c.seek.new.block s.repair.now.write false c.args.device.now c.is_there.new.device c.put.new.device c.is_there.ensures.called
    between (length c.seek.new.block / 512) (state c.put.new.device) c.in_err-put-in-Some.ensures.put (omega (arith, c.seek.auto.block, c.is_there.auto.block, c.requires.inside.whole)) (c.in-Some.ensures.found.there between).good c.in_err-put-in-Some.ensures.handed)
