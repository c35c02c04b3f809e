use Rattle.std.proofs.Common.{inl, inr, refl}
use Rattle.std.proofs.lemmas.Result.{err_from_is_err_and}
use Rattle.block_device.specs.Call.{DeviceDoes}
use Rattle.image_pin.specs.Finding.{unpinned_tree}
use Rattle.image_pin.proofs.FindingLemmas.{err-from, no-pinned-calls, no-pinned-tree}
use Rattle.image_pin.proofs.finding.find_tree.Goals as goal

pub returns-then-not-may_begin-clause-err : goal.returns-then-not-may_begin-clause-err
returns-then-not-may_begin-clause-err g c = inl (cc (c.if-not-may_begin.ensures), refl)

pub returns-in_err-superblock-clause-err : goal.returns-in_err-superblock-clause-err
returns-in_err-superblock-clause-err g c =
    let fault = c.in_err-superblock.field-0.0 in
    err-from c.from_residual.result _ (unpinned_tree fault) c.from_residual.ensures.1
    (no-pinned-tree (g.H.BlockDev.state c.args.hash_dev.now) c.args.first c.args.pin.now (g.H.BlockDev.state c.read_pinned.new.hash_dev) fault (cc (c.if-not-may_begin.ensures)) c.in_err-superblock.ensures.err)

pub returns-then-not-is_aligned-clause-err : goal.returns-then-not-is_aligned-clause-err
returns-then-not-is_aligned-clause-err g c = inr (record {
  super = c.in_ok-superblock.superblock;
  sector = c.in_ok-superblock.ensures.ok.sector;
  read = c.in_ok-superblock.ensures.ok.read;
  pinned = c.in_ok-superblock.ensures.ok.pinned;
  unaligned = cc (c.if-not-is_aligned.ensures, c.hash_block-size.ensures);
})

pub returns-clause-ok : goal.returns-clause-ok
returns-clause-ok g c = record {
  sector = c.in_ok-superblock.ensures.ok.sector;
  read = c.in_ok-superblock.ensures.ok.read;
  pinned = c.in_ok-superblock.ensures.ok.pinned;
  aligned = cc (c.if-not-is_aligned.ensures, c.hash_block-size.ensures);
}

pub returns-clause-full : goal.returns-clause-full
returns-clause-full g c = c.in_ok-superblock.ensures.ok.one

pub returns-then-not-may_begin-clause-calls : goal.returns-then-not-may_begin-clause-calls
returns-then-not-may_begin-clause-calls g c = inl (cc (c.if-not-may_begin.ensures), refl)

pub returns-in_err-superblock-clause-calls : goal.returns-in_err-superblock-clause-calls
returns-in_err-superblock-clause-calls g c =
    let p = err_from_is_err_and c.from_residual.result c.from_residual.ensures.1 in
    rw (p.1, p.2)
    (no-pinned-calls (DeviceDoes g.H.BlockDev.state g.H.BlockDev.does) c.args.hash_dev.now c.args.first c.args.pin.now c.read_pinned.new.hash_dev c.in_err-superblock.field-0.0 c.in_err-superblock.ensures.calls)

pub returns-then-not-is_aligned-clause-calls : goal.returns-then-not-is_aligned-clause-calls
returns-then-not-is_aligned-clause-calls g c = inr (record {
  super = c.in_ok-superblock.superblock;
  given = c.in_ok-superblock.ensures.calls;
  unaligned = cc (c.if-not-is_aligned.ensures, c.hash_block-size.ensures);
})

pub returns-clause-calls : goal.returns-clause-calls
returns-clause-calls g c = (c.in_ok-superblock.ensures.calls, cc (c.if-not-is_aligned.ensures, c.hash_block-size.ensures))
