use Rattle.std.proofs.Common.{◌≡◌, ◌++◌, ◌∙◌, [], ℕ, List, refl, sym, ap, subst, arith, length, rules, IsTrue}
use Rattle.std.proofs.lemmas.Result.{err_from_is_err_and}
use Rattle.block_device.specs.Call.{Calls, DeviceDoes}
use Rattle.hash_tree.specs.Building.{PlacedRecord, BuilderRecord, pushed, last_completed}
use Rattle.hash_tree.proofs.lemmas.BuilderLemmas.{left-pushed}
use Rattle.verity_format.specs.Growth.{IsRunTaken}
use Rattle.verity_format.specs.Handing.{HandsGrowth, HandsSome, writes_of}
use Rattle.verity_format.specs.Image.{tree_sectors}
use Rattle.verity_format.specs.Writing.{IsWriting, IsPartWritten, AreBlocksWritten}
use Rattle.verity_format.proofs.lemmas.DeviceLemmas.{only_read-then}
use Rattle.verity_format.proofs.GrowthLemmas.{left-taken, ready-taken, refused-taken, size-taken, out-inside, last-all}
use Rattle.verity_format.proofs.HandingLemmas.{growth-none, growth-then, stopped-asked, stopped-last, stopped-none, stopped-run, tree-all}
use Rattle.verity_format.proofs.WritingLemmas.{may-stand, writing-none, part-taken, part-run, part-last, writing-then, written-all}
use Rattle.verity_format.proofs.writing.write_tree.Goals as goal

pub loop-run-init : goal.loop-run-init
loop-run-init g c =
    let s = c.args.shape.now in
    let data_dev = g.D.BlockDev.state c.args.data_dev.now in
    let hash_dev = g.H.BlockDev.state c.args.hash_dev.now in
    let asks = DeviceDoes g.D.BlockDev.state g.D.BlockDev.does in
    let does = DeviceDoes g.H.BlockDev.state g.H.BlockDev.does in
    record {
      writing = subst (λ (b : BuilderRecord). IsWriting s c.args.salt.now data_dev hash_dev data_dev hash_dev b) (sym c.in_ok-builder.ensures.value) (writing-none s c.args.salt.now data_dev hash_dev);
      growth =
          subst (λ (b : BuilderRecord). HandsGrowth asks does s c.args.salt.now c.args.data_dev.now c.args.hash_dev.now c.args.data_dev.now c.args.hash_dev.now b) (sym c.in_ok-builder.ensures.value)
          (growth-none asks does s c.args.salt.now c.args.data_dev.now c.args.hash_dev.now);
    }

pub take_run-requires : goal.take_run-requires
take_run-requires g c =
    let taken = c.loop-run.invariant.writing.taken in
    let left = left-taken c.args.shape.now c.args.salt.now _ _ c.loop-run.builder taken in
    record {
      ready = ready-taken c.args.shape.now c.args.salt.now _ _ c.loop-run.builder taken;
      left = (omega (arith, c.left.ensures, c.loop-run-test.true), omega (arith, left));
      size = size-taken c.args.shape.now c.args.salt.now _ _ c.loop-run.builder taken;
      run = (search rules, search rules);
      room = search rules;
    }

pub returns-in_err-out-clause-devices : goal.returns-in_err-out-clause-devices
returns-in_err-out-clause-devices g c =
    record {
      read = only_read-then c.loop-run.invariant.writing.taken.read.read c.take_run.ensures.read;
      part = part-taken c.args.shape.now c.args.salt.now (g.D.BlockDev.state c.args.data_dev.now) (g.H.BlockDev.state c.args.hash_dev.now) (g.D.BlockDev.state c.loop-run.data_dev) (g.H.BlockDev.state c.loop-run.hash_dev) c.loop-run.builder c.loop-run.invariant.writing c.hash_block-size.ensures.valid;
    }

pub write_blocks-requires : goal.write_blocks-requires
write_blocks-requires g c =
    let s = c.args.shape.now in
    let here = c.loop-run.invariant.writing in
    let valid = c.hash_block-size.ensures.valid in
    let size : c.hash_block-size.result ≡ s.hash_block = c.hash_block-size.ensures.value in
    let hash' = g.H.BlockDev.state c.loop-run.hash_dev in
    let stand = may-stand s valid hash' (omega (arith, c.requires.tree_room, here.part.same.size)) c.hash_block-size.result size
    c.deref.result.now c.in_ok-out.out.items c.deref.ensures.value
    (out-inside s c.args.salt.now _ _ c.loop-run.builder here.taken _ _ c.in_ok-out.out.items c.in_ok-out.ensures.taken valid) in
    record {
      size = rw size valid.hash_size;
      inside = stand.0;
      allowed = subst IsTrue (sym here.part.same.may_write) c.requires.allowed;
    }

pub returns-in_err-write_blocks-clause-devices : goal.returns-in_err-write_blocks-clause-devices
returns-in_err-write_blocks-clause-devices g c =
    let s = c.args.shape.now in
    let here = c.loop-run.invariant.writing in
    let valid = c.hash_block-size.ensures.valid in
    let size : c.hash_block-size.result ≡ s.hash_block = c.hash_block-size.ensures.value in
    let hash' = g.H.BlockDev.state c.loop-run.hash_dev in
    let stand = may-stand s valid hash' (omega (arith, c.requires.tree_room, here.part.same.size)) c.hash_block-size.result size
    c.deref.result.now c.in_ok-out.out.items c.deref.ensures.value
    (out-inside s c.args.salt.now _ _ c.loop-run.builder here.taken _ _ c.in_ok-out.out.items c.in_ok-out.ensures.taken valid) in
    let out : List PlacedRecord = c.deref.result.now in
    let hash'' = g.H.BlockDev.state c.write_blocks.new.hash_dev in
    let data'' = g.D.BlockDev.state c.take_run.new.device in
    let part : IsPartWritten s.hash_block s.start (tree_sectors s) (length out) hash' hash'' =
    subst (λ (n : ℕ). IsPartWritten n s.start (tree_sectors s) (length out) hash' hash'') size (c.write_blocks.ensures.part s.start (tree_sectors s) stand.1) in
    let run : IsRunTaken s c.args.salt.now (g.D.BlockDev.state c.loop-run.data_dev) data'' c.loop-run.builder c.take_run.new.builder out =
    subst (λ (ps : List PlacedRecord). IsRunTaken s c.args.salt.now (g.D.BlockDev.state c.loop-run.data_dev) data'' c.loop-run.builder c.take_run.new.builder ps) (sym c.deref.ensures.value) c.in_ok-out.ensures.taken in
    record {
      read = only_read-then c.loop-run.invariant.writing.taken.read.read c.take_run.ensures.read;
      part = part-run s c.args.salt.now (g.D.BlockDev.state c.args.data_dev.now) (g.H.BlockDev.state c.args.hash_dev.now) (g.D.BlockDev.state c.loop-run.data_dev) (g.H.BlockDev.state c.loop-run.hash_dev) c.loop-run.builder c.loop-run.invariant.writing hash'' out part valid data'' c.take_run.new.builder run;
    }

pub loop-run-smaller : goal.loop-run-smaller
loop-run-smaller g c =
    let run = c.in_ok-out.ensures.taken in
    let left : c.take_run.new.builder.left ≡ (pushed c.loop-run.builder run.digests).left = ap (λ (b : BuilderRecord). b.left) run.after in
    omega (arith, left, left-pushed c.loop-run.builder run.digests, run.some, run.few)

pub loop-run-preserved : goal.loop-run-preserved
loop-run-preserved g c =
    let s = c.args.shape.now in
    let here = c.loop-run.invariant.writing in
    let valid = c.hash_block-size.ensures.valid in
    let size : c.hash_block-size.result ≡ s.hash_block = c.hash_block-size.ensures.value in
    let hash' = g.H.BlockDev.state c.loop-run.hash_dev in
    let stand = may-stand s valid hash' (omega (arith, c.requires.tree_room, here.part.same.size)) c.hash_block-size.result size
    c.deref.result.now c.in_ok-out.out.items c.deref.ensures.value
    (out-inside s c.args.salt.now _ _ c.loop-run.builder here.taken _ _ c.in_ok-out.out.items c.in_ok-out.ensures.taken valid) in
    let out : List PlacedRecord = c.deref.result.now in
    let hash'' = g.H.BlockDev.state c.write_blocks.new.hash_dev in
    let data'' = g.D.BlockDev.state c.take_run.new.device in
    let part : IsPartWritten s.hash_block s.start (tree_sectors s) (length out) hash' hash'' =
    subst (λ (n : ℕ). IsPartWritten n s.start (tree_sectors s) (length out) hash' hash'') size (c.write_blocks.ensures.part s.start (tree_sectors s) stand.1) in
    let run : IsRunTaken s c.args.salt.now (g.D.BlockDev.state c.loop-run.data_dev) data'' c.loop-run.builder c.take_run.new.builder out =
    subst (λ (ps : List PlacedRecord). IsRunTaken s c.args.salt.now (g.D.BlockDev.state c.loop-run.data_dev) data'' c.loop-run.builder c.take_run.new.builder ps) (sym c.deref.ensures.value) c.in_ok-out.ensures.taken in
    let done : AreBlocksWritten s.hash_block hash' out hash'' = subst (λ (n : ℕ). AreBlocksWritten n hash' out hash'') size c.in_ok-write_blocks.ensures.ok in
    let asks = DeviceDoes g.D.BlockDev.state g.D.BlockDev.does in
    let does = DeviceDoes g.H.BlockDev.state g.H.BlockDev.does in
    let handed : Calls does c.loop-run.hash_dev (writes_of s.hash_block c.in_ok-out.out.items) c.write_blocks.new.hash_dev =
    subst (λ (n : ℕ). Calls does c.loop-run.hash_dev (writes_of n c.in_ok-out.out.items) c.write_blocks.new.hash_dev) size
    (subst (λ (ps : List PlacedRecord). Calls does c.loop-run.hash_dev (writes_of c.hash_block-size.result ps) c.write_blocks.new.hash_dev) c.deref.ensures.value c.in_ok-write_blocks.ensures.handed) in
    record {
      writing =
          writing-then s c.args.salt.now (g.D.BlockDev.state c.args.data_dev.now) (g.H.BlockDev.state c.args.hash_dev.now) (g.D.BlockDev.state c.loop-run.data_dev) (g.H.BlockDev.state c.loop-run.hash_dev) c.loop-run.builder here hash'' out part
          done data'' c.take_run.new.builder run;
      growth =
          growth-then asks does s c.args.salt.now c.args.data_dev.now c.args.hash_dev.now c.loop-run.data_dev c.loop-run.hash_dev c.loop-run.builder c.loop-run.invariant.growth c.take_run.new.device c.take_run.new.builder c.in_ok-out.out.items
          c.in_ok-out.ensures.given c.write_blocks.new.hash_dev handed;
    }

pub returns-in_err-root-clause-devices : goal.returns-in_err-root-clause-devices
returns-in_err-root-clause-devices g c =
    record {
      read = c.loop-run.invariant.writing.taken.read.read;
      part = part-taken c.args.shape.now c.args.salt.now (g.D.BlockDev.state c.args.data_dev.now) (g.H.BlockDev.state c.args.hash_dev.now) (g.D.BlockDev.state c.loop-run.data_dev) (g.H.BlockDev.state c.loop-run.hash_dev) c.loop-run.builder c.loop-run.invariant.writing c.hash_block-size.ensures.valid;
    }

pub write_blocks-requires-2 : goal.write_blocks-requires-2
write_blocks-requires-2 g c =
    let s = c.args.shape.now in
    let here = c.loop-run.invariant.writing in
    let valid = c.hash_block-size.ensures.valid in
    let size : c.hash_block-size.result ≡ s.hash_block = c.hash_block-size.ensures.value in
    let hash' = g.H.BlockDev.state c.loop-run.hash_dev in
    let last : c.deref-2.result.now ≡ last_completed c.loop-run.builder = c.deref-2.ensures.value ∙ c.in_ok-root.ensures.out ∙ ap (λ xs. xs ++ last_completed c.loop-run.builder) c.new-out.ensures.items in
    let none : c.loop-run.builder.left ≡ 0 = omega (arith, c.left.ensures, c.loop-run-test.false) in
    let stand = may-stand s valid hash' (omega (arith, c.requires.tree_room, here.part.same.size)) c.hash_block-size.result size
    c.deref-2.result.now (last_completed c.loop-run.builder) last
    (last-all s c.args.salt.now _ _ c.loop-run.builder here.taken valid none) in
    record {
      size = rw size valid.hash_size;
      inside = stand.0;
      allowed = subst IsTrue (sym here.part.same.may_write) c.requires.allowed;
    }

pub returns-in_err-write_blocks-2-clause-devices : goal.returns-in_err-write_blocks-2-clause-devices
returns-in_err-write_blocks-2-clause-devices g c =
    let s = c.args.shape.now in
    let here = c.loop-run.invariant.writing in
    let valid = c.hash_block-size.ensures.valid in
    let size : c.hash_block-size.result ≡ s.hash_block = c.hash_block-size.ensures.value in
    let hash' = g.H.BlockDev.state c.loop-run.hash_dev in
    let last : c.deref-2.result.now ≡ last_completed c.loop-run.builder = c.deref-2.ensures.value ∙ c.in_ok-root.ensures.out ∙ ap (λ xs. xs ++ last_completed c.loop-run.builder) c.new-out.ensures.items in
    let none : c.loop-run.builder.left ≡ 0 = omega (arith, c.left.ensures, c.loop-run-test.false) in
    let stand = may-stand s valid hash' (omega (arith, c.requires.tree_room, here.part.same.size)) c.hash_block-size.result size
    c.deref-2.result.now (last_completed c.loop-run.builder) last
    (last-all s c.args.salt.now _ _ c.loop-run.builder here.taken valid none) in
    let out : List PlacedRecord = c.deref-2.result.now in
    let hash'' = g.H.BlockDev.state c.write_blocks-2.new.hash_dev in
    let part : IsPartWritten s.hash_block s.start (tree_sectors s) (length out) hash' hash'' =
    subst (λ (n : ℕ). IsPartWritten n s.start (tree_sectors s) (length out) hash' hash'') size (c.write_blocks-2.ensures.part s.start (tree_sectors s) stand.1) in
    record {
      read = c.loop-run.invariant.writing.taken.read.read;
      part = part-last s c.args.salt.now (g.D.BlockDev.state c.args.data_dev.now) (g.H.BlockDev.state c.args.hash_dev.now) (g.D.BlockDev.state c.loop-run.data_dev) (g.H.BlockDev.state c.loop-run.hash_dev) c.loop-run.builder c.loop-run.invariant.writing hash'' out part valid none last;
    }

pub returns-clause-devices : goal.returns-clause-devices
returns-clause-devices g c =
    let s = c.args.shape.now in
    let here = c.loop-run.invariant.writing in
    let valid = c.hash_block-size.ensures.valid in
    let size : c.hash_block-size.result ≡ s.hash_block = c.hash_block-size.ensures.value in
    let hash' = g.H.BlockDev.state c.loop-run.hash_dev in
    let last : c.deref-2.result.now ≡ last_completed c.loop-run.builder = c.deref-2.ensures.value ∙ c.in_ok-root.ensures.out ∙ ap (λ xs. xs ++ last_completed c.loop-run.builder) c.new-out.ensures.items in
    let none : c.loop-run.builder.left ≡ 0 = omega (arith, c.left.ensures, c.loop-run-test.false) in
    let stand = may-stand s valid hash' (omega (arith, c.requires.tree_room, here.part.same.size)) c.hash_block-size.result size
    c.deref-2.result.now (last_completed c.loop-run.builder) last
    (last-all s c.args.salt.now _ _ c.loop-run.builder here.taken valid none) in
    let out : List PlacedRecord = c.deref-2.result.now in
    let hash'' = g.H.BlockDev.state c.write_blocks-2.new.hash_dev in
    let part : IsPartWritten s.hash_block s.start (tree_sectors s) (length out) hash' hash'' =
    subst (λ (n : ℕ). IsPartWritten n s.start (tree_sectors s) (length out) hash' hash'') size (c.write_blocks-2.ensures.part s.start (tree_sectors s) stand.1) in
    record {
      read = c.loop-run.invariant.writing.taken.read.read;
      part = part-last s c.args.salt.now (g.D.BlockDev.state c.args.data_dev.now) (g.H.BlockDev.state c.args.hash_dev.now) (g.D.BlockDev.state c.loop-run.data_dev) (g.H.BlockDev.state c.loop-run.hash_dev) c.loop-run.builder c.loop-run.invariant.writing hash'' out part valid none last;
    }

pub returns-clause-written : goal.returns-clause-written
returns-clause-written g c =
    let s = c.args.shape.now in
    let here = c.loop-run.invariant.writing in
    let valid = c.hash_block-size.ensures.valid in
    let size : c.hash_block-size.result ≡ s.hash_block = c.hash_block-size.ensures.value in
    let hash' = g.H.BlockDev.state c.loop-run.hash_dev in
    let last : c.deref-2.result.now ≡ last_completed c.loop-run.builder = c.deref-2.ensures.value ∙ c.in_ok-root.ensures.out ∙ ap (λ xs. xs ++ last_completed c.loop-run.builder) c.new-out.ensures.items in
    let none : c.loop-run.builder.left ≡ 0 = omega (arith, c.left.ensures, c.loop-run-test.false) in
    let stand = may-stand s valid hash' (omega (arith, c.requires.tree_room, here.part.same.size)) c.hash_block-size.result size
    c.deref-2.result.now (last_completed c.loop-run.builder) last
    (last-all s c.args.salt.now _ _ c.loop-run.builder here.taken valid none) in
    let out : List PlacedRecord = c.deref-2.result.now in
    let hash'' = g.H.BlockDev.state c.write_blocks-2.new.hash_dev in
    let part : IsPartWritten s.hash_block s.start (tree_sectors s) (length out) hash' hash'' =
    subst (λ (n : ℕ). IsPartWritten n s.start (tree_sectors s) (length out) hash' hash'') size (c.write_blocks-2.ensures.part s.start (tree_sectors s) stand.1) in
    let done : AreBlocksWritten s.hash_block hash' out hash'' = subst (λ (n : ℕ). AreBlocksWritten n hash' out hash'') size c.in_ok-write_blocks-2.ensures.ok in
    written-all s c.args.salt.now (g.D.BlockDev.state c.args.data_dev.now) (g.H.BlockDev.state c.args.hash_dev.now) (g.D.BlockDev.state c.loop-run.data_dev) (g.H.BlockDev.state c.loop-run.hash_dev) c.loop-run.builder c.loop-run.invariant.writing hash'' out part done valid (g.met.H.BlockDev.whole c.write_blocks-2.new.hash_dev) c.requires.tree_room none last c.in_ok-root.root c.in_ok-root.ensures.root

pub returns-in_err-memory-clause-handed : goal.returns-in_err-memory-clause-handed
returns-in_err-memory-clause-handed g c =
    let result = err_from_is_err_and c.from_residual.result c.from_residual.ensures.1 in
    let asks = DeviceDoes g.D.BlockDev.state g.D.BlockDev.does in
    let does = DeviceDoes g.H.BlockDev.state g.H.BlockDev.does in
    let s = c.args.shape.now in
    rw result.1 (stopped-none asks does s c.args.salt.now c.args.data_dev.now c.args.hash_dev.now)

pub returns-in_err-builder-clause-handed : goal.returns-in_err-builder-clause-handed
returns-in_err-builder-clause-handed g c =
    let result = err_from_is_err_and c.from_residual-in_err-builder.result c.from_residual-in_err-builder.ensures.1 in
    let asks = DeviceDoes g.D.BlockDev.state g.D.BlockDev.does in
    let does = DeviceDoes g.H.BlockDev.state g.H.BlockDev.does in
    let s = c.args.shape.now in
    rw result.1 (stopped-none asks does s c.args.salt.now c.args.data_dev.now c.args.hash_dev.now)

pub returns-in_err-out-clause-handed : goal.returns-in_err-out-clause-handed
returns-in_err-out-clause-handed g c =
    let result = err_from_is_err_and c.from_residual-in_err-out.result c.from_residual-in_err-out.ensures.1 in
    let asks = DeviceDoes g.D.BlockDev.state g.D.BlockDev.does in
    let does = DeviceDoes g.H.BlockDev.state g.H.BlockDev.does in
    let s = c.args.shape.now in
    rw result.1 (stopped-asked asks does s c.args.salt.now c.args.data_dev.now c.args.hash_dev.now c.loop-run.data_dev c.loop-run.hash_dev c.loop-run.builder c.loop-run.invariant.growth c.take_run.new.device c.in_err-out.ensures.given)

pub returns-in_err-write_blocks-clause-handed : goal.returns-in_err-write_blocks-clause-handed
returns-in_err-write_blocks-clause-handed g c =
    let result = err_from_is_err_and c.from_residual-in_err-write_blocks.result c.from_residual-in_err-write_blocks.ensures.1 in
    let asks = DeviceDoes g.D.BlockDev.state g.D.BlockDev.does in
    let does = DeviceDoes g.H.BlockDev.state g.H.BlockDev.does in
    let s = c.args.shape.now in
    let size : c.hash_block-size.result ≡ s.hash_block = c.hash_block-size.ensures.value in
    let some : HandsSome does s.hash_block c.in_ok-out.out.items c.loop-run.hash_dev c.write_blocks.new.hash_dev =
    subst (λ (n : ℕ). HandsSome does n c.in_ok-out.out.items c.loop-run.hash_dev c.write_blocks.new.hash_dev) size
    (subst (λ (ps : List PlacedRecord). HandsSome does c.hash_block-size.result ps c.loop-run.hash_dev c.write_blocks.new.hash_dev) c.deref.ensures.value c.in_err-write_blocks.ensures.handed) in
    rw result.1 (stopped-run asks does s c.args.salt.now c.args.data_dev.now c.args.hash_dev.now c.loop-run.data_dev c.loop-run.hash_dev c.loop-run.builder c.loop-run.invariant.growth c.take_run.new.device c.take_run.new.builder c.in_ok-out.out.items c.in_ok-out.ensures.given c.write_blocks.new.hash_dev some)

-- room for the last blocks was refused
pub returns-in_err-root-clause-fault : goal.returns-in_err-root-clause-fault
returns-in_err-root-clause-fault g c =
    let p = err_from_is_err_and c.from_residual-in_err-root.result c.from_residual-in_err-root.ensures.1 in
    let here = c.loop-run.invariant.writing in
    rw (p.1, p.2)
    (here.taken.read.failures, here.done.failures, refused-taken c.args.shape.now c.args.salt.now _ _ c.loop-run.builder here.taken c.hash_block-size.ensures.valid c.in_err-root.ensures.err)

pub returns-in_err-root-clause-handed : goal.returns-in_err-root-clause-handed
returns-in_err-root-clause-handed g c =
    let result = err_from_is_err_and c.from_residual-in_err-root.result c.from_residual-in_err-root.ensures.1 in
    let asks = DeviceDoes g.D.BlockDev.state g.D.BlockDev.does in
    let does = DeviceDoes g.H.BlockDev.state g.H.BlockDev.does in
    let s = c.args.shape.now in
    rw result.1 (stopped-asked asks does s c.args.salt.now c.args.data_dev.now c.args.hash_dev.now c.loop-run.data_dev c.loop-run.hash_dev c.loop-run.builder c.loop-run.invariant.growth c.loop-run.data_dev (record { calls = []; reads = tt; few = omega arith; made = refl }))

pub returns-in_err-write_blocks-2-clause-handed : goal.returns-in_err-write_blocks-2-clause-handed
returns-in_err-write_blocks-2-clause-handed g c =
    let result = err_from_is_err_and c.from_residual-in_err-write_blocks-2.result c.from_residual-in_err-write_blocks-2.ensures.1 in
    let asks = DeviceDoes g.D.BlockDev.state g.D.BlockDev.does in
    let does = DeviceDoes g.H.BlockDev.state g.H.BlockDev.does in
    let s = c.args.shape.now in
    let size : c.hash_block-size.result ≡ s.hash_block = c.hash_block-size.ensures.value in
    let last : c.deref-2.result.now ≡ last_completed c.loop-run.builder = c.deref-2.ensures.value ∙ c.in_ok-root.ensures.out ∙ ap (λ xs. xs ++ last_completed c.loop-run.builder) c.new-out.ensures.items in
    let none : c.loop-run.builder.left ≡ 0 = omega (arith, c.left.ensures, c.loop-run-test.false) in
    let some : HandsSome does s.hash_block c.deref-2.result.now c.loop-run.hash_dev c.write_blocks-2.new.hash_dev =
    subst (λ (n : ℕ). HandsSome does n c.deref-2.result.now c.loop-run.hash_dev c.write_blocks-2.new.hash_dev) size c.in_err-write_blocks-2.ensures.handed in
    rw result.1 (stopped-last asks does s c.args.salt.now c.args.data_dev.now c.args.hash_dev.now c.loop-run.data_dev c.loop-run.hash_dev c.loop-run.builder c.loop-run.invariant.growth none c.deref-2.result.now last c.write_blocks-2.new.hash_dev some)

pub returns-clause-handed : goal.returns-clause-handed
returns-clause-handed g c =
    let asks = DeviceDoes g.D.BlockDev.state g.D.BlockDev.does in
    let does = DeviceDoes g.H.BlockDev.state g.H.BlockDev.does in
    let s = c.args.shape.now in
    let size : c.hash_block-size.result ≡ s.hash_block = c.hash_block-size.ensures.value in
    let last : c.deref-2.result.now ≡ last_completed c.loop-run.builder = c.deref-2.ensures.value ∙ c.in_ok-root.ensures.out ∙ ap (λ xs. xs ++ last_completed c.loop-run.builder) c.new-out.ensures.items in
    let none : c.loop-run.builder.left ≡ 0 = omega (arith, c.left.ensures, c.loop-run-test.false) in
    let handed : Calls does c.loop-run.hash_dev (writes_of s.hash_block c.deref-2.result.now) c.write_blocks-2.new.hash_dev =
    subst (λ (n : ℕ). Calls does c.loop-run.hash_dev (writes_of n c.deref-2.result.now) c.write_blocks-2.new.hash_dev) size c.in_ok-write_blocks-2.ensures.handed in
    tree-all asks does s c.args.salt.now c.args.data_dev.now c.args.hash_dev.now c.loop-run.data_dev c.loop-run.hash_dev c.loop-run.builder c.loop-run.invariant.growth none c.deref-2.result.now last c.write_blocks-2.new.hash_dev handed c.in_ok-root.root c.in_ok-root.ensures.root
