use Rattle.std.proofs.Common.{◌≡◌, ◌++◌, ◌∙◌, [], ℕ, List, None, refl, sym, ap, subst, arith, length, rules}
use Rattle.std.proofs.lemmas.List.{length-replicate}
use Rattle.std.proofs.lemmas.Result.{err_from_is_err_and}
use Rattle.block_device.specs.Call.{DeviceDoes}
use Rattle.hash_tree.specs.Building.{PlacedRecord, BuilderRecord, pushed, last_completed}
use Rattle.hash_tree.proofs.lemmas.BuilderLemmas.{left-pushed}
use Rattle.verity_format.specs.ComparedCalls.{ComparesAll, ComparesGrowth, ComparesSome}
use Rattle.verity_format.specs.Growth.{IsRunTaken}
use Rattle.verity_format.specs.Comparing.{IsComparing}
use Rattle.verity_format.proofs.ComparedLemmas.{compared-asked, compared-last, compared-nothing, compared-run, compared-whole, compares-begun, compares-then}
use Rattle.verity_format.proofs.ComparingLemmas.{lies-on, comparing-none, comparing-then, compared-all}
use Rattle.verity_format.proofs.lemmas.DeviceLemmas.{only_read-then}
use Rattle.verity_format.proofs.lemmas.SizeLemmas.{block-size}
use Rattle.verity_format.proofs.GrowthLemmas.{left-taken, ready-taken, refused-taken, size-taken, out-inside, last-all}
use Rattle.verity_format.proofs.comparing.compare_tree.Goals as goal

-- room for a block was refused
pub returns-in_err-block_memory-clause-fault : goal.returns-in_err-block_memory-clause-fault
returns-in_err-block_memory-clause-fault g c =
    let p = err_from_is_err_and c.from_residual-in_err-block_memory.result c.from_residual-in_err-block_memory.ensures.1 in
    let block = block-size c.args.shape.now.hash_block c.hash_block.ensures.valid.hash_size in
    let e = c.in_err-block_memory.field-0.0 in
    rw (p.1, p.2) (refl, refl, (e.asked, omega (arith, c.in_err-block_memory.ensures.err.0, c.hash_block.ensures.value, block.most_bytes), e.refused))

-- room for the last blocks was refused
pub returns-in_err-root-clause-fault : goal.returns-in_err-root-clause-fault
returns-in_err-root-clause-fault g c =
    let p = err_from_is_err_and c.from_residual-in_err-root.result c.from_residual-in_err-root.ensures.1 in
    let here = c.loop-run.invariant.comparing in
    rw (p.1, p.2)
    (here.taken.read.failures, here.read.failures, refused-taken c.args.shape.now c.args.salt.now _ _ c.loop-run.builder here.taken c.hash_block.ensures.valid c.in_err-root.ensures.err)

pub loop-run-init : goal.loop-run-init
loop-run-init g c =
    let s = c.args.shape.now in
    let data_dev = g.D.BlockDev.state c.args.data_dev.now in
    let hash_dev = g.H.BlockDev.state c.args.hash_dev.now in
    let asks = DeviceDoes g.D.BlockDev.state g.D.BlockDev.does in
    let does = DeviceDoes g.H.BlockDev.state g.H.BlockDev.does in
    record {
      comparing = subst (λ (b : BuilderRecord). IsComparing s c.args.salt.now data_dev hash_dev data_dev hash_dev b None) (sym c.in_ok-builder.ensures.value) (comparing-none s c.args.salt.now data_dev hash_dev);
      growth =
          subst (λ (b : BuilderRecord). ComparesGrowth asks does s c.args.salt.now c.args.data_dev.now c.args.hash_dev.now c.args.data_dev.now c.args.hash_dev.now b None) (sym c.in_ok-builder.ensures.value)
          (compares-begun asks does s c.args.salt.now c.args.data_dev.now c.args.hash_dev.now);
    }

pub take_run-requires : goal.take_run-requires
take_run-requires g c =
    let taken = c.loop-run.invariant.comparing.taken in
    let left = left-taken c.args.shape.now c.args.salt.now _ _ c.loop-run.builder taken in
    record {
      ready = ready-taken c.args.shape.now c.args.salt.now _ _ c.loop-run.builder taken;
      left = (omega (arith, c.left.ensures, c.loop-run-test.true), omega (arith, left));
      size = size-taken c.args.shape.now c.args.salt.now _ _ c.loop-run.builder taken;
      run = (search rules, search rules);
      room = search rules;
    }

pub compare_blocks-requires : goal.compare_blocks-requires
compare_blocks-requires g c =
    let s = c.args.shape.now in
    let here = c.loop-run.invariant.comparing in
    let size : length c.loop-run.block ≡ s.hash_block =
    c.loop-run.auto.block ∙ ap length (c.as_mut_slice-block.ensures.value ∙ c.in_ok-block_memory.ensures.ok) ∙ length-replicate {A = ℕ} c.hash_block.result 0 ∙ c.hash_block.ensures.value in
    record {
      size = rw size c.hash_block.ensures.valid.hash_size;
      inside = lies-on s c.hash_block.ensures.valid (g.H.BlockDev.state c.loop-run.hash_dev) (omega (arith, c.requires.tree_room, here.read.read.same.size)) (length c.loop-run.block) size
          c.deref.result.now c.in_ok-out.out.items c.deref.ensures.value
          (out-inside s c.args.salt.now _ _ c.loop-run.builder here.taken _ _ c.in_ok-out.out.items c.in_ok-out.ensures.taken c.hash_block.ensures.valid);
    }

pub loop-run-smaller : goal.loop-run-smaller
loop-run-smaller g c =
    let run = c.in_ok-out.ensures.taken in
    let left : c.take_run.new.builder.left ≡ (pushed c.loop-run.builder run.digests).left = ap (λ (b : BuilderRecord). b.left) run.after in
    omega (arith, left, left-pushed c.loop-run.builder run.digests, run.some, run.few)

pub loop-run-preserved : goal.loop-run-preserved
loop-run-preserved g c =
    let s = c.args.shape.now in
    let here = c.loop-run.invariant.comparing in
    let size : length c.loop-run.block ≡ s.hash_block =
    c.loop-run.auto.block ∙ ap length (c.as_mut_slice-block.ensures.value ∙ c.in_ok-block_memory.ensures.ok) ∙ length-replicate {A = ℕ} c.hash_block.result 0 ∙ c.hash_block.ensures.value in
    let data' = g.D.BlockDev.state c.loop-run.data_dev in
    let data'' = g.D.BlockDev.state c.take_run.new.device in
    let asks = DeviceDoes g.D.BlockDev.state g.D.BlockDev.does in
    let does = DeviceDoes g.H.BlockDev.state g.H.BlockDev.does in
    let done : ComparesAll does s.hash_block c.in_ok-out.out.items c.loop-run.least c.in_ok-least.least c.loop-run.hash_dev c.compare_blocks.new.hash_dev =
    subst (λ (n : ℕ). ComparesAll does n c.in_ok-out.out.items c.loop-run.least c.in_ok-least.least c.loop-run.hash_dev c.compare_blocks.new.hash_dev) size
    (subst (λ (ps : List PlacedRecord). ComparesAll does (length c.loop-run.block) ps c.loop-run.least c.in_ok-least.least c.loop-run.hash_dev c.compare_blocks.new.hash_dev) c.deref.ensures.value c.in_ok-least.ensures.calls) in
    record {
      comparing =
          comparing-then s c.args.salt.now (g.D.BlockDev.state c.args.data_dev.now) (g.H.BlockDev.state c.args.hash_dev.now) data' (g.H.BlockDev.state c.loop-run.hash_dev) c.loop-run.builder c.loop-run.least here
          (g.H.BlockDev.state c.compare_blocks.new.hash_dev) (length c.loop-run.block) size c.deref.result.now c.in_ok-least.least c.in_ok-least.ensures.ok.full c.in_ok-least.ensures.ok.least data'' c.take_run.new.builder
          (subst (λ (ps : List PlacedRecord). IsRunTaken s c.args.salt.now data' data'' c.loop-run.builder c.take_run.new.builder ps) (sym c.deref.ensures.value) c.in_ok-out.ensures.taken);
      growth =
          compares-then asks does s c.args.salt.now c.args.data_dev.now c.args.hash_dev.now c.loop-run.data_dev c.loop-run.hash_dev c.loop-run.builder c.loop-run.least c.loop-run.invariant.growth c.take_run.new.device
          c.take_run.new.builder c.in_ok-out.out.items c.in_ok-out.ensures.given c.compare_blocks.new.hash_dev c.in_ok-least.least done;
    }

pub compare_blocks-requires-2 : goal.compare_blocks-requires-2
compare_blocks-requires-2 g c =
    let s = c.args.shape.now in
    let here = c.loop-run.invariant.comparing in
    let size : length c.loop-run.block ≡ s.hash_block =
    c.loop-run.auto.block ∙ ap length (c.as_mut_slice-block.ensures.value ∙ c.in_ok-block_memory.ensures.ok) ∙ length-replicate {A = ℕ} c.hash_block.result 0 ∙ c.hash_block.ensures.value in
    let last : c.deref-2.result.now ≡ last_completed c.loop-run.builder = c.deref-2.ensures.value ∙ c.in_ok-root.ensures.out ∙ ap (λ xs. xs ++ last_completed c.loop-run.builder) c.new-out.ensures.items in
    record {
      size = rw size c.hash_block.ensures.valid.hash_size;
      inside = lies-on s c.hash_block.ensures.valid (g.H.BlockDev.state c.loop-run.hash_dev) (omega (arith, c.requires.tree_room, here.read.read.same.size)) (length c.loop-run.block) size
          c.deref-2.result.now (last_completed c.loop-run.builder) last
          (last-all s c.args.salt.now _ _ c.loop-run.builder here.taken c.hash_block.ensures.valid (omega (arith, c.left.ensures, c.loop-run-test.false)));
    }

pub returns-clause-compared : goal.returns-clause-compared
returns-clause-compared g c =
    let s = c.args.shape.now in
    let here = c.loop-run.invariant.comparing in
    let size : length c.loop-run.block ≡ s.hash_block =
    c.loop-run.auto.block ∙ ap length (c.as_mut_slice-block.ensures.value ∙ c.in_ok-block_memory.ensures.ok) ∙ length-replicate {A = ℕ} c.hash_block.result 0 ∙ c.hash_block.ensures.value in
    let last : c.deref-2.result.now ≡ last_completed c.loop-run.builder = c.deref-2.ensures.value ∙ c.in_ok-root.ensures.out ∙ ap (λ xs. xs ++ last_completed c.loop-run.builder) c.new-out.ensures.items in
    compared-all s c.args.salt.now (g.D.BlockDev.state c.args.data_dev.now) (g.H.BlockDev.state c.args.hash_dev.now) (g.D.BlockDev.state c.loop-run.data_dev) (g.H.BlockDev.state c.loop-run.hash_dev) c.loop-run.builder c.loop-run.least here
    (g.H.BlockDev.state c.compare_blocks-2.new.hash_dev) (length c.loop-run.block) size c.deref-2.result.now c.in_ok-least-2.least c.in_ok-least-2.ensures.ok.full c.in_ok-least-2.ensures.ok.least
    c.hash_block.ensures.valid (omega (arith, c.left.ensures, c.loop-run-test.false)) last c.in_ok-root.root c.in_ok-root.ensures.root

pub returns-in_err-least-clause-read : goal.returns-in_err-least-clause-read
returns-in_err-least-clause-read g c = record {
  data_read = only_read-then c.loop-run.invariant.comparing.taken.read.read c.take_run.ensures.read;
  hash_read = only_read-then c.loop-run.invariant.comparing.read.read c.compare_blocks.ensures.read;
}

pub returns-in_err-memory-clause-calls : goal.returns-in_err-memory-clause-calls
returns-in_err-memory-clause-calls g c =
    let result = err_from_is_err_and c.from_residual.result c.from_residual.ensures.1 in
    let asks = DeviceDoes g.D.BlockDev.state g.D.BlockDev.does in
    let does = DeviceDoes g.H.BlockDev.state g.H.BlockDev.does in
    let s = c.args.shape.now in
    rw result.1 (compared-nothing asks does s c.args.salt.now c.args.data_dev.now c.args.hash_dev.now)

pub returns-in_err-block_memory-clause-calls : goal.returns-in_err-block_memory-clause-calls
returns-in_err-block_memory-clause-calls g c =
    let result = err_from_is_err_and c.from_residual-in_err-block_memory.result c.from_residual-in_err-block_memory.ensures.1 in
    let asks = DeviceDoes g.D.BlockDev.state g.D.BlockDev.does in
    let does = DeviceDoes g.H.BlockDev.state g.H.BlockDev.does in
    let s = c.args.shape.now in
    rw result.1 (compared-nothing asks does s c.args.salt.now c.args.data_dev.now c.args.hash_dev.now)

pub returns-in_err-builder-clause-calls : goal.returns-in_err-builder-clause-calls
returns-in_err-builder-clause-calls g c =
    let result = err_from_is_err_and c.from_residual-in_err-builder.result c.from_residual-in_err-builder.ensures.1 in
    let asks = DeviceDoes g.D.BlockDev.state g.D.BlockDev.does in
    let does = DeviceDoes g.H.BlockDev.state g.H.BlockDev.does in
    let s = c.args.shape.now in
    rw result.1 (compared-nothing asks does s c.args.salt.now c.args.data_dev.now c.args.hash_dev.now)

pub returns-in_err-out-clause-calls : goal.returns-in_err-out-clause-calls
returns-in_err-out-clause-calls g c =
    let result = err_from_is_err_and c.from_residual-in_err-out.result c.from_residual-in_err-out.ensures.1 in
    let asks = DeviceDoes g.D.BlockDev.state g.D.BlockDev.does in
    let does = DeviceDoes g.H.BlockDev.state g.H.BlockDev.does in
    let s = c.args.shape.now in
    rw result.1 (compared-asked asks does s c.args.salt.now c.args.data_dev.now c.args.hash_dev.now c.loop-run.data_dev c.loop-run.hash_dev c.loop-run.builder c.loop-run.least c.loop-run.invariant.growth c.take_run.new.device c.in_err-out.ensures.given)

pub returns-in_err-least-clause-calls : goal.returns-in_err-least-clause-calls
returns-in_err-least-clause-calls g c =
    let result = err_from_is_err_and c.from_residual-in_err-least.result c.from_residual-in_err-least.ensures.1 in
    let asks = DeviceDoes g.D.BlockDev.state g.D.BlockDev.does in
    let does = DeviceDoes g.H.BlockDev.state g.H.BlockDev.does in
    let s = c.args.shape.now in
    let size : length c.loop-run.block ≡ s.hash_block =
    c.loop-run.auto.block ∙ ap length (c.as_mut_slice-block.ensures.value ∙ c.in_ok-block_memory.ensures.ok) ∙ length-replicate {A = ℕ} c.hash_block.result 0 ∙ c.hash_block.ensures.value in
    let some : ComparesSome does s.hash_block c.in_ok-out.out.items c.loop-run.hash_dev c.compare_blocks.new.hash_dev =
    subst (λ (n : ℕ). ComparesSome does n c.in_ok-out.out.items c.loop-run.hash_dev c.compare_blocks.new.hash_dev) size
    (subst (λ (ps : List PlacedRecord). ComparesSome does (length c.loop-run.block) ps c.loop-run.hash_dev c.compare_blocks.new.hash_dev) c.deref.ensures.value c.in_err-least.ensures.calls) in
    rw result.1 (compared-run asks does s c.args.salt.now c.args.data_dev.now c.args.hash_dev.now c.loop-run.data_dev c.loop-run.hash_dev c.loop-run.builder c.loop-run.least c.loop-run.invariant.growth c.take_run.new.device c.take_run.new.builder c.in_ok-out.out.items c.in_ok-out.ensures.given c.compare_blocks.new.hash_dev some)

pub returns-in_err-root-clause-calls : goal.returns-in_err-root-clause-calls
returns-in_err-root-clause-calls g c =
    let result = err_from_is_err_and c.from_residual-in_err-root.result c.from_residual-in_err-root.ensures.1 in
    let asks = DeviceDoes g.D.BlockDev.state g.D.BlockDev.does in
    let does = DeviceDoes g.H.BlockDev.state g.H.BlockDev.does in
    let s = c.args.shape.now in
    rw result.1 (compared-asked asks does s c.args.salt.now c.args.data_dev.now c.args.hash_dev.now c.loop-run.data_dev c.loop-run.hash_dev c.loop-run.builder c.loop-run.least c.loop-run.invariant.growth c.loop-run.data_dev (record { calls = []; reads = tt; few = omega arith; made = refl }))

pub returns-in_err-least-2-clause-calls : goal.returns-in_err-least-2-clause-calls
returns-in_err-least-2-clause-calls g c =
    let result = err_from_is_err_and c.from_residual-in_err-least-2.result c.from_residual-in_err-least-2.ensures.1 in
    let asks = DeviceDoes g.D.BlockDev.state g.D.BlockDev.does in
    let does = DeviceDoes g.H.BlockDev.state g.H.BlockDev.does in
    let s = c.args.shape.now in
    let size : length c.loop-run.block ≡ s.hash_block =
    c.loop-run.auto.block ∙ ap length (c.as_mut_slice-block.ensures.value ∙ c.in_ok-block_memory.ensures.ok) ∙ length-replicate {A = ℕ} c.hash_block.result 0 ∙ c.hash_block.ensures.value in
    let last : c.deref-2.result.now ≡ last_completed c.loop-run.builder = c.deref-2.ensures.value ∙ c.in_ok-root.ensures.out ∙ ap (λ xs. xs ++ last_completed c.loop-run.builder) c.new-out.ensures.items in
    let none : c.loop-run.builder.left ≡ 0 = omega (arith, c.left.ensures, c.loop-run-test.false) in
    let some : ComparesSome does s.hash_block c.deref-2.result.now c.loop-run.hash_dev c.compare_blocks-2.new.hash_dev =
    subst (λ (n : ℕ). ComparesSome does n c.deref-2.result.now c.loop-run.hash_dev c.compare_blocks-2.new.hash_dev) size c.in_err-least-2.ensures.calls in
    rw result.1 (compared-last asks does s c.args.salt.now c.args.data_dev.now c.args.hash_dev.now c.loop-run.data_dev c.loop-run.hash_dev c.loop-run.builder c.loop-run.least c.loop-run.invariant.growth none c.deref-2.result.now last c.compare_blocks-2.new.hash_dev some)

pub returns-clause-calls : goal.returns-clause-calls
returns-clause-calls g c =
    let asks = DeviceDoes g.D.BlockDev.state g.D.BlockDev.does in
    let does = DeviceDoes g.H.BlockDev.state g.H.BlockDev.does in
    let s = c.args.shape.now in
    let size : length c.loop-run.block ≡ s.hash_block =
    c.loop-run.auto.block ∙ ap length (c.as_mut_slice-block.ensures.value ∙ c.in_ok-block_memory.ensures.ok) ∙ length-replicate {A = ℕ} c.hash_block.result 0 ∙ c.hash_block.ensures.value in
    let last : c.deref-2.result.now ≡ last_completed c.loop-run.builder = c.deref-2.ensures.value ∙ c.in_ok-root.ensures.out ∙ ap (λ xs. xs ++ last_completed c.loop-run.builder) c.new-out.ensures.items in
    let none : c.loop-run.builder.left ≡ 0 = omega (arith, c.left.ensures, c.loop-run-test.false) in
    let done : ComparesAll does s.hash_block c.deref-2.result.now c.loop-run.least c.in_ok-least-2.least c.loop-run.hash_dev c.compare_blocks-2.new.hash_dev =
    subst (λ (n : ℕ). ComparesAll does n c.deref-2.result.now c.loop-run.least c.in_ok-least-2.least c.loop-run.hash_dev c.compare_blocks-2.new.hash_dev) size c.in_ok-least-2.ensures.calls in
    compared-whole asks does s c.args.salt.now c.args.data_dev.now c.args.hash_dev.now c.loop-run.data_dev c.loop-run.hash_dev c.loop-run.builder c.loop-run.least c.loop-run.invariant.growth none c.deref-2.result.now last c.compare_blocks-2.new.hash_dev c.in_ok-least-2.least done c.in_ok-root.root c.in_ok-root.ensures.root
