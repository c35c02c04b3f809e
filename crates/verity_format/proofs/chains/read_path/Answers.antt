use Rattle.std.proofs.Common.{◌≡◌, ◌+◌, ◌-◌, ◌*◌, ◌/◌, ◌∙◌, ℕ, true, false, List, Vec, Global, ◌++◌, [], arith, length, map, take, get_or, refl, sym, ap, subst}
use Rattle.std.specs.Vec.{with_items}
use Rattle.std.proofs.lemmas.List.{with_items_is, take_all, append-nil}
use Rattle.std.proofs.lemmas.List.Elements.{All-set}
use Rattle.std.proofs.lemmas.Result.{err_from_is_err_and}
use Rattle.std.proofs.Math.Nat.{zero-mul}
use Rattle.block_device.specs.Call.{Calls, DeviceDoes, Read}
use Rattle.tree_shape.specs.Shape.{position, ancestor, area_end, levels}
use Rattle.verity_format.specs.Blocks.{block_at, IsFullRead}
use Rattle.verity_format.specs.Chain.{stored_path}
use Rattle.verity_format.specs.ChainCalls.{path_read, path_reads}
use Rattle.verity_format.proofs.lemmas.DeviceLemmas.{only_read-none, only_read-then, full_read-none, full_read-then, steady-then}
use Rattle.verity_format.proofs.BlockLemmas.{path-more}
use Rattle.verity_format.proofs.ChainCallLemmas.{path-reads-more, path-reads-part}
use Rattle.verity_format.proofs.lemmas.SizeLemmas.{block-size, block-inside}
use Rattle.verity_format.proofs.chains.read_path.Goals as goal

-- the block's memory has the size of a hash block
memory-size : (v : Vec ℕ Global) (size n : ℕ) → length v.items ≡ size → n ≡ v.len → n ≡ size
memory-size v size n sized long = long ∙ v.ok.0 ∙ sized

pub loop-i-init : goal.loop-i-init
loop-i-init g c =
    let shape = c.args.shape.now in
    let device = g.H.BlockDev.state c.args.hash_dev.now in
    record {
      read = only_read-none device;
      full = subst (λ (n : ℕ). IsFullRead device n device) (sym (zero-mul (shape.hash_block / 512))) (full_read-none device);
      calls = refl;
      left = omega (arith, c.levels-level.ensures.value);
      sized = c.requires.sized;
      so_far = λ steady. ap (λ (n : ℕ). stored_path shape device.image n c.args.index) c.levels-level.ensures.value;
    }

pub read_block-requires : goal.read_block-requires
read_block-requires g c =
    let size = memory-size (get_or c.loop-i.path c.loop-i.i c.index-path-i.result) c.args.shape.now.hash_block (length c.deref_mut.result.now) (c.loop-i.invariant.sized c.loop-i.i c.index-path-i.result (omega arith)) c.deref_mut.ensures.len in
    let block = block-size c.args.shape.now.hash_block c.requires.valid.hash_size in
    let room = block-inside c.position-place.result (area_end c.args.shape.now) (c.args.shape.now.hash_block / 512) c.position-place.ensures.inside in
    record {
      some = omega (arith, size, block.some);
      whole = rw size block.whole;
      inside = rw size (omega (arith, room, c.requires.fits, c.loop-i.invariant.read.same.size));
      few = rw size (omega (arith, room, c.requires.valid.tree_fits));
    }

pub loop-i-preserved : goal.loop-i-preserved
loop-i-preserved g c =
    let shape = c.args.shape.now in
    let image = (g.H.BlockDev.state c.args.hash_dev.now).image in
    let i = c.loop-i.i in
    let old : Vec ℕ Global = get_or c.loop-i.path i c.index-path-i.result in
    let sized = c.loop-i.invariant.sized i c.index-path-i.result (omega arith) in
    let size : length c.deref_mut.result.now ≡ shape.hash_block = memory-size old shape.hash_block (length c.deref_mut.result.now) sized c.deref_mut.ensures.len in
    let long : length c.read_block.new.block ≡ old.len = c.read_block.auto.block ∙ size ∙ sym sized ∙ sym old.ok.0 in
    record {
      read = only_read-then c.loop-i.invariant.read c.read_block.ensures.read;
      full =
          full_read-then _ _ _ c.loop-i.invariant.full
          (subst (λ (n : ℕ). IsFullRead (g.H.BlockDev.state c.loop-i.hash_dev) (n / 512) (g.H.BlockDev.state c.read_block.new.device)) size c.in_ok-read_block.ensures.ok.full)
          (let e : i * (shape.hash_block / 512) + shape.hash_block / 512 ≡ (i + 1) * (shape.hash_block / 512) = grind arith in e);
      calls =
          let does = DeviceDoes g.H.BlockDev.state g.H.BlockDev.does in
          let block = c.read_block.new.block in
          let place : c.position-place.result ≡ position shape (c.loop-i.level - 1) (ancestor shape (c.loop-i.level - 1 + 1) c.args.index) =
          c.position-place.ensures.value ∙ ap (position shape (c.loop-i.level - 1)) c.block_on_path.ensures.value in
          path-reads-more does shape c.args.index c.loop-i.level i c.loop-i.path c.args.hash_dev.now c.loop-i.hash_dev c.read_block.new.device (omega arith) c.loop-i.invariant.left c.loop-i.invariant.calls old block long
          (subst (λ (n : ℕ). does c.loop-i.hash_dev (Read (n * (shape.hash_block / 512)) block true) c.read_block.new.device) place
          (subst (λ (n : ℕ). does c.loop-i.hash_dev (Read (c.position-place.result * (n / 512)) block true) c.read_block.new.device) size c.in_ok-read_block.ensures.call));
      left = omega (arith, c.loop-i.invariant.left);
      sized = All-set (λ (b : Vec ℕ Global). length b.items ≡ shape.hash_block) c.loop-i.path i (with_items old c.read_block.new.block) (ap length (with_items_is old c.read_block.new.block long) ∙ c.read_block.auto.block ∙ size) c.loop-i.invariant.sized;
      so_far = λ steady.
          let here : c.read_block.new.block ≡ block_at image shape.hash_block (position shape (c.loop-i.level - 1) (ancestor shape (c.loop-i.level - 1 + 1) c.args.index)) =
          c.in_ok-read_block.ensures.ok.bytes (steady-then c.loop-i.invariant.read.same steady)
          ∙ ap (λ im. block_at im (length c.deref_mut.result.now) c.position-place.result) (c.loop-i.invariant.read.image steady)
          ∙ ap (λ n. block_at image n c.position-place.result) size
          ∙ ap (block_at image shape.hash_block) (c.position-place.ensures.value ∙ ap (position shape (c.loop-i.level - 1)) c.block_on_path.ensures.value) in
          path-more shape image c.loop-i.level c.args.index i c.loop-i.path old c.read_block.new.block _ (omega arith) long (omega (arith, c.loop-i.invariant.left, c.requires.count)) here (c.loop-i.invariant.so_far steady);
    }

pub returns-clause-ok : goal.returns-clause-ok
returns-clause-ok g c =
    let shape = c.args.shape.now in
    let image = (g.H.BlockDev.state c.args.hash_dev.now).image in
    let low : c.loop-i.level ≡ 0 = omega (arith, c.loop-i.invariant.left, c.requires.count, c.loop-i.auto.path) in
    let all : take c.loop-i.i c.loop-i.path ≡ c.loop-i.path = take_all c.loop-i.i c.loop-i.path (omega (arith, c.loop-i.auto.path)) in
    let count : c.loop-i.i ≡ levels shape = omega (arith, c.loop-i.invariant.left, low) in
    record {
      path = λ steady.
          sym (append-nil (map (λ b. b.items) c.loop-i.path))
          ∙ ap (λ xs. map (λ b. b.items) xs ++ []) (sym all)
          ∙ ap (λ n. map (λ b. b.items) (take c.loop-i.i c.loop-i.path) ++ stored_path shape image n c.args.index) (sym low)
          ∙ c.loop-i.invariant.so_far steady;
      full = subst (λ (n : ℕ). IsFullRead (g.H.BlockDev.state c.args.hash_dev.now) (n * (shape.hash_block / 512)) (g.H.BlockDev.state c.loop-i.hash_dev)) count c.loop-i.invariant.full;
    }

pub returns-clause-calls : goal.returns-clause-calls
returns-clause-calls g c =
    let shape = c.args.shape.now in
    let all : take c.loop-i.i c.loop-i.path ≡ c.loop-i.path = take_all c.loop-i.i c.loop-i.path (omega (arith, c.loop-i.auto.path)) in
    subst (λ (xs : List (Vec ℕ Global)). Calls (DeviceDoes g.H.BlockDev.state g.H.BlockDev.does) c.args.hash_dev.now (path_reads shape c.args.index (levels shape) (map (λ b. b.items) xs)) c.loop-i.hash_dev) all c.loop-i.invariant.calls

-- the read of a block failed
pub returns-in_err-read_block-clause-calls : goal.returns-in_err-read_block-clause-calls
returns-in_err-read_block-clause-calls g c =
    let p = err_from_is_err_and c.from_residual.result c.from_residual.ensures.1 in
    let shape = c.args.shape.now in
    let does = DeviceDoes g.H.BlockDev.state g.H.BlockDev.does in
    let block = c.read_block.new.block in
    let size = memory-size (get_or c.loop-i.path c.loop-i.i c.index-path-i.result) shape.hash_block (length c.deref_mut.result.now) (c.loop-i.invariant.sized c.loop-i.i c.index-path-i.result (omega arith)) c.deref_mut.ensures.len in
    let place : c.position-place.result ≡ position shape (c.loop-i.level - 1) (ancestor shape (c.loop-i.level - 1 + 1) c.args.index) =
    c.position-place.ensures.value ∙ ap (position shape (c.loop-i.level - 1)) c.block_on_path.ensures.value in
    rw p.1
    (path-reads-part does shape c.args.index c.loop-i.level c.loop-i.i c.loop-i.path c.args.hash_dev.now c.loop-i.hash_dev c.read_block.new.device (omega arith) c.loop-i.invariant.left c.loop-i.invariant.calls block
    (omega (arith, c.loop-i.invariant.left, c.requires.count, c.loop-i.auto.path))
    (subst (λ (n : ℕ). does c.loop-i.hash_dev (Read (n * (shape.hash_block / 512)) block false) c.read_block.new.device) place
    (subst (λ (n : ℕ). does c.loop-i.hash_dev (Read (c.position-place.result * (n / 512)) block false) c.read_block.new.device) size c.in_err-read_block.ensures.call)))
