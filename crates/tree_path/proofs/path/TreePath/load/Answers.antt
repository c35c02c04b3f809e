use Rattle.std.proofs.Common.{◌≡◌, ◌≢◌, ◌<◌, ◌+◌, ◌*◌, ◌/◌, ℕ, List, Vec, Global, arith, ap, refl, sym, subst, ◌∙◌, [], length, get_or, get_or-set_same, get_or-set_other}
use Rattle.std.specs.Prelude.{is_ok, slice_set}
use Rattle.std.specs.Str.{bytes_eq}
use Rattle.std.specs.Vec.{with_items}
use Rattle.std.proofs.lemmas.Result.{err_from_is_err_and}
use Rattle.std.proofs.lemmas.List.{length-map, with_items_is}
use Rattle.block_device.specs.Call.{DeviceDoes}
use Rattle.tree_shape.specs.Digests.{digest}
use Rattle.tree_shape.specs.Shape.{ancestor, position, area_end}
use Rattle.tree_shape.proofs.lemmas.ShapeFactLemmas.{levels-few}
use Rattle.verity_format.specs.Blocks.{IsBlockRead}
use Rattle.tree_path.specs.Path.{IsPath, PathRecord, digest_on}
use Rattle.tree_path.specs.Seen.{seen_path}
use Rattle.tree_path.proofs.MemoryLemmas.{bytes_of, path-put, put-is, read-sized}
use Rattle.verity_format.proofs.lemmas.SizeLemmas.{block-size, block-inside}
use Rattle.tree_path.proofs.lemmas.PathLemmas.{digest_on-same}
use Rattle.tree_path.proofs.lemmas.ReadCallLemmas.{reads-one}
use Rattle.tree_path.proofs.path.TreePath.load.Goals as goal

pub read_block-requires : goal.read_block-requires
read_block-requires g c =
    let s = c.self.inside.shape in
    let blocks = c.self.inside.blocks.items in
    let low = rw (← c.self.view_is) at c.requires.level in
    let fits = rw (← c.self.view_is) at c.requires.fits in
    let inside : c.args.level < length blocks = omega (arith, low, c.self.invariant.count, length-map blocks (λ b. b.items)) in
    let size : length c.deref_mut.result.now ≡ s.hash_block = ap length c.deref_mut.ensures.value ∙ read-sized blocks s.hash_block c.args.level c.index_mut.result.now c.self.invariant.sized c.index_mut.ensures.value inside in
    let block = block-size s.hash_block c.self.invariant.valid.hash_size in
    let room = block-inside c.position-place.result (area_end s) (s.hash_block / 512) c.position-place.ensures.inside in
    record {
      some = omega (arith, size, block.some);
      whole = rw size block.whole;
      inside = rw size (omega (arith, room, fits));
      few = rw size (omega (arith, room, c.self.invariant.valid.tree_fits));
    }

pub overflow_add-level : goal.overflow_add-level
overflow_add-level g c =
    let low = rw (← c.self.view_is) at c.requires.level in
    omega (arith, low, levels-few c.self.inside.shape c.self.invariant.valid)

pub invariant_of-self : goal.invariant_of-self
invariant_of-self g c =
    let s = c.self.inside.shape in
    let blocks = c.self.inside.blocks.items in
    let v : Vec ℕ Global = c.index_mut.result.now in
    let low = rw (← c.self.view_is) at c.requires.level in
    let inside : c.args.level < length blocks = omega (arith, low, c.self.invariant.count, length-map blocks (λ b. b.items)) in
    let sized : length v.items ≡ s.hash_block = read-sized blocks s.hash_block c.args.level v c.self.invariant.sized c.index_mut.ensures.value inside in
    let long : length c.read_block.new.block ≡ length v.items = c.read_block.auto.block ∙ ap length c.deref_mut.ensures.value in
    subst (λ (bs : List (List ℕ)). IsPath (record { shape = s; salt = c.self.inside.salt; root = c.self.inside.root; blocks = bs }))
    (sym (put-is blocks c.args.level v c.read_block.new.block (long ∙ sym v.ok.0)))
    (path-put (seen_path c.self.inside) c.args.level c.read_block.new.block c.self.invariant (long ∙ sized))

pub invariant_of-self-2 : goal.invariant_of-self-2
invariant_of-self-2 g c =
    let s = c.self.inside.shape in
    let blocks = c.self.inside.blocks.items in
    let v : Vec ℕ Global = c.index_mut.result.now in
    let low = rw (← c.self.view_is) at c.requires.level in
    let inside : c.args.level < length blocks = omega (arith, low, c.self.invariant.count, length-map blocks (λ b. b.items)) in
    let sized : length v.items ≡ s.hash_block = read-sized blocks s.hash_block c.args.level v c.self.invariant.sized c.index_mut.ensures.value inside in
    let long : length c.read_block.new.block ≡ length v.items = c.read_block.auto.block ∙ ap length c.deref_mut.ensures.value in
    subst (λ (bs : List (List ℕ)). IsPath (record { shape = s; salt = c.self.inside.salt; root = c.self.inside.root; blocks = bs }))
    (sym (put-is blocks c.args.level v c.read_block.new.block (long ∙ sym v.ok.0)))
    (path-put (seen_path c.self.inside) c.args.level c.read_block.new.block c.self.invariant (long ∙ sized))

pub returns-clause-ok : goal.returns-clause-ok
returns-clause-ok g c =
    let s = c.self.inside.shape in
    let blocks = c.self.inside.blocks.items in
    let v : Vec ℕ Global = c.index_mut.result.now in
    let b : List ℕ = c.read_block.new.block in
    let l : ℕ = c.args.level in
    let low = rw (← c.self.view_is) at c.requires.level in
    let inside : l < length blocks = omega (arith, low, c.self.invariant.count, length-map blocks (λ b. b.items)) in
    let sized : length v.items ≡ s.hash_block = read-sized blocks s.hash_block l v c.self.invariant.sized c.index_mut.ensures.value inside in
    let size : length c.deref_mut.result.now ≡ s.hash_block = ap length c.deref_mut.ensures.value ∙ sized in
    let long : length b ≡ v.len = c.read_block.auto.block ∙ ap length c.deref_mut.ensures.value ∙ sym v.ok.0 in
    let put : bytes_of (slice_set blocks l (with_items v b)) ≡ slice_set (bytes_of blocks) l b = put-is blocks l v b long in
    let found : c.deref.result.now ≡ b =
    c.deref.ensures.value ∙ ap (λ (x : Vec ℕ Global). x.items) (c.index.ensures ∙ get_or-set_same blocks l (with_items v b) c.index.result.now inside) ∙ with_items_is v b long in
    let old : PathRecord = seen_path c.self.inside in
    let new : PathRecord = record { shape = s; salt = c.self.inside.salt; root = c.self.inside.root; blocks = bytes_of (slice_set blocks l (with_items v b)) } in
    let next : l + 1 ≢ l = omega arith in
    let expected : digest_on new c.args.index (l + 1) ≡ digest_on old c.args.index (l + 1) =
    digest_on-same new old c.args.index (l + 1) refl refl (ap (λ (bs : List (List ℕ)). get_or bs (l + 1) []) put ∙ get_or-set_other (bytes_of blocks) l (l + 1) b [] next) in
    rw (← c.self.view_is) (record {
      block = b;
      inside = omega (arith, inside, length-map blocks (λ b. b.items));
      is = ap (λ (bs : List (List ℕ)). record { shape = s; salt = c.self.inside.salt; root = c.self.inside.root; blocks = bs }) put;
      test = c.is_same.ensures ∙ ap (λ (x : List ℕ). bytes_eq x c.digest_at.result) (c.digest-found.ensures ∙ ap (digest c.self.inside.salt) found) ∙ ap (bytes_eq (digest c.self.inside.salt b)) (c.digest_at.ensures ∙ expected);
      read =
          let place : c.position-place.result ≡ position s l (ancestor s (l + 1) c.args.index) = c.position-place.ensures.value ∙ ap (position s l) c.block_on_path.ensures.value in
          subst (λ (n : ℕ). IsBlockRead (g.H.BlockDev.state c.args.device.now) s.hash_block n b (g.H.BlockDev.state c.read_block.new.device)) place
          (subst (λ (n : ℕ). IsBlockRead (g.H.BlockDev.state c.args.device.now) n c.position-place.result b (g.H.BlockDev.state c.read_block.new.device)) size c.in_ok-read_block.ensures.ok);
    })

pub returns-clause-asked : goal.returns-clause-asked
returns-clause-asked g c =
    let s = c.self.inside.shape in
    let blocks = c.self.inside.blocks.items in
    let v : Vec ℕ Global = c.index_mut.result.now in
    let low = rw (← c.self.view_is) at c.requires.level in
    let inside : c.args.level < length blocks = omega (arith, low, c.self.invariant.count, length-map blocks (λ b. b.items)) in
    let sized : length v.items ≡ s.hash_block = read-sized blocks s.hash_block c.args.level v c.self.invariant.sized c.index_mut.ensures.value inside in
    let size : length c.deref_mut.result.now ≡ s.hash_block = ap length c.deref_mut.ensures.value ∙ sized in
    rw (← c.self.view_is) (rw size at c.read_block.ensures.asked)

pub returns-in_err-read_block-clause-asked : goal.returns-in_err-read_block-clause-asked
returns-in_err-read_block-clause-asked g c =
    let s = c.self.inside.shape in
    let blocks = c.self.inside.blocks.items in
    let v : Vec ℕ Global = c.index_mut.result.now in
    let low = rw (← c.self.view_is) at c.requires.level in
    let inside : c.args.level < length blocks = omega (arith, low, c.self.invariant.count, length-map blocks (λ b. b.items)) in
    let sized : length v.items ≡ s.hash_block = read-sized blocks s.hash_block c.args.level v c.self.invariant.sized c.index_mut.ensures.value inside in
    let size : length c.deref_mut.result.now ≡ s.hash_block = ap length c.deref_mut.ensures.value ∙ sized in
    rw (← c.self.view_is) (rw size at c.read_block.ensures.asked)

pub returns-in_err-read_block-clause-fault : goal.returns-in_err-read_block-clause-fault
returns-in_err-read_block-clause-fault g c =
    let s = c.self.inside.shape in
    let blocks = c.self.inside.blocks.items in
    let v : Vec ℕ Global = c.index_mut.result.now in
    let b : List ℕ = c.read_block.new.block in
    let l : ℕ = c.args.level in
    let low = rw (← c.self.view_is) at c.requires.level in
    let inside : l < length blocks = omega (arith, low, c.self.invariant.count, length-map blocks (λ b. b.items)) in
    let long : length b ≡ v.len = c.read_block.auto.block ∙ ap length c.deref_mut.ensures.value ∙ sym v.ok.0 in
    let put : bytes_of (slice_set blocks l (with_items v b)) ≡ slice_set (bytes_of blocks) l b = put-is blocks l v b long in
    let p = err_from_is_err_and c.from_residual.result c.from_residual.ensures.1 in
    rw (p.1, ← c.self.view_is) (record {
      block = b;
      inside = omega (arith, inside, length-map blocks (λ b. b.items));
      is = ap (λ (bs : List (List ℕ)). record { shape = s; salt = c.self.inside.salt; root = c.self.inside.root; blocks = bs }) put;
      fault = c.in_err-read_block.ensures.fault;
    })

pub returns-clause-calls : goal.returns-clause-calls
returns-clause-calls g c =
    let does = DeviceDoes g.H.BlockDev.state g.H.BlockDev.does in
    reads-one does (c.position-place.result * (length c.deref_mut.result.now / 512)) c.read_block.new.block (is_ok c.read_block.result) c.args.device.now c.read_block.new.device c.read_block.ensures.call

pub returns-in_err-read_block-clause-calls : goal.returns-in_err-read_block-clause-calls
returns-in_err-read_block-clause-calls g c =
    let does = DeviceDoes g.H.BlockDev.state g.H.BlockDev.does in
    reads-one does (c.position-place.result * (length c.deref_mut.result.now / 512)) c.read_block.new.block (is_ok c.read_block.result) c.args.device.now c.read_block.new.device c.read_block.ensures.call
