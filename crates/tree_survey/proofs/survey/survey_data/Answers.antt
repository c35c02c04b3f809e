use Rattle.std.proofs.Common.{◌≡◌, ◌<◌, ◌≤◌, ◌*◌, ◌/◌, ◌+◌, ℕ, List, [], get_or, length, arith, ap, refl, sym, ◌∙◌, subst}
use Rattle.std.proofs.Math.Nat.{zero-mul}
use Rattle.std.proofs.lemmas.List.{get_or_read, length-take-le}
use Rattle.block_device.specs.Device.{Device}
use Rattle.tree_shape.specs.Shape.{ShapeRecord}
use Rattle.tree_shape.proofs.lemmas.ShapeFaultLemmas.{blocks-le}
use Rattle.tree_survey.specs.Failing.{IsReadThrough}
use Rattle.tree_survey.specs.Passes.{tree_in}
use Rattle.tree_survey.specs.Pieces.{blocks_of}
use Rattle.tree_survey.proofs.FailingLemmas.{over-none, over-then, through-none}
use Rattle.tree_survey.proofs.PieceLemmas.{IsContent, IsPiece, block-on, content-of, piece-is, piece-read, run-on}
use Rattle.verity_format.proofs.lemmas.SizeLemmas.{block-size}
use Rattle.tree_survey.proofs.UnderwayLemmas.{IsUnderway, are-few, can-go, ends-at, underway-all, underway-more, underway-next, underway-none}
use Rattle.tree_survey.proofs.survey.survey_data.Goals as goal

pub pieces-init : goal.pieces-init
pieces-init g c = record {
  shape_is = c.requires.shape;
  so_far = underway-none c.args.checked_path.now c.args.salt.now (g.D.BlockDev.state c.args.data_dev.now) (g.H.BlockDev.state c.args.hash_dev.now) (g.L.Listing.told c.args.listing.now) c.new-counts.result c.requires c.new-counts.ensures;
  data_read = subst (λ (n : ℕ). IsReadThrough (g.D.BlockDev.state c.args.data_dev.now) n (g.D.BlockDev.state c.args.data_dev.now)) (sym (zero-mul _)) (through-none (g.D.BlockDev.state c.args.data_dev.now));
}

pub read_piece-whole-requires-clause-run : goal.read_piece-whole-requires-clause-run
read_piece-whole-requires-clause-run g c =
    let s : ShapeRecord = c.args.checked_path.now.path.shape in
    let at : ℕ = c.pieces.at in
    let count : ℕ = c.blocks_of-count.result in
    let left : at < s.blocks = omega (arith, c.pieces-test.true, c.blocks-in-pieces.ensures.value, ap (λ (x : ShapeRecord). x.blocks) c.requires.shape) in
    let piece : IsPiece s at count = piece-is s c.requires.valid.data_size at count left (c.blocks_of-count.ensures ∙ ap (λ (x : ShapeRecord). blocks_of x at) c.requires.shape) in
    run-on s c.requires.valid (g.D.BlockDev.state c.args.data_dev.now) (g.D.BlockDev.state c.pieces.data_dev) c.pieces.invariant.data_read.over c.requires.data_fits at count c.data_block-size.result
    (count * c.data_block-size.result) (c.data_block-size.ensures.value ∙ ap (λ (x : ShapeRecord). x.data_block) c.requires.shape) refl piece

pub read_piece-whole-requires-clause-room : goal.read_piece-whole-requires-clause-room
read_piece-whole-requires-clause-room g c =
    let s : ShapeRecord = c.args.checked_path.now.path.shape in
    let at : ℕ = c.pieces.at in
    let count : ℕ = c.blocks_of-count.result in
    let left : at < s.blocks = omega (arith, c.pieces-test.true, c.blocks-in-pieces.ensures.value, ap (λ (x : ShapeRecord). x.blocks) c.requires.shape) in
    let piece : IsPiece s at count = piece-is s c.requires.valid.data_size at count left (c.blocks_of-count.ensures ∙ ap (λ (x : ShapeRecord). blocks_of x at) c.requires.shape) in
    let size : length c.pieces.piece ≡ 65536 = c.pieces.auto.piece ∙ ap (λ (l : List ℕ). length l) c.as_mut_slice-piece.ensures.value ∙ c.in_ok-memory.ensures.ok in
    let bytes : count * c.data_block-size.result ≡ count * s.data_block = ap (λ (n : ℕ). count * n) (c.data_block-size.ensures.value ∙ ap (λ (x : ShapeRecord). x.data_block) c.requires.shape) in
    omega (arith, size, bytes, piece.room)

pub read_piece-whole-requires-clause-few : goal.read_piece-whole-requires-clause-few
read_piece-whole-requires-clause-few g c =
    let s : ShapeRecord = c.args.checked_path.now.path.shape in
    let at : ℕ = c.pieces.at in
    let count : ℕ = c.blocks_of-count.result in
    let left : at < s.blocks = omega (arith, c.pieces-test.true, c.blocks-in-pieces.ensures.value, ap (λ (x : ShapeRecord). x.blocks) c.requires.shape) in
    let piece : IsPiece s at count = piece-is s c.requires.valid.data_size at count left (c.blocks_of-count.ensures ∙ ap (λ (x : ShapeRecord). blocks_of x at) c.requires.shape) in
    let room : length c.pieces.digests ≡ 128 = c.pieces.auto.digests ∙ ap (λ (l : List (List ℕ)). length l) c.as_mut_slice-digests.ensures.value ∙ c.in_ok-room.ensures.ok in
    omega (arith, room, piece.many)

pub run-init : goal.run-init
run-init g c =
    let t = tree_in c.args.checked_path.now in
    let d0 : Device = g.D.BlockDev.state c.args.data_dev.now in
    let d : Device = g.D.BlockDev.state c.pieces.data_dev in
    let d' : Device = g.D.BlockDev.state c.read_piece-whole.new.device in
    let h0 : Device = g.H.BlockDev.state c.args.hash_dev.now in
    let h : Device = g.H.BlockDev.state c.pieces.hash_dev in
    let told = g.L.Listing.told c.args.listing.now in
    let now = g.L.Listing.told c.pieces.listing in
    let plain : c.pieces.at ≡ c.pieces.at + 0 = omega arith in
    record {
      so_far = subst (IsUnderway t d0 h0 d' h told now c.pieces.checked_path c.pieces.counts) plain
          (underway-more t d0 h0 d h d' h told now c.pieces.checked_path c.pieces.counts c.pieces.at c.pieces.invariant.so_far c.read_piece-whole.ensures.over (over-none h));
      kept = λ whole. refl;
      behind = over-none d';
    }

pub digest_of-found-requires-clause-run : goal.digest_of-found-requires-clause-run
digest_of-found-requires-clause-run g c =
    let s : ShapeRecord = c.args.checked_path.now.path.shape in
    let at : ℕ = c.pieces.at in
    let count : ℕ = c.blocks_of-count.result in
    let left : at < s.blocks = omega (arith, c.pieces-test.true, c.blocks-in-pieces.ensures.value, ap (λ (x : ShapeRecord). x.blocks) c.requires.shape) in
    let piece : IsPiece s at count = piece-is s c.requires.valid.data_size at count left (c.blocks_of-count.ensures ∙ ap (λ (x : ShapeRecord). blocks_of x at) c.requires.shape) in
    block-on s c.requires.valid (g.D.BlockDev.state c.args.data_dev.now) (g.D.BlockDev.state c.run.data_dev) c.run.invariant.so_far.data_over c.requires.data_fits (at + c.run.k) c.data_block-size.result
    (c.data_block-size.ensures.value ∙ ap (λ (x : ShapeRecord). x.data_block) c.requires.shape) (omega (arith, piece.within, c.run-test.true))

pub digest_of-found-requires-clause-room : goal.digest_of-found-requires-clause-room
digest_of-found-requires-clause-room g c =
    let s : ShapeRecord = c.args.checked_path.now.path.shape in
    let size : length c.pieces.piece ≡ 65536 = c.pieces.auto.piece ∙ ap (λ (l : List ℕ). length l) c.as_mut_slice-piece.ensures.value ∙ c.in_ok-memory.ensures.ok in
    let most : c.data_block-size.result ≤ 4096 = omega (arith, c.data_block-size.ensures.value, (block-size s.data_block c.requires.valid.data_size).most_bytes, ap (λ (x : ShapeRecord). x.data_block) c.requires.shape) in
    omega (arith, size, most, c.run.auto.piece, c.read_piece-whole.auto.piece)

pub go_to-requires : goal.go_to-requires
go_to-requires g c =
    let t = tree_in c.args.checked_path.now in
    let low : c.pieces.at + c.run.k < c.args.checked_path.now.path.shape.blocks = omega (arith, c.run-test.true, c.blocks_of-count.ensures, c.pieces-test.true, c.blocks-in-pieces.ensures.value, ap (λ (s : ShapeRecord). s.blocks) c.requires.shape) in
    can-go t c.requires.valid (g.D.BlockDev.state c.args.data_dev.now) (g.H.BlockDev.state c.args.hash_dev.now) (g.D.BlockDev.state c.run.data_dev) (g.H.BlockDev.state c.run.hash_dev)
    (g.L.Listing.told c.args.listing.now) (g.L.Listing.told c.run.listing) c.run.checked_path c.run.counts (c.pieces.at + c.run.k)
    c.run.invariant.so_far low c.requires.tree_fits

pub add-requires-clause-ends : goal.add-requires-clause-ends
add-requires-clause-ends g c =
    ends-at (tree_in c.args.checked_path.now) c.requires.valid (g.D.BlockDev.state c.args.data_dev.now) (g.H.BlockDev.state c.args.hash_dev.now) (g.D.BlockDev.state c.run.data_dev) (g.H.BlockDev.state c.run.hash_dev)
    (g.L.Listing.told c.args.listing.now) (g.L.Listing.told c.run.listing) c.run.checked_path c.run.counts (c.pieces.at + c.run.k) c.run.invariant.so_far

pub add-requires-clause-inside : goal.add-requires-clause-inside
add-requires-clause-inside g c =
    let low : c.pieces.at + c.run.k < c.args.checked_path.now.path.shape.blocks = omega (arith, c.run-test.true, c.blocks_of-count.ensures, c.pieces-test.true, c.blocks-in-pieces.ensures.value, ap (λ (s : ShapeRecord). s.blocks) c.requires.shape) in
    omega (arith, low, (blocks-le c.args.checked_path.now.path.shape c.requires.valid).0)

pub add-requires-clause-few : goal.add-requires-clause-few
add-requires-clause-few g c =
    let t = tree_in c.args.checked_path.now in
    let low : c.pieces.at + c.run.k < c.args.checked_path.now.path.shape.blocks = omega (arith, c.run-test.true, c.blocks_of-count.ensures, c.pieces-test.true, c.blocks-in-pieces.ensures.value, ap (λ (s : ShapeRecord). s.blocks) c.requires.shape) in
    are-few t c.requires.valid (g.D.BlockDev.state c.args.data_dev.now) (g.H.BlockDev.state c.args.hash_dev.now) (g.D.BlockDev.state c.run.data_dev) (g.H.BlockDev.state c.run.hash_dev)
    (g.L.Listing.told c.args.listing.now) (g.L.Listing.told c.run.listing) c.run.checked_path c.run.counts (c.pieces.at + c.run.k)
    c.run.invariant.so_far low

pub run-preserved : goal.run-preserved
run-preserved g c =
    let t = tree_in c.args.checked_path.now in
    let s : ShapeRecord = c.args.checked_path.now.path.shape in
    let d0 : Device = g.D.BlockDev.state c.args.data_dev.now in
    let dp : Device = g.D.BlockDev.state c.pieces.data_dev in
    let dq : Device = g.D.BlockDev.state c.read_piece-whole.new.device in
    let dk : Device = g.D.BlockDev.state c.run.data_dev in
    let dk' : Device = g.D.BlockDev.state c.digest_of-found.new.device in
    let h0 : Device = g.H.BlockDev.state c.args.hash_dev.now in
    let h : Device = g.H.BlockDev.state c.run.hash_dev in
    let h' : Device = g.H.BlockDev.state c.go_to.new.device in
    let told = g.L.Listing.told c.args.listing.now in
    let now = g.L.Listing.told c.run.listing in
    let new = g.L.Listing.told c.add.new.listing in
    let ds : List (List ℕ) = c.read_piece-whole.new.digests in
    let count : ℕ = c.blocks_of-count.result in
    let at : ℕ = c.pieces.at + c.run.k in
    let low : at < s.blocks = omega (arith, c.run-test.true, c.blocks_of-count.ensures, c.pieces-test.true, c.blocks-in-pieces.ensures.value, ap (λ (x : ShapeRecord). x.blocks) c.requires.shape) in
    let size : c.data_block-size.result ≡ s.data_block = c.data_block-size.ensures.value ∙ ap (λ (x : ShapeRecord). x.data_block) c.requires.shape in
    let left : c.pieces.at < s.blocks = omega (arith, c.pieces-test.true, c.blocks-in-pieces.ensures.value, ap (λ (x : ShapeRecord). x.blocks) c.requires.shape) in
    let piece : IsPiece s c.pieces.at count = piece-is s c.requires.valid.data_size c.pieces.at count left (c.blocks_of-count.ensures ∙ ap (λ (x : ShapeRecord). blocks_of x c.pieces.at) c.requires.shape) in
    let room : length c.pieces.digests ≡ 128 = c.pieces.auto.digests ∙ ap (λ (l : List (List ℕ)). length l) c.as_mut_slice-digests.ensures.value ∙ c.in_ok-room.ensures.ok in
    let few : count ≤ length ds = omega (arith, room, piece.many, c.read_piece-whole.auto.digests) in
    let inside : c.run.k < length ds = omega (arith, few, c.run-test.true) in
    let r : List ℕ = c.index-digests-k.result in
    let known : get_or ds c.run.k r ≡ get_or ds c.run.k [] = sym c.index-digests-k.is ∙ get_or_read ds c.run.k r inside c.index-digests-k.is [] in
    let content : IsContent t.salt d0 dk dk' s.data_block at c.digest_of-found.result =
    subst (λ (n : ℕ). IsContent t.salt d0 dk dk' n at c.digest_of-found.result) size
    (subst (λ (z : List ℕ). IsContent z d0 dk dk' c.data_block-size.result at c.digest_of-found.result) c.requires.salt_is
    (content-of c.args.salt.now d0 dp dq dk dk' c.data_block-size.result c.pieces.at count c.run.k ds c.pieces.invariant.data_read.over c.read_piece-whole.ensures.over c.run.invariant.behind c.digest_of-found.ensures.over
    c.run-test.true (length-take-le count ds few) c.read_piece-whole.result (get_or ds c.run.k r) c.digest_of-found.result known c.read_piece-whole.ensures.ends c.digest_of-found.ensures.ends)) in
    let next : at + 1 ≡ c.pieces.at + (c.run.k + 1) = omega arith in
    record {
      so_far = subst (IsUnderway t d0 h0 dk' h' told new c.go_to.new.self c.add.new.self) next
          (underway-next t c.requires.valid d0 h0 dk h told now c.run.checked_path c.run.counts at c.run.invariant.so_far low c.go_to.new.self dk' h' c.go_to.ensures.gone c.digest_of-found.ensures.over c.go_to.ensures.over
          content.content c.digest_of-found.result content.told c.add.new.self new content.over
          (rw c.state.ensures at c.in_ok-add.ensures.text.ok) (rw c.state.ensures at c.in_ok-add.ensures.added));
      kept = λ whole. (rw whole at c.digest_of-found.ensures.ends).1 ∙ c.run.invariant.kept whole;
      behind = over-then c.run.invariant.behind c.digest_of-found.ensures.over;
    }

pub pieces-preserved : goal.pieces-preserved
pieces-preserved g c =
    let t = tree_in c.args.checked_path.now in
    let s : ShapeRecord = c.args.checked_path.now.path.shape in
    let d0 : Device = g.D.BlockDev.state c.args.data_dev.now in
    let dp : Device = g.D.BlockDev.state c.pieces.data_dev in
    let dq : Device = g.D.BlockDev.state c.read_piece-whole.new.device in
    let dk : Device = g.D.BlockDev.state c.run.data_dev in
    let h0 : Device = g.H.BlockDev.state c.args.hash_dev.now in
    let ds : List (List ℕ) = c.read_piece-whole.new.digests in
    let count : ℕ = c.blocks_of-count.result in
    let n : ℕ = c.data_block-size.result / 512 in
    let size : c.data_block-size.result ≡ s.data_block = c.data_block-size.ensures.value ∙ ap (λ (x : ShapeRecord). x.data_block) c.requires.shape in
    let left : c.pieces.at < s.blocks = omega (arith, c.pieces-test.true, c.blocks-in-pieces.ensures.value, ap (λ (x : ShapeRecord). x.blocks) c.requires.shape) in
    let piece : IsPiece s c.pieces.at count = piece-is s c.requires.valid.data_size c.pieces.at count left (c.blocks_of-count.ensures ∙ ap (λ (x : ShapeRecord). blocks_of x c.pieces.at) c.requires.shape) in
    let room : length c.pieces.digests ≡ 128 = c.pieces.auto.digests ∙ ap (λ (l : List (List ℕ)). length l) c.as_mut_slice-digests.ensures.value ∙ c.in_ok-room.ensures.ok in
    let few : count ≤ length ds = omega (arith, room, piece.many, c.read_piece-whole.auto.digests) in
    let all : c.pieces.at + c.run.k ≡ c.pieces.at + count = omega (arith, c.run-test.false, c.run.auto.k-end) in
    record {
      shape_is = c.requires.shape;
      so_far = subst (IsUnderway t d0 h0 dk (g.H.BlockDev.state c.run.hash_dev) (g.L.Listing.told c.args.listing.now) (g.L.Listing.told c.run.listing) c.run.checked_path c.run.counts) all c.run.invariant.so_far;
      data_read = subst (λ (b : ℕ). IsReadThrough d0 ((c.pieces.at + count) * (b / 512)) dk) size
          (piece-read c.args.salt.now d0 dp dq dk c.data_block-size.result c.pieces.at count (c.pieces.at * n) ((c.pieces.at + count) * n) ds c.read_piece-whole.result (length-take-le count ds few)
          (subst (λ (b : ℕ). IsReadThrough d0 (c.pieces.at * (b / 512)) dp) (sym size) c.pieces.invariant.data_read)
          c.read_piece-whole.ensures.ends c.read_piece-whole.ensures.over c.run.invariant.behind c.run.invariant.kept (let e : c.pieces.at * n + count * n ≡ (c.pieces.at + count) * n = grind arith in e));
    }

pub returns-clause-ok : goal.returns-clause-ok
returns-clause-ok g c =
    let t = tree_in c.args.checked_path.now in
    underway-all t c.requires.valid (g.D.BlockDev.state c.args.data_dev.now) (g.H.BlockDev.state c.args.hash_dev.now) (g.D.BlockDev.state c.pieces.data_dev) (g.H.BlockDev.state c.pieces.hash_dev)
    (g.L.Listing.told c.args.listing.now) (g.L.Listing.told c.pieces.listing) c.pieces.checked_path c.pieces.counts c.pieces.at
    c.pieces.invariant.so_far (g.L.Listing.told c.close.new.listing)
    (omega (arith, c.pieces.invariant.so_far.within, c.pieces-test.false, c.blocks-in-pieces.ensures.value, ap (λ (s : ShapeRecord). s.blocks) c.requires.shape))
    c.pieces.invariant.data_read c.in_ok-close.ensures.text.ok

pub bounds-digests-k : goal.bounds-digests-k
bounds-digests-k g c =
    let s : ShapeRecord = c.args.checked_path.now.path.shape in
    let count : ℕ = c.blocks_of-count.result in
    let ds : List (List ℕ) = c.read_piece-whole.new.digests in
    let left : c.pieces.at < s.blocks = omega (arith, c.pieces-test.true, c.blocks-in-pieces.ensures.value, ap (λ (x : ShapeRecord). x.blocks) c.requires.shape) in
    let piece : IsPiece s c.pieces.at count = piece-is s c.requires.valid.data_size c.pieces.at count left (c.blocks_of-count.ensures ∙ ap (λ (x : ShapeRecord). blocks_of x c.pieces.at) c.requires.shape) in
    let room : length c.pieces.digests ≡ 128 = c.pieces.auto.digests ∙ ap (λ (l : List (List ℕ)). length l) c.as_mut_slice-digests.ensures.value ∙ c.in_ok-room.ensures.ok in
    let few : count ≤ length ds = omega (arith, room, piece.many, c.read_piece-whole.auto.digests) in
    omega (arith, few, c.run-test.true)

pub returns-in_err-add-clause-data : goal.returns-in_err-add-clause-data
returns-in_err-add-clause-data g c = over-then c.run.invariant.so_far.data_over c.digest_of-found.ensures.over

pub returns-in_err-add-clause-hash : goal.returns-in_err-add-clause-hash
returns-in_err-add-clause-hash g c = over-then c.run.invariant.so_far.hash_over c.go_to.ensures.over

pub pieces-smaller : goal.pieces-smaller
pieces-smaller g c =
    let s : ShapeRecord = c.args.checked_path.now.path.shape in
    let count : ℕ = c.blocks_of-count.result in
    let left : c.pieces.at < s.blocks = omega (arith, c.pieces-test.true, c.blocks-in-pieces.ensures.value, ap (λ (x : ShapeRecord). x.blocks) c.requires.shape) in
    let piece : IsPiece s c.pieces.at count = piece-is s c.requires.valid.data_size c.pieces.at count left (c.blocks_of-count.ensures ∙ ap (λ (x : ShapeRecord). blocks_of x c.pieces.at) c.requires.shape) in
    omega (arith, left, piece.some, piece.within)
