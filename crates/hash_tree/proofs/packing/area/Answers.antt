use Rattle.std.proofs.Common.{◌≡◌, ◌≤◌, ◌*◌, ◌^◌, [], ℕ, length, sym, ap, ◌∙◌, arith}
use Rattle.std.proofs.lemmas.List.{length-replicate}
use Rattle.std.proofs.Math.Nat.{mul_comm}
use Rattle.tree_shape.specs.Shape.{area_blocks}
use Rattle.hash_tree.specs.Tree.{area}
use Rattle.tree_shape.proofs.lemmas.ShapeFactLemmas.{area_bytes}
use Rattle.hash_tree.proofs.lemmas.TreeFactLemmas.{length-area_of}
use Rattle.hash_tree.proofs.packing.area.Goals as goal

pub overflow_mul-size : goal.overflow_mul-size
overflow_mul-size c =
    let s = c.args.shape.now in
    let bytes : area_blocks s * s.hash_block ≤ 2 ^ 63 = area_bytes s c.hash_block-hash_block.ensures.valid in
    let same : c.area_blocks.result * c.hash_block-hash_block.result ≡ area_blocks s * s.hash_block =
    ap (λ n. n * c.hash_block-hash_block.result) c.area_blocks.ensures.value ∙ ap (λ n. area_blocks s * n) c.hash_block-hash_block.ensures.value in
    omega (arith, bytes, same)

pub build-requires-clause-room : goal.build-requires-clause-room
build-requires-clause-room c =
    let s = c.args.shape.now in
    let ds = c.args.digests.now in
    let count : length (area s.hash_block c.args.salt.now ds) ≡ area_blocks s = length-area_of s c.hash_block-hash_block.ensures.valid c.args.salt.now ds c.are_whole.ensures c.requires in
    let zeros : length c.in_ok-bytes.bytes.items ≡ c.area_blocks.result * c.hash_block-hash_block.result = ap length c.in_ok-bytes.ensures.ok ∙ length-replicate {A = ℕ} (c.area_blocks.result * c.hash_block-hash_block.result) 0 in
    let room : length c.deref_mut.result.now ≡ c.area_blocks.result * c.hash_block-hash_block.result = omega (arith, c.deref_mut.ensures.len, zeros, c.in_ok-bytes.bytes.ok.0) in
    room
    ∙ mul_comm c.area_blocks.result c.hash_block-hash_block.result
    ∙ ap (λ n. c.hash_block-hash_block.result * n) (c.area_blocks.ensures.value ∙ sym count ∙ ap (λ h. length (area h c.args.salt.now ds)) (sym c.hash_block-hash_block.ensures.value))
