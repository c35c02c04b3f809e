use Rattle.std.proofs.Common.{◌≡◌, ℕ, ◌+◌, ◌-◌, ◌*◌, ◌∙◌, drop, refl, ap, length, arith}
use Rattle.std.proofs.lemmas.List.{length-take-le, length-drop}
use Rattle.aes_block.specs.Blocks.{joined}
use Rattle.aes_block.proofs.lemmas.PartLemmas.{IsWrittenTo-none, IsWrittenTo-more, IsWrittenTo-all}
use Rattle.aes_lanes.specs.Planes.{plane}
use Rattle.aes_lanes.proofs.VectorLemmas.{joined-vectors}
use Rattle.aes_lanes.proofs.planes.write_blocks.Goals as goal

pub loop-i-init : goal.loop-i-init
loop-i-init c = IsWrittenTo-none 32 _ _

pub write_vector-requires : goal.write_vector-requires
write_vector-requires c =
    let a : ℕ = 32 * c.loop-i.i in
    let size : a + 32 - a ≡ 32 = omega arith in
    length-take-le (a + 32 - a) (drop a c.loop-i.blocks) (omega (arith, length-drop a c.loop-i.blocks, c.loop-i.auto, c.requires)) ∙ size

pub loop-i-preserved : goal.loop-i-preserved
unfolding joined
loop-i-preserved c =
    let vectors = c.turn-vectors.result in
    let now = c.loop-i.blocks in
    let i = c.loop-i.i in
    let a : ℕ = 32 * i in
    let k : ℕ = a + 32 - a in
    let out = c.write_vector.new.bytes in
    let first : i ≡ i + 0 = omega arith in
    let size : 32 ≡ k = omega arith in
    let wide : k ≡ 32 * 1 = omega arith in
    IsWrittenTo-more 32 (plane vectors) c.args.blocks.now now out i 1 a k refl wide (omega (arith, c.loop-i.auto, c.requires))
    (c.write_vector.ensures ∙ ap (plane vectors) first)
    (ap length c.write_vector.ensures ∙ (c.turn-vectors.ensures.vectors i (omega arith)).len ∙ size)
    c.loop-i.invariant

pub returns : goal.returns
returns c =
    let done : c.loop-i.i ≡ 8 = omega arith in
    IsWrittenTo-all 32 (plane c.turn-vectors.result) c.args.blocks.now c.loop-i.blocks c.loop-i.i (omega (arith, done)) c.loop-i.invariant
    ∙ ap (joined (plane c.turn-vectors.result)) done
    ∙ joined-vectors c.args.planes.now c.turn-vectors.result c.turn-vectors.ensures
