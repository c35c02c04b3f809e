use Rattle.std.proofs.Common.{◌≡◌, ℕ, ◌+◌, ◌-◌, ◌*◌, take, drop, slice_index, ap, ◌∙◌, arith}
use Rattle.std.proofs.lemmas.List.{get_or-take, get_or-drop, length-take-le, length-drop}
use Rattle.std.proofs.lemmas.Simd.{length-chunk, get_or-chunk}
use Rattle.aes_lanes.proofs.planes.vector_at.Goals as goal

pub returns-clause-len : goal.returns-clause-len
returns-clause-len c =
    let at : ℕ = 32 * c.args.i in
    let part = take (at + 32 - at) (drop at c.args.blocks.now) in
    length-chunk 0 32 part (omega (arith, length-take-le (at + 32 - at) (drop at c.args.blocks.now) (omega (arith, length-drop at c.args.blocks.now))))

pub returns-clause-lanes : goal.returns-clause-lanes
returns-clause-lanes c = λ p h.
    let at : ℕ = 32 * c.args.i in
    let part = take (at + 32 - at) (drop at c.args.blocks.now) in
    let place : 0 + p ≡ p = omega arith in
    get_or-chunk 0 32 part p 0 h
    ∙ ap (slice_index part) place
    ∙ get_or-take (at + 32 - at) (drop at c.args.blocks.now) p 0 (omega arith)
    ∙ get_or-drop at c.args.blocks.now p 0
