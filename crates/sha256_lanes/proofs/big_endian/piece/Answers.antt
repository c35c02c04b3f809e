use Rattle.std.proofs.Common.{◌≡◌, ℕ, ◌+◌, ◌-◌, take, drop, slice_index, ap, ◌∙◌, inl, inr, arith}
use Rattle.std.specs.Simd.Lanes.{chunk}
use Rattle.std.proofs.lemmas.Bool.{cases_lt}
use Rattle.std.proofs.lemmas.List.{get_or-take, get_or-drop, get_or_past, length-take-le, length-drop}
use Rattle.std.proofs.lemmas.Simd.{length-chunk, get_or-chunk}
use Rattle.sha256_lanes.proofs.big_endian.piece.Goals as goal

pub returns-clause-size : goal.returns-clause-size
returns-clause-size c =
    let at : ℕ = c.args.at in
    let part = take (at + 16 - at) (drop at c.args.bytes.now) in
    length-chunk 0 16 part (omega (arith, length-take-le (at + 16 - at) (drop at c.args.bytes.now) (omega (arith, length-drop at c.args.bytes.now))))

pub returns-clause-value : goal.returns-clause-value
returns-clause-value c = λ i h.
    let at : ℕ = c.args.at in
    let part = take (at + 16 - at) (drop at c.args.bytes.now) in
    let place : 0 + i ≡ i = omega arith in
    get_or-chunk 0 16 part i 0 h
    ∙ ap (slice_index part) place
    ∙ get_or-take (at + 16 - at) (drop at c.args.bytes.now) i 0 (omega arith)
    ∙ get_or-drop at c.args.bytes.now i 0

pub returns-clause-bytes : goal.returns-clause-bytes
returns-clause-bytes c = λ i.
    let at : ℕ = c.args.at in
    let part = take (at + 16 - at) (drop at c.args.bytes.now) in
    elim (cases_lt i 16) [
      | inl h ↦ omega (arith, returns-clause-value c i h, (c.type_inv.bytes (c.args.at + i)).fits)
      | inr h ↦ omega (arith, get_or_past (chunk 0 16 part) i 0 (omega (arith, h, returns-clause-size c)))
    ]
