use Rattle.std.proofs.Common.{◌≡◌, ◌+◌, ◌%◌, refl, sym, ap, ◌∙◌, arith}
use Rattle.aes_block.specs.Rounds.{sub_bytes, shift_rows, mix_columns, add_round_key}
use Rattle.aes_lanes.specs.Constant.{add_constant}
use Rattle.aes_lanes.specs.Planes.{lane_block, shifted}
use Rattle.aes_lanes.proofs.ConstantLemmas.{add_constant-twice, mixed-with_constant, add_round_key-constants}
use Rattle.aes_lanes.proofs.ShiftLemmas.{ahead_lt, length-block_of, length-sub_bytes, length-shift_rows, shifted-around, shifted-more, shifted-sub_bytes, shifted-add_constant}
use Rattle.aes_lanes.proofs.rounds.round.Goals as goal

pub returns-clause-blocks : goal.returns-clause-blocks
returns-clause-blocks c = λ t k same copies j h.
    let s = c.args.shifts in
    let x = lane_block c.args.q.now j in
    let within : s % 4 ≡ (t + 1) % 4 = omega (arith, same, c.requires.shifts) in
    let y = c.sub_bytes_without_constant-substituted.result in
    -- the state after SubBytes and ShiftRows
    let z = shift_rows (sub_bytes (shifted t x)) in
    let moved = shifted-around s (t + 1) (sub_bytes x) (length-sub_bytes x) within ∙ shifted-more t (t + 1) (sub_bytes x) refl ∙ ap shift_rows (shifted-sub_bytes t x) in
    let substituted = ap (shifted s) (c.sub_bytes_without_constant-substituted.ensures.blocks j h) ∙ shifted-add_constant s (sub_bytes x) ∙ ap add_constant moved in
    let w = shifted s (lane_block y j) in
    let plain : add_constant w ≡ z = ap add_constant substituted ∙ add_constant-twice z (length-shift_rows (sub_bytes (shifted t x))) in
    let mixed = c.mix_columns-mixed.ensures.blocks j h ∙ mixed-with_constant w z (λ r c hr hc. ahead_lt y s j r c hr hc) plain in
    sym (shifted-around s (t + 1) (lane_block c.add_round_key.result j) (length-block_of c.add_round_key.result j) within)
    ∙ c.add_round_key.ensures.blocks s (add_constant k) copies j h
    ∙ ap (λ b. add_round_key b (add_constant k)) mixed
    ∙ add_round_key-constants (mix_columns z) k
