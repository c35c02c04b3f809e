use Rattle.std.proofs.Common.{◌≡◌, ◌+◌, sym, ap, ◌∙◌, refl, arith}
use Rattle.aes_block.specs.Rounds.{sub_bytes, shift_rows, add_round_key}
use Rattle.aes_lanes.specs.Constant.{add_constant}
use Rattle.aes_lanes.specs.Planes.{lane_block, shifted}
use Rattle.aes_lanes.proofs.ConstantLemmas.{add_round_key-constants}
use Rattle.aes_lanes.proofs.ShiftLemmas.{length-sub_bytes, shifted-around, shifted-zero, shifted-more, shifted-sub_bytes, shifted-add_constant}
use Rattle.aes_lanes.proofs.rounds.last_round.Goals as goal

pub returns-clause-blocks : goal.returns-clause-blocks
returns-clause-blocks c = λ s k same copies j h.
    let x = lane_block c.args.q.now j in
    let z = shift_rows (sub_bytes (shifted s x)) in
    let moved = shifted-around 2 (s + 1) (sub_bytes x) (length-sub_bytes x) (omega (arith, same)) ∙ shifted-more s (s + 1) (sub_bytes x) refl ∙ ap shift_rows (shifted-sub_bytes s x) in
    let substituted = ap (shifted 2) (c.sub_bytes_without_constant-substituted.ensures.blocks j h) ∙ shifted-add_constant 2 (sub_bytes x) ∙ ap add_constant moved in
    let keyed = c.add_round_key-keyed.ensures.blocks 2 (add_constant k) copies j h ∙ ap (λ b. add_round_key b (add_constant k)) substituted ∙ add_round_key-constants z k in
    let b = lane_block c.add_round_key-keyed.result j in
    let twice : shift_rows (shift_rows b) ≡ shifted 2 b = ap shift_rows (ap shift_rows (sym (shifted-zero b)) ∙ sym (shifted-more 0 1 b refl)) ∙ sym (shifted-more 1 2 b refl) in
    c.shift_rows.ensures.blocks j h ∙ ap shift_rows (c.shift_rows-once.ensures.blocks j h) ∙ twice ∙ keyed
