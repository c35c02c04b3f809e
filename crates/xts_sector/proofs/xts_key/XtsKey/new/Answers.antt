use Rattle.std.proofs.Common.{◌≡◌, ◌-◌, ◌/◌, length, ap, sym, ◌∙◌, refl, arith}
use Rattle.aes_block.specs.Key.{IsKeyLength}
use Rattle.xts_sector.proofs.XtsKeyLemmas.{halves_same}
use Rattle.xts_sector.proofs.xts_key.XtsKey.new.Goals as goal

pub invariant_of-result : goal.invariant_of-result
invariant_of-result c =
    let key = c.args.key.now in
    let middle = length key / 2 in
    let of_data = c.in_ok-new.ensures in
    let of_tweak = c.in_ok-new-2.ensures in
    let front_len : length c.split_at.result.0.now ≡ middle = c.split_at.ensures.front_len in
    let back_len : length c.split_at.result.1.now ≡ length key - middle = omega (arith, c.split_at.ensures.back_len) in
    let front : IsKeyLength middle = rw front_len at (of_data.found.0 refl) in
    let back : IsKeyLength (length key - middle) = rw back_len at (of_tweak.found.0 refl) in
    ap length of_data.value ∙ front_len ∙ halves_same (length key) front back ∙ sym back_len ∙ sym (ap length of_tweak.value)
