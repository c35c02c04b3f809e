use Rattle.std.proofs.Common.{◌≡◌, ℕ, ◌+◌, ◌-◌, ◌*◌, ◌/◌, ◌%◌, List, [], ◌∷◌, ◌++◌, length, take, drop, slice_index, refl, ap, ◌∙◌, arith}
use Rattle.std.specs.Simd.Lanes.{pick_l}
use Rattle.std.specs.List.{range_with_len}
use Rattle.std.proofs.lemmas.List.{take-take, length-append}
use Rattle.std.proofs.lemmas.Simd.{pick_l_whole}
use Rattle.aes_block.specs.KeyExpansion.{round_key}
use Rattle.aes_lanes.specs.Planes.{lane}
use Rattle.aes_lanes.proofs.LaneLemmas.{below_eight}
use Rattle.aes_lanes.proofs.ShiftLemmas.{shifted-zero}
use Rattle.aes_lanes.proofs.VectorLemmas.{length-block, IsBytes-block, slice_index-twice, block_of-turned}
use Rattle.aes_lanes.proofs.keys.copies.Goals as goal

pub returns : goal.returns
returns c =
    let w = c.args.schedule.now in
    let at : ℕ = 16 * c.args.round in
    let key = round_key w c.args.round in
    let size : at + 16 - at ≡ 16 = omega arith in
    let read : take 16 (take (at + 16 - at) (drop at w)) ≡ key = ap (λ n. take 16 (take n (drop at w))) size ∙ take-take 16 16 (drop at w) (omega arith) in
    let long : length key ≡ 16 = length-block w c.args.round c.requires in
    let part = take 16 (take (at + 16 - at) (drop at w)) in
    let part_long : length part ≡ 16 = ap length read ∙ long in
    let twice : List ℕ = pick_l 0 (part ++ part) (range_with_len 0 32) in
    let whole : twice ≡ key ++ key = pick_l_whole 0 (part ++ part) 32 (length-append part part ∙ omega (arith, part_long)) ∙ ap (λ x. x ++ x) read in
    record {
      planes = λ k h. (c.turn.ensures.vectors k h).len;
      blocks = λ j h.
          shifted-zero _
          ∙ (let vectors : List (List ℕ) = twice ∷ twice ∷ twice ∷ twice ∷ twice ∷ twice ∷ twice ∷ twice ∷ [] in
          block_of-turned vectors _ c.turn.ensures.bits key j h long (IsBytes-block w c.args.round (λ i. (c.type_inv.schedule i).fits)) (λ i hi.
          below_eight (λ k. lane vectors k (16 * (j % 2) + i) ≡ slice_index twice (16 * (j % 2) + i)) refl refl refl refl refl refl refl refl (j / 2) (omega arith)
          ∙ ap (λ x. slice_index x (16 * (j % 2) + i)) whole
          ∙ slice_index-twice key long (j % 2) i (omega arith) hi));
    }
