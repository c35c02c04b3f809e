use Rattle.std.proofs.Common.{◌≡◌, take, bit_xor, sym, ◌∙◌, arith}
use Rattle.std.proofs.lemmas.List.{take_all}
use Rattle.std.proofs.lemmas.Simd.{put_chunk_whole, length-zip2, get_or-zip2}
use Rattle.xts_sector.proofs.BlockLemmas.{two_sums}
use Rattle.xts_sector.proofs.masks.add_two_masks.Goals as goal

pub returns : goal.returns
returns c =
    let a = c.args.blocks.now in
    let b = c.args.masks.now in
    let whole_a : take 32 a ≡ a = take_all 32 a (omega (arith, c.requires.blocks)) in
    let whole_b : take 32 b ≡ b = take_all 32 b (omega (arith, c.requires.masks)) in
    let long = length-zip2 bit_xor a b (c.requires.blocks ∙ sym c.requires.masks) ∙ c.requires.blocks in
    rw (whole_a, whole_b)
    (put_chunk_whole a _ (c.requires.blocks ∙ sym long)
    ∙ two_sums a b _ c.requires.blocks c.requires.masks long (λ k h. get_or-zip2 bit_xor a b k 0 0 0 (omega (arith, h, c.requires.blocks)) (omega (arith, h, c.requires.masks))))
