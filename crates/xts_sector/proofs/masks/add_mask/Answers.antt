use Rattle.std.proofs.Common.{◌≡◌, get_or, take, bit_xor, sym, ◌∙◌, arith}
use Rattle.std.proofs.lemmas.List.{take_all}
use Rattle.std.proofs.lemmas.List.FromFn.{fill_by_all}
use Rattle.std.proofs.lemmas.Simd.{put_chunk_whole, length-zip2, get_or-zip2}
use Rattle.xts_sector.specs.Blocks.{add_blocks}
use Rattle.xts_sector.proofs.masks.add_mask.Goals as goal

pub returns : goal.returns
unfolding add_blocks
returns c =
    let a = c.args.block.now in
    let b = c.args.mask.now in
    let whole_a : take 16 a ≡ a = take_all 16 a (omega (arith, c.requires.block)) in
    let whole_b : take 16 b ≡ b = take_all 16 b (omega (arith, c.requires.mask)) in
    rw (whole_a, whole_b)
    (put_chunk_whole a _ (c.requires.block ∙ sym (length-zip2 _ a b (c.requires.block ∙ sym c.requires.mask) ∙ c.requires.block))
    ∙ fill_by_all (λ k. bit_xor (get_or a k 0) (get_or b k 0)) _ 16 0 (length-zip2 _ a b (c.requires.block ∙ sym c.requires.mask) ∙ c.requires.block)
    (λ k h. get_or-zip2 _ a b k 0 0 0 (omega (arith, h, c.requires.block)) (omega (arith, h, c.requires.mask))))
