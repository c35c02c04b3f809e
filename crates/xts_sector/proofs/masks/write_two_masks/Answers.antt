use Rattle.std.proofs.Common.{sym, ◌∙◌}
use Rattle.std.proofs.lemmas.Simd.{put_chunk_whole}
use Rattle.xts_sector.proofs.masks.write_two_masks.Goals as goal

pub returns : goal.returns
returns c = put_chunk_whole c.args.masks.now c.args.two (c.requires ∙ sym c.fits-two.0)
