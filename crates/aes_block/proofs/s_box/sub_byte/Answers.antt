use Rattle.aes_block.proofs.SubByteLemmas.{s_box_is}
use Rattle.aes_block.proofs.s_box.sub_byte.Goals as goal

pub returns : goal.returns
returns c = s_box_is c.args.b c.ranges.b.fits
