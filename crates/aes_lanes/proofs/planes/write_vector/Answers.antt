use Rattle.std.proofs.Common.{sym, ◌∙◌}
use Rattle.std.proofs.lemmas.Simd.{put_chunk_whole}
use Rattle.aes_lanes.proofs.planes.write_vector.Goals as goal

pub returns : goal.returns
returns c = put_chunk_whole c.args.bytes.now c.args.x (c.requires ∙ sym c.fits-x.0)
