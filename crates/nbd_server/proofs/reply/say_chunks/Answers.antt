use Rattle.nbd_server.proofs.ByteLemmas.{fits-chunk}
use Rattle.nbd_server.proofs.reply.say_chunks.Goals as goal

pub say_content-requires : goal.say_content-requires
say_content-requires g c = rw c.part.ensures (fits-chunk c.in-Ok.data (rw c.in-Ok.is at c.requires))
