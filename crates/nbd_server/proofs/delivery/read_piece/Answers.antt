use Rattle.std.proofs.Common.{arith}
use Rattle.nbd_server.proofs.delivery.read_piece.Goals as goal

pub read_to-requires-clause-bytes : goal.read_to-requires-clause-bytes
read_to-requires-clause-bytes g c = c.requires.bytes

pub read_to-requires-clause-room : goal.read_to-requires-clause-room
read_to-requires-clause-room g c = omega (arith, c.requires.few)

pub returns-clause-inside : goal.returns-clause-inside
returns-clause-inside g c = omega (arith, c.requires.few)
