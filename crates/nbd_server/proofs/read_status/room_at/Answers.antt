use Rattle.std.proofs.Common.{refl}
use Rattle.nbd_server.proofs.read_status.room_at.Goals as goal

pub returns-then-one : goal.returns-then-one
returns-then-one c = rw c.if-one.true refl

pub returns : goal.returns
returns c = rw c.if-one.false refl
