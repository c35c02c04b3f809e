use Rattle.std.proofs.Common.{sym}
use Rattle.image_pin.proofs.pinned.read_pinned.Goals as goal

pub returns-in-Some-clause-err : goal.returns-in-Some-clause-err
returns-in-Some-clause-err g c = record {
  super = c.in-Ok.superblock;
  sector = c.in-Ok.ensures.found.0;
  read = c.in-Ok.ensures.found.1;
  other = sym c.in-Some.ensures;
  one = c.in-Ok.ensures.full;
}

pub returns-in-None-clause-ok : goal.returns-in-None-clause-ok
returns-in-None-clause-ok g c = record {
  sector = c.in-Ok.ensures.found.0;
  read = c.in-Ok.ensures.found.1;
  pinned = sym c.in-None.ensures;
  one = c.in-Ok.ensures.full;
}

pub returns-in-Some-clause-calls : goal.returns-in-Some-clause-calls
returns-in-Some-clause-calls g c = (c.in-Ok.superblock, c.in-Ok.ensures.calls, sym c.in-Some.ensures)

pub returns-in-None-clause-calls : goal.returns-in-None-clause-calls
returns-in-None-clause-calls g c = (c.in-Ok.ensures.calls, sym c.in-None.ensures)
