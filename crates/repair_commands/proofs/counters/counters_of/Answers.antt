use Rattle.std.proofs.Common.{refl}
use Rattle.repair_commands.proofs.counters.counters_of.Goals as goal

pub returns : goal.returns
returns g c =
    rw (
      c.writes-data_written.ensures,
      c.writes-hash_written.ensures,
      c.last_read-data_read.ensures,
      c.last_read-hash_read.ensures,
      c.as_slice.ensures.value,
      c.as_slice-2.ensures.value,
      ← c.image.view_is,
    ) refl
