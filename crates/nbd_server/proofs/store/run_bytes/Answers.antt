use Rattle.std.proofs.Common.{arith}
use Rattle.nbd_server.proofs.store.run_bytes.Goals as goal

pub aligned_len-requires-clause-inside : goal.aligned_len-requires-clause-inside
aligned_len-requires-clause-inside g c = rw (c.config-config.ensures.value, c.stack.ensures) (omega (arith, c.requires.export.size, c.requires.inside))

pub returns : goal.returns
returns g c =
    let len = c.aligned_len.ensures in
    let is = rw (c.config-config.ensures.value, c.stack.ensures) at len.value in
    record {
      value = omega (arith, is);
      whole = omega arith;
      some = omega (arith, len.some);
      few = omega (arith, len.few);
      inside = omega (arith, len.inside);
    }
