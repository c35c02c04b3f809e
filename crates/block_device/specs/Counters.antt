-- Counters fit in 64 bits.
use Rattle.std.specs.Prelude.{ℕ, ◌+◌, ◌-◌, ◌^◌, ◌≤◌, Bool}
use Rattle.std.proofs.Common.{arith}
use Rattle.block_device.specs.Device.{CountersFit, Device, capped}
use Rattle.block_device.specs.Failing.{failing}

pub capped-fits : (n : ℕ) → capped n ≤ 2 ^ 64 - 1
capped-fits n = omega arith

pub failing-fits : (inner : Device) (calls reads writes failed : ℕ) (written : Bool) → CountersFit (failing inner calls reads writes failed written)
failing-fits inner calls reads writes failed written = record {
  reads = capped-fits (inner.reads + reads);
  writes = capped-fits (inner.writes + writes);
  failures = capped-fits (inner.failures + failed);
}
