-- No call of an image's devices failed since their failures were counted.
use Rattle.std.specs.Prelude.{◌≡◌, ◌-◌, ◌^◌, ◌<◌}
use Rattle.tree_repair.specs.declared.outcome.Failures.{Failures}
use Rattle.tree_repair.specs.Worlds.{RepairWorld}

-- Neither device has counted a failure since, and both counters are below their maximum.
pub record AreUncounted (before : Failures) (w : RepairWorld) : Type 0 where
  pub data_same : w.data_dev.failures ≡ before.data
  pub hash_same : w.hash_dev.failures ≡ before.hash
  pub data_below : w.data_dev.failures < 2 ^ 64 - 1
  pub hash_below : w.hash_dev.failures < 2 ^ 64 - 1
