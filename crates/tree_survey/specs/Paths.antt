-- The hash blocks on the path down to a data block, some of which may be unreadable.
use Rattle.std.specs.Prelude.{ℕ, ◌+◌, ◌<◌, Bool, IsTrue, Option, Some, None}
use Rattle.block_device.specs.Device.{Device}
use Rattle.tree_path.specs.Steps.{IsDown, IsStepLoaded, IsStopped, IsUnloaded, Steps}
use Rattle.tree_survey.specs.declared.path.Descent.{Descent}
use Rattle.tree_survey.specs.declared.path.Descent.TheVariants.{All, Bad, Unread}
use Rattle.tree_survey.specs.Failing.{HasFailedRead}

-- a hash block was read, and verifies or not; or it couldn't be read, and the device may fail
abbrev pub IsLoadedOr : Steps → Option Bool → Type 0
IsLoadedOr w (Some good) = IsStepLoaded w good
IsLoadedOr w None = IsUnloaded w × (IsTrue w.device.never_fails → ⊥)

-- the hash blocks of the levels below `from` verify down to one, and the hash block below that couldn't be read
pub record IsWayCutOff (w : Steps) (level : ℕ) : Type 0 where
  pub low : level < w.from
  pub between : Device
  pub down : IsDown (record w { device' = between }) (level + 1) (level + 1)
  pub failed : HasFailedRead w.device w.device'

-- all of them verify, or those above one that doesn't, or above one that couldn't be read
abbrev pub HasDescended : Steps → Descent → Type 0
HasDescended w All = IsDown w 0 0
HasDescended w (Bad level) = IsStopped w 0 level
HasDescended w (Unread level) = IsWayCutOff w level
