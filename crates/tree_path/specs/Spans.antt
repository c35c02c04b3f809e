-- The subtrees that begin at a data block.
use Rattle.std.specs.Prelude.{◌≡◌, ◌≢◌, ℕ, suc, ◌%◌, ◌^◌, ◌<◌, ◌≤◌}

-- a subtree of level k begins at data block i, with p digests in a hash block, and none of a higher level up to
-- `most` does
pub record IsTopAt (p most i k : ℕ) : Type 0 where
  pub few : k ≤ most
  pub begins : i % p ^ k ≡ 0
  pub top : k < most → i % p ^ suc k ≢ 0
