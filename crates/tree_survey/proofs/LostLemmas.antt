-- Blocks that couldn't be read, with one more.
use Rattle.std.proofs.Common.{◌≡◌, ◌≤◌, ◌<◌, ℕ, true, List, [], ◌∷◌, ◌++◌, length, Contains, Option, Some, None, arith}
use Rattle.std.proofs.lemmas.List.{length-append}
use Rattle.std.proofs.lemmas.List.Elements.{Contains-append_left, Contains-push}
use Rattle.block_device.specs.Device.{Device, HasFailed}
use Rattle.tree_survey.specs.declared.checked_path.CheckedPath.{CheckedPath}
use Rattle.tree_survey.specs.Failing.{HasFailedTimes}
use Rattle.tree_survey.specs.Hashes.{HashBlock, hash_block_beneath}
use Rattle.tree_survey.specs.Surveys.{Tree}
use Rattle.tree_survey.proofs.FailingLemmas.{times-more, times-next}

abbrev pub lost_with : List ℕ → ℕ → Option (List ℕ) → List ℕ
lost_with lost at (Some found) = lost
lost_with lost at None = lost ++ at ∷ []

pub lost-still : (lost : List ℕ) (at : ℕ) (found : Option (List ℕ)) (i : ℕ) → Contains lost i → Contains (lost_with lost at found) i
lost-still lost at (Some found) i h = h
lost-still lost at None i h = Contains-append_left lost (at ∷ []) i h

-- hash blocks that couldn't be read, with that which one checked path ends at
pub record AreHashesLost (t : Tree) (device device' : Device) (before : List HashBlock) (w : CheckedPath) (at : ℕ) : Type 0 where
  pub hashes : List HashBlock
  pub times : HasFailedTimes device (length hashes) device'
  pub wider : (b : HashBlock) → Contains before b → Contains hashes b
  pub unread : w.unread ≡ true → (0 < w.good) × Contains hashes (hash_block_beneath t.shape w.good at)

module _ (t : Tree) (device mid device' : Device) (before : List HashBlock) (w : CheckedPath) (at : ℕ) (times : HasFailedTimes device (length before) mid) (more : mid.failures ≤ device'.failures) where
  -- that is one of them
  pub hashes-kept : (w.unread ≡ true → (0 < w.good) × Contains before (hash_block_beneath t.shape w.good at)) → AreHashesLost t device device' before w at
  hashes-kept unread = record { hashes = before; times = times-more device mid device' (length before) times more; wider = λ b h. h; unread = unread }

  -- or the next one
  pub hashes-next : 0 < w.good → HasFailed mid device' → AreHashesLost t device device' before w at
  hashes-next some failed =
      let last : List HashBlock = hash_block_beneath t.shape w.good at ∷ [] in
      record {
        hashes = before ++ last;
        times = times-next device mid device' (length before) (length (before ++ last)) times more failed (omega (arith, length-append before last));
        wider = λ b h. Contains-append_left before last b h;
        unread = λ e. (some, Contains-push before (hash_block_beneath t.shape w.good at));
      }
