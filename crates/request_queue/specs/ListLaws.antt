-- What lists of calls are as a whole.
use Rattle.std.specs.Prelude.{◌≡◌, ◌≤◌, ◌+◌, ℕ, List}
use Rattle.std.specs.List.{slice_index_or}
use Rattle.block_device.specs.Device.{Device}
use Rattle.stack_meaning.specs.Leaves.{steady_images}
use Rattle.request_queue.specs.AsSteps.{AreAsSteps}
use Rattle.request_queue.specs.Parts.{EachPart}
use Rattle.request_queue.specs.Puts.{ArePutOn, pieces_written}
use Rattle.request_queue.specs.Runs.{Turn, AreTurns, last, turns_total}
use Rattle.request_queue.specs.Touching.{touches}
use Rattle.request_queue.specs.Waiting.{asked_in_turn, served, waiting}
use Rattle.request_queue.specs.World.{World}

-- A list of calls from world w on, and the same calls as steps, in which each request that was run is begun and then
-- served piece by piece.
pub record ListLaw (w : World) (turns : List Turn) : Type 0 where
  pub steps : List Turn
  pub same : AreAsSteps w turns steps
  pub run : AreTurns EachPart w steps
  pub ends : last w steps ≡ last w turns
  -- there are no more steps than pieces waited and were asked for since, and those that still wait aren't among them
  pub few : turns_total served w steps + waiting (last w turns) ≤ waiting w + turns_total asked_in_turn w steps
  -- the images of steady leaves are those that the pieces of writes put, in the order of the calls
  pub puts : ArePutOn w.stack.leaves (pieces_written w steps) (steady_images w.stack.leaves) (steady_images (last w turns).stack.leaves)
  -- a leaf that none of them touches is as it was, its counters too
  pub leaf : (i : ℕ) (d : Device) → (touches w turns i → ⊥) → slice_index_or (last w turns).stack.leaves i d ≡ slice_index_or w.stack.leaves i d

-- What holds of every list of calls, after any others.
pub record ListsLaw (w : World) : Type 0 where
  pub each : (before : List Turn) → AreTurns EachPart w before → (turns : List Turn) → AreTurns EachPart (last w before) turns → ListLaw (last w before) turns
