-- The effect of a write on the images of the leaves.
use Rattle.std.specs.Prelude.{ℕ, List, Ok, Err}
use Rattle.stack_meaning.specs.declared.fault.Fault.{Fault}
use Rattle.stack_meaning.specs.Outcomes.{Images, Outcome}

-- the images after a write: it was completed, or a fault ended it
pub data Put : Type 0 where
  done : Images → Put
  stopped : Fault → Images → Put

-- a write and, unless a fault ended it, the next one
abbrev pub then_put : Put → (Images → Put) → Put
then_put (done images) next = next images
then_put (stopped fault images) next = stopped fault images

-- the effect of writing some sectors
abbrev pub Putting : Type 0
Putting = List (List ℕ) → Images → Put

-- a write to a place that doesn't exist has no effect
abbrev pub none_put : Putting
none_put sectors images = done images

-- a write that depends on bytes that are read first; a fault of the read ends it
abbrev pub read_put : Outcome → (List ℕ → Images → Put) → Images → Put
read_put (Ok bytes) next images = next bytes images
read_put (Err fault) next images = stopped fault images
