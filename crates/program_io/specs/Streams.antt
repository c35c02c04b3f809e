-- The contents of a reader and a writer.
use Rattle.std.specs.Prelude.{ℕ, List, Option}

-- the remaining input of a reader and the output of a writer, if they are known
pub record Streams : Type 0 where
  pub input : Option (List ℕ)
  pub output : Option (List ℕ)

abbrev pub streams : Option (List ℕ) → Option (List ℕ) → Streams
streams input output = record { input = input; output = output }
