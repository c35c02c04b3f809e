use Rattle.std.proofs.Common.{ℕ, List, ap}
use Rattle.std.specs.Prelude.{option_map}
use Rattle.stack_commands.proofs.ending_object.first_line.Goals as goal

pub returns-in-Some : goal.returns-in-Some
returns-in-Some c = ap (option_map (λ (parts : List ℕ × List ℕ). parts.0)) c.in-Some.ensures

pub returns-in-None : goal.returns-in-None
returns-in-None c = ap (option_map (λ (parts : List ℕ × List ℕ). parts.0)) c.in-None.ensures
