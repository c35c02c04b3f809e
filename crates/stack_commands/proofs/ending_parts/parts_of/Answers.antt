use Rattle.std.proofs.Common.{ℕ, ◌∙◌, List, ap}
use Rattle.std.specs.Prelude.{option_map}
use Rattle.std.specs.Option.{option_and_then}
use Rattle.stack_commands.specs.EndingParts.{parts_in, parts_record}
use Rattle.stack_commands.proofs.ending_parts.parts_of.Goals as goal

pub returns-in_err-kind : goal.returns-in_err-kind
returns-in_err-kind c = ap (option_map parts_record) c.from_residual.ensures ∙ ap (option_and_then (λ (parts : List ℕ × List ℕ). parts_in parts.0 parts.1)) c.in_err-kind.ensures

pub returns : goal.returns
returns c = c.parts_in.ensures ∙ ap (option_and_then (λ (parts : List ℕ × List ℕ). parts_in parts.0 parts.1)) c.in_ok-kind.ensures
