use Rattle.std.proofs.Common.{ℕ, List, ap}
use Rattle.std.specs.Prelude.{Option}
use Rattle.stack_commands.specs.EndingParts.{PartsRecord}
use Rattle.stack_commands.proofs.ending_parts.parts_from.Goals as goal

parts : List ℕ → Option ℕ → List ℕ × Option (List ℕ) → PartsRecord
parts kind n found = record { kind = kind; number = n; name = found.0; detail = found.1 }

pub returns : goal.returns
unfolding parts
returns c = ap (parts c.args.kind.now c.args.number) c.name_and_detail.ensures
