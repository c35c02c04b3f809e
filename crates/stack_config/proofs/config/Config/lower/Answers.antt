use Rattle.std.proofs.Common.{◌<◌, ◌≤◌, ℕ, List, [], length, get_or, ap, arith}
use Rattle.std.proofs.lemmas.List.{get_or_past}
use Rattle.std.proofs.Math.Decide.{dec_le}
use Rattle.stack_rules.specs.declared.lower.Lower.{Lower}
use Rattle.stack_config.proofs.config.Config.lower.Goals as goal

-- a row with an element is within the table
inside_rows : (rows : List (List Lower)) (l i : ℕ) → i < length (get_or rows l []) → l < length rows
inside_rows rows l i some = go (dec_le (length rows) l)
  where
    go : Dec (length rows ≤ l) → l < length rows
    go (yes past) = let none = ap length (get_or_past rows l [] past) in absurd (omega (arith, none, some))
    go (no inside) = grind (arith, inside)

pub at-requires-clause-name : goal.at-requires-clause-name
at-requires-clause-name c = omega (arith, c.requires.name, c.device_facts.ensures.names c.args.line)

pub at-requires-clause-line : goal.at-requires-clause-line
at-requires-clause-line c = inside_rows c.device_facts.result.now.lowers c.args.line c.args.i (at-requires-clause-name c)

pub returns : goal.returns
returns c = c.device_facts.ensures.lower c.args.line c.args.i c.at.result c.at.ensures
