-- Names without a meaning.
use Rattle.std.specs.Prelude.{ℕ, is_none, List, [], ◌∷◌, Option}
use Rattle.std.specs.List.{list_any}
use Rattle.dm_table.specs.declared.table.Line.{Line}
use Rattle.stack_rules.specs.declared.refusal.LoadKind.TheVariants.{NoSuchDevice}
use Rattle.stack_rules.specs.declared.refusal.Refusal.{Refusal}
use Rattle.stack_rules.specs.Records.{Configuration}
use Rattle.stack_rules.specs.Names.{named, names}
use Rattle.stack_rules.specs.Rules.{refuse}

-- what the rule on names says of line l of device d
abbrev pub unknown_line : Configuration → ℕ → ℕ → Line → List (Option Refusal)
unknown_line c d l line = refuse NoSuchDevice d l (list_any (λ name. is_none (named c name)) (names line.target)) ∷ []
