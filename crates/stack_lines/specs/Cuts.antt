-- Where a put may be cut in two.
use Rattle.std.specs.Prelude.{◌≡◌, ℕ, ◌+◌, ◌%◌, ◌<◌, ◌≤◌, List, ◌++◌, length}
use Rattle.stack_rules.specs.Records.{Configuration}
use Rattle.stack_lines.specs.declared.source.Source.{Source}
use Rattle.stack_lines.specs.declared.cuts.Steps.{Steps}
use Rattle.stack_meaning.specs.Outcomes.{Images}
use Rattle.stack_meaning.specs.Puts.{then_put, Putting}
use Rattle.stack_lines.specs.Sources.{SourceHolds}
use Rattle.stack_lines.specs.Writing.{SourceMayWrite}

-- steps of 1 to 8 sectors, in the first of which the sectors begin
pub record AreSteps (steps : Steps) : Type 0 where
  pub begins : steps.skip < steps.size
  pub few : steps.size ≤ 8

-- a step ends after n sectors
abbrev pub EndsStep : Steps → ℕ → Type 0
EndsStep steps n = (steps.skip + n) % steps.size ≡ 0

-- Of at most n sectors from the first on, a put is that of the sectors before the end of any step and then that of
-- those after it.
abbrev pub PutsInSteps : (ℕ → Putting) → ℕ → ℕ → Steps → Type 0
PutsInSteps puts first n steps = (xs ys : List (List ℕ)) (images : Images) → 0 < length xs → 0 < length ys → length xs + length ys ≤ n → EndsStep steps (length xs)
    → puts first (xs ++ ys) images ≡ then_put (puts first xs images) (puts (first + length xs) ys)

-- n sectors of the source, which may be written, in steps
pub record AreInSteps (c : Configuration) (source : Source) (n : ℕ) (each : Steps) : Type 0 where
  pub allowed : SourceMayWrite c source
  pub holds : SourceHolds c source n
  pub steps : AreSteps each
