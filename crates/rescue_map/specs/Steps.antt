-- A step of a rescue: the sectors of one status are read, and get another one.
use Rattle.std.specs.Prelude.{◌≡◌, ◌<◌, ℕ, suc, ◌+◌, ◌-◌, ◌==◌, ◌&&◌, nat_le, nat_lt, Bool, not, List, [], ◌∷◌, replicate, if◌then◌else◌}
use Rattle.std.specs.List.{flat_map}
use Rattle.rescue_map.specs.declared.map.Run.{Run}
use Rattle.rescue_map.specs.declared.splicing.Span.{Span}
use Rattle.rescue_map.specs.declared.status.Status.{Status}
use Rattle.rescue_map.specs.declared.status.Status.TheVariants.{Recovered}
use Rattle.rescue_map.specs.declared.stepping.Step.{Step}
use Rattle.rescue_map.specs.Maps.{losts, marks, spliced_marks}
use Rattle.rescue_map.specs.Stages.{run_status, statuses}
use Rattle.rescue_map.specs.Statuses.{is_same}

-- for each sector, whether a step doesn't read it, which reads those of that status
abbrev pub untaken_marks : Status → List Run → List Bool
untaken_marks takes runs = flat_map (λ r. replicate r.count (not (is_same (run_status r) takes))) runs

-- the status of a sector after a step, which read it or found it bad
abbrev pub step_status : Step → Status → Bool → Bool → Status
step_status step before had lost = if is_same before step.takes then (if had then Recovered else if lost then step.failed else step.left) else before

abbrev pub is_inside : Span → ℕ → Bool
is_inside span at = nat_le span.first at && nat_lt (at - span.first) span.count

-- after a step over the sectors of a span
abbrev pub status_after : Step → Bool → Status → Bool → Bool → Status
status_after step inside before had lost = if inside then step_status step before had lost else before

-- the statuses of the sectors from one on after a step over the sectors of a span, of which these were read and those were found bad
abbrev pub stepped_from : Step → Span → ℕ → List Status → List Bool → List Bool → List Status
stepped_from step span at (before ∷ more) (had ∷ hads) (lost ∷ bads) =
    status_after step (is_inside span at) before had lost ∷ stepped_from step span (suc at) more hads bads
stepped_from step span at befores hads bads = []

-- the statuses of a map after a step over the sectors of a span, of which a map was made
abbrev pub stepped_statuses : Step → Span → List Run → List Run → List Status
stepped_statuses step span before made = stepped_from step span 0 (statuses before) (spliced_marks span (marks before) (marks made)) (spliced_marks span (losts before) (losts made))

-- so many sectors from one on are all inside a span, or all outside
abbrev pub AreAlike : Span → ℕ → ℕ → Type 0
AreAlike span at count = (k : ℕ) → k < count → is_inside span (at + k) ≡ is_inside span at
