-- The last run, which may still grow, while blocks are processed in order.
use Rattle.std.specs.Prelude.{◌≡◌, ℕ, ◌+◌, Bool, List, [], ◌∷◌, Option, Some, None, if◌then◌else◌}
use Rattle.runs.specs.declared.run.Run.{Run}
use Rattle.runs.specs.Runs.{longer}

-- the last run, if there is one, ends at block `first`
abbrev pub EndsAt : {K : Type 0} → Option (Run K) → ℕ → Type 0
EndsAt None first = Unit {0}
EndsAt (Some last) first = last.first + last.count ≡ first

abbrev pub listed : {K : Type 0} → Option (Run K) → List (Run K)
listed None = []
listed (Some last) = last ∷ []

-- the last run joined with the next one, if they have the same kind
abbrev pub joined_run : {K : Type 0} → (K → K → Bool) → Option (Run K) → Run K → Option (Run K)
joined_run same None next = None
joined_run same (Some last) next = if same last.kind next.kind then Some (longer last next.count) else None

-- after the next run is added: the runs that no longer grow, and the run that may still grow
abbrev pub closed_from : {K : Type 0} → Option (Run K) → Option (Run K) → List (Run K)
closed_from last None = listed last
closed_from last (Some both) = []

abbrev pub opened_from : {K : Type 0} → Run K → Option (Run K) → Run K
opened_from next None = next
opened_from next (Some both) = both

abbrev pub closed_by : {K : Type 0} → (K → K → Bool) → Option (Run K) → Run K → List (Run K)
closed_by same last next = closed_from last (joined_run same last next)

abbrev pub opened_by : {K : Type 0} → (K → K → Bool) → Option (Run K) → Run K → Run K
opened_by same last next = opened_from next (joined_run same last next)
