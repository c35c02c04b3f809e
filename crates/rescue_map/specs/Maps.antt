-- Which sectors of a device were recovered, and which were found bad.
use Rattle.std.specs.Prelude.{ℕ, ◌+◌, ◌^◌, ◌≤◌, ◌&&◌, ◌||◌, not, Bool, false, List, [], ◌∷◌, ◌++◌, length, replicate, take, drop, All, if◌then◌else◌}
use Rattle.std.specs.List.{flat_map}
use Rattle.rescue_map.specs.declared.map.Run.{Run}
use Rattle.rescue_map.specs.declared.splicing.Span.{Span}
use Rattle.rescue_map.specs.declared.totals.Totals.{Totals}

-- for each sector, whether it was recovered
abbrev pub marks : List Run → List Bool
marks runs = flat_map (λ r. replicate r.count r.had) runs

-- and whether a read found it bad
abbrev pub losts : List Run → List Bool
losts runs = flat_map (λ r. replicate r.count r.lost) runs

-- the sectors of a run were recovered, or are bad and not read again
abbrev pub is_settled : Bool → Run → Bool
is_settled again r = r.had || (r.lost && not again)

-- for each sector, whether it is so
abbrev pub settled_marks : Bool → List Run → List Bool
settled_marks again runs = flat_map (λ r. replicate r.count (is_settled again r)) runs

-- none of the sectors is bad
abbrev pub no_losts : List Run → List Bool
no_losts runs = flat_map (λ r. replicate r.count false) runs

-- two lists, element by element
abbrev pub joined : (Bool → Bool → Bool) → List Bool → List Bool → List Bool
joined f (a ∷ as_) (b ∷ bs) = f a b ∷ joined f as_ bs
joined f as_ bs = []

-- a bad sector stays bad, but not if bad ones were read again and it was recovered
abbrev pub kept_lost : Bool → Bool → Bool → Bool
kept_lost again lost had = lost && not (again && had)

-- a pass found a sector bad, and didn't recover it
abbrev pub found_lost : Bool → Bool → Bool
found_lost lost had = lost && not had

-- for each sector, whether it is bad after a pass over all: those that stay bad, and those that the pass found
abbrev pub left_lost : Bool → List Bool → List Bool → List Bool → List Bool
left_lost again before had found = joined (λ kept lost. kept || lost) (joined (kept_lost again) before had) (joined found_lost found had)

-- a sector that stays bad doesn't count as recovered
abbrev pub kept_had : Bool → Bool → Bool → Bool
kept_had again lost had = had && not (kept_lost again lost had)

-- no run is empty, and all together have at most 2^54 sectors
pub record AreRuns (runs : List Run) : Type 0 where
  pub some : All (λ r. 1 ≤ r.count) runs
  pub few : length (marks runs) ≤ 2 ^ 54

-- the marks of a span from one map, and those around it from another
abbrev pub spliced_marks : Span → List Bool → List Bool → List Bool
spliced_marks span around within =
    take span.first around ++ (take span.count (drop span.first within) ++ drop (span.first + span.count) around)

-- the numbers of sectors that were recovered, of bad ones, and of those that remain to be read
abbrev pub with_run : Totals → Run → Totals
with_run t r = if r.had then record t { had = t.had + r.count } else if r.lost then record t { bad = t.bad + r.count } else record t { left = t.left + r.count }

abbrev pub totals_from : Totals → List Run → Totals
totals_from t [] = t
totals_from t (r ∷ more) = totals_from (with_run t r) more

abbrev pub map_totals : List Run → Totals
map_totals runs = totals_from (record { had = 0; bad = 0; left = 0 }) runs
