-- Which pieces a pass over a mapped device reads.
use Rattle.std.specs.Prelude.{◌≡◌, ◌⊎◌, ℕ, ◌+◌, ◌-◌, ◌==◌, ◌<◌, ◌≤◌, Bool, true, false, List, [], ◌∷◌, length, if◌then◌else◌}
use Rattle.std.specs.List.{slice_index_or}
use Rattle.stack_rules.specs.Names.{mapped, size}
use Rattle.stack_rules.specs.Records.{Configuration}
use Rattle.stack_recovery.specs.Pieces.{EndsAligned}
use Rattle.stack_recovery.specs.Surveys.{AreMarked, Finding, PieceRead, again, copied, had, kept, lost, probed, states_of, trimmed}
use Rattle.stack_recovery.specs.declared.way.Way.{Way}
use Rattle.stack_recovery.specs.declared.way.Way.TheVariants.{Backward, Forward, Turned}

-- A mapped device, and whether sectors between lost ones aren't read. Then a run that begins at sector `turned` is only read backwards, since
-- an earlier pass ended there; 0 if there is none.
pub record Scanned : Type 0 where
  pub d : ℕ
  pub no_scrape : Bool
  pub turned : ℕ

abbrev pub scanned : ℕ → Bool → Scanned
scanned d no_scrape = record { d = d; no_scrape = no_scrape; turned = 0 }

-- a pass over device d, and the marks of the sectors that were read before
pub record Pass : Type 0 where
  pub config : Configuration
  pub d : ℕ
  pub marks : List Bool

abbrev pub pass_over : Configuration → ℕ → List Bool → Pass
pass_over config d marks = record { config = config; d = d; marks = marks }

-- A run of sectors that weren't read before goes from sector `first` up to this end: the end of the device, or a sector that was read
-- before.
pub record IsUnreadTo (p : Pass) (first end : ℕ) : Type 0 where
  pub unread : AreMarked p.marks first (end - first) false
  pub inside : end ≤ size p.config (mapped p.d)
  pub stops : (end ≡ size p.config (mapped p.d)) ⊎ (slice_index_or p.marks end false ≡ true)

-- the next piece from sector `first` on: as `piece_at` returns it, before the end of its run
pub record IsNextPiece (p : Pass) (first most n : ℕ) : Type 0 where
  pub end : ℕ
  pub run : IsUnreadTo p first end
  pub ends : EndsAligned p.config p.d first end most n

-- ---- the way that a pass goes on

-- after sectors from sector `first` on and before `next` were read backwards: the run ends where the first of these pieces did
abbrev pub way_probed : Way → ℕ → ℕ → Way
way_probed (Backward low end) first next = Backward first end
way_probed other first next = Backward first next

-- after the last lost sectors of a run
abbrev pub way_trimmed : Way → Way
way_trimmed (Backward low end) = Backward low end
way_trimmed other = Forward

-- after a lost sector
abbrev pub way_lost : Bool → Way
way_lost no_scrape = if no_scrape then Turned else Forward

-- after sectors that were read before the pass, up to that one
abbrev pub way_kept : Scanned → ℕ → Way
way_kept scan at = if at == scan.turned then way_lost scan.no_scrape else Forward

-- after a piece of n sectors from sector `first` on, by its result
abbrev pub way_found : Scanned → Way → ℕ → ℕ → Finding → Way
way_found scan way first n (had bytes) = Forward
way_found scan way first n (lost fault) = way_lost scan.no_scrape
way_found scan way first n (again fault) = Forward
way_found scan way first n (probed behind bytes) = way_probed way (first + behind) (first + n)
way_found scan way first n (trimmed behind fault) = way_trimmed way
way_found scan way first n copied = Forward
way_found scan way first n kept = way_kept scan (first + n)

-- the sectors up to this end are read backwards: from the end of the run on, and then from where the last read began
abbrev pub IsProbedTo : Pass → ℕ → Way → ℕ → Type 0
IsProbedTo p first Forward end = ⊥
IsProbedTo p first Turned end = IsUnreadTo p first end
IsProbedTo p first (Backward low top) end = end ≡ low

-- the sectors from this one on and before `end` are those that were read backwards
abbrev pub IsCopiedTo : ℕ → Way → ℕ → Type 0
IsCopiedTo first Forward end = ⊥
IsCopiedTo first Turned end = ⊥
IsCopiedTo first (Backward low top) end = (low ≡ first) × (top ≡ end)

-- Each piece is one sector, or of sectors that are lost together. Sectors that were read before are no piece. A run is read backwards once,
-- after its first lost sector, and nothing of it is read twice.
abbrev pub IsPieceFound : Pass → ℕ → Way → ℕ → Finding → Type 0
IsPieceFound p first way n (had bytes) = (way ≡ Forward) × IsNextPiece p first 1 n
IsPieceFound p first way n (lost fault) = (way ≡ Forward) × IsNextPiece p first 1 n
IsPieceFound p first way n (again fault) = ⊥
IsPieceFound p first way n (probed behind bytes) = IsProbedTo p first way (first + n)
IsPieceFound p first way n (trimmed behind fault) = IsProbedTo p first way (first + n)
IsPieceFound p first way n copied = IsCopiedTo first way (first + n)
IsPieceFound p first way n kept = Unit {0}

-- the pieces one after the other, from sector `first` on
abbrev pub AreInPieces : Scanned → Pass → ℕ → Way → List PieceRead → Type 0
AreInPieces scan p first way [] = Unit {0}
AreInPieces scan p first way (r ∷ more) = IsPieceFound p first way r.count r.found × AreInPieces scan p (first + length (states_of r)) (way_found scan way first r.count r.found) more

-- the way that the pass goes on after these pieces
abbrev pub way_from : Scanned → Way → ℕ → List PieceRead → Way
way_from scan way first [] = way
way_from scan way first (r ∷ more) = way_from scan (way_found scan way first r.count r.found) (first + length (states_of r)) more

-- the pieces of a whole pass by single sectors
abbrev pub ArePassPieces : Scanned → Pass → List PieceRead → Type 0
ArePassPieces scan p reads = AreInPieces scan p 0 Forward reads

-- the sectors that a pass has read backwards, if it has, aren't before the one that it has come to, and are inside the device
abbrev pub IsWayInside : ℕ → Way → ℕ → Type 0
IsWayInside at Forward sectors = Unit {0}
IsWayInside at Turned sectors = Unit {0}
IsWayInside at (Backward low end) sectors = (at ≤ low) × (low < end) × (end ≤ sectors)
