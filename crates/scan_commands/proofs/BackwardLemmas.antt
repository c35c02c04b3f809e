-- What a pass read backwards.
use Rattle.std.proofs.Common.{◌≡◌, ◌⊎◌, ℕ, ◌+◌, ◌-◌, ◌<◌, ◌≤◌, min, Bool, true, false, cond, List, [], ◌∷◌, ◌++◌, length, get_or, replicate, Option, Some, None, eqb, sym, ap, ◌∙◌, subst, inl, inr, arith}
use Rattle.std.proofs.lemmas.Bool.{cases_lt, false≢true}
use Rattle.std.proofs.lemmas.List.{get_or-replicate, length-append, length-replicate}
use Rattle.rescue_map.specs.declared.map.Run.{Run}
use Rattle.rescue_map.specs.declared.splicing.Span.{Span}
use Rattle.rescue_map.specs.Maps.{marks}
use Rattle.rescue_map.specs.Steps.{untaken_marks}
use Rattle.rescue_map.proofs.lemmas.StatusLemmas.{untaken-length}
use Rattle.stack_rules.specs.Names.{mapped, size}
use Rattle.stack_rules.specs.Records.{Configuration}
use Rattle.stack_engine.specs.Stacks.{StackRecord}
use Rattle.stack_recovery.specs.declared.deadline.Deadline.{Deadline}
use Rattle.stack_recovery.specs.Deadlines.{EndsAt}
use Rattle.stack_recovery.specs.declared.way.Way.{Way}
use Rattle.stack_recovery.specs.declared.way.Way.TheVariants.{Backward, Forward, Turned}
use Rattle.stack_recovery.specs.PassPieces.{AreInPieces, IsPieceFound, IsWayInside, Pass, Scanned, pass_over, way_found, way_from}
use Rattle.stack_recovery.specs.Recoveries.{Sides}
use Rattle.stack_recovery.specs.Surveys.{AreMarked, Finding, IsSurveyOver, MayFind, PieceRead, again, all_states, copied, had, kept, lost, mark_of, probed, states_found, states_of, trimmed}
use Rattle.stack_recovery.specs.Ways.{is_backward}
use Rattle.scan_commands.specs.declared.phase.Phase.{Phase}
use Rattle.scan_commands.specs.declared.phase.Phase.TheVariants.{Retry, Scrape, Skim, Sweep, Trim}
use Rattle.scan_commands.specs.declared.turn_reads.ReadMap.{ReadMap}
use Rattle.scan_commands.specs.MapFiles.{MapPathRecord}
use Rattle.scan_commands.specs.TurnCalls.{ReadsUntil}
use Rattle.scan_commands.specs.Turns.{IsTurnDeadline, IsUpTo, ReadsLeft, ReadsSectors, asked_marks, scan_in, step_of}
use Rattle.scan_commands.proofs.LostMarkLemmas.{spliced-before}

-- a pass that has come to a sector and reads a run backwards from its end: no sector between these was read before
abbrev pub IsRunUnread : List Bool → ℕ → Way → Type 0
IsRunUnread marks at Forward = Unit {0}
IsRunUnread marks at Turned = Unit {0}
IsRunUnread marks at (Backward low end) = AreMarked marks at (end - at) false

either-way : (marks : List Bool) (at : ℕ) (turns : Bool) → IsRunUnread marks at (cond turns Turned Forward)
either-way marks at true = tt
either-way marks at false = tt

kept-way : (marks : List Bool) (at : ℕ) (here turns : Bool) → IsRunUnread marks at (cond here (cond turns Turned Forward) Forward)
kept-way marks at true turns = either-way marks at turns
kept-way marks at false turns = tt

module _ (scan : Scanned) (p : Pass) (marks : List Bool) where
  unread-piece : (c : Configuration) (d first : ℕ) (way : Way) (n : ℕ) (found : Finding) → MayFind c d first n found → AreMarked marks first n (mark_of found) → IsPieceFound p first way n found
      → IsRunUnread marks first way → IsRunUnread marks (first + length (states_found n found)) (way_found scan way first n found)
  unread-piece c d first way n (had bytes) may marked piece unread = tt
  unread-piece c d first way n (lost fault) may marked piece unread = either-way marks _ scan.no_scrape
  unread-piece c d first way n (again fault) may marked piece unread = absurd piece
  unread-piece c d first Forward n (probed behind bytes) may marked piece unread = absurd piece
  unread-piece c d first Turned n (probed behind bytes) may marked piece unread =
      λ j low. let here : first + 0 + j ≡ first + j = omega arith in ap (λ (k : ℕ). get_or marks k false) here ∙ marked j (omega (arith, low))
  unread-piece c d first (Backward low end) n (probed behind bytes) may marked piece unread =
      λ j below. let here : first + 0 + j ≡ first + j = omega arith in ap (λ (k : ℕ). get_or marks k false) here ∙ unread j (omega (arith, below))
  unread-piece c d first Forward n (trimmed behind fault) may marked piece unread = tt
  unread-piece c d first Turned n (trimmed behind fault) may marked piece unread = tt
  unread-piece c d first (Backward low end) n (trimmed behind fault) may marked piece unread =
      λ j below.
      let all : ℕ = length (states_found n (trimmed behind fault)) in
      let here : first + all + j ≡ first + (all + j) = omega arith in
      ap (λ (k : ℕ). get_or marks k false) here ∙ unread (all + j) (omega (arith, below))
  unread-piece c d first way n copied may marked piece unread = tt
  unread-piece c d first way n kept may marked piece unread = kept-way marks _ (eqb (first + n) scan.turned) scan.no_scrape

  pub unread-pieces : (d first : ℕ) (w : StackRecord) (reads : List PieceRead) (w' : StackRecord) (way : Way) → IsSurveyOver marks d first w reads w' → AreInPieces scan p first way reads
      → IsRunUnread marks first way → IsRunUnread marks (first + length (all_states reads)) (way_from scan way first reads)
  unread-pieces d first w [] w' way survey pieces unread = let here : first ≡ first + 0 = omega arith in subst (λ (n : ℕ). IsRunUnread marks n way) here unread
  unread-pieces d first w (r ∷ more) w' way survey pieces unread =
      let n : ℕ = length (states_of r) in
      let all : first + n + length (all_states more) ≡ first + length (states_of r ++ all_states more) = omega (arith, length-append (states_of r) (all_states more)) in
      subst (λ (m : ℕ). IsRunUnread marks m (way_from scan (way_found scan way first r.count r.found) (first + n) more)) all
      (unread-pieces d (first + n) r.after more w' (way_found scan way first r.count r.found) survey.1 pieces.1
      (unread-piece w.config d first way r.count r.found survey.0.may survey.0.marked pieces.0 unread))

left-unread : (before : List Bool) (scan : Scanned) (old : Sides) (made : ReadMap) (new : Sides) → ReadsLeft before scan old made new → IsRunUnread before (length (marks made.map)) made.way
left-unread before scan old made new r =
    let goes = r.1 in
    let all : 0 + length (all_states goes.reads) ≡ length (marks made.map) = omega (arith, goes.whole) in
    subst (λ (n : ℕ). IsRunUnread before n made.way) all
    (subst (λ (x : Way). IsRunUnread before (0 + length (all_states goes.reads)) x) (sym goes.goes_on)
    (unread-pieces scan (pass_over old.stack.config scan.d before) before scan.d 0 old.stack goes.reads new.stack Forward goes.survey goes.pieces tt))

forward-unread : (before : List Bool) (at : ℕ) (way : Way) → way ≡ Forward → IsRunUnread before at way
forward-unread before at way is = subst (IsRunUnread before at) (sym is) tt

-- the run that a turn reads backwards
pub reads-unread : (phase : Phase) (wanted : ℕ) (before : List Bool) (scan : Scanned) (old : Sides) (made : ReadMap) (new : Sides) → ReadsSectors phase wanted before scan old made new → IsRunUnread before (length (marks made.map)) made.way
reads-unread Skim wanted before scan old made new r = forward-unread before _ made.way r.2
reads-unread Sweep wanted before scan old made new r = forward-unread before _ made.way r.2
reads-unread Trim wanted before scan old made new r = left-unread before (scan_in Trim scan) old made new r
reads-unread Scrape wanted before scan old made new r = left-unread before (scan_in Scrape scan) old made new r
reads-unread Retry wanted before scan old made new r = left-unread before (scan_in Retry scan) old made new r

-- ---- inside the device

forward-inside : (way : Way) (at sectors : ℕ) → way ≡ Forward → IsWayInside at way sectors
forward-inside way at sectors is = subst (λ (x : Way). IsWayInside at x sectors) (sym is) tt

-- what a pass read backwards is inside the device
pub way-inside : (phase : Phase) (wanted : ℕ) (before : List Bool) (scan : Scanned) (old : Sides) (made : ReadMap) (new : Sides) (sectors : ℕ) → sectors ≡ size old.stack.config (mapped scan.d) → ReadsSectors phase wanted before scan old made new
    → IsWayInside (length (marks made.map)) made.way sectors
way-inside Skim wanted before scan old made new sectors all r = forward-inside made.way (length (marks made.map)) sectors r.2
way-inside Sweep wanted before scan old made new sectors all r = forward-inside made.way (length (marks made.map)) sectors r.2
way-inside Trim wanted before scan old made new sectors all r = subst (IsWayInside (length (marks made.map)) made.way) (sym all) r.1.inside
way-inside Scrape wanted before scan old made new sectors all r = subst (IsWayInside (length (marks made.map)) made.way) (sym all) r.1.inside
way-inside Retry wanted before scan old made new sectors all r = subst (IsWayInside (length (marks made.map)) made.way) (sym all) r.1.inside

pub inside-from : (way : Way) (at sectors : ℕ) → IsWayInside at way sectors → IsWayInside 0 way sectors
inside-from Forward at sectors inside = tt
inside-from Turned at sectors inside = tt
inside-from (Backward low end) at sectors inside = (omega arith, inside.1, inside.2)

-- ---- the sectors of a turn

-- the sectors before a turn count as read
asked-low : (phase : Phase) (span : Span) (sectors : ℕ) (runs : List Run) → span.first + span.count ≤ sectors → span.first + span.count ≤ length (untaken_marks (step_of phase).takes runs) → (s : ℕ) → s < span.first
    → get_or (asked_marks phase span sectors runs) s false ≡ true
asked-low phase span sectors runs inside long s low =
    spliced-before span (replicate sectors true) (untaken_marks (step_of phase).takes runs) (omega (arith, inside, length-replicate {A = Bool} sectors true)) long s low
    ∙ get_or-replicate sectors s true false (omega (arith, low, inside))

-- a pass that reads backwards has come to the first sector of the turn
pub backward-past : (phase : Phase) (span : Span) (sectors : ℕ) (runs : List Run) → span.first + span.count ≤ sectors → span.first + span.count ≤ length (untaken_marks (step_of phase).takes runs)
    → (at : ℕ) (way : Way) → is_backward way ≡ true → IsWayInside at way sectors → IsRunUnread (asked_marks phase span sectors runs) at way → span.first ≤ at
backward-past phase span sectors runs in_all long at Forward is inside unread = absurd (false≢true is)
backward-past phase span sectors runs in_all long at Turned is inside unread = absurd (false≢true is)
backward-past phase span sectors runs in_all long at (Backward low end) is inside unread = elim (cases_lt at span.first) [
  | inl below ↦
      let here : at + 0 ≡ at = omega arith in
      absurd (false≢true (sym (unread 0 (omega (arith, inside.0, inside.1))) ∙ ap (λ (k : ℕ). get_or (asked_marks phase span sectors runs) k false) here ∙ asked-low phase span sectors runs in_all long at below))
  | inr from ↦ from
]

-- a turn ended past its first sector or after reads backwards, and without a map file after the last sector
pub ends-past : (file : Option MapPathRecord) (first : ℕ) (deadline : Option Deadline) (way : Way) (at sectors : ℕ) → IsTurnDeadline file first deadline → first < sectors → EndsAt deadline way at sectors
    → ((first < at) ⊎ (is_backward way ≡ true)) × IsUpTo file sectors at
ends-past None first deadline way at sectors until inside ends = whole (subst (λ (x : Option Deadline). EndsAt x way at sectors) until ends)
  where
    whole : EndsAt None way at sectors → ((first < at) ⊎ (is_backward way ≡ true)) × (at ≡ sectors)
    whole (inl e) = (inl (omega (arith, inside, e)), e)
    whole (inr early) = absurd early.0
ends-past (Some file) first deadline way at sectors until inside ends = upto (subst (λ (x : Option Deadline). EndsAt x way at sectors) until.1 ends)
  where
    upto : EndsAt (Some (record { first = first; seconds = until.0 })) way at sectors → ((first < at) ⊎ (is_backward way ≡ true)) × (at ≤ sectors)
    upto (inl e) = (inl (omega (arith, inside, e)), omega (arith, e))
    upto (inr early) = early

-- where the reads of a turn ended: past its first sector, or after reads backwards
pub record IsReadPast (file : Option MapPathRecord) (span : Span) (sectors : ℕ) (made : ReadMap) : Type 0 where
  pub least : span.first ≤ length (marks made.map)
  pub some : (span.first < min (span.first + span.count) (length (marks made.map))) ⊎ (is_backward made.way ≡ true)
  pub few : IsUpTo file sectors (length (marks made.map))
  pub behind : IsWayInside (length (marks made.map)) made.way sectors

pub read-past : (file : Option MapPathRecord) (phase : Phase) (span : Span) (sectors : ℕ) (runs : List Run) (deadline : Option Deadline) (wanted : ℕ) (before : List Bool) (scan : Scanned) (old : Sides) (made : ReadMap) (new : Sides)
    → IsTurnDeadline file span.first deadline → 1 ≤ span.count → span.first + span.count ≤ sectors → length (marks runs) ≡ sectors → sectors ≡ size old.stack.config (mapped scan.d) → before ≡ asked_marks phase span sectors runs
    → ReadsUntil phase wanted before scan deadline old made new → IsReadPast file span sectors made
read-past file phase span sectors runs deadline wanted before scan old made new until some inside size all is r =
    let at : ℕ = length (marks made.map) in
    let ends : EndsAt deadline made.way at sectors = subst (EndsAt deadline made.way at) (sym all) r.ends in
    let past = ends-past file span.first deadline made.way at sectors until (omega (arith, some, inside)) ends in
    let behind = way-inside phase wanted before scan old made new sectors all r.reads in
    let unread = subst (λ (l : List Bool). IsRunUnread l at made.way) is (reads-unread phase wanted before scan old made new r.reads) in
    record {
      least = from past.0 (λ back. backward-past phase span sectors runs inside (omega (arith, inside, size, untaken-length (step_of phase).takes runs)) at made.way back behind unread);
      some = more past.0;
      few = past.1;
      behind = behind;
    }
  where
    from : (span.first < length (marks made.map)) ⊎ (is_backward made.way ≡ true) → (is_backward made.way ≡ true → span.first ≤ length (marks made.map)) → span.first ≤ length (marks made.map)
    from (inl on) back = omega (arith, on)
    from (inr is) back = back is

    more : (span.first < length (marks made.map)) ⊎ (is_backward made.way ≡ true) → (span.first < min (span.first + span.count) (length (marks made.map))) ⊎ (is_backward made.way ≡ true)
    more (inl on) = inl (omega (arith, some, on))
    more (inr is) = inr is
