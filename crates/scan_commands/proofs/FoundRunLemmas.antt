-- The runs that the turns of a pass find.
use Rattle.std.proofs.Common.{ℕ, ◌≡◌, ◌≤◌, Bool, false, List, [], ◌++◌, length, Option, Some, None, sym, ap, ◌∙◌, subst, inl, inr, arith}
use Rattle.std.proofs.lemmas.Bool.{cases_lt, false≢true}
use Rattle.rescue_map.specs.declared.map.Run.{Run}
use Rattle.rescue_map.specs.Maps.{marks}
use Rattle.runs.specs.Runs.{runs_of}
use Rattle.stack_recovery.specs.Listings.{KeepsMore, Listed}
use Rattle.stack_recovery.specs.LostRuns.{LostRun, is_same_loss}
use Rattle.stack_recovery.specs.PassPieces.{Scanned}
use Rattle.stack_recovery.specs.Recoveries.{Sides}
use Rattle.stack_recovery.specs.Surveys.{all_states}
use Rattle.scan_commands.specs.declared.phase.Phase.{Phase}
use Rattle.scan_commands.specs.declared.phase.Phase.TheVariants.{Retry, Scrape, Skim, Sweep, Trim}
use Rattle.scan_commands.specs.declared.turn_reads.ReadMap.{ReadMap}
use Rattle.scan_commands.specs.Turns.{IsTurn, Kept, Progressed, ReadsLeft, ReadsSectors, Turns, asked_marks, begins, goes_on, passes, scan_from, scan_in}
use Rattle.scan_commands.proofs.LostSectorLemmas.{between-higher, in-behind}
use Rattle.scan_commands.proofs.LostTurnLemmas.{AreTold, size-turn, told-turn}
use Rattle.scan_commands.proofs.TurnLemmas.{is_large}

-- ---- turns one after another

pub size-turns : {S : Type 0} (k : Kept S) (phase : Phase) (first : Progressed S) {now : Progressed S} → Turns k phase first now → length (marks first.runs) ≡ k.sectors → length (marks now.runs) ≡ k.sectors
size-turns k phase first begins size = size
size-turns k phase first (goes_on {now = old} {next = new} turns t) size = size-turn k phase old new t (size-turns k phase first turns size)
size-turns {S} k phase first (passes {now = old} {next = new} turns t) size = ap (λ (x : Progressed S). length (marks x.runs)) t.same ∙ size-turns k phase first turns size

-- the runs that were found so far
pub record IsFound {S : Type 0} (now : Progressed S) : Type 0 where
  pub found : List LostRun
  pub kept : now.sides.printed.runs ≡ Some found
  pub told : AreTold now.at now.runs found

-- a pass by single sectors
pub reads-later : (phase : Phase) (wanted : ℕ) (before : List Bool) (scan : Scanned) (old : Sides) (read : ReadMap) (new : Sides) → is_large phase ≡ false → ReadsSectors phase wanted before scan old read new → ReadsLeft before (scan_in phase scan) old read new
reads-later Skim wanted before scan old read new later reads = absurd (false≢true (sym later))
reads-later Sweep wanted before scan old read new later reads = absurd (false≢true (sym later))
reads-later Trim wanted before scan old read new later reads = reads
reads-later Scrape wanted before scan old read new later reads = reads
reads-later Retry wanted before scan old read new later reads = reads

keeps-more : (old new : Option (List LostRun)) (found more : List LostRun) → old ≡ Some found → KeepsMore old new more → new ≡ Some (found ++ more)
keeps-more None new found more is keeps = cc
keeps-more (Some before) None found more is keeps = absurd keeps
keeps-more (Some before) (Some after) found more is keeps = let same : before ≡ found = cc in ap (λ (l : List LostRun). Some l) (keeps ∙ ap (λ (l : List LostRun). l ++ more) same)

found-turn : {S : Type 0} (k : Kept S) (phase : Phase) (old new : Progressed S) (t : IsTurn k phase old new) → is_large phase ≡ false → length (marks old.runs) ≡ k.sectors → new.sides.printed.failed ≡ false
    → (old.sides.printed.failed ≡ false → IsFound old) → IsFound new
found-turn k phase old new t later size whole before =
    let left = reads-later phase old.skip (asked_marks phase t.span k.sectors old.runs) (scan_from k old) old.sides t.made t.left later t.reads in
    let goes = left.1 in
    let printed : new.sides.printed ≡ t.left.printed = ap (λ (s : Sides). s.printed) t.on_medium in
    let ok : t.left.printed.failed ≡ false = sym (ap (λ (l : Listed). l.failed) printed) ∙ whole in
    let p = before (goes.printed.kept ok) in
    record {
      found = p.found ++ runs_of is_same_loss 0 (all_states goes.reads);
      kept = ap (λ (l : Listed). l.runs) printed ∙ keeps-more old.sides.printed.runs t.left.printed.runs p.found (runs_of is_same_loss 0 (all_states goes.reads)) p.kept (goes.printed.listed ok);
      told = told-turn k phase old new t size old.sides.stack goes.reads t.left.stack goes.survey goes.noted p.found p.told;
    }

-- none of the sectors of a span that is passed over was found
passed-told : {S : Type 0} (old new : Progressed S) (found : List LostRun) → old.at ≤ new.at → AreTold old.at old.runs found → AreTold new.at old.runs found
passed-told old new found le p = record {
  between = between-higher 0 old.at new.at found le p.between;
  told = λ s low is. elim (cases_lt s old.at) [
    | inl before ↦ p.told s before is
    | inr from ↦ absurd (false≢true (sym (in-behind 0 old.at found s p.between from) ∙ is))
  ];
}

pub found-turns : {S : Type 0} (k : Kept S) (phase : Phase) (first : Progressed S) {now : Progressed S} → Turns k phase first now → is_large phase ≡ false → length (marks first.runs) ≡ k.sectors
    → first.at ≡ 0 → first.sides.printed.runs ≡ Some [] → now.sides.printed.failed ≡ false → IsFound now
found-turns k phase first begins later size start none whole = record {
  found = [];
  kept = none;
  told = record { between = omega (arith, start); told = λ s low is. absurd (omega (arith, low, start)) };
}
found-turns k phase first (goes_on {now = old} {next = new} turns t) later size start none whole =
    found-turn k phase old new t later (size-turns k phase first turns size) whole (λ ok. found-turns k phase first turns later size start none ok)
found-turns {S} k phase first (passes {now = old} {next = new} turns t) later size start none whole =
    let p = found-turns k phase first turns later size start none (sym (ap (λ (x : Progressed S). x.sides.printed.failed) t.same) ∙ whole) in
    record {
      found = p.found;
      kept = ap (λ (x : Progressed S). x.sides.printed.runs) t.same ∙ p.kept;
      told = subst (λ (l : List Run). AreTold new.at l p.found) (sym (ap (λ (x : Progressed S). x.runs) t.same)) (passed-told old new p.found (omega (arith, t.next.end)) p.told);
    }
