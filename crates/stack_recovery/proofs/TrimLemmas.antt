-- The last lost sectors of a run, and those before them, which aren't read.
use Rattle.std.proofs.Common.{◌≡◌, ℕ, zero, suc, ◌+◌, ◌-◌, ◌≤◌, ◌==◌, Bool, false, List, [], ◌∷◌, ◌++◌, length, replicate, Option, Some, Err, refl, sym, ap, ◌∙◌, subst, arith, append_assoc}
use Rattle.std.proofs.lemmas.Bool.{ne_eqb}
use Rattle.std.proofs.lemmas.List.{append-nil, length-append, length-replicate}
use Rattle.block_device.specs.Call.{Call}
use Rattle.stack_meaning.specs.declared.fault.IoFault.{IoFault}
use Rattle.stack_engine.specs.Bytes.{EachBytes}
use Rattle.stack_engine.specs.Stacks.{StackRecord}
use Rattle.rescue_map.specs.declared.map.Run.{Run}
use Rattle.rescue_map.specs.Maps.{losts, marks}
use Rattle.runs.specs.Runs.{run}
use Rattle.runs.specs.Tallies.{closed_by}
use Rattle.runs.proofs.lemmas.RunLemmas.{IsTallied, tallied-lost}
use Rattle.stack_recovery.specs.declared.lost_run.Loss.TheVariants.{Lost, Unscraped}
use Rattle.stack_recovery.specs.declared.tally.Tally.{Tally}
use Rattle.stack_recovery.specs.declared.trimming.LostEnd.{LostEnd}
use Rattle.stack_recovery.specs.Listings.{Listed, Tells}
use Rattle.stack_recovery.specs.Losses.{NotesEnd, closed_by_end, closed_by_unread, with_end, with_unread}
use Rattle.stack_recovery.specs.LostRuns.{LostRun, is_same_loss, lost_in, untried_in}
use Rattle.stack_recovery.specs.PassPieces.{IsProbedTo, Scanned, pass_over, way_trimmed}
use Rattle.stack_recovery.specs.declared.way.Way.{Way}
use Rattle.stack_recovery.specs.Recoveries.{Sides, is_had, is_lost, sides}
use Rattle.stack_recovery.specs.Surveys.{AreMarked, MayLose, PieceRead, SectorState, all_states, states_of, trimmed}
use Rattle.stack_recovery.proofs.AheadLemmas.{noted-both}
use Rattle.stack_recovery.proofs.CopyLemmas.{copied-lost}
use Rattle.stack_recovery.proofs.LostRunLemmas.{is_same-equality, lost_in-append, lost_in-lost, untried_in-append, untried_in-lost}
use Rattle.stack_recovery.proofs.SurveyLemmas.{states-push}
use Rattle.stack_recovery.proofs.UnderwayLemmas.{IsUnderway, next-calls, next-goes, next-pieces, next-survey}
use Rattle.stack_recovery.proofs.lemmas.WritingLemmas.{runs-then}

-- the states of the sectors
abbrev pub end_states : LostEnd → List SectorState
end_states last = replicate last.before (Some (Unscraped last.fault)) ++ replicate last.count (Some (Lost last.fault))

-- ---- the tally

unread-tallied : (states : List SectorState) (closed : List LostRun) (tally : Tally) (at before count : ℕ) (fault : IoFault) → at ≡ length states → IsTallied is_same_loss states closed tally.last
    → IsTallied is_same_loss (states ++ replicate before (Some (Unscraped fault))) (closed ++ closed_by_unread tally at (record { before = before; count = count; fault = fault })) (with_unread tally at (record { before = before; count = count; fault = fault })).last
unread-tallied states closed tally at zero count fault here p = rw (append-nil states, append-nil closed) p
unread-tallied states closed tally at (suc n) count fault here p =
    let some : (suc n == 0) ≡ false = ne_eqb (suc n) 0 (λ e. omega (arith, e)) in
    rw some (tallied-lost is_same_loss is_same-equality states closed tally.last at (suc n) (Unscraped fault) here (omega arith) p)

end-tallied : (states : List SectorState) (closed : List LostRun) (tally : Tally) (at : ℕ) (last : LostEnd) → at ≡ length states → 1 ≤ last.count → IsTallied is_same_loss states closed tally.last
    → IsTallied is_same_loss (states ++ end_states last) (closed ++ closed_by_end tally at last) (with_end tally at last).last
end-tallied states closed tally at last here some p =
    let mid : List SectorState = states ++ replicate last.before (Some (Unscraped last.fault)) in
    let there : at + last.before ≡ length mid = omega (arith, here, length-append states (replicate last.before (Some (Unscraped last.fault))), length-replicate {A = SectorState} last.before (Some (Unscraped last.fault))) in
    let q = tallied-lost is_same_loss is_same-equality mid (closed ++ closed_by_unread tally at last) (with_unread tally at last).last (at + last.before) last.count (Lost last.fault) there some
    (unread-tallied states closed tally at last.before last.count last.fault here p) in
    rw (
      sym (append_assoc states (replicate last.before (Some (Unscraped last.fault))) (replicate last.count (Some (Lost last.fault)))),
      sym (append_assoc closed (closed_by_unread tally at last) (closed_by is_same_loss (with_unread tally at last).last (run (at + last.before) last.count (Lost last.fault)))),
    ) q

-- ---- the counts

end-lost : (states : List SectorState) (tally : Tally) (at before count : ℕ) (fault : IoFault) → tally.lost ≡ lost_in states
    → (with_end tally at (record { before = before; count = count; fault = fault })).lost ≡ lost_in (states ++ (replicate before (Some (Unscraped fault)) ++ replicate count (Some (Lost fault))))
end-lost states tally at before count fault p =
    let unread : lost_in (replicate before (Some (Unscraped fault))) ≡ 0 = lost_in-lost before (Unscraped fault) in
    let lost : lost_in (replicate count (Some (Lost fault))) ≡ count = lost_in-lost count (Lost fault) in
    let all = lost_in-append states (replicate before (Some (Unscraped fault)) ++ replicate count (Some (Lost fault))) in
    let both = lost_in-append (replicate before (Some (Unscraped fault))) (replicate count (Some (Lost fault))) in
    omega (arith, unread_lost tally at before count fault, p, unread, lost, all, both)
  where
    unread_lost : (tally : Tally) (at before count : ℕ) (fault : IoFault) → (with_unread tally at (record { before = before; count = count; fault = fault })).lost ≡ tally.lost
    unread_lost tally at zero count fault = refl
    unread_lost tally at (suc n) count fault = rw (ne_eqb (suc n) 0 (λ e. omega (arith, e))) (omega arith)

end-untried : (states : List SectorState) (tally : Tally) (at before count : ℕ) (fault : IoFault) → tally.untried ≡ untried_in states
    → (with_end tally at (record { before = before; count = count; fault = fault })).untried ≡ untried_in (states ++ (replicate before (Some (Unscraped fault)) ++ replicate count (Some (Lost fault))))
end-untried states tally at before count fault p =
    let unread : untried_in (replicate before (Some (Unscraped fault))) ≡ before = untried_in-lost before (Unscraped fault) in
    let lost : untried_in (replicate count (Some (Lost fault))) ≡ 0 = untried_in-lost count (Lost fault) in
    let all = untried_in-append states (replicate before (Some (Unscraped fault)) ++ replicate count (Some (Lost fault))) in
    let both = untried_in-append (replicate before (Some (Unscraped fault))) (replicate count (Some (Lost fault))) in
    omega (arith, unread_untried tally at before count fault, p, unread, lost, all, both)
  where
    unread_untried : (tally : Tally) (at before count : ℕ) (fault : IoFault) → (with_unread tally at (record { before = before; count = count; fault = fault })).untried ≡ tally.untried + before
    unread_untried tally at zero count fault = omega arith
    unread_untried tally at (suc n) count fault = rw (ne_eqb (suc n) 0 (λ e. omega (arith, e))) refl

-- ---- the pass

module _ (makes_map : Bool) (before : List Bool) (scan : Scanned) (old now : Sides) (at : ℕ) (tally : Tally) (noted : Option (List Run)) (way : Way) (calls : List Call) (u : IsUnderway makes_map before scan old now at tally noted way calls) where
  -- the last lost sectors of a run, and those before them, which aren't read
  pub underway-trimmed : (last : LostEnd) (stack : StackRecord) (printed : Listed) (more : Option (List Run)) → IsProbedTo (pass_over old.stack.config scan.d before) at way (at + (last.before + last.count)) → 1 ≤ last.count
      → EachBytes now.stack scan.d (at + last.before) last.count (Err last.fault) stack → MayLose now.stack.config scan.d (at + last.before) last.count last.fault → AreMarked before at (last.before + last.count) false → NotesEnd last noted more
      → Tells now.printed printed (closed_by_end tally at last) → IsUnderway makes_map before scan old (sides stack now.out printed) (at + (last.before + last.count)) (with_end tally at last) more (way_trimmed way) calls
  underway-trimmed last stack printed more ends some p may marked noting told =
      let r : PieceRead = record { count = last.before + last.count; found = trimmed last.before last.fault; after = stack } in
      let rest : last.before + last.count - last.before ≡ last.count = omega arith in
      let mine : states_of r ≡ end_states last = ap (λ (n : ℕ). replicate last.before (Some (Unscraped last.fault)) ++ replicate n (Some (Lost last.fault))) rest in
      let states : all_states (u.reads ++ r ∷ []) ≡ all_states u.reads ++ end_states last = states-push u.reads r ∙ ap (λ (l : List SectorState). all_states u.reads ++ l) mine in
      let len : length (end_states last) ≡ last.before + last.count =
      length-append (replicate last.before (Some (Unscraped last.fault))) (replicate last.count (Some (Lost last.fault))) ∙ ap (λ (n : ℕ). n + length (replicate last.count (Some (Lost last.fault)))) (length-replicate {A = SectorState} last.before (Some (Unscraped last.fault)))
      ∙ ap (λ (n : ℕ). last.before + n) (length-replicate {A = SectorState} last.count (Some (Lost last.fault))) in
      record {
        reads = u.reads ++ r ∷ [];
        closed = u.closed ++ closed_by_end tally at last;
        survey = next-survey _ _ _ _ _ _ _ _ _ _ u r (record {
          answered = subst (λ (n : ℕ). EachBytes now.stack scan.d (at + last.before) n (Err last.fault) stack) (sym rest) p;
          may = (omega (arith, some), subst (λ (n : ℕ). MayLose now.stack.config scan.d (at + last.before) n last.fault) (sym rest) may);
          marked = marked;
        });
        here = omega (arith, u.here, ap length states, length-append (all_states u.reads) (end_states last), len);
        tallied = rw states (end-tallied (all_states u.reads) u.closed tally at last u.here some u.tallied);
        lost = end-lost (all_states u.reads) tally at last.before last.count last.fault u.lost ∙ sym (ap lost_in states);
        untried = end-untried (all_states u.reads) tally at last.before last.count last.fault u.untried ∙ sym (ap untried_in states);
        copied = copied-lost u.reads r old.out now.out (λ first m image. refl) u.copied;
        printed = runs-then old.printed now.printed printed u.closed (closed_by_end tally at last) u.printed told;
        noted = rw states (noted-both marks is_had noted more (all_states u.reads) last.before last.count (Some (Unscraped last.fault)) (Some (Lost last.fault)) u.noted noting.0);
        bad = rw states (noted-both losts is_lost noted more (all_states u.reads) last.before last.count (Some (Unscraped last.fault)) (Some (Lost last.fault)) u.bad noting.1);
        pieces = next-pieces _ _ _ _ _ _ _ _ _ _ u r ends;
        goes_on = next-goes _ _ _ _ _ _ _ _ _ _ u r;
        written = sym (append-nil calls) ∙ next-calls _ _ _ _ _ _ _ _ _ _ u r;
      }
