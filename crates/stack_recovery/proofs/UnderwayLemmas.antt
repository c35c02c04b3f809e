-- A device that is scanned, while sectors are left.
use Rattle.std.proofs.Common.{◌≡◌, ◌⊎◌, ℕ, ◌+◌, ◌-◌, ◌≤◌, ◌^◌, Bool, true, false, IsTrue, List, [], ◌∷◌, ◌++◌, length, replicate, Option, Some, None, is_some, Ok, Err, inr, refl, sym, ap, ap₂, ◌∙◌, subst, arith}
use Rattle.std.proofs.lemmas.List.{append-nil, length-append, length-replicate}
use Rattle.block_device.specs.Call.{Call, Write}
use Rattle.block_device.specs.Device.{Device, HasFailed, IsWritten, sectors_of, spliced}
use Rattle.stack_rules.specs.Names.{mapped, size}
use Rattle.stack_meaning.specs.declared.fault.IoFault.{IoFault}
use Rattle.stack_engine.specs.Bytes.{EachBytes}
use Rattle.stack_engine.specs.Stacks.{StackRecord}
use Rattle.rescue_map.specs.declared.map.Run.{Run}
use Rattle.rescue_map.specs.Maps.{losts, marks}
use Rattle.stack_recovery.specs.declared.deadline.Deadline.{Deadline}
use Rattle.stack_recovery.specs.declared.fault.RecoveryFault.{RecoveryFault}
use Rattle.stack_recovery.specs.declared.fault.RecoveryFault.TheVariants as recovery
use Rattle.runs.specs.Runs.{run}
use Rattle.runs.specs.Tallies.{closed_by, listed}
use Rattle.stack_recovery.specs.LostRuns.{LostRun, is_same_loss, lost_count, lost_in, untried_count, untried_in}
use Rattle.stack_recovery.specs.declared.recovery.Counts.{Counts}
use Rattle.stack_recovery.specs.declared.recovery.Course.{Course}
use Rattle.stack_recovery.specs.declared.lost_run.Loss.{Loss}
use Rattle.stack_recovery.specs.declared.lost_run.Loss.TheVariants.{Lost}
use Rattle.stack_recovery.specs.declared.tally.Tally.{Tally}
use Rattle.stack_recovery.specs.Copies.{IsCopied}
use Rattle.stack_recovery.specs.Deadlines.{EndsAt}
use Rattle.stack_recovery.specs.Handing.{calls_found, copy_calls}
use Rattle.stack_recovery.specs.Listings.{Listed, Tells}
use Rattle.stack_recovery.specs.Losses.{NotesLost, StopsInRun, with_loss}
use Rattle.stack_recovery.specs.PassPieces.{ArePassPieces, IsNextPiece, IsPieceFound, IsWayInside, Scanned, pass_over, way_found, way_from, way_kept, way_lost}
use Rattle.stack_recovery.specs.Recoveries.{EndsEarly, FailsOutput, FindsNoMemory, GoesOverUntil, IsBegunOver, AreLossesNoted, AreMarksNoted, IsMapRefused, NotesMore, RunsShort, Sides, counted_sectors, is_had, is_lost, sides}
use Rattle.stack_recovery.specs.Surveys.{AreMarked, IsPieceSurveyed, IsSurveyOver, MayLose, PieceRead, SectorState, all_states, had, kept, lost, states_of}
use Rattle.stack_recovery.specs.declared.way.Way.{Way}
use Rattle.stack_recovery.specs.declared.way.Way.TheVariants.{Forward}
use Rattle.stack_recovery.proofs.AheadLemmas.{length-noted, noted-more}
use Rattle.stack_recovery.proofs.CopyLemmas.{copied-had, copied-lost, copied-none}
use Rattle.runs.proofs.lemmas.RunLemmas.{IsTallied, tallied-all, tallied-had, tallied-lost, tallied-none}
use Rattle.stack_recovery.proofs.LostRunLemmas.{is_same-equality, lost_in-append, lost_in-had, lost_in-lost, lost_in-most, untried_in-append, untried_in-had, untried_in-lost}
use Rattle.stack_recovery.proofs.PieceLemmas.{calls-push, pieces-push, way-push}
use Rattle.stack_recovery.proofs.SurveyLemmas.{states-push, survey-push}
use Rattle.stack_recovery.proofs.lemmas.WritingLemmas.{runs-then, tells_nothing}

-- The sectors before that one were had, are lost or unscraped, and of their runs all but the last were printed. The pass goes on so, and
-- those calls are the writes of the pieces.
pub record IsUnderway (makes_map : Bool) (before : List Bool) (scan : Scanned) (old new : Sides) (at : ℕ) (tally : Tally) (made : Option (List Run)) (way : Way) (calls : List Call) : Type 0 where
  pub reads : List PieceRead
  pub closed : List LostRun
  pub survey : IsSurveyOver before scan.d 0 old.stack reads new.stack
  pub here : at ≡ length (all_states reads)
  pub tallied : IsTallied is_same_loss (all_states reads) closed tally.last
  pub lost : tally.lost ≡ lost_in (all_states reads)
  pub untried : tally.untried ≡ untried_in (all_states reads)
  pub copied : IsCopied reads old.out new.out
  pub printed : Tells old.printed new.printed closed
  pub noted : AreMarksNoted made (all_states reads)
  pub bad : AreLossesNoted made (all_states reads)
  pub pieces : ArePassPieces scan (pass_over old.stack.config scan.d before) reads
  pub goes_on : way ≡ way_from scan Forward 0 reads
  pub written : calls ≡ copy_calls 0 reads

-- the counts of a tally, of so many sectors
abbrev pub tally_counts : ℕ → Tally → Counts
tally_counts at tally = record { read = at - (tally.lost + tally.untried); lost = tally.lost; untried = tally.untried }

-- a tally whose run was closed
pub closed-tally : (old new : Tally) → new.last ≡ None → new.lost ≡ old.lost → new.untried ≡ old.untried → new ≡ record { last = None; lost = old.lost; untried = old.untried }
closed-tally old new closed same_lost same_untried =
    ap₂ {C = Tally} (λ (l : Option LostRun) (m : ℕ). record { last = l; lost = m; untried = new.untried }) closed same_lost
    ∙ ap (λ (t : ℕ). record { last = None; lost = old.lost; untried = t }) same_untried

pub underway-none : (makes_map : Bool) (before : List Bool) (scan : Scanned) (old : Sides) (noted : Option (List Run)) → AreMarksNoted noted [] → AreLossesNoted noted []
    → IsUnderway makes_map before scan old old 0 (record { last = None; lost = 0; untried = 0 }) noted Forward []
underway-none makes_map before scan old noted p q = record {
  reads = [];
  closed = [];
  survey = refl;
  here = refl;
  tallied = tallied-none is_same_loss is_same-equality;
  lost = refl;
  untried = refl;
  copied = copied-none old.out;
  printed = tells_nothing old.printed;
  noted = p;
  bad = q;
  pieces = tt;
  goes_on = refl;
  written = refl;
}

module _ (makes_map : Bool) (before : List Bool) (scan : Scanned) (old now : Sides) (at : ℕ) (tally : Tally) (noted : Option (List Run)) (way : Way) (calls : List Call) (u : IsUnderway makes_map before scan old now at tally noted way calls) where
  -- its runs are the first of those of the sectors so far
  pub begun : (stack : StackRecord) (out : Device) → IsBegunOver before scan old (sides stack out now.printed)
  begun stack out = record {
    reads = u.reads;
    left = now.stack;
    runs = u.closed;
    more = listed tally.last;
    survey = u.survey;
    pieces = u.pieces;
    first = tallied-all is_same_loss is_same-equality (all_states u.reads) u.closed tally.last u.tallied;
    printed = u.printed;
  }

  -- memory ran out
  pub runs-short : (stack : StackRecord) → now.out.failures ≡ old.out.failures → FindsNoMemory scan.d at now.stack stack ⊎ IsMapRefused makes_map
      → RunsShort makes_map before scan old (sides stack now.out now.printed)
  unfolding begun
  runs-short stack unfailed refused = record {
    begun = begun stack now.out;
    copied = u.copied;
    unfailed = unfailed;
    refused = subst (λ (k : ℕ). FindsNoMemory scan.d k now.stack stack ⊎ IsMapRefused makes_map) u.here refused;
  }

  -- a write of the output device failed
  pub fails-output : (behind n : ℕ) (bytes : List ℕ) (stack : StackRecord) (out : Device) → AreMarked before (at + behind) n false → EachBytes now.stack scan.d (at + behind) n (Ok bytes) stack → IsWritten now.out (at + behind) n false out → HasFailed old.out out → (IsTrue old.out.never_fails → ⊥)
      → FailsOutput before scan old (sides stack out now.printed)
  unfolding begun
  fails-output behind n bytes stack out marked read writing failed sure = record {
    begun = begun stack out;
    out = now.out;
    behind = behind;
    n = n;
    bytes = bytes;
    unread = subst (λ (k : ℕ). AreMarked before (k + behind) n false) u.here marked;
    read = subst (λ (k : ℕ). EachBytes now.stack scan.d (k + behind) n (Ok bytes) stack) u.here read;
    copied = u.copied;
    writing = subst (λ (k : ℕ). IsWritten now.out (k + behind) n false out) u.here writing;
    failed = failed;
    sure = sure;
  }

  -- memory for the map was refused
  pub ends-in-run : {L : Type 0} (told : L → Listed) (stack : StackRecord) (a b : L) (error : RecoveryFault) → now.printed ≡ told a → now.out.failures ≡ old.out.failures → is_some noted ≡ makes_map
      → StopsInRun (is_some noted) a b error → EndsEarly makes_map before scan old (sides stack now.out (told b)) error
  ends-in-run told stack a b recovery.NoMemory printed unfailed same p =
      subst (λ (l : Listed). RunsShort makes_map before scan old (sides stack now.out l)) (printed ∙ ap told (sym p.1)) (runs-short stack unfailed (inr (sym same ∙ p.0.0, p.0.1)))
  ends-in-run told stack a b recovery.Output printed unfailed same p = absurd p

  pub few : tally.lost + tally.untried ≤ at
  few = omega (arith, u.here, u.lost, u.untried, lost_in-most (all_states u.reads))

  -- there is room for more sectors in the map
  pub note-room : (n : ℕ) → at + n ≤ 2 ^ 54 → (runs : List Run) → noted ≡ Some runs → length (marks runs) + n ≤ 2 ^ 54
  note-room n room runs e =
      omega (arith, room, u.here, length-noted runs (all_states u.reads) (subst (λ (m : Option (List Run)). AreMarksNoted m (all_states u.reads)) e u.noted))

  pub next-survey : (r : PieceRead) → IsPieceSurveyed before scan.d at now.stack r → IsSurveyOver before scan.d 0 old.stack (u.reads ++ r ∷ []) r.after
  next-survey r p =
      let here : at ≡ 0 + length (all_states u.reads) = omega (arith, u.here) in
      survey-push before scan.d 0 old.stack u.reads now.stack r u.survey (subst (λ (k : ℕ). IsPieceSurveyed before scan.d k now.stack r) here p)

  pub next-pieces : (r : PieceRead) → IsPieceFound (pass_over old.stack.config scan.d before) at way r.count r.found → ArePassPieces scan (pass_over old.stack.config scan.d before) (u.reads ++ r ∷ [])
  next-pieces r h =
      let here : at ≡ 0 + length (all_states u.reads) = omega (arith, u.here) in
      pieces-push scan (pass_over old.stack.config scan.d before) 0 Forward u.reads r u.pieces
      (subst (λ (l : Way). IsPieceFound (pass_over old.stack.config scan.d before) (0 + length (all_states u.reads)) l r.count r.found) u.goes_on
      (subst (λ (k : ℕ). IsPieceFound (pass_over old.stack.config scan.d before) k way r.count r.found) here h))

  pub next-goes : (r : PieceRead) → way_found scan way at r.count r.found ≡ way_from scan Forward 0 (u.reads ++ r ∷ [])
  next-goes r =
      let here : at ≡ 0 + length (all_states u.reads) = omega (arith, u.here) in
      ap (λ (k : ℕ). way_found scan way k r.count r.found) here
      ∙ ap (λ (l : Way). way_found scan l (0 + length (all_states u.reads)) r.count r.found) u.goes_on
      ∙ sym (way-push scan Forward 0 u.reads r)

  pub next-calls : (r : PieceRead) → calls ++ calls_found at r.found ≡ copy_calls 0 (u.reads ++ r ∷ [])
  next-calls r =
      let here : at ≡ 0 + length (all_states u.reads) = omega (arith, u.here) in
      ap (λ (l : List Call). l ++ calls_found at r.found) u.written
      ∙ ap (λ (k : ℕ). copy_calls 0 u.reads ++ calls_found k r.found) here
      ∙ sym (calls-push 0 u.reads r)

  -- a piece that was had, written, and told
  pub underway-had : (n : ℕ) (bytes : List ℕ) (stack : StackRecord) (k : ℕ) (ok : Bool) (out : Device) (printed : Listed) (next : Tally) (more : Option (List Run)) → way ≡ Forward → IsNextPiece (pass_over old.stack.config scan.d before) at 1 n
      → 1 ≤ n → EachBytes now.stack scan.d at n (Ok bytes) stack → AreMarked before at n false → NotesMore marks noted more (replicate n true) → NotesMore losts noted more (replicate n false) → k ≡ n
      → IsWritten now.out at k ok out → (IsTrue now.out.steady → out.image ≡ spliced now.out.image at (sectors_of k bytes))
      → Tells now.printed printed (listed tally.last) → next ≡ record { last = None; lost = tally.lost; untried = tally.untried } → IsUnderway makes_map before scan old (sides stack out printed) (at + n) next more Forward (calls ++ Write at bytes true ∷ [])
  underway-had n bytes stack k ok out printed next more may piece some p marked noting noting' count w image told is =
      let r : PieceRead = record { count = n; found = had bytes; after = stack } in
      let states : all_states (u.reads ++ r ∷ []) ≡ all_states u.reads ++ replicate n None = states-push u.reads r in
      subst (λ (l : Tally). IsUnderway makes_map before scan old (sides stack out printed) (at + n) l more Forward (calls ++ Write at bytes true ∷ [])) (sym is) (record {
        reads = u.reads ++ r ∷ [];
        closed = u.closed ++ listed tally.last;
        survey = next-survey r (record { answered = p; may = tt; marked = marked });
        here = omega (arith, u.here, ap length states, length-append (all_states u.reads) (states_of r), length-replicate {A = SectorState} n None);
        tallied = rw states (tallied-had is_same_loss is_same-equality (all_states u.reads) u.closed tally.last n some u.tallied);
        lost = u.lost ∙ sym (ap lost_in states ∙ lost_in-append (all_states u.reads) (states_of r) ∙ ap (λ (m : ℕ). lost_in (all_states u.reads) + m) (lost_in-had n) ∙ omega arith);
        untried = u.untried ∙ sym (ap untried_in states ∙ untried_in-append (all_states u.reads) (states_of r) ∙ ap (λ (m : ℕ). untried_in (all_states u.reads) + m) (untried_in-had n) ∙ omega arith);
        copied = copied-had u.reads n at k bytes stack ok old.out now.out out u.here count u.copied w image;
        printed = runs-then old.printed now.printed printed u.closed (listed tally.last) u.printed told;
        noted = rw states (noted-more marks is_had noted more (all_states u.reads) n None u.noted noting);
        bad = rw states (noted-more losts is_lost noted more (all_states u.reads) n None u.bad noting');
        pieces = next-pieces r (may, piece);
        goes_on = next-goes r;
        written = next-calls r;
      })

  -- sectors that were had before
  pub underway-kept : (n : ℕ) (printed : Listed) (next : Tally) (more : Option (List Run)) → 1 ≤ n → AreMarked before at n true → NotesMore marks noted more (replicate n true) → NotesMore losts noted more (replicate n false)
      → Tells now.printed printed (listed tally.last) → next ≡ record { last = None; lost = tally.lost; untried = tally.untried } → IsUnderway makes_map before scan old (sides now.stack now.out printed) (at + n) next more (way_kept scan (at + n)) calls
  underway-kept n printed next more some marked noting noting' told is =
      let r : PieceRead = record { count = n; found = kept; after = now.stack } in
      let states : all_states (u.reads ++ r ∷ []) ≡ all_states u.reads ++ replicate n None = states-push u.reads r in
      subst (λ (l : Tally). IsUnderway makes_map before scan old (sides now.stack now.out printed) (at + n) l more (way_kept scan (at + n)) calls) (sym is) (record {
        reads = u.reads ++ r ∷ [];
        closed = u.closed ++ listed tally.last;
        survey = next-survey r (record { answered = refl; may = some; marked = marked });
        here = omega (arith, u.here, ap length states, length-append (all_states u.reads) (states_of r), length-replicate {A = SectorState} n None);
        tallied = rw states (tallied-had is_same_loss is_same-equality (all_states u.reads) u.closed tally.last n some u.tallied);
        lost = u.lost ∙ sym (ap lost_in states ∙ lost_in-append (all_states u.reads) (states_of r) ∙ ap (λ (m : ℕ). lost_in (all_states u.reads) + m) (lost_in-had n) ∙ omega arith);
        untried = u.untried ∙ sym (ap untried_in states ∙ untried_in-append (all_states u.reads) (states_of r) ∙ ap (λ (m : ℕ). untried_in (all_states u.reads) + m) (untried_in-had n) ∙ omega arith);
        copied = copied-lost u.reads r old.out now.out (λ first m image. refl) u.copied;
        printed = runs-then old.printed now.printed printed u.closed (listed tally.last) u.printed told;
        noted = rw states (noted-more marks is_had noted more (all_states u.reads) n None u.noted noting);
        bad = rw states (noted-more losts is_lost noted more (all_states u.reads) n None u.bad noting');
        pieces = next-pieces r tt;
        goes_on = next-goes r;
        written = sym (append-nil calls) ∙ next-calls r;
      })

  -- a piece that is lost, and told
  pub underway-lost : (n : ℕ) (fault : IoFault) (stack : StackRecord) (printed : Listed) (next : Tally) (more : Option (List Run)) → way ≡ Forward → IsNextPiece (pass_over old.stack.config scan.d before) at 1 n
      → 1 ≤ n → EachBytes now.stack scan.d at n (Err fault) stack → AreMarked before at n false → NotesLost (run at n (Lost fault)) noted more → MayLose now.stack.config scan.d at n fault
      → Tells now.printed printed (closed_by is_same_loss tally.last (run at n (Lost fault))) → next ≡ with_loss tally (run at n (Lost fault))
      → IsUnderway makes_map before scan old (sides stack now.out printed) (at + n) next more (way_lost scan.no_scrape) calls
  underway-lost n fault stack printed next more may piece some p marked noting lose told is =
      let r : PieceRead = record { count = n; found = lost fault; after = stack } in
      let loss : Loss = Lost fault in
      let states : all_states (u.reads ++ r ∷ []) ≡ all_states u.reads ++ replicate n (Some loss) = states-push u.reads r in
      subst (λ (l : Tally). IsUnderway makes_map before scan old (sides stack now.out printed) (at + n) l more (way_lost scan.no_scrape) calls) (sym is) (record {
        reads = u.reads ++ r ∷ [];
        closed = u.closed ++ closed_by is_same_loss tally.last (run at n loss);
        survey = next-survey r (record { answered = p; may = lose; marked = marked });
        here = omega (arith, u.here, ap length states, length-append (all_states u.reads) (states_of r), length-replicate {A = SectorState} n (Some loss));
        tallied = rw states (tallied-lost is_same_loss is_same-equality (all_states u.reads) u.closed tally.last at n loss u.here some u.tallied);
        lost = ap (λ (m : ℕ). m + lost_count loss n) u.lost ∙ sym (ap lost_in states ∙ lost_in-append (all_states u.reads) (states_of r) ∙ ap (λ (m : ℕ). lost_in (all_states u.reads) + m) (lost_in-lost n loss));
        untried = ap (λ (m : ℕ). m + untried_count loss n) u.untried ∙ sym (ap untried_in states ∙ untried_in-append (all_states u.reads) (states_of r) ∙ ap (λ (m : ℕ). untried_in (all_states u.reads) + m) (untried_in-lost n loss));
        copied = copied-lost u.reads r old.out now.out (λ first m image. refl) u.copied;
        printed = runs-then old.printed now.printed printed u.closed (closed_by is_same_loss tally.last (run at n loss)) u.printed told;
        noted = rw states (noted-more marks is_had noted more (all_states u.reads) n (Some loss) u.noted noting.0);
        bad = rw states (noted-more losts is_lost noted more (all_states u.reads) n (Some loss) u.bad noting.1);
        pieces = next-pieces r (may, piece);
        goes_on = next-goes r;
        written = sym (append-nil calls) ∙ next-calls r;
      })

  -- the sectors so far are those that are counted
  pub counted-all : (counts : Counts) → counts ≡ tally_counts at tally → at ≡ counted_sectors counts
  counted-all counts is = let sum : at ≡ at - (tally.lost + tally.untried) + (tally.lost + tally.untried) = omega (arith, few) in sum ∙ sym (ap counted_sectors is)

  -- the pass ended here
  pub underway-until : (deadline : Option Deadline) (printed : Listed) (sectors : ℕ) (course : Course) → EndsAt deadline way at sectors → sectors ≡ size old.stack.config (mapped scan.d) → Tells now.printed printed (listed tally.last)
      → course.counts ≡ tally_counts at tally → course.way ≡ way → now.out.failures ≡ old.out.failures → IsWayInside at way sectors → GoesOverUntil deadline before scan old course noted (sides now.stack now.out printed)
  underway-until deadline printed sectors course ends all told is same unfailed inside = record {
    goes = record {
      reads = u.reads;
      survey = u.survey;
      whole = sym u.here ∙ counted-all course.counts is;
      pieces = u.pieces;
      goes_on = same ∙ u.goes_on;
      inside = subst (λ (n : ℕ). IsWayInside n course.way (size old.stack.config (mapped scan.d))) (counted-all course.counts is)
          (subst (λ (l : Way). IsWayInside at l (size old.stack.config (mapped scan.d))) (sym same) (subst (λ (n : ℕ). IsWayInside at way n) all inside));
      copied = u.copied;
      unfailed = unfailed;
      printed = rw (tallied-all is_same_loss is_same-equality (all_states u.reads) u.closed tally.last u.tallied) (runs-then old.printed now.printed printed u.closed (listed tally.last) u.printed told);
      counted = is ∙ ap (λ (m : ℕ). tally_counts m tally) u.here
          ∙ ap₂ (λ (l t : ℕ). record { read = length (all_states u.reads) - (l + t); lost = l; untried = t }) u.lost u.untried;
      noted = u.noted;
      bad = u.bad;
    };
    ends = subst (λ (n : ℕ). EndsAt deadline course.way n (size old.stack.config (mapped scan.d))) (counted-all course.counts is)
        (subst (λ (l : Way). EndsAt deadline l at (size old.stack.config (mapped scan.d))) (sym same) (subst (λ (n : ℕ). EndsAt deadline way at n) all ends));
  }
