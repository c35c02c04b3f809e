-- Sectors of a run that are read backwards.
use Rattle.std.proofs.Common.{◌≡◌, ℕ, ◌+◌, ◌-◌, ◌<◌, ◌≤◌, Bool, true, false, IsTrue, List, [], ◌∷◌, ◌++◌, length, replicate, Option, None, Ok, refl, sym, ap, ◌∙◌, subst, arith}
use Rattle.std.proofs.lemmas.List.{append-nil, length-append, length-replicate}
use Rattle.block_device.specs.Call.{Call, Write}
use Rattle.block_device.specs.Device.{Device, IsWritten, sectors_of, spliced}
use Rattle.stack_engine.specs.Bytes.{EachBytes}
use Rattle.stack_engine.specs.Stacks.{StackRecord}
use Rattle.rescue_map.specs.declared.map.Run.{Run}
use Rattle.rescue_map.specs.Maps.{losts, marks}
use Rattle.runs.specs.Tallies.{listed}
use Rattle.stack_recovery.specs.LostRuns.{is_same_loss, lost_in, untried_in}
use Rattle.stack_recovery.specs.declared.tally.Tally.{Tally}
use Rattle.stack_recovery.specs.Alike.{AreAlike}
use Rattle.stack_recovery.specs.Listings.{Listed, Tells}
use Rattle.stack_recovery.specs.PassPieces.{IsCopiedTo, IsProbedTo, Scanned, pass_over, way_probed}
use Rattle.stack_recovery.specs.Recoveries.{NotesMore, Sides, is_had, is_lost, sides}
use Rattle.stack_recovery.specs.Surveys.{AreMarked, PieceRead, SectorState, all_states, copied, probed, states_of}
use Rattle.stack_recovery.specs.declared.way.Way.{Way}
use Rattle.stack_recovery.specs.declared.way.Way.TheVariants.{Forward}
use Rattle.stack_recovery.proofs.AheadLemmas.{noted-more}
use Rattle.stack_recovery.proofs.CopyLemmas.{copied-behind, copied-lost}
use Rattle.runs.proofs.lemmas.RunLemmas.{tallied-had}
use Rattle.stack_recovery.proofs.LostRunLemmas.{is_same-equality, lost_in-append, lost_in-had, untried_in-append, untried_in-had}
use Rattle.stack_recovery.proofs.SurveyLemmas.{states-push}
use Rattle.stack_recovery.proofs.lemmas.WritingLemmas.{runs-then}
use Rattle.stack_recovery.proofs.UnderwayLemmas.{IsUnderway, next-calls, next-goes, next-pieces, next-survey}

module _ (makes_map : Bool) (before : List Bool) (scan : Scanned) (old now : Sides) (at : ℕ) (tally : Tally) (noted : Option (List Run)) (way : Way) (calls : List Call) (u : IsUnderway makes_map before scan old now at tally noted way calls) where
  -- sectors that were copied backwards
  pub underway-copied : (n : ℕ) (printed : Listed) (next : Tally) (more : Option (List Run)) → 1 ≤ n → IsCopiedTo at way (at + n) → AreMarked before at n false → NotesMore marks noted more (replicate n true) → NotesMore losts noted more (replicate n false)
      → Tells now.printed printed (listed tally.last) → next ≡ record { last = None; lost = tally.lost; untried = tally.untried } → IsUnderway makes_map before scan old (sides now.stack now.out printed) (at + n) next more Forward calls
  underway-copied n printed next more some ends marked noting noting' told is =
      let r : PieceRead = record { count = n; found = copied; after = now.stack } in
      let states : all_states (u.reads ++ r ∷ []) ≡ all_states u.reads ++ replicate n None = states-push u.reads r in
      subst (λ (l : Tally). IsUnderway makes_map before scan old (sides now.stack now.out printed) (at + n) l more Forward calls) (sym is) (record {
        reads = u.reads ++ r ∷ [];
        closed = u.closed ++ listed tally.last;
        survey = next-survey _ _ _ _ _ _ _ _ _ _ u r (record { answered = refl; may = some; marked = marked });
        here = omega (arith, u.here, ap length states, length-append (all_states u.reads) (states_of r), length-replicate {A = SectorState} n None);
        tallied = rw states (tallied-had is_same_loss is_same-equality (all_states u.reads) u.closed tally.last n some u.tallied);
        lost = u.lost ∙ sym (ap lost_in states ∙ lost_in-append (all_states u.reads) (states_of r) ∙ ap (λ (m : ℕ). lost_in (all_states u.reads) + m) (lost_in-had n) ∙ omega arith);
        untried = u.untried ∙ sym (ap untried_in states ∙ untried_in-append (all_states u.reads) (states_of r) ∙ ap (λ (m : ℕ). untried_in (all_states u.reads) + m) (untried_in-had n) ∙ omega arith);
        copied = copied-lost u.reads r old.out now.out (λ first m image. refl) u.copied;
        printed = runs-then old.printed now.printed printed u.closed (listed tally.last) u.printed told;
        noted = rw states (noted-more marks is_had noted more (all_states u.reads) n None u.noted noting);
        bad = rw states (noted-more losts is_lost noted more (all_states u.reads) n None u.bad noting');
        pieces = next-pieces _ _ _ _ _ _ _ _ _ _ u r ends;
        goes_on = next-goes _ _ _ _ _ _ _ _ _ _ u r;
        written = sym (append-nil calls) ∙ next-calls _ _ _ _ _ _ _ _ _ _ u r;
      })

  -- a piece behind these sectors that was read and written
  pub underway-probed : (behind n m : ℕ) (bytes : List ℕ) (stack : StackRecord) (out : Device) → IsProbedTo (pass_over old.stack.config scan.d before) at way (at + n) → behind < n → AreAlike now.stack.config scan.d (at + behind) (n - behind) → m ≡ n - behind
      → EachBytes now.stack scan.d (at + behind) m (Ok bytes) stack → AreMarked before at n false → IsWritten now.out (at + behind) m true out → (IsTrue now.out.steady → out.image ≡ spliced now.out.image (at + behind) (sectors_of m bytes))
      → IsUnderway makes_map before scan old (sides stack out now.printed) at tally noted (way_probed way (at + behind) (at + n)) (calls ++ Write (at + behind) bytes true ∷ [])
  underway-probed behind n m bytes stack out ends some alike count p marked w image =
      let r : PieceRead = record { count = n; found = probed behind bytes; after = stack } in
      let states : all_states (u.reads ++ r ∷ []) ≡ all_states u.reads = states-push u.reads r ∙ append-nil (all_states u.reads) in
      record {
        reads = u.reads ++ r ∷ [];
        closed = u.closed;
        survey = next-survey _ _ _ _ _ _ _ _ _ _ u r (record { answered = subst (λ (k : ℕ). EachBytes now.stack scan.d (at + behind) k (Ok bytes) stack) count p; may = (some, alike); marked = marked });
        here = u.here ∙ sym (ap length states);
        tallied = rw states u.tallied;
        lost = u.lost ∙ sym (ap lost_in states);
        untried = u.untried ∙ sym (ap untried_in states);
        copied = copied-behind u.reads n at behind m bytes stack old.out now.out out u.here count u.copied w image;
        printed = u.printed;
        noted = rw states u.noted;
        bad = rw states u.bad;
        pieces = next-pieces _ _ _ _ _ _ _ _ _ _ u r ends;
        goes_on = next-goes _ _ _ _ _ _ _ _ _ _ u r;
        written = next-calls _ _ _ _ _ _ _ _ _ _ u r;
      }
