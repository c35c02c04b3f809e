-- A pass in large pieces, while sectors are left.
use Rattle.std.proofs.Common.{◌≡◌, ◌⊎◌, ℕ, min, ◌+◌, ◌≤◌, ◌^◌, Bool, true, false, IsTrue, List, [], ◌∷◌, ◌++◌, length, replicate, Option, Ok, Err, refl, sym, ap, ◌∙◌, subst, arith}
use Rattle.std.proofs.lemmas.List.{append-nil, length-append, length-replicate}
use Rattle.allocation.specs.Refusal.{IsOutOfMemory}
use Rattle.block_device.specs.Call.{Call, Calls, Write}
use Rattle.block_device.specs.Device.{Device, HasFailed, IsWritten, sectors_of, spliced}
use Rattle.block_device.proofs.lemmas.CallLemmas.{calls-last}
use Rattle.stack_rules.specs.Names.{mapped, size}
use Rattle.stack_meaning.specs.declared.fault.IoFault.{IoFault}
use Rattle.stack_engine.specs.Bytes.{EachBytes}
use Rattle.stack_engine.specs.Stacks.{StackRecord}
use Rattle.rescue_map.specs.declared.map.Run.{Run}
use Rattle.rescue_map.specs.Maps.{losts, marks}
use Rattle.stack_recovery.specs.declared.deadline.Deadline.{Deadline}
use Rattle.stack_recovery.specs.declared.fault.RecoveryFault.TheVariants as recovery
use Rattle.stack_recovery.specs.Deadlines.{EndsAt}
use Rattle.stack_recovery.specs.declared.way.Way.TheVariants.{Forward}
use Rattle.stack_recovery.specs.FirstPasses.{FailsSkimOutput, HandsSkimsPart, HandsSkimsUntil, IsSkimBegun, IsSkimCopied, SkimsShort, SkimsUntil, Skipping, Transfer, seen_transfer, skimmed, transfer}
use Rattle.stack_recovery.specs.Handing.{calls_found}
use Rattle.stack_recovery.specs.PassPieces.{IsNextPiece, pass_over}
use Rattle.stack_recovery.specs.Recoveries.{FindsNoMemory}
use Rattle.stack_recovery.specs.Skims.{AreSkims, IsSkimFound, IsSkimOver, Skim, failed_of, marks_of, skim_calls, skim_failed, skim_marks, skip_from}
use Rattle.stack_recovery.specs.Skips.{least_skip, longer_skip, skip_after}
use Rattle.stack_recovery.specs.Surveys.{AreMarked, IsPieceSurveyed, again, had, kept}
use Rattle.stack_recovery.proofs.SkimPieceLemmas.{failed-push, marks-push, skim-calls-push, skim-copied-had, skim-copied-lost, skim-copied-none, skim-push, skims-push, skip-push}

-- The sectors before `at` were read or left, and the map marks those that were read; those of failed pieces are bad. After the next failed read `wanted`
-- sectors are skipped.
pub record IsSkimming {O : Type 0} (state : O → Device) (Did : O → Call → O → Type 0) (start : Skipping) (before : List Bool) (d : ℕ) (old new : Transfer O) (at : ℕ) (made : List Run) (wanted : ℕ) : Type 0 where
  pub skims : List Skim
  pub survey : IsSkimOver before d 0 old.stack skims new.stack
  pub here : at ≡ length (skim_marks skims)
  pub copied : IsSkimCopied skims (state old.out) (state new.out)
  pub noted : marks made ≡ skim_marks skims
  pub failed : losts made ≡ skim_failed skims
  pub pieces : AreSkims start.most (pass_over old.stack.config d before) 0 start.wanted skims
  pub next : wanted ≡ skip_from start.most start.wanted skims
  pub did : Calls Did old.out (skim_calls 0 skims) new.out

pub skimming-none : {O : Type 0} (state : O → Device) (Did : O → Call → O → Type 0) (start : Skipping) (before : List Bool) (d : ℕ) (old : Transfer O) → IsSkimming state Did start before d old old 0 [] start.wanted
skimming-none state Did start before d old = record {
  skims = [];
  survey = refl;
  here = refl;
  copied = skim-copied-none (state old.out);
  noted = refl;
  failed = refl;
  pieces = tt;
  next = refl;
  did = refl;
}

module _ {O : Type 0} (state : O → Device) (Did : O → Call → O → Type 0) (start : Skipping) (before : List Bool) (d : ℕ) (old now : Transfer O) (at : ℕ) (made : List Run) (wanted : ℕ) (u : IsSkimming state Did start before d old now at made wanted) where
  next-survey : (s : Skim) → IsPieceSurveyed before d at now.stack s.piece → IsSkimOver before d 0 old.stack (u.skims ++ s ∷ []) s.piece.after
  next-survey s p =
      let here : at ≡ 0 + length (skim_marks u.skims) = omega (arith, u.here) in
      skim-push before d 0 old.stack u.skims now.stack s u.survey (subst (λ (k : ℕ). IsPieceSurveyed before d k now.stack s.piece) here p)

  next-skims : (s : Skim) → IsSkimFound (pass_over old.stack.config d before) at wanted s.piece.count s.piece.found s.skip → AreSkims start.most (pass_over old.stack.config d before) 0 start.wanted (u.skims ++ s ∷ [])
  next-skims s h =
      let here : at ≡ 0 + length (skim_marks u.skims) = omega (arith, u.here) in
      skims-push start.most (pass_over old.stack.config d before) 0 start.wanted u.skims s u.pieces
      (subst (λ (w : ℕ). IsSkimFound (pass_over old.stack.config d before) (0 + length (skim_marks u.skims)) w s.piece.count s.piece.found s.skip) u.next
      (subst (λ (k : ℕ). IsSkimFound (pass_over old.stack.config d before) k wanted s.piece.count s.piece.found s.skip) here h))

  next-skip : (s : Skim) → skip_after start.most wanted s.piece.found ≡ skip_from start.most start.wanted (u.skims ++ s ∷ [])
  next-skip s = ap (λ (w : ℕ). skip_after start.most w s.piece.found) u.next ∙ sym (skip-push start.most start.wanted u.skims s)

  next-calls : (s : Skim) → skim_calls 0 u.skims ++ calls_found at s.piece.found ≡ skim_calls 0 (u.skims ++ s ∷ [])
  next-calls s =
      let here : at ≡ 0 + length (skim_marks u.skims) = omega (arith, u.here) in
      ap (λ (k : ℕ). skim_calls 0 u.skims ++ calls_found k s.piece.found) here ∙ sym (skim-calls-push 0 u.skims s)

  next-here : (s : Skim) (n : ℕ) → n ≡ length (marks_of s) → at + n ≡ length (skim_marks (u.skims ++ s ∷ []))
  next-here s n is = omega (arith, u.here, is, ap length (marks-push u.skims s), length-append {A = Bool} (skim_marks u.skims) (marks_of s))

  next-noted : (s : Skim) (more : List Run) (l : List Bool) → marks more ≡ marks made ++ l → l ≡ marks_of s → marks more ≡ skim_marks (u.skims ++ s ∷ [])
  next-noted s more l noting is = noting ∙ ap (λ (m : List Bool). m ++ l) u.noted ∙ ap (λ (m : List Bool). skim_marks u.skims ++ m) is ∙ sym (marks-push u.skims s)

  next-failed : (s : Skim) (more : List Run) (l : List Bool) → losts more ≡ losts made ++ l → l ≡ failed_of s → losts more ≡ skim_failed (u.skims ++ s ∷ [])
  next-failed s more l noting is = noting ∙ ap (λ (m : List Bool). m ++ l) u.failed ∙ ap (λ (m : List Bool). skim_failed u.skims ++ m) is ∙ sym (failed-push u.skims s)

  -- a piece that was read, and written
  pub skimming-had : (n : ℕ) (bytes : List ℕ) (stack : StackRecord) (k : ℕ) (ok : Bool) (out : O) (more : List Run) → IsNextPiece (pass_over old.stack.config d before) at 128 n
      → EachBytes now.stack d at n (Ok bytes) stack → AreMarked before at n false → marks more ≡ marks made ++ replicate n true → losts more ≡ losts made ++ replicate n false → k ≡ n
      → IsWritten (state now.out) at k ok (state out) → (IsTrue (state now.out).steady → (state out).image ≡ spliced (state now.out).image at (sectors_of k bytes)) → Did now.out (Write at bytes true) out
      → IsSkimming state Did start before d old (transfer stack out) (at + n) more (min least_skip start.most)
  skimming-had n bytes stack k ok out more piece p marked noting unfound count w image call =
      let s : Skim = record { piece = record { count = n; found = had bytes; after = stack }; skip = 0 } in
      let none : replicate n true ≡ marks_of s = sym (append-nil (replicate n true)) in
      let all : n ≡ length (marks_of s) = sym (length-replicate {A = Bool} n true) ∙ ap length none in
      record {
        skims = u.skims ++ s ∷ [];
        survey = next-survey s (record { answered = p; may = tt; marked = marked });
        here = next-here s n all;
        copied = skim-copied-had u.skims n at k bytes stack ok (state old.out) (state now.out) (state out) u.here count u.copied w image;
        noted = next-noted s more (replicate n true) noting none;
        failed = next-failed s more (replicate n false) unfound (sym (append-nil (replicate n false)));
        pieces = next-skims s (piece, refl);
        next = next-skip s;
        did = subst (λ (l : List Call). Calls Did old.out l out) (next-calls s) (calls-last Did old.out now.out out (skim_calls 0 u.skims) (Write at bytes true) u.did call);
      }

  -- sectors that were read before
  pub skimming-kept : (n : ℕ) (more : List Run) → 1 ≤ n → AreMarked before at n true → marks more ≡ marks made ++ replicate n true → losts more ≡ losts made ++ replicate n false → IsSkimming state Did start before d old now (at + n) more wanted
  skimming-kept n more some marked noting unfound =
      let s : Skim = record { piece = record { count = n; found = kept; after = now.stack }; skip = 0 } in
      let none : replicate n true ≡ marks_of s = sym (append-nil (replicate n true)) in
      let all : n ≡ length (marks_of s) = sym (length-replicate {A = Bool} n true) ∙ ap length none in
      record {
        skims = u.skims ++ s ∷ [];
        survey = next-survey s (record { answered = refl; may = some; marked = marked });
        here = next-here s n all;
        copied = skim-copied-lost u.skims s (state old.out) (state now.out) (λ first m image. refl) u.copied;
        noted = next-noted s more (replicate n true) noting none;
        failed = next-failed s more (replicate n false) unfound (sym (append-nil (replicate n false)));
        pieces = next-skims s refl;
        next = next-skip s;
        did = subst (λ (l : List Call). Calls Did old.out l now.out) (sym (append-nil (skim_calls 0 u.skims)) ∙ next-calls s) u.did;
      }

  -- a piece whose read failed, and the sectors that are skipped after it
  pub skimming-skipped : (n skip : ℕ) (fault : IoFault) (stack : StackRecord) (more : List Run) → IsSkimFound (pass_over old.stack.config d before) at wanted n (again fault) skip
      → EachBytes now.stack d at n (Err fault) stack → AreMarked before at n false → marks more ≡ marks made ++ (replicate n false ++ replicate skip false) → losts more ≡ losts made ++ (replicate n true ++ replicate skip false)
      → IsSkimming state Did start before d old (transfer stack now.out) (at + (n + skip)) more (longer_skip start.most wanted)
  skimming-skipped n skip fault stack more piece p marked noting unfound =
      let s : Skim = record { piece = record { count = n; found = again fault; after = stack }; skip = skip } in
      record {
        skims = u.skims ++ s ∷ [];
        survey = next-survey s (record { answered = p; may = tt; marked = marked });
        here = next-here s (n + skip) (omega (arith, length-append {A = Bool} (replicate n false) (replicate skip false), length-replicate {A = Bool} n false, length-replicate {A = Bool} skip false));
        copied = skim-copied-lost u.skims s (state old.out) (state now.out) (λ first m image. refl) u.copied;
        noted = next-noted s more (replicate n false ++ replicate skip false) noting refl;
        failed = next-failed s more (replicate n true ++ replicate skip false) unfound refl;
        pieces = next-skims s piece;
        next = next-skip s;
        did = subst (λ (l : List Call). Calls Did old.out l now.out) (sym (append-nil (skim_calls 0 u.skims)) ∙ next-calls s) u.did;
      }

  -- there is room for more sectors in the map
  pub skim-room : (n : ℕ) → at + n ≤ 2 ^ 54 → length (marks made) + n ≤ 2 ^ 54
  skim-room n room = omega (arith, room, u.here, ap length u.noted)

  -- ---- its end

  begun : IsSkimBegun start before d old.stack
  begun = record { skims = u.skims; left = now.stack; survey = u.survey; pieces = u.pieces }

  -- memory ran out
  pub skims-short : (stack : StackRecord) → (state now.out).failures ≡ (state old.out).failures → FindsNoMemory d at now.stack stack ⊎ IsOutOfMemory 1
      → SkimsShort start before d (seen_transfer state old) (transfer stack (state now.out))
  unfolding begun
  skims-short stack unfailed refused = record {
    begun = begun;
    copied = u.copied;
    unfailed = unfailed;
    refused = subst (λ (k : ℕ). FindsNoMemory d k now.stack stack ⊎ IsOutOfMemory 1) u.here refused;
  }

  -- a write of the output device failed
  pub fails-skim : (n : ℕ) (bytes : List ℕ) (stack : StackRecord) (out : Device) → EachBytes now.stack d at n (Ok bytes) stack → IsWritten (state now.out) at n false out → HasFailed (state old.out) out
      → (IsTrue (state old.out).never_fails → ⊥) → FailsSkimOutput start before d (seen_transfer state old) (transfer stack out)
  unfolding begun
  fails-skim n bytes stack out read writing failed sure = record {
    begun = begun;
    out = state now.out;
    n = n;
    bytes = bytes;
    read = subst (λ (k : ℕ). EachBytes now.stack d k n (Ok bytes) stack) u.here read;
    copied = u.copied;
    writing = subst (λ (k : ℕ). IsWritten (state now.out) k n false out) u.here writing;
    failed = failed;
    sure = sure;
  }

  -- the pass ended here
  pub skims-until : (deadline : Option Deadline) (sectors : ℕ) → EndsAt deadline Forward at sectors → sectors ≡ size old.stack.config (mapped d) → (state now.out).failures ≡ (state old.out).failures
      → SkimsUntil deadline start before d (seen_transfer state old) (skimmed made wanted) (seen_transfer state now)
  skims-until deadline sectors ends all unfailed =
      let here : at ≡ length (marks made) = u.here ∙ sym (ap length u.noted) in
      record {
        reads = record {
          skims = u.skims;
          survey = u.survey;
          whole = sym (ap length u.noted);
          pieces = u.pieces;
          next = u.next;
          copied = u.copied;
          unfailed = unfailed;
          noted = u.noted;
          failed = u.failed;
        };
        ends = subst (λ (n : ℕ). EndsAt deadline Forward n (size old.stack.config (mapped d))) here (subst (λ (n : ℕ). EndsAt deadline Forward at n) all ends);
      }

  pub hands-skims : HandsSkimsUntil Did before d old now (skimmed made wanted)
  hands-skims = record {
    skims = u.skims;
    survey = u.survey;
    whole = sym (ap length u.noted);
    noted = u.noted;
    made = u.did;
  }

  -- memory ran out
  pub hands-short : (stack : StackRecord) → HandsSkimsPart Did before d old (transfer stack now.out) recovery.NoMemory
  hands-short stack = record {
    skims = u.skims;
    left = now.stack;
    last = [];
    survey = u.survey;
    made = subst (λ (l : List Call). Calls Did old.out l now.out) (sym (append-nil (skim_calls 0 u.skims))) u.did;
    ends = refl;
  }

  -- a write failed
  pub hands-unwritten : (stack : StackRecord) (out : O) (n : ℕ) (bytes : List ℕ) → EachBytes now.stack d at n (Ok bytes) stack → Did now.out (Write at bytes false) out
      → HandsSkimsPart Did before d old (transfer stack out) recovery.Output
  hands-unwritten stack out n bytes read call = record {
    skims = u.skims;
    left = now.stack;
    last = Write (length (skim_marks u.skims)) bytes false ∷ [];
    survey = u.survey;
    made = calls-last Did old.out now.out out (skim_calls 0 u.skims) (Write (length (skim_marks u.skims)) bytes false) u.did (subst (λ (k : ℕ). Did now.out (Write k bytes false) out) u.here call);
    ends = (n, bytes, subst (λ (k : ℕ). EachBytes now.stack d k n (Ok bytes) stack) u.here read, refl);
  }
