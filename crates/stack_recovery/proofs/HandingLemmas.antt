-- The calls on the output device, while sectors are left.
use Rattle.std.proofs.Common.{◌≡◌, ℕ, ◌+◌, false, Bool, List, [], ◌∷◌, ◌++◌, length, Option, Ok, refl, sym, ◌∙◌, subst}
use Rattle.std.proofs.lemmas.List.{append-nil}
use Rattle.block_device.specs.Call.{Call, Calls, Write}
use Rattle.block_device.proofs.lemmas.CallLemmas.{calls-last}
use Rattle.stack_engine.specs.Bytes.{EachBytes}
use Rattle.stack_engine.specs.Stacks.{StackRecord}
use Rattle.rescue_map.specs.declared.map.Run.{Run}
use Rattle.stack_recovery.specs.declared.fault.RecoveryFault.{RecoveryFault}
use Rattle.stack_recovery.specs.declared.fault.RecoveryFault.TheVariants as recovery
use Rattle.stack_recovery.specs.declared.recovery.Counts.{Counts}
use Rattle.stack_recovery.specs.declared.tally.Tally.{Tally}
use Rattle.stack_recovery.specs.Handing.{HandsOverPart, HandsOverTo, copy_calls}
use Rattle.stack_recovery.specs.Losses.{StopsInRun}
use Rattle.stack_recovery.specs.PassPieces.{Scanned}
use Rattle.stack_recovery.specs.declared.way.Way.{Way}
use Rattle.stack_recovery.specs.Recoveries.{Sides, counted_sectors, parties}
use Rattle.stack_recovery.specs.Surveys.{AreMarked, all_states}
use Rattle.stack_recovery.proofs.UnderwayLemmas.{IsUnderway, counted-all, tally_counts}

-- such a pass, whose writes are the calls on the output device
pub record IsHanding {O : Type 0} (Did : O → Call → O → Type 0) (makes_map : Bool) (before : List Bool) (scan : Scanned) (old new : Sides) (at : ℕ) (tally : Tally) (made : Option (List Run)) (way : Way) (out out' : O) : Type 0 where
  pub calls : List Call
  pub under : IsUnderway makes_map before scan old new at tally made way calls
  pub did : Calls Did out calls out'

module _ {O L : Type 0} (Did : O → Call → O → Type 0) (makes_map : Bool) (before : List Bool) (scan : Scanned) (old now : Sides) (at : ℕ) (tally : Tally) (noted : Option (List Run)) (way : Way) (out out' : O) (h : IsHanding Did makes_map before scan old now at tally noted way out out') (a b : L) where
  -- the pass ended here
  pub hands-over : (counts : Counts) → counts ≡ tally_counts at tally → HandsOverTo Did before scan (counted_sectors counts) (parties old.stack out a) noted (parties now.stack out' b)
  hands-over counts is = record {
    reads = h.under.reads;
    survey = h.under.survey;
    pieces = h.under.pieces;
    whole = sym h.under.here ∙ counted-all makes_map before scan old now at tally noted way h.calls h.under counts is;
    noted = h.under.noted;
    made = subst (λ (l : List Call). Calls Did out l out') h.under.written h.did;
  }

  -- memory ran out
  pub hands-part : (stack : StackRecord) → HandsOverPart Did before scan (parties old.stack out a) (parties stack out' b) recovery.NoMemory
  hands-part stack = record {
    reads = h.under.reads;
    left = now.stack;
    last = [];
    survey = h.under.survey;
    pieces = h.under.pieces;
    made = subst (λ (l : List Call). Calls Did out l out') (h.under.written ∙ sym (append-nil (copy_calls 0 h.under.reads))) h.did;
    ends = refl;
  }

  pub hands-in-run : (stack : StackRecord) (m : Bool) (x y : L) (error : RecoveryFault) → StopsInRun m x y error → HandsOverPart Did before scan (parties old.stack out a) (parties stack out' b) error
  hands-in-run stack m x y recovery.NoMemory p = hands-part stack
  hands-in-run stack m x y recovery.Output p = absurd p

  -- a write failed
  pub hands-failed : (stack : StackRecord) (out'' : O) (behind n : ℕ) (bytes : List ℕ) → AreMarked before (at + behind) n false → EachBytes now.stack scan.d (at + behind) n (Ok bytes) stack → Did out' (Write (at + behind) bytes false) out''
      → HandsOverPart Did before scan (parties old.stack out a) (parties stack out'' b) recovery.Output
  hands-failed stack out'' behind n bytes marked read call =
      let sectors : ℕ = length (all_states h.under.reads) in
      record {
        reads = h.under.reads;
        left = now.stack;
        last = Write (sectors + behind) bytes false ∷ [];
        survey = h.under.survey;
        pieces = h.under.pieces;
        made = subst (λ (l : List Call). Calls Did out (l ++ Write (sectors + behind) bytes false ∷ []) out'') h.under.written
            (calls-last Did out out' out'' h.calls (Write (sectors + behind) bytes false) h.did (subst (λ (k : ℕ). Did out' (Write (k + behind) bytes false) out'') h.under.here call));
        ends = (behind, n, bytes, subst (λ (k : ℕ). AreMarked before (k + behind) n false) h.under.here marked, subst (λ (k : ℕ). EachBytes now.stack scan.d (k + behind) n (Ok bytes) stack) h.under.here read, refl);
      }
