-- Lines that are written one after another.
use Rattle.std.proofs.Common.{◌≡◌, ℕ, List, [], ◌∷◌, ◌++◌, Option, Some, None, Result, Ok, Err, sym, ap, ◌∙◌, subst}
use Rattle.std.specs.Prelude.{IfErr, IsErrAnd}
use Rattle.std.specs.Io.KnownBytes.{Appends}
use Rattle.std.proofs.lemmas.List.{append-nil, append_assoc}
use Rattle.std.proofs.lemmas.List.Concat.{flat_map-append}
use Rattle.stack_recovery.specs.declared.fault.RecoveryFault.{RecoveryFault}
use Rattle.stack_recovery.specs.LostRuns.{LostRun}
use Rattle.stack_recovery.specs.Listings.{KeepsMore, Listed, Tells}
use Rattle.stack_recovery.specs.Texts.{lost_run_text, lost_text}

writes_nothing : (known : Option (List ℕ)) → Appends known known []
writes_nothing None = tt
writes_nothing (Some xs) = sym (append-nil xs)

writes-then : (a b c : Option (List ℕ)) (xs ys : List ℕ) → Appends a b xs → Appends b c ys → Appends a c (xs ++ ys)
writes-then None b c xs ys p q = tt
writes-then (Some a) None c xs ys p q = absurd p
writes-then (Some a) (Some b) None xs ys p q = absurd q
writes-then (Some a) (Some b) (Some c) xs ys p q = q ∙ ap (λ (l : List ℕ). l ++ ys) p ∙ append_assoc a xs ys

keeps_nothing : (kept : Option (List LostRun)) → KeepsMore kept kept []
keeps_nothing None = tt
keeps_nothing (Some runs) = sym (append-nil runs)

keeps-then : (a b c : Option (List LostRun)) (xs ys : List LostRun) → KeepsMore a b xs → KeepsMore b c ys → KeepsMore a c (xs ++ ys)
keeps-then None b c xs ys p q = tt
keeps-then (Some a) None c xs ys p q = absurd p
keeps-then (Some a) (Some b) None xs ys p q = absurd q
keeps-then (Some a) (Some b) (Some c) xs ys p q = q ∙ ap (λ (l : List LostRun). l ++ ys) p ∙ append_assoc a xs ys

pub tells_nothing : (told : Listed) → Tells told told []
tells_nothing told = record { ok = λ whole. writes_nothing told.text; listed = λ whole. keeps_nothing told.runs; kept = λ whole. whole }

pub runs-then : (a b c : Listed) (runs more : List LostRun) → Tells a b runs → Tells b c more → Tells a c (runs ++ more)
runs-then a b c runs more p q = record {
  ok = λ whole. rw (flat_map-append lost_run_text runs more) (writes-then a.text b.text c.text (lost_text runs) (lost_text more) (p.ok (q.kept whole)) (q.ok whole));
  listed = λ whole. keeps-then a.runs b.runs c.runs runs more (p.listed (q.kept whole)) (q.listed whole);
  kept = λ whole. p.kept (q.kept whole);
}

-- the text of one run, and of one run more
pub one_run_text : (run : LostRun) → lost_text (run ∷ []) ≡ lost_run_text run
one_run_text run = append-nil (lost_run_text run)

pub runs_text_last : (runs : List LostRun) (run : LostRun) → lost_text (runs ++ run ∷ []) ≡ lost_text runs ++ lost_text (run ∷ [])
runs_text_last runs run = flat_map-append lost_run_text runs (run ∷ [])

-- what holds of a fault holds of the result that hands it on
pub err-from : {T : Type 0} (r : Result T RecoveryFault) (P : RecoveryFault → Type 0) (fault : RecoveryFault) → IsErrAnd r (λ e. e ≡ fault) → P fault → IfErr r P
err-from (Ok done) P fault is holds = tt
err-from (Err e) P fault is holds = subst P (sym is) holds
