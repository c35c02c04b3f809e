-- Pieces that are read one after another.
use Rattle.std.proofs.Common.{◌≡◌, ℕ, ◌+◌, Bool, List, [], ◌∷◌, ◌++◌, length, Err, refl, ap, ◌∙◌, subst, arith}
use Rattle.std.proofs.lemmas.List.{append-nil, length-append}
use Rattle.std.proofs.lemmas.List.Concat.{flat_map-append}
use Rattle.stack_rules.specs.Names.{mapped}
use Rattle.stack_meaning.specs.declared.fault.IoFault.TheVariants.{NoMemory}
use Rattle.stack_meaning.specs.Meaning.{said_at}
use Rattle.stack_meaning.specs.Reading.{MeetVerity}
use Rattle.stack_engine.specs.Bytes.{EachBytes}
use Rattle.stack_engine.specs.Stacks.{StackRecord}
use Rattle.stack_recovery.specs.Recoveries.{FindsNoMemory}
use Rattle.stack_recovery.specs.Surveys.{IsPieceSurveyed, IsSurveyOver, PieceRead, SectorState, all_states, states_of}

-- a read from that sector on ran out of memory
pub no-memory : (d at count : ℕ) (w w' : StackRecord) → EachBytes w d at count (Err NoMemory) w' → MeetVerity (said_at w.config (mapped d)) at count → FindsNoMemory d at w w'
no-memory d at count w w' read met =
    let here : at ≡ at + 0 = omega arith in
    record { behind = 0; count = count; answered = subst (λ (k : ℕ). EachBytes w d k count (Err NoMemory) w') here read; met = subst (λ (k : ℕ). MeetVerity (said_at w.config (mapped d)) k count) here met }

pub states-push : (reads : List PieceRead) (r : PieceRead) → all_states (reads ++ r ∷ []) ≡ all_states reads ++ states_of r
states-push reads r = flat_map-append states_of reads (r ∷ []) ∙ ap (λ (l : List SectorState). all_states reads ++ l) (append-nil (states_of r))

-- a piece after those so far
pub survey-push : (marks : List Bool) (d first : ℕ) (w : StackRecord) (reads : List PieceRead) (mid : StackRecord) (r : PieceRead) → IsSurveyOver marks d first w reads mid
    → IsPieceSurveyed marks d (first + length (all_states reads)) mid r → IsSurveyOver marks d first w (reads ++ r ∷ []) r.after
survey-push marks d first w [] mid r s p =
    let at : first + 0 ≡ first = omega arith in
    (subst (λ (v : StackRecord). IsPieceSurveyed marks d first v r) s (subst (λ (k : ℕ). IsPieceSurveyed marks d k mid r) at p), refl)
survey-push marks d first w (x ∷ more) mid r s p =
    let at : first + length (all_states (x ∷ more)) ≡ first + length (states_of x) + length (all_states more) = omega (arith, length-append (states_of x) (all_states more)) in
    (s.0, survey-push marks d (first + length (states_of x)) x.after more mid r s.1 (subst (λ (k : ℕ). IsPieceSurveyed marks d k mid r) at p))
