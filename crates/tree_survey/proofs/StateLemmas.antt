-- The states of data blocks, with one more.
use Rattle.std.proofs.Common.{◌≡◌, ◌≤◌, ◌+◌, ℕ, Bool, true, false, List, [], ◌∷◌, ◌++◌, length, get_or, Option, Some, None, sym, ap, ◌∙◌, arith}
use Rattle.std.specs.Io.KnownBytes.{Appends}
use Rattle.std.proofs.lemmas.List.{get_or-append-add, length-append}
use Rattle.runs.specs.declared.kind.Kind.{Kind}
use Rattle.runs.specs.declared.kind.Kind.TheVariants.{Changed, Unknown, Removed, Added}
use Rattle.runs.specs.Limits.{limited_lines}
use Rattle.runs.specs.Kinds.{State, count_of, is_state, one_if}
use Rattle.runs.proofs.lemmas.ListingLemmas.{IsListed, listed-had, listed-run}
use Rattle.runs.proofs.lemmas.KindLemmas.{count_of-append}
use Rattle.tree_survey.specs.declared.counts.Counts.{Counts}
use Rattle.tree_survey.specs.declared.counts.Totals.{Totals}
use Rattle.tree_survey.specs.Counts.{IsAdded, closed_at, counted, good_of, totals_of}

pub get_or-last : {X : Type 0} (xs : List X) (x d : X) (n : ℕ) → n ≡ length xs → get_or (xs ++ x ∷ []) n d ≡ x
get_or-last xs x d n is = ap (λ (k : ℕ). get_or (xs ++ x ∷ []) k d) (is ∙ sym (plain (length xs))) ∙ get_or-append-add xs (x ∷ []) 0 d
  where
    plain : (k : ℕ) → k + 0 ≡ k
    plain k = omega arith

pub length-last : {X : Type 0} (xs : List X) (x : X) (n : ℕ) → n ≡ length xs → n + 1 ≡ length (xs ++ x ∷ [])
length-last xs x n is = omega (arith, is, length-append xs (x ∷ []))

good_of-append : (xs ys : List State) → good_of (xs ++ ys) ≡ good_of xs + good_of ys
good_of-append [] ys = omega arith
good_of-append (None ∷ xs) ys = omega (arith, good_of-append xs ys)
good_of-append (Some kind ∷ xs) ys = good_of-append xs ys

totals-same : (a b : Totals) → a.good ≡ b.good → a.changed ≡ b.changed → a.unknown ≡ b.unknown → a ≡ b
totals-same a b x y z =
    let f : ℕ → ℕ → ℕ → Totals = λ p q r. record { good = p; changed = q; unknown = r } in
    ap (λ (n : ℕ). f n a.changed a.unknown) x ∙ ap (λ (n : ℕ). f b.good n a.unknown) y ∙ ap (f b.good b.changed) z

pub totals-next : (states : List State) (state : State) → counted (totals_of states) state ≡ totals_of (states ++ state ∷ [])
totals-next states None =
    totals-same _ _ (omega (arith, good_of-append states (None ∷ []))) (omega (arith, count_of-append Changed states (None ∷ []))) (omega (arith, count_of-append Unknown states (None ∷ [])))
totals-next states (Some Changed) =
    totals-same _ _ (omega (arith, good_of-append states (Some Changed ∷ []))) (omega (arith, count_of-append Changed states (Some Changed ∷ []))) (omega (arith, count_of-append Unknown states (Some Changed ∷ [])))
totals-next states (Some Unknown) =
    totals-same _ _ (omega (arith, good_of-append states (Some Unknown ∷ []))) (omega (arith, count_of-append Changed states (Some Unknown ∷ []))) (omega (arith, count_of-append Unknown states (Some Unknown ∷ [])))
totals-next states (Some Removed) =
    totals-same _ _ (omega (arith, good_of-append states (Some Removed ∷ []))) (omega (arith, count_of-append Changed states (Some Removed ∷ []))) (omega (arith, count_of-append Unknown states (Some Removed ∷ [])))
totals-next states (Some Added) =
    totals-same _ _ (omega (arith, good_of-append states (Some Added ∷ []))) (omega (arith, count_of-append Changed states (Some Added ∷ []))) (omega (arith, count_of-append Unknown states (Some Added ∷ [])))

pub good-few : (states : List State) → good_of states ≤ length states
good-few [] = omega arith
good-few (None ∷ more) = omega (arith, good-few more)
good-few (Some kind ∷ more) = omega (arith, good-few more)

weight-few : (b : Bool) → one_if b ≤ 1
weight-few true = omega arith
weight-few false = omega arith

pub count-few : (kind : Kind) (states : List State) → count_of kind states ≤ length states
count-few kind [] = omega arith
count-few kind (state ∷ more) = omega (arith, weight-few (is_state kind state), count-few kind more)

pub listed-next : (states : List State) (state : State) (g g' : Counts) (old now new : Option (List ℕ)) (at : ℕ) → at ≡ length states → IsListed None states g.tally old now
    → Appends now new (limited_lines g.tally.limit (closed_at g.tally.last at state)) → IsAdded g g' at state → IsListed None (states ++ state ∷ []) g'.tally old new
listed-next states None g g' old now new at is t told added = listed-had None states g.tally g'.tally old now new 1 (omega arith) t told added.last added.limit
listed-next states (Some kind) g g' old now new at is t told added = listed-run None states g.tally g'.tally old now new at 1 kind is (omega arith) t told added.last added.limit
