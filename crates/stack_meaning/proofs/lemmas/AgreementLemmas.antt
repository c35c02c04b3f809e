-- Images over which blocks agree with what parity restores.
use Rattle.std.proofs.Common.{◌≡◌, ℕ, ◌<◌, Bool, IsTrue, true, false, ◌||◌, ◌==◌, List, [], ◌∷◌, get_or, Option, Some, None, Ok, inl, inr, refl, sym, ap, ◌∙◌, subst, arith}
use Rattle.std.specs.List.{AllByRecursion, list_any}
use Rattle.std.proofs.lemmas.Bool.Decides.{nat_tests}
use Rattle.dm_table.specs.declared.parity.Parity.{Parity}
use Rattle.dm_table.specs.declared.table.Target.{Target}
use Rattle.dm_table.specs.declared.table.Target.TheVariants.{Verity as verity_target}
use Rattle.dm_table.specs.declared.verity.Verity.{Verity}
use Rattle.stack_rules.specs.declared.lower.Lower.{Lower}
use Rattle.stack_rules.specs.Descend.{by_name, known}
use Rattle.stack_rules.specs.Names.{named, names}
use Rattle.stack_rules.specs.Records.{Configuration}
use Rattle.tree_shape.specs.Digests.{digest}
use Rattle.stack_meaning.specs.Agreement.{AgreesOn, BlockAgrees, IsCandidate, LineAgrees}
use Rattle.stack_meaning.specs.Beneath.{below}
use Rattle.stack_meaning.specs.LeavesBeneath.{leaves_beneath, name_stands_on, stands_on, target_leaves}
use Rattle.stack_meaning.specs.Meaning.{Said, none_said, said_at, said_by_name}
use Rattle.stack_meaning.specs.Checked.{checked, checked_span}
use Rattle.stack_meaning.specs.Outcomes.{Images, Outcome, span}
use Rattle.stack_meaning.specs.targets.Verity.{sources_over}
use Rattle.stack_meaning.specs.Erasures.{covered_spare, round_losses, round_spare}
use Rattle.stack_meaning.specs.Spares.{BlockSources, covered_block}
use Rattle.stack_meaning.proofs.lemmas.BaseLemmas.{below-each}
use Rattle.stack_meaning.proofs.lemmas.CheckedLemmas.{checked-digest, checked-is, then-parts}
use Rattle.stack_meaning.proofs.lemmas.ErasureLemmas.{spare-parts}
use Rattle.stack_meaning.proofs.lemmas.LeavesBeneathLemmas.{sector-alike}
use Rattle.stack_meaning.proofs.lemmas.MeaningLaws.{IsAlike}
use Rattle.stack_meaning.proofs.lemmas.targets.Verity.{sources-alike}

-- less is asked on fewer leaves
pub agrees-within : (c : Configuration) {these more : ℕ → Bool} (images : Images) → ((i : ℕ) → IsTrue (these i) → IsTrue (more i)) → AgreesOn c more images → AgreesOn c these images
agrees-within c images within all d l line v at is on = all d l line v at is (λ i named. within i (on i named))

-- ---- a block and its spare

-- a block that has a digest, and bytes that have it
checked-block : (from : ℕ → Outcome) (first n : ℕ) (salt expected own : List ℕ) → checked_span from first n salt expected ≡ Ok own → (span from first n ≡ Ok own) × (digest salt own ≡ expected)
checked-block from first n salt expected own is =
    let parts = then-parts (span from first n) (checked salt expected) own is in
    (parts.1 ∙ ap Ok (checked-is salt expected parts.0 own parts.2), checked-digest salt expected parts.0 own parts.2)

-- a spare is a candidate
pub spare-candidate : (v : Verity) (p : Parity) (from : BlockSources) (j : ℕ) (expected restored : List ℕ) → round_spare v p from j expected ≡ Ok restored → IsCandidate v p from j restored
spare-candidate v p from j expected restored is = elim (spare-parts v p from j expected restored is).0 [
  | inl sum ↦ inr (inl sum)
  | inr code ↦ inr (inr (round_losses v p from j, code.0, code.1))
]

-- if both are there, they are the same
pub agreed-restored : (v : Verity) (from : BlockSources) (at : ℕ → Outcome) (first n j : ℕ) (expected own restored : List ℕ) → ((p : Parity) → v.parity ≡ Some p → BlockAgrees v p from j × (span at first n ≡ covered_block v from j))
    → checked_span at first n v.salt expected ≡ Ok own → covered_spare v from v.parity j expected ≡ Ok restored → restored ≡ own
agreed-restored v from at first n j expected own restored agrees is spare = go v.parity refl spare
  where
    go : (o : Option Parity) → v.parity ≡ o → covered_spare v from o j expected ≡ Ok restored → restored ≡ own
    go None none h = cc
    go (Some p) has h =
        let stored = checked-block at first n v.salt expected own is in
        let parts = spare-parts v p from j expected restored h in
        (agrees p has).0 restored own (spare-candidate v p from j expected restored h) (inl (sym (agrees p has).1 ∙ stored.0)) (parts.1 ∙ sym stored.1)

-- ---- the images of other leaves don't matter

or-here : (a b : Bool) → IsTrue a → IsTrue (a || b)
or-here a b is = ap (λ (x : Bool). x || b) is

or-there : (a b : Bool) → IsTrue b → IsTrue (a || b)
or-there true b is = refl
or-there false b is = is

module _ (c : Configuration) (images other : Images) where
  abbrev IsSame : ℕ → Type 0
  IsSame i = get_or images i [] ≡ get_or other i []

  all-same : (js : List ℕ) → ((i : ℕ) → IsTrue (list_any (λ j. i == j) js) → IsSame i) → AllByRecursion IsSame js
  all-same [] same = tt
  all-same (j ∷ js) same =
      let own : (j == j) ≡ true = grind (arith, nat_tests) in
      (same j (or-here (j == j) (list_any (λ k. j == k) js) own), all-same js (λ i is. same i (or-there (i == j) (list_any (λ k. i == k) js) is)))

  name-alike : (o : Option Lower) → ((i : ℕ) → IsTrue (known false (stands_on c i) o) → IsSame i) → (t : ℕ) → IsAlike images other (known {A = ℕ → Said} (λ t. none_said) (said_at c) o t)
  name-alike None same t = refl
  name-alike (Some y) same t = sector-alike images other c y (all-same (leaves_beneath c y) same) t

  names-alike : (ns : List (List ℕ)) → ((i : ℕ) → IsTrue (list_any (name_stands_on c i) ns) → IsSame i) → AllByRecursion (λ name. (t : ℕ) → IsAlike images other (said_by_name c name t)) ns
  names-alike [] same = tt
  names-alike (name ∷ ns) same =
      (name-alike (named c name) (λ i is. same i (or-here (name_stands_on c i name) (list_any (name_stands_on c i) ns) is)), names-alike ns (λ i is. same i (or-there (name_stands_on c i name) (list_any (name_stands_on c i) ns) is)))

  line-sources : (v : Verity) → ((i : ℕ) → IsTrue (target_leaves c (verity_target v) i) → IsSame i)
      → sources_over (below none_said (said_by_name c) (verity_target v)) images ≡ sources_over (below none_said (said_by_name c) (verity_target v)) other
  line-sources v same =
      sources-alike images other (below none_said (said_by_name c) (verity_target v))
      (below-each (IsAlike images other) refl (said_by_name c) (verity_target v) (names-alike (names (verity_target v)) same))

  -- what the leaves themselves agree on
  pub agrees-alike : (these : ℕ → Bool) → ((i : ℕ) → IsTrue (these i) → IsSame i) → AgreesOn c these images → AgreesOn c these other
  agrees-alike these same all d l line v at is on = subst (LineAgrees v) (line-sources v (λ i named. same i (on i named))) (all d l line v at is on)
