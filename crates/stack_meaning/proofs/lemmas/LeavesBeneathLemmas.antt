-- What a device means depends on the leaves beneath it alone.
use Rattle.std.proofs.Common.{◌≡◌, ℕ, zero, suc, ◌+◌, List, [], ◌∷◌, get_or, All, Option, Some, None, Ok, refl, ap}
use Rattle.std.specs.Prelude.{flat_map}
use Rattle.std.specs.List.{AllByRecursion}
use Rattle.std.proofs.lemmas.List.Elements.{recursion_from_All}
use Rattle.dm_table.specs.declared.table.Line.{Line}
use Rattle.dm_table.specs.declared.table.Target.{Target}
use Rattle.stack_rules.specs.declared.lower.Lower.{Lower}
use Rattle.stack_rules.specs.declared.lower.Lower.TheVariants.{Leaf as leaf, Device as device}
use Rattle.stack_rules.specs.Records.{Configuration}
use Rattle.stack_rules.specs.Names.{named, names, lowers, lines_of}
use Rattle.stack_rules.specs.Descend.{descend, after_steps, most_devices, by_name, known}
use Rattle.stack_rules.specs.Lines.{line_at}
use Rattle.stack_rules.proofs.lemmas.CostRuleLemmas.{in-append}
use Rattle.stack_meaning.specs.Beneath.{beneath, below, said_or}
use Rattle.stack_meaning.specs.TargetMeaning.{Meant, handed, own, said_as}
use Rattle.stack_meaning.specs.MeaningOf.{meaning_of}
use Rattle.stack_meaning.proofs.lemmas.BaseLemmas.{beneath-each, below-each}
use Rattle.stack_meaning.proofs.lemmas.MeaningLaws.{MeantLaws}
use Rattle.stack_meaning.proofs.lemmas.MeaningLawsOf.{meaning-laws}
use Rattle.stack_meaning.specs.LeavesBeneath.{leaves_rule, leaves_beneath}
use Rattle.stack_meaning.specs.Meaning.{Said, leaf_said, none_said, line_said, sector}
use Rattle.stack_meaning.specs.Outcomes.{Images, span, zero_sector}
use Rattle.stack_meaning.specs.Sectors.{on_found, sector_rule}
use Rattle.stack_meaning.proofs.lemmas.LoadedLemmas.{of_line}
use Rattle.stack_meaning.proofs.lemmas.EachLineLemmas.{line_at-is}
use Rattle.stack_meaning.proofs.lemmas.SpanLemmas.{span_same}

module _ (images other : Images) where
  -- a sector means the same over both
  abbrev IsAlike : Said → Type 0
  IsAlike said = said.means images ≡ said.means other

  line-alike : (at : List ℕ → ℕ → Said) (d l : ℕ) (target : Target) (s : ℕ) → AllByRecursion (λ name. (t : ℕ) → IsAlike (at name t)) (names target) → IsAlike (line_said at d l target s)
  line-alike at d l target s all = go (meaning_of target).meant (meaning-laws target)
    where
      go : (m : Meant) → MeantLaws target m → IsAlike (said_as m (said_or none_said at (beneath target s)) (below none_said at target) d l s)
      go handed laws = beneath-each IsAlike refl at target s all
      go (own m) laws = laws.alike images other (below none_said at target) (below-each IsAlike refl at target all) d l s

  -- the leaf has one image
  abbrev IsSame : ℕ → Type 0
  IsSame i = get_or images i [] ≡ get_or other i []

  module _ (c : Configuration) where
    each-list : (f : Lower → List ℕ) (ys : List Lower) → AllByRecursion IsSame (flat_map f ys) → AllByRecursion (λ y. AllByRecursion IsSame (f y)) ys
    each-list f [] all = tt
    each-list f (y ∷ ys) all = let both = in-append IsSame (f y) (flat_map f ys) all in (both.0, each-list f ys both.1)

    each-alike : {P Q : Lower → Type 0} → ((y : Lower) → P y → Q y) → (ys : List Lower) → AllByRecursion P ys → AllByRecursion Q ys
    each-alike turn [] all = tt
    each-alike turn (y ∷ ys) all = (turn y all.0, each-alike turn ys all.1)

    -- what is said of what a name means, where it is said alike of each leaf and device
    named-alike : (f : Lower → ℕ → Said) (ns : List (List ℕ)) → AllByRecursion (λ name. (y : Lower) → named c name ≡ Some y → (t : ℕ) → IsAlike (f y t)) ns
        → AllByRecursion (λ name. (t : ℕ) → IsAlike (by_name c (λ t. none_said) f name t)) ns
    named-alike f [] h = tt
    named-alike f (name ∷ ns) h = (by (named c name) h.0, named-alike f ns h.1)
      where
        by : (o : Option Lower) → ((y : Lower) → o ≡ Some y → (t : ℕ) → IsAlike (f y t)) → (t : ℕ) → IsAlike (known {A = ℕ → Said} (λ t. none_said) f o t)
        by None h t = refl
        by (Some y) h t = h y refl t

    device-alike : (f : Lower → ℕ → Said) (d s : ℕ) → AllByRecursion (λ y. (t : ℕ) → IsAlike (f y t)) (lowers c d) → (o : Option (ℕ × Line)) → line_at c d s ≡ o
        → IsAlike (on_found none_said (line_said (by_name c (λ t. none_said) f)) d s o)
    device-alike f d s each None e = refl
    device-alike f d s each (Some p) e =
        line-alike (by_name c (λ t. none_said) f) d p.0 p.1.target _
        (named-alike f (names p.1.target) (of_line c (λ y. (t : ℕ) → IsAlike (f y t)) (lines_of c d) p.0 p.1 each (line_at-is c d s p e)))

    steps-alike : (n : ℕ) (y : Lower) → AllByRecursion IsSame (after_steps [] (leaves_rule c) n y) → (s : ℕ) → IsAlike (after_steps (λ t. none_said) (sector_rule c none_said leaf_said line_said) n y s)
    steps-alike zero y all s = refl
    steps-alike (suc n) (leaf i) all s = ap (λ (image : List (List ℕ)). Ok (get_or image s zero_sector)) all.0
    steps-alike (suc n) (device d) all s =
        device-alike (after_steps (λ t. none_said) (sector_rule c none_said leaf_said line_said) n) d.0 s
        (each-alike (λ y. steps-alike n y) (lowers c d.0) (each-list (after_steps [] (leaves_rule c) n) (lowers c d.0) all)) (line_at c d.0 s) refl

    pub sector-alike : (lower : Lower) → AllByRecursion IsSame (leaves_beneath c lower) → (s : ℕ) → sector c images lower s ≡ sector c other lower s
    unfolding descend
    sector-alike lower all s = steps-alike (suc most_devices) lower all s

    pub spans-alike : (lower : Lower) → All IsSame (leaves_beneath c lower) → (first n : ℕ) → span (sector c images lower) first n ≡ span (sector c other lower) first n
    unfolding descend
    spans-alike lower all first n =
        span_same (sector c images lower) (sector c other lower) first first n
        (λ j h. steps-alike (suc most_devices) lower (recursion_from_All IsSame (leaves_beneath c lower) all) (first + j))
