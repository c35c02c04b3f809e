-- No verity line is on the way of a sector that may be written.
use Rattle.std.proofs.Common.{◌≡◌, ℕ, zero, suc, ◌+◌, ◌<◌, Bool, true, false, ◌&&◌, IsTrue, List, [], ◌∷◌, Option, Some, None, refl, subst, arith}
use Rattle.std.specs.List.{AllByRecursion}
use Rattle.dm_table.specs.declared.table.Line.{Line}
use Rattle.stack_rules.specs.declared.lower.Lower.{Lower}
use Rattle.stack_rules.specs.declared.lower.Lower.TheVariants.{Leaf as leaf, Device as device}
use Rattle.stack_rules.specs.Records.{Configuration}
use Rattle.stack_rules.specs.Names.{mapped, named, names, may_write}
use Rattle.stack_rules.specs.Descend.{depth, known}
use Rattle.stack_rules.specs.Lines.{line_at, IsLine}
use Rattle.stack_rules.specs.Rules.{IsLoaded, needs_read_only}
use Rattle.stack_config.proofs.lemmas.LoadedLineLemmas.{sound-line, names-shallower, names-writable}
use Rattle.stack_meaning.specs.Sectors.{on_found}
use Rattle.stack_meaning.specs.Outcomes.{mismatch}
use Rattle.stack_meaning.specs.Beneath.{beneath, below, said_or}
use Rattle.stack_meaning.specs.TargetMeaning.{Meant, handed, own, said_as}
use Rattle.stack_meaning.specs.MeaningOf.{meaning_of}
use Rattle.stack_meaning.specs.Meaning.{Said, leaf_said, none_said, line_said, said_at, said_by_name}
use Rattle.stack_meaning.specs.Reading.{MeetVerity}
use Rattle.stack_meaning.proofs.lemmas.BaseLemmas.{beneath-each, below-each}
use Rattle.stack_meaning.proofs.lemmas.EachLineLemmas.{line_at-is}
use Rattle.stack_meaning.proofs.lemmas.MeaningLaws.{MeantLaws, IsUnchecked}
use Rattle.stack_meaning.proofs.lemmas.MeaningLawsOf.{meaning-laws}
use Rattle.stack_meaning.proofs.lemmas.SectorLemmas.{by_sector-rule, line_said-asks, said_at-leaf}

and-right : (a b : Bool) → a ≡ true → (a && b) ≡ false → b ≡ false
and-right true b h none = none
and-right false b h none = cc

-- what holds of each device that a name may mean holds of the name
by-name : (c : Configuration) (name : List ℕ) (t : ℕ) → ((y : Lower) → named c name ≡ Some y → IsUnchecked (said_at c y t)) → IsUnchecked (said_by_name c name t)
by-name c name t all = go (named c name) refl
  where
    go : (o : Option Lower) → named c name ≡ o → IsUnchecked (known {A = ℕ → Said} (λ t. none_said) (said_at c) o t)
    go None e h = h
    go (Some y) e h = all y e h

module _ (c : Configuration) (loaded : IsLoaded c) (d l : ℕ) (line : Line) (is : IsLine c d l line) (writable : IsTrue (may_write c (mapped d)))
    (deeper : (y : Lower) → depth c y < depth c (mapped d) → IsTrue (may_write c y) → (t : ℕ) → IsUnchecked (said_at c y t)) where
  each-name : (ns : List (List ℕ)) → AllByRecursion (λ name. (y : Lower) → named c name ≡ Some y → depth c y < depth c (mapped d)) ns → AllByRecursion (λ name. (y : Lower) → named c name ≡ Some y → may_write c y ≡ true) ns
      → AllByRecursion (λ name. (t : ℕ) → IsUnchecked (said_by_name c name t)) ns
  each-name [] shallow may = tt
  each-name (n ∷ ns) shallow may = ((λ t. by-name c n t (λ y named_so. deeper y (shallow.0 y named_so) (may.0 y named_so) t)), each-name ns shallow.1 may.1)

  line-unchecked : (s : ℕ) → IsUnchecked (line_said (said_by_name c) d l line.target s)
  line-unchecked s = go (meaning_of line.target).meant (meaning-laws line.target)
    where
      all : AllByRecursion (λ name. (t : ℕ) → IsUnchecked (said_by_name c name t)) (names line.target)
      all = each-name (names line.target) (names-shallower c d l line loaded.valid is) (names-writable c d l line loaded.valid is writable)

      plain : needs_read_only line.length line.target ≡ false
      plain = and-right (may_write c (mapped d)) (needs_read_only line.length line.target) writable (sound-line c d l line loaded.valid is).1.read_only

      go : (m : Meant) → MeantLaws line.target m → IsUnchecked (said_as m (said_or none_said (said_by_name c) (beneath line.target s)) (below none_said (said_by_name c) line.target) d l s)
      go handed laws = beneath-each IsUnchecked (λ h. h) (said_by_name c) line.target s all
      go (own m) laws = laws.unchecked line.length plain (below none_said (said_by_name c) line.target) (below-each IsUnchecked (λ h. h) (said_by_name c) line.target all) d l s

no-mismatch : (n : ℕ) (c : Configuration) → IsLoaded c → (x : Lower) → depth c x < n → IsTrue (may_write c x) → (s : ℕ) → IsUnchecked (said_at c x s)
no-mismatch zero c loaded x low writable s h = absurd (omega (arith, low))
no-mismatch (suc n) c loaded (leaf i) low writable s h = subst (λ (x : Said). x.meets mismatch) (said_at-leaf c i s) h
no-mismatch (suc n) c loaded (device d) low writable s h =
    go (λ y deep may t. no-mismatch n c loaded y (omega (arith, deep, low)) may t) (line_at c d.0 s) refl
    (subst (λ (x : Said). x.meets mismatch) (by_sector-rule c none_said leaf_said line_said line_said-asks loaded.valid (device d) s) h)
  where
    go : ((y : Lower) → depth c y < depth c (device d) → IsTrue (may_write c y) → (t : ℕ) → IsUnchecked (said_at c y t))
        → (o : Option (ℕ × Line)) → line_at c d.0 s ≡ o → (on_found none_said (line_said (said_by_name c)) d.0 s o).meets mismatch → ⊥
    go deeper None e h = h
    go deeper (Some p) e h = line-unchecked c loaded d.0 p.0 p.1 (line_at-is c d.0 s p e) writable deeper _ h

-- sectors that may be written
pub none-verity : (c : Configuration) → IsLoaded c → (x : Lower) → IsTrue (may_write c x) → (first n : ℕ) → MeetVerity (said_at c x) first n → ⊥
none-verity c loaded x writable first n some = no-mismatch (suc (depth c x)) c loaded x (omega arith) writable (first + some.0) some.2
