-- What was found in one read after another.
use Rattle.std.proofs.Common.{ℕ, ◌+◌, ◌≤◌, List, [], ◌++◌, get_or, Contains, Option, Some, None, sym, ap, ◌∙◌, subst, arith, append_assoc, append-nil}
use Rattle.std.proofs.lemmas.List.Elements.{Contains-append_left, All-append, All-nil}
use Rattle.block_device.specs.Device.{Device}
use Rattle.dm_table.specs.declared.table.Target.{Target}
use Rattle.stack_rules.specs.declared.lower.Lower.{Lower}
use Rattle.stack_rules.specs.Records.{Configuration}
use Rattle.stack_meaning.specs.Sectors.{SomeOf}
use Rattle.stack_meaning.specs.Beneath.{beneath, below, said_or}
use Rattle.stack_meaning.specs.TargetMeaning.{Meant, handed, own, said_as, keeps_as}
use Rattle.stack_meaning.specs.MeaningOf.{meaning_of}
use Rattle.stack_meaning.specs.Meaning.{Said, none_said, said_at, said_by_name}
use Rattle.stack_meaning.specs.Leaves.{AreRead}
pub use Rattle.stack_meaning.proofs.lemmas.GatheredLemmas.{SomeOf-more, in-gathered, of-gathered}
pub use Rattle.stack_meaning.proofs.lemmas.MeaningLaws.{HasMore, IsMono}
use Rattle.stack_meaning.proofs.lemmas.MeaningLaws.{MeantLaws}
use Rattle.stack_meaning.proofs.lemmas.MeaningLawsOf.{meaning-laws}
use Rattle.stack_meaning.proofs.lemmas.SectorLemmas.{IsHandedUp, said_at-each}
use Rattle.stack_meaning.specs.Found.{FoundRecord, Entry, found_entry, AreUsed, HasGrown}
use Rattle.stack_meaning.specs.Agreement.{AgreesOn}
use Rattle.stack_meaning.specs.Kept.{AreCertain, LineKeeps, AllKept, target_leaves}
use Rattle.stack_meaning.proofs.lemmas.LeafListLemmas.{AreSteady-kept, images-kept}

pub Grown-none : (entries : ℕ → List Entry) (first n : ℕ) (found : List FoundRecord) → HasGrown entries first n found found
Grown-none entries first n found = record { added = []; is = sym (append-nil found); used = All-nil _ }

-- on the way of some of more sectors
used-more : (entries : ℕ → List Entry) (first a m n : ℕ) (found : List FoundRecord) → a + m ≤ n → AreUsed entries (first + a) m found → AreUsed entries first n found
used-more entries first a m n found h all = λ k d below. SomeOf-more (λ s. Contains (entries s) (found_entry (get_or found k d))) first a m n h (all k d below)

used-less : (entries : ℕ → List Entry) (first m n : ℕ) (found : List FoundRecord) → m ≤ n → AreUsed entries first m found → AreUsed entries first n found
used-less entries first m n found h all = λ k d below. let some = all k d below in (some.0, omega (arith, h, some.1), some.2)

-- chains of some sectors, and of the next ones
pub used-append : (entries : ℕ → List Entry) (first a m : ℕ) (xs ys : List FoundRecord) → AreUsed entries first a xs → AreUsed entries (first + a) m ys → AreUsed entries first (a + m) (xs ++ ys)
used-append entries first a m xs ys p q =
    All-append (λ x. SomeOf (λ s. Contains (entries s) (found_entry x)) first (a + m)) xs ys (used-less entries first a (a + m) xs (omega arith) p) (used-more entries first a m (a + m) ys (omega arith) q)

pub Grown-then : {entries : ℕ → List Entry} {first a m n : ℕ} {u v w : List FoundRecord} → a + m ≤ n → HasGrown entries first a u v → HasGrown entries (first + a) m v w → HasGrown entries first n u w
Grown-then {entries = entries} {first = first} {a = a} {m = m} {n = n} {u = u} h p q = record {
  added = p.added ++ q.added;
  is = q.is ∙ ap (λ (x : List FoundRecord). x ++ q.added) p.is ∙ append_assoc u p.added q.added;
  used = used-less entries first (a + m) n (p.added ++ q.added) h (used-append entries first a m p.added q.added p.used q.used);
}

pub grown-keeps : {entries : ℕ → List Entry} {first n : ℕ} {u v : List FoundRecord} → HasGrown entries first n u v → (x : FoundRecord) → Contains u x → Contains v x
grown-keeps {u = u} p x h = subst (λ (l : List FoundRecord). Contains l x) (sym p.is) (Contains-append_left u p.added x h)

-- ---- what a line gave still holds after the leaves are read

LineKeeps-later : (c : Configuration) {old new : List Device} {n : ℕ} (target : Target) (x : FoundRecord) → AreRead old n new → LineKeeps c old target x.chain → LineKeeps c new target x.chain
LineKeeps-later c {old = old} {new = new} {n = n} target x a h = go (meaning_of target).meant (meaning-laws target) h
  where
    before : AreCertain c target new → AreCertain c target old
    before sure = record {
      steady = AreSteady-kept new old (sym a.moved.fixed) sure.steady;
      agrees = subst (AgreesOn c (target_leaves c target)) (images-kept a) sure.agrees;
    }

    go : (m : Meant) → MeantLaws target m → keeps_as m (below none_said (said_by_name c) target) (AreCertain c target) old x.chain → keeps_as m (below none_said (said_by_name c) target) (AreCertain c target) new x.chain
    go handed laws h = absurd h
    go (own m) laws h = laws.later (below none_said (said_by_name c) target) (AreCertain c target) old new n x.chain a before h

pub kept-later : (c : Configuration) {old new : List Device} {n : ℕ} (found : List FoundRecord) → AreRead old n new → AllKept c old found → AllKept c new found
kept-later c found a all = λ k d below.
    let x = all k d below in
    record { line = x.line; is = x.is; keeps = LineKeeps-later c x.line.target (get_or found k d) a x.keeps }

-- ---- what may be read with some chains may be read with more

said_or-mono : (at : List ℕ → ℕ → Said) → ((name : List ℕ) (s : ℕ) → IsMono (at name s)) → (o : Option (List ℕ × ℕ)) → IsMono (said_or none_said at o)
said_or-mono at all None = λ u v more b h. h
said_or-mono at all (Some p) = all p.0 p.1

line_said-mono : IsHandedUp IsMono
line_said-mono at all d l target s = go (meaning_of target).meant (meaning-laws target)
  where
    go : (m : Meant) → MeantLaws target m → IsMono (said_as m (said_or none_said at (beneath target s)) (below none_said at target) d l s)
    go handed laws = said_or-mono at all (beneath target s)
    go (own m) laws = laws.mono (below none_said at target) (λ i t. said_or-mono at all _) d l s

pub said_at-mono : (c : Configuration) (lower : Lower) (s : ℕ) → IsMono (said_at c lower s)
said_at-mono c lower s = said_at-each c IsMono (λ u v more b h. h) (λ i s u v more b h. h) line_said-mono lower s
