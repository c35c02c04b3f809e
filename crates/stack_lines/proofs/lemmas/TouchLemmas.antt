-- Which leaves a read touches, from the lines down.
use Rattle.std.proofs.Common.{IsTrue, ◌≡◌, ◌≢◌, ℕ, ◌+◌, ◌-◌, ◌<◌, Bool, true, false, ◌||◌, ◌==◌, List, [], ◌∷◌, get_or, map, set, Option, Some, None, Result, Ok, Err, refl, sym, ap, ◌∙◌, subst, arith}
use Rattle.std.specs.Prelude.{slice_get, IfErr}
use Rattle.std.specs.List.{AllByRecursion, list_any}
use Rattle.std.specs.Option.{option_map_or}
use Rattle.std.proofs.lemmas.Bool.Decides.{nat_tests}
use Rattle.std.proofs.lemmas.List.{get_or-set_other, map-set}
use Rattle.block_device.specs.Device.{Device}
use Rattle.dm_table.specs.declared.parity.Parity.{Parity}
use Rattle.dm_table.specs.declared.verity.Verity.{Verity}
use Rattle.dm_table.specs.declared.table.Line.{Line}
use Rattle.dm_table.specs.declared.table.Target.{Target}
use Rattle.dm_table.specs.declared.table.Target.TheVariants.{Verity as verity_target}
use Rattle.stack_rules.specs.declared.lower.Lower.{Lower}
use Rattle.stack_rules.specs.declared.lower.Lower.TheVariants.{Leaf}
use Rattle.stack_rules.specs.Records.{Configuration}
use Rattle.stack_rules.specs.Names.{mapped, named, names, lines_of}
use Rattle.stack_rules.specs.Lines.{IsLine}
use Rattle.stack_rules.specs.Rules.{IsLoaded}
use Rattle.stack_rules.specs.targets.Verity.{parity_bases}
use Rattle.stack_meaning.specs.declared.fault.IoFault.{IoFault}
use Rattle.stack_meaning.specs.declared.fault.IoFault.TheVariants as io
use Rattle.stack_meaning.specs.Beneath.{beneath}
use Rattle.stack_meaning.specs.Kept.{target_leaves}
use Rattle.stack_meaning.proofs.lemmas.LoadedLemmas.{at_place, of_beneath}
use Rattle.stack_lines.specs.declared.source.CryptPart.{CryptPart}
use Rattle.stack_lines.specs.declared.source.Source.{Source}
use Rattle.stack_lines.specs.declared.source.Source.TheVariants.{Below, Units, UnitPart, Zeros, Fails, Block, Blocks}
use Rattle.stack_lines.specs.declared.tree.Tree.{Tree}
use Rattle.stack_lines.specs.Sources.{HasTarget, IsPartOf, IsServed}
use Rattle.stack_lines.specs.Standing.{stands_on, name_stands_on}
use Rattle.stack_lines.specs.Touches.{NamesOneOf, TouchesOnly, leaves_of, source_leaves}
use Rattle.stack_lines.specs.Walks.{IsTreeOf, block_in, block_leaves}
use Rattle.stack_lines.proofs.lemmas.StandingLemmas.{or-false, stands-leaf, stands-device, name-stands}
use Rattle.stack_lines.proofs.lemmas.VerityLineLemmas.{parity-named}

-- ---- one set of leaves, and several calls

-- no leaf was asked
pub touches-none : {A : Type 0} (these : ℕ → Bool) (leaves : List Device) (result : Result A IoFault) → IfErr result (NamesOneOf these) → TouchesOnly these leaves leaves result
touches-none these leaves result fault = record { leaf = λ i d out. refl; fault = fault }

-- a call that ended well, and the next one
pub touches-then : {A B : Type 0} {these : ℕ → Bool} {old mid new : List Device} {x : A} {result : Result B IoFault} → TouchesOnly these old mid (Ok x) → TouchesOnly these mid new result → TouchesOnly these old new result
touches-then p q = record { leaf = λ i d out. q.leaf i d out ∙ p.leaf i d out; fault = q.fault }

-- another answer of the same call
pub touches-as : {A B : Type 0} {these : ℕ → Bool} {old new : List Device} {result : Result A IoFault} (other : Result B IoFault) → IfErr other (NamesOneOf these) → TouchesOnly these old new result → TouchesOnly these old new other
touches-as other fault p = record { leaf = p.leaf; fault = fault }

-- ---- one set of leaves within another

-- what isn't one of more isn't one of these
abbrev pub AreWithin : (ℕ → Bool) → (ℕ → Bool) → Type 0
AreWithin these more = (i : ℕ) → more i ≡ false → these i ≡ false

-- one of these is one of more
pub one-within : (these more : ℕ → Bool) → AreWithin these more → (i : ℕ) → IsTrue (these i) → IsTrue (more i)
one-within these more up i h = go (more i) refl
  where
    go : (b : Bool) → more i ≡ b → IsTrue (more i)
    go true e = e
    go false e = let clash : true ≡ false = sym h ∙ up i e in absurd cc

named-up : (these more : ℕ → Bool) → AreWithin these more → (fault : IoFault) → NamesOneOf these fault → NamesOneOf more fault
named-up these more up (io.Stack fault) h = tt
named-up these more up (io.Device i) h = go (more (i - 1)) refl
  where
    go : (b : Bool) → more (i - 1) ≡ b → NamesOneOf more (io.Device i)
    go true e = e
    go false e = let clash : true ≡ false = sym h ∙ up (i - 1) e in absurd cc
named-up these more up io.NoMemory h = tt

fault-up : {A : Type 0} (these more : ℕ → Bool) → AreWithin these more → (result : Result A IoFault) → IfErr result (NamesOneOf these) → IfErr result (NamesOneOf more)
fault-up these more up (Ok x) h = tt
fault-up these more up (Err fault) h = named-up these more up fault h

pub touches-up : {A : Type 0} {these more : ℕ → Bool} {old new : List Device} {result : Result A IoFault} → AreWithin these more → TouchesOnly these old new result → TouchesOnly more old new result
touches-up {these = these} {more = more} {result = result} up p = record { leaf = λ i d out. p.leaf i d (up i out); fault = fault-up these more up result p.fault }

-- ---- leaves

pub other-leaf : (k i : ℕ) → (k == i) ≡ false → k ≢ i
other-leaf k i h same = let yes : (k == i) ≡ true = grind (arith, nat_tests) in let clash : false ≡ true = sym h ∙ yes in cc

-- a leaf was asked
pub leaf-touched : {X A : Type 0} (state : X → Device) (devices : List X) (i : ℕ) (c : Configuration) (new : X) (result : Result A IoFault) → IfErr result (NamesOneOf (leaves_of c (Leaf i)))
    → TouchesOnly (leaves_of c (Leaf i)) (map state devices) (map state (set devices i new)) result
leaf-touched state devices i c new result fault = record {
  leaf = λ k d out.
      ap (λ (l : List Device). get_or l k d) (map-set state devices i new)
      ∙ get_or-set_other (map state devices) i k (state new) d (other-leaf k i (sym (stands-leaf c k i) ∙ out));
  fault = fault;
}

-- the leaf of that number is beneath itself
pub leaf-named : (c : Configuration) (i : ℕ) → NamesOneOf (leaves_of c (Leaf i)) (io.Device (i + 1))
leaf-named c i =
    let number : i ≡ i + 1 - 1 = omega arith in
    let same : (i == i) ≡ true = grind (arith, nat_tests) in
    subst (λ (k : ℕ). stands_on c k (Leaf i) ≡ true) number (stands-leaf c i i ∙ same)

-- ---- what a line names

none-of : {X : Type 0} (p : X → Bool) (xs : List X) → list_any p xs ≡ false → AllByRecursion (λ x. p x ≡ false) xs
none-of p [] h = tt
none-of p (x ∷ xs) h = go (p x) refl h (none-of p xs)
  where
    go : (b : Bool) → p x ≡ b → (b || list_any p xs) ≡ false → (list_any p xs ≡ false → AllByRecursion (λ x. p x ≡ false) xs) → (p x ≡ false) × AllByRecursion (λ x. p x ≡ false) xs
    go true e h rest = absurd cc
    go false e h rest = (e, rest h)

module _ (c : Configuration) (loaded : IsLoaded c) (d l : ℕ) (line : Line) (at : IsLine c d l line) (i : ℕ) (out : stands_on c i (mapped d) ≡ false) where
  names-out : AllByRecursion (λ name. name_stands_on c i name ≡ false) (names line.target)
  names-out =
      let any : List (List ℕ) → Bool = list_any (name_stands_on c i) in
      none-of (name_stands_on c i) (names line.target)
      (at_place (λ (x : Line). any (names x.target) ≡ false) (lines_of c d) l line (none-of (λ (x : Line). any (names x.target)) (lines_of c d) (sym (stands-device c loaded i d) ∙ out)) at)

  -- nor is what the line's names mean stacked on leaf i
  name-out : (k : ℕ) (name : List ℕ) (lower : Lower) → slice_get (names line.target) k ≡ Some name → named c name ≡ Some lower → stands_on c i lower ≡ false
  name-out k name lower there is = sym (name-stands c i name lower is) ∙ at_place (λ (n : List ℕ). name_stands_on c i n ≡ false) (names line.target) k name names-out there

  under-out : (s : ℕ) (p : List ℕ × ℕ) (lower : Lower) → beneath line.target s ≡ Some p → named c p.0 ≡ Some lower → stands_on c i lower ≡ false
  under-out s p lower under is = sym (name-stands c i p.0 lower is) ∙ of_beneath (λ (n : List ℕ). name_stands_on c i n ≡ false) line.target s p names-out under

-- the leaves beneath a verity line
any-none : {X : Type 0} (p : X → Bool) (xs : List X) → AllByRecursion (λ x. p x ≡ false) xs → list_any p xs ≡ false
any-none p [] none = refl
any-none p (x ∷ xs) none = ap (λ (b : Bool). b || list_any p xs) none.0 ∙ any-none p xs none.1

pub verity-names : (c : Configuration) (d l n : ℕ) (v : Verity) → IsLoaded c → HasTarget c d l (verity_target v) n → (i : ℕ) → IsTrue (target_leaves c (verity_target v) i) → IsTrue (leaves_of c (mapped d) i)
verity-names c d l n v loaded has =
    one-within (target_leaves c (verity_target v)) (leaves_of c (mapped d))
    (λ i out. any-none (name_stands_on c i) (names (verity_target v)) (subst (λ (t : Target). AllByRecursion (λ name. name_stands_on c i name ≡ false) (names t)) has.has (names-out c loaded d l has.line has.is i out)))

pub verity-leaves : (c : Configuration) (v : Verity) (k i : ℕ) → target_leaves c (verity_target v) i ≡ block_leaves (block_in c v k) i
verity-leaves c v k i = go v.parity
  where
    at : List ℕ → Bool
    at name = name_stands_on c i name

    go : (o : Option Parity) → list_any at (v.data ∷ v.hash ∷ map (λ base. base.device) (parity_bases o)) ≡ (at v.data || (at v.hash || option_map_or (λ p. at p.device) o false))
    go None = refl
    go (Some p) = ap (λ (b : Bool). at v.data || (at v.hash || b)) (or-false (at p.device))

-- the device beneath a part of a crypt line
pub crypt-within : (c : Configuration) (d l n : ℕ) (target : Target) (u : CryptPart) → IsLoaded c → HasTarget c d l target n → IsPartOf c target u → AreWithin (leaves_of c u.lower) (leaves_of c (mapped d))
crypt-within c d l n target u loaded has of i out =
    name-out c loaded d l has.line has.is i out 0 of.crypt.base.device u.lower (ap (λ (t : Target). slice_get (names t) 0) (has.has ∙ of.is)) of.named

-- those beneath a verity line
module _ (c : Configuration) (v : Verity) (tree : Tree) (loaded : IsLoaded c) (is : IsTreeOf c v tree) where
  pub data-within : AreWithin (leaves_of c tree.data) (leaves_of c (mapped tree.device.0))
  data-within i out = name-out c loaded tree.device.0 tree.line is.is.line is.is.is i out 0 v.data tree.data (ap (λ (t : Target). slice_get (names t) 0) is.is.has) is.on_data

  pub hash-within : AreWithin (leaves_of c tree.hash) (leaves_of c (mapped tree.device.0))
  hash-within i out = name-out c loaded tree.device.0 tree.line is.is.line is.is.is i out 1 v.hash tree.hash (ap (λ (t : Target). slice_get (names t) 1) is.is.has) is.on_hash

  pub parity-within : (lower : Lower) → tree.parity ≡ Some lower → AreWithin (leaves_of c lower) (leaves_of c (mapped tree.device.0))
  parity-within lower there i out =
      let p = parity-named c v tree is lower there in
      let third : slice_get (names (verity_target v)) 2 ≡ Some p.parity.device = ap (λ (o : Option Parity). slice_get (v.data ∷ v.hash ∷ map (λ base. base.device) (parity_bases o)) 2) p.has in
      name-out c loaded tree.device.0 tree.line is.is.line is.is.is i out 2 p.parity.device lower (ap (λ (t : Target). slice_get (names t) 2) is.is.has ∙ third) p.named

-- where the sectors of a device come from
pub served-within : (c : Configuration) (d s n : ℕ) (source : Source) → IsLoaded c → 0 < n → IsServed c d s n source → AreWithin (source_leaves c source) (leaves_of c (mapped d))
served-within c d s n (Below lower first) loaded some r i out =
    let on = r.come.1 in under-out c loaded d r.number r.line r.is i out (s - r.line.start + 0) (on.name, first + 0) lower (on.under 0 some) on.is
served-within c d s n (Units u) loaded some r i out = crypt-within c d r.number 0 r.line.target u loaded (record { line = r.line; is = r.is; has = refl; fits = omega arith }) r.come.0 i out
served-within c d s n (UnitPart u) loaded some r i out = crypt-within c d r.number 0 r.line.target u loaded (record { line = r.line; is = r.is; has = refl; fits = omega arith }) r.come.0 i out
served-within c d s n Zeros loaded some r i out = refl
served-within c d s n Fails loaded some r i out = refl
served-within c d s n (Block x) loaded some r i out = ap (λ (k : ℕ). stands_on c i (mapped k)) r.come.1.0 ∙ out
served-within c d s n (Blocks x) loaded some r i out = ap (λ (k : ℕ). stands_on c i (mapped k)) r.come.1.0 ∙ out
