-- Writes of the leaves, one after another.
use Rattle.std.proofs.Common.{◌≡◌, ℕ, zero, suc, ◌+◌, ◌≤◌, Bool, IsTrue, true, false, List, [], ◌∷◌, length, get_or, map, Contains, refl, sym, ap, ◌∙◌, subst, arith}
use Rattle.std.specs.Prelude.{if◌then◌else◌}
use Rattle.std.proofs.lemmas.List.{length-map}
use Rattle.block_device.specs.Device.{Device, in_memory}
use Rattle.stack_meaning.specs.Outcomes.{LeafSector, zero_sector}
use Rattle.stack_meaning.specs.Leaves.{steady_image, steady_images, Fixed, fixed_part, AreRead}
use Rattle.stack_meaning.specs.Changes.{LeafSectors, reached, KeepsOthers, AreWritten, DifferWithin}
use Rattle.stack_meaning.proofs.lemmas.LeafListLemmas.{Moves-none, Moves-then, same_length, steady_kept}

-- ---- some leaf sectors among others

abbrev pub Among : LeafSectors → LeafSectors → Type 0
Among these more = (p : LeafSector) → these p → more p

pub reached-first : (reaches : ℕ → List LeafSector) (first a n : ℕ) → a ≤ n → Among (reached reaches first a) (reached reaches first n)
reached-first reaches first a n h p some = (some.0, omega (arith, h, some.1), some.2)

pub reached-later : (reaches : ℕ → List LeafSector) (first a m n : ℕ) → a + m ≤ n → Among (reached reaches (first + a) m) (reached reaches first n)
reached-later reaches first a m n h p some =
    let at : first + a + some.0 ≡ first + (a + some.0) = omega arith in
    (a + some.0, omega (arith, h, some.1), subst (λ (s : ℕ). Contains (reaches s) p) at some.2)

-- ---- leaves that stay

pub KeepsOthers-none : (these : LeafSectors) (leaves : List Device) → KeepsOthers these leaves leaves
KeepsOthers-none these leaves = record { size = λ i d h. refl; sector = λ i t d h out. refl; leaf = λ i d out. refl }

pub KeepsOthers-more : {these more : LeafSectors} {old new : List Device} → Among these more → KeepsOthers these old new → KeepsOthers more old new
KeepsOthers-more among k = record {
  size = k.size;
  sector = λ i t d h out. k.sector i t d h (λ x. out (among (i, t) x));
  leaf = λ i d out. k.leaf i d (λ t x. out t (among (i, t) x));
}

pub KeepsOthers-then : {these : LeafSectors} {old mid new : List Device} → map fixed_part mid ≡ map fixed_part old → KeepsOthers these old mid → KeepsOthers these mid new → KeepsOthers these old new
KeepsOthers-then {old = old} {mid = mid} e a b = record {
  size = λ i d h. b.size i d (steady_kept old mid e i d h) ∙ a.size i d h;
  sector = λ i t d h out. b.sector i t d (steady_kept old mid e i d h) out ∙ a.sector i t d h out;
  leaf = λ i d out. b.leaf i d out ∙ a.leaf i d out;
}

pub AreWritten-none : (these : LeafSectors) (most : ℕ) (leaves : List Device) → AreWritten these leaves most leaves
AreWritten-none these most leaves = record { read = 0; written = 0; within = omega arith; moved = Moves-none 0 0 leaves; others = KeepsOthers-none these leaves }

pub AreWritten-then : {these : LeafSectors} {m n : ℕ} {old mid new : List Device} → AreWritten these old m mid → AreWritten these mid n new → AreWritten these old (m + n) new
AreWritten-then a b = record { read = a.read + b.read; written = a.written + b.written; within = omega (arith, a.within, b.within); moved = Moves-then a.moved b.moved; others = KeepsOthers-then a.moved.fixed a.others b.others }

pub AreWritten-more : {these more : LeafSectors} {m n : ℕ} {old new : List Device} → Among these more → m ≤ n → AreWritten these old m new → AreWritten more old n new
AreWritten-more among h a = record { read = a.read; written = a.written; within = omega (arith, h, a.within); moved = a.moved; others = KeepsOthers-more among a.others }

-- the reads that a write needs
pub AreWritten-read : (these : LeafSectors) {n : ℕ} {old new : List Device} → AreRead old n new → ((i : ℕ) (d : Device) → ((t : ℕ) → these (i, t) → ⊥) → get_or new i d ≡ get_or old i d) → AreWritten these old n new
AreWritten-read these {n = n} a leaf = record {
  read = n;
  written = 0;
  within = omega arith;
  moved = a.moved;
  others = record {
    size = λ i d h. ap (λ (l : List (List ℕ)). length l) (a.images.image i d h);
    sector = λ i t d h out. ap (λ (l : List (List ℕ)). get_or l t zero_sector) (a.images.image i d h);
    leaf = leaf;
  };
}

-- ---- images

field-at : {X : Type 0} (f : Device → X) (leaves : List Device) (i : ℕ) (d : Device) → get_or (map f leaves) i (f d) ≡ f (get_or leaves i d)
field-at f [] i d = refl
field-at f (x ∷ leaves) zero d = refl
field-at f (x ∷ leaves) (suc i) d = field-at f leaves i d

-- what holds of two images of which none is known, and of those of a steady leaf, holds of those that are known
known-both : (Q : List (List ℕ) → List (List ℕ) → Type 0) (x y : Device) → y.steady ≡ x.steady → Q [] [] → (IsTrue x.steady → Q y.image x.image) → Q (steady_image y) (steady_image x)
known-both Q x y e none some = go x.steady y.steady e some
  where
    go : (a b : Bool) → b ≡ a → (IsTrue a → Q y.image x.image) → Q (if b then y.image else []) (if a then x.image else [])
    go true true e some = some refl
    go true false e some = absurd cc
    go false true e some = absurd cc
    go false false e some = none

-- the images of steady leaves differ in these sectors alone
pub differ-within : {these : LeafSectors} (old new : List Device) → map fixed_part new ≡ map fixed_part old → KeepsOthers these old new → DifferWithin these (steady_images old) (steady_images new)
differ-within {these = these} old new e k =
    let none : Device = in_memory [] true in
    let len : length new ≡ length old = same_length old new e in
    let same : (i : ℕ) → (get_or new i none).steady ≡ (get_or old i none).steady = λ i.
    ap (λ (f : Fixed). f.steady) (sym (field-at fixed_part new i none) ∙ ap (λ (l : List Fixed). get_or l i (fixed_part none)) e ∙ field-at fixed_part old i none) in
    let at : (Q : List (List ℕ) → List (List ℕ) → Type 0) (i : ℕ) → Q [] [] → (IsTrue (get_or old i none).steady → Q (get_or new i none).image (get_or old i none).image)
    → Q (get_or (steady_images new) i []) (get_or (steady_images old) i []) = λ Q i nothing some.
    subst (λ (b : List (List ℕ)). Q b (get_or (steady_images old) i [])) (sym (field-at steady_image new i none))
    (subst (λ (a : List (List ℕ)). Q (steady_image (get_or new i none)) a) (sym (field-at steady_image old i none)) (known-both Q (get_or old i none) (get_or new i none) (same i) nothing some)) in
    record {
      leaves = length-map new steady_image ∙ len ∙ sym (length-map old steady_image);
      sizes = λ i. at (λ b a. length b ≡ length a) i refl (λ is. k.size i none is);
      sector = λ i t out. at (λ b a. get_or b t zero_sector ≡ get_or a t zero_sector) i refl (λ is. k.sector i t none is out);
    }
