-- Calls that end at the first device call that fails, one after another, and from the lines down.
use Rattle.std.proofs.Common.{◌≡◌, ℕ, ◌+◌, ◌-◌, ◌<◌, Bool, List, get_or, length, map, set, Result, Ok, Err, refl, sym, ap, ◌∙◌, arith}
use Rattle.std.specs.Prelude.{IfErr}
use Rattle.std.proofs.lemmas.List.{map-set, get_or-map, length-map}
use Rattle.block_device.specs.Device.{Device, capped}
use Rattle.stack_rules.specs.declared.lower.Lower.TheVariants.{Leaf}
use Rattle.stack_rules.specs.Records.{Configuration}
use Rattle.stack_rules.specs.Names.{mapped}
use Rattle.stack_rules.specs.Rules.{IsLoaded}
use Rattle.stack_meaning.specs.declared.fault.IoFault.{IoFault}
use Rattle.stack_meaning.specs.declared.fault.IoFault.TheVariants as io
use Rattle.stack_meaning.proofs.lemmas.LeafLemmas.{same_map}
use Rattle.stack_lines.specs.declared.source.Source.{Source}
use Rattle.stack_lines.specs.Sources.{IsServed}
use Rattle.stack_lines.specs.Touches.{AsksOnly, EndsAtFailure, NamesOneOf, TouchesOnly, failures_of, failures_behind, failed_once, leaves_of, source_leaves}
use Rattle.stack_lines.proofs.lemmas.TouchLemmas.{AreWithin, touches-up, leaf-touched, served-within}

-- ---- where a call ends

-- a call that ended well, and the next one
pub ends-then : {B : Type 0} (old mid new : List Device) (result : Result B IoFault) → failures_of mid ≡ failures_of old → EndsAtFailure mid new result → EndsAtFailure old new result
ends-then old mid new result p q = q ∙ ap (failures_behind result) p

-- answers of one call, with the same fault or none
abbrev pub EndAlike : {A B : Type 0} → Result A IoFault → Result B IoFault → Type 0
EndAlike other result = (failures : List ℕ) → failures_behind other failures ≡ failures_behind result failures

pub ends-as : {A B : Type 0} (old new : List Device) (result : Result A IoFault) (other : Result B IoFault) → EndAlike other result → EndsAtFailure old new result → EndsAtFailure old new other
ends-as old new result other alike p = p ∙ sym (alike (failures_of old))

-- ---- one set of leaves, and several calls

pub asks-touched : {A Unhealed : Type 0} {these : ℕ → Bool} {old new : List Device} {result : Result A IoFault} → AsksOnly Unhealed these old new result → TouchesOnly these old new result
asks-touched p = record { leaf = p.leaf; fault = p.fault }

-- no leaf was asked
pub asks-none : {A : Type 0} (Unhealed : Type 0) (these : ℕ → Bool) (leaves : List Device) (result : Result A IoFault) → IfErr result (NamesOneOf these) → EndsAtFailure leaves leaves result → AsksOnly Unhealed these leaves leaves result
asks-none Unhealed these leaves result fault ends = record { leaf = λ i d out. refl; fault = fault; ends = λ none. ends }

-- a call that ended well, and the next one
pub asks-then : {A B Unhealed : Type 0} {these : ℕ → Bool} {old mid new : List Device} {x : A} {result : Result B IoFault} → AsksOnly Unhealed these old mid (Ok x) → AsksOnly Unhealed these mid new result → AsksOnly Unhealed these old new result
asks-then {old = old} {mid = mid} {new = new} {result = result} p q = record { leaf = λ i d out. q.leaf i d out ∙ p.leaf i d out; fault = q.fault; ends = λ none. ends-then old mid new result (p.ends none) (q.ends none) }

-- another answer of the same call
pub asks-as : {A B Unhealed : Type 0} {these : ℕ → Bool} {old new : List Device} {result : Result A IoFault} (other : Result B IoFault) → IfErr other (NamesOneOf these) → EndAlike other result → AsksOnly Unhealed these old new result → AsksOnly Unhealed these old new other
asks-as {old = old} {new = new} {result = result} other fault alike p = record { leaf = p.leaf; fault = fault; ends = λ none. ends-as old new result other alike (p.ends none) }

-- where fewer blocks may be restored
pub asks-less : {A Unhealed Other : Type 0} {these : ℕ → Bool} {old new : List Device} {result : Result A IoFault} → (Other → Unhealed) → AsksOnly Unhealed these old new result → AsksOnly Other these old new result
asks-less less p = record { leaf = p.leaf; fault = p.fault; ends = λ none. p.ends (less none) }

-- ---- one set of leaves within another

pub asks-up : {A Unhealed : Type 0} {these more : ℕ → Bool} {old new : List Device} {result : Result A IoFault} → AreWithin these more → AsksOnly Unhealed these old new result → AsksOnly Unhealed more old new result
asks-up up p = let touched = touches-up up (asks-touched p) in record { leaf = touched.leaf; fault = touched.fault; ends = p.ends }

-- the runs of a device before one, and that one
pub device-asked : {A B Unhealed : Type 0} (c : Configuration) (d s n : ℕ) (source : Source) {old mid new : List Device} {x : A} {result : Result B IoFault} → IsLoaded c → 0 < n → IsServed c d s n source
    → AsksOnly Unhealed (leaves_of c (mapped d)) old mid (Ok x) → AsksOnly Unhealed (source_leaves c source) mid new result → AsksOnly Unhealed (leaves_of c (mapped d)) old new result
device-asked c d s n source {x = x} loaded some r p q = asks-then {x = x} p (asks-up (served-within c d s n source loaded some r) q)

-- ---- leaves

module _ {X : Type 0} (state : X → Device) (devices : List X) (i : ℕ) (x : X) (there : i < length devices) (new : X) where
  -- a call of the leaf's device that ended well
  pub leaf-ends : {A : Type 0} (y : A) → (state new).failures ≡ (state (get_or devices i x)).failures → EndsAtFailure (map state devices) (map state (set devices i new)) (Ok y)
  leaf-ends y same =
      ap failures_of (map-set state devices i new)
      ∙ same_map (λ (d : Device). d.failures) (map state devices) i (state (get_or devices i x)) (state new) (omega (arith, there, length-map devices state)) (get_or-map state devices i x _ there) same

  -- one that failed
  pub leaf-fails : (A : Type 0) → (state new).failures ≡ capped ((state (get_or devices i x)).failures + 1) → EndsAtFailure {A = A} (map state devices) (map state (set devices i new)) (Err (io.Device (i + 1)))
  leaf-fails A more =
      let old : List Device = map state devices in
      let number : i ≡ i + 1 - 1 = omega arith in
      let inside : i < length old = omega (arith, there, length-map devices state) in
      let was : get_or (failures_of old) i 0 ≡ (state (get_or devices i x)).failures =
      get_or-map (λ (d : Device). d.failures) old i (state (get_or devices i x)) 0 inside ∙ ap (λ (d : Device). d.failures) (get_or-map state devices i x _ there) in
      ap failures_of (map-set state devices i new)
      ∙ map-set (λ (d : Device). d.failures) old i (state new)
      ∙ ap (λ (k : ℕ). set (failures_of old) i k) (more ∙ ap (λ (k : ℕ). capped (k + 1)) (sym was))
      ∙ ap (λ (k : ℕ). failed_once k (failures_of old)) number

-- a leaf was asked
pub leaf-asked : {X A : Type 0} (Unhealed : Type 0) (state : X → Device) (devices : List X) (i : ℕ) (c : Configuration) (new : X) (result : Result A IoFault) → IfErr result (NamesOneOf (leaves_of c (Leaf i)))
    → EndsAtFailure (map state devices) (map state (set devices i new)) result → AsksOnly Unhealed (leaves_of c (Leaf i)) (map state devices) (map state (set devices i new)) result
leaf-asked Unhealed state devices i c new result fault ends =
    let touched = leaf-touched state devices i c new result fault in record { leaf = touched.leaf; fault = touched.fault; ends = λ none. ends }
