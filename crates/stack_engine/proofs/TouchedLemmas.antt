-- Which leaves the reads of a verity line ask.
use Rattle.std.proofs.Common.{◌≡◌, ℕ, Bool, List, Result, Ok, Err, refl, ap, ◌∙◌, subst}
use Rattle.std.specs.Prelude.{IfErr}
use Rattle.block_device.specs.Device.{Device}
use Rattle.dm_table.specs.declared.verity.Verity.{Verity}
use Rattle.stack_rules.specs.declared.lower.DevId.{DevId}
use Rattle.stack_rules.specs.declared.lower.Lower.{Lower}
use Rattle.stack_rules.specs.Names.{mapped}
use Rattle.stack_rules.specs.Records.{Configuration}
use Rattle.stack_rules.specs.Rules.{IsLoaded}
use Rattle.stack_meaning.specs.declared.fault.IoFault.{IoFault}
use Rattle.stack_meaning.specs.Reading.{buffer_answer}
use Rattle.stack_lines.specs.declared.tree.Extent.{Extent}
use Rattle.stack_lines.specs.declared.tree.Tree.{Tree}
use Rattle.stack_lines.specs.Extents.{IsExtent}
use Rattle.stack_lines.specs.Touches.{NamesOneOf, AsksOnly, leaves_of}
use Rattle.stack_lines.specs.Walks.{IsTreeOf}
use Rattle.stack_lines.proofs.lemmas.TouchLemmas.{AreWithin, data-within, hash-within}
use Rattle.stack_lines.proofs.lemmas.AskLemmas.{EndAlike, asks-then, asks-as, asks-up}

-- what touches the leaves of an extent touches those of the device on which it lies
pub extent-touched : {A Unhealed : Type 0} (c : Configuration) {on : Lower} {s n : ℕ} (extent : Extent) {old new : List Device} {result : Result A IoFault} → IsExtent c on s n extent → AsksOnly Unhealed (leaves_of c extent.lower) old new result
    → AsksOnly Unhealed (leaves_of c on) old new result
extent-touched {Unhealed = Unhealed} c extent {old = old} {new = new} {result = result} is p = subst (λ (e : Extent). AsksOnly Unhealed (leaves_of c e.lower) old new result) is.value p

buffer-fault : (these : ℕ → Bool) (result : Result Unit IoFault) (bytes : List ℕ) → IfErr result (NamesOneOf these) → IfErr (buffer_answer result bytes) (NamesOneOf these)
buffer-fault these (Ok x) bytes h = tt
buffer-fault these (Err fault) bytes h = h

buffer-alike : (result : Result Unit IoFault) (bytes : List ℕ) → EndAlike (buffer_answer result bytes) result
buffer-alike (Ok x) bytes failures = refl
buffer-alike (Err fault) bytes failures = refl

-- a buffer was filled, or not
pub buffer-touched : {Unhealed : Type 0} {these : ℕ → Bool} {old new : List Device} (result : Result Unit IoFault) (bytes : List ℕ) → AsksOnly Unhealed these old new result → AsksOnly Unhealed these old new (buffer_answer result bytes)
buffer-touched {these = these} result bytes p = asks-as (buffer_answer result bytes) (buffer-fault these result bytes p.fault) (buffer-alike result bytes) p

-- one device by two names
pub same-within : (c : Configuration) {a b : DevId} → a ≡ b → AreWithin (leaves_of c (mapped a.0)) (leaves_of c (mapped b.0))
same-within c at i out = ap (λ (x : DevId). leaves_of c (mapped x.0) i) at ∙ out

module _ (c : Configuration) (v : Verity) (tree : Tree) (loaded : IsLoaded c) (lies : IsTreeOf c v tree) where
  -- a hash block was read
  pub hash-touched : {A Unhealed : Type 0} {s n : ℕ} (extent : Extent) {old new : List Device} {result : Result A IoFault} → IsExtent c tree.hash s n extent → AsksOnly Unhealed (leaves_of c extent.lower) old new result
      → AsksOnly Unhealed (leaves_of c (mapped tree.device.0)) old new result
  hash-touched extent is p = asks-up (hash-within c v tree loaded lies) (extent-touched c extent is p)

  module _ (d : DevId) (at : tree.device ≡ d) where
    data-within-device : AreWithin (leaves_of c tree.data) (leaves_of c (mapped d.0))
    data-within-device i out = data-within c v tree loaded lies i (same-within c at i out)

    -- after some blocks the hash blocks on the way to the next one were read, and then data blocks
    pub data-touched : {A B C Unhealed : Type 0} {old mid walk new : List Device} {x : A} {y : B} {result : Result C IoFault} → AsksOnly Unhealed (leaves_of c (mapped d.0)) old mid (Ok x) → AsksOnly Unhealed (leaves_of c (mapped tree.device.0)) mid walk (Ok y)
        → AsksOnly Unhealed (leaves_of c tree.data) walk new result → AsksOnly Unhealed (leaves_of c (mapped d.0)) old new result
    data-touched p q r = asks-then (asks-then p (asks-up (same-within c at) q)) (asks-up data-within-device r)
