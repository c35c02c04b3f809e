-- What is beneath a device that may be written may be written.
use Rattle.std.proofs.Common.{◌≡◌, ℕ, zero, suc, ◌<◌, Bool, true, false, IsTrue, List, [], ◌∷◌, length, get_or, map, Option, Some, refl, sym, ap, ◌∙◌}
use Rattle.std.specs.Prelude.{slice_get, not, ◌&&◌}
use Rattle.std.specs.List.{AllByRecursion, list_any}
use Rattle.std.specs.Option.{option_map_or}
use Rattle.std.proofs.lemmas.Bool.{or_parts, not-false}
use Rattle.block_device.specs.Device.{Device}
use Rattle.dm_table.specs.declared.table.Line.{Line}
use Rattle.stack_rules.specs.declared.lower.Lower.{Lower}
use Rattle.stack_rules.specs.declared.lower.Lower.TheVariants.{Leaf}
use Rattle.stack_rules.specs.Records.{Configuration, DeviceRecord, LeafRecord}
use Rattle.stack_rules.specs.Names.{mapped, named, names, may_write}
use Rattle.stack_rules.specs.Lines.{IsLine}
use Rattle.stack_rules.specs.Rules.{IsValid, names_read_only}
use Rattle.stack_rules.proofs.lemmas.ValidLineLemmas.{sound}
use Rattle.stack_meaning.specs.Beneath.{beneath}
use Rattle.stack_meaning.specs.Leaves.{ServeLeaves}
use Rattle.stack_meaning.proofs.lemmas.LoadedLemmas.{device-of, of_beneath}
use Rattle.stack_lines.proofs.lemmas.WriteLeafLemmas.{may_write_at}

abbrev WritableName : Configuration → List ℕ → Type 0
WritableName c name = (lower : Lower) → named c name ≡ Some lower → IsTrue (may_write c lower)

-- no name of the list means one that may not be written
all-writable : (c : Configuration) (list : List (List ℕ)) → list_any (λ name. option_map_or (λ lower. not (may_write c lower)) (named c name) false) list ≡ false → AllByRecursion (WritableName c) list
all-writable c [] none = tt
all-writable c (name ∷ list) none =
    let parts = or_parts (option_map_or (λ lower. not (may_write c lower)) (named c name) false) (list_any (λ name. option_map_or (λ lower. not (may_write c lower)) (named c name) false) list) none in
    (λ lower is. not-false (may_write c lower) (sym (ap (λ (o : Option Lower). option_map_or (λ lower. not (may_write c lower)) o false) is) ∙ parts.0), all-writable c list parts.1)

pub writable-falls : (c : Configuration) (d l : ℕ) (line : Line) (s : ℕ) (p : List ℕ × ℕ) (lower : Lower) → IsValid c → IsLine c d l line → IsTrue (may_write c (mapped d)) → beneath line.target s ≡ Some p → named c p.0 ≡ Some lower
    → IsTrue (may_write c lower)
writable-falls c d l line s p lower valid at writable under is =
    let x = device-of c d l line at in
    let flag : x.0.writable ≡ true = sym (ap (λ (o : Option DeviceRecord). option_map_or (λ y. y.writable) o false) x.1) ∙ writable in
    let none : names_read_only c line.target ≡ false = sym (ap (λ (b : Bool). b && names_read_only c line.target) flag) ∙ (sound c valid d x.0 x.1 l line x.2).lowers in
    of_beneath (WritableName c) line.target s p (all-writable c (names line.target) none) under lower is

flag_at : (wanted : List LeafRecord) (i : ℕ) → option_map_or (λ l. l.writable) (slice_get wanted i) false ≡ get_or (map (λ l. l.writable) wanted) i false
flag_at [] i = refl
flag_at (l ∷ wanted) zero = refl
flag_at (l ∷ wanted) (suc i) = flag_at wanted i

-- the device of a leaf that may be written may be
pub leaf-writable : {X : Type 0} (state : X → Device) (devices : List X) (c : Configuration) → ServeLeaves c.leaves (map state devices) → (i : ℕ) (x : X) → i < length devices → IsTrue (may_write c (Leaf i)) → IsTrue (state (get_or devices i x)).may_write
leaf-writable state devices c serve i x there writable =
    sym (may_write_at state devices i x there false) ∙ ap (λ (l : List Bool). get_or l i false) serve.flags ∙ sym (flag_at c.leaves i) ∙ writable
