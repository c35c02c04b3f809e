-- A removal that no rule refuses, and the other devices after it, by place and by name.
use Rattle.std.proofs.Common.{◌≡◌, ◌<◌, ℕ, List, [], refl, sym, ap, ◌∙◌, Bool, true, false, Option, Some, None, length, get_or}
use Rattle.std.specs.Prelude.{slice_get}
use Rattle.std.specs.Option.{option_map}
use Rattle.std.specs.Str.{bytes_eq}
use Rattle.std.proofs.lemmas.List.Quantifiers.{position-Some}
use Rattle.std.proofs.lemmas.Slice.Eq.{bytes_eq-Decides}
use Rattle.stack_rules.specs.Records.{Configuration, DeviceRecord}
use Rattle.stack_rules.specs.Names.{device_named}
use Rattle.stack_rules.specs.Removal.{is_in_use, removal_fault, after_removal, place_after}
use Rattle.stack_rules.specs.Rules.{IsLoaded}
use Rattle.stack_loader.proofs.RemovalFactLemmas.{unused-of, fault-none, fault-some, after_removal-without}
use Rattle.stack_loader.proofs.RemoveLemmas.{slice_get-remove, position-remove}
use Rattle.stack_loader.proofs.lemmas.RemovalLemmas.{without, IsUnused}

-- device d has the name, no line names it, and the configuration after its removal is all but it
pub record IsRemoval (c : Configuration) (name : List ℕ) (d : ℕ) : Type 0 where
  pub found : device_named c name ≡ Some d
  pub unused : IsUnused c d
  pub after : after_removal c name ≡ without c d

none_of : DeviceRecord
none_of = record { name = []; writable = false; table = [] }

place-inside : (c : Configuration) (name : List ℕ) (d : ℕ) → device_named c name ≡ Some d → (d < length c.devices) × (bytes_eq (get_or c.devices d none_of).name name ≡ true)
place-inside c name d found = let is = position-Some (λ (x : DeviceRecord). bytes_eq x.name name) c.devices d none_of found in (is.0, is.1)

pub removal-of : (c : Configuration) (name : List ℕ) → IsLoaded c → removal_fault c name ≡ None → (d : ℕ) × IsRemoval c name d
removal-of c name loaded none = go (device_named c name) refl
  where
    used : (d : ℕ) → device_named c name ≡ Some d → (b : Bool) → is_in_use c d ≡ b → b ≡ false
    used d found true is = let clash : None ≡ Some Rattle.stack_rules.specs.declared.refusal.RemoveFault.TheVariants.InUse = sym none ∙ fault-some c name d true found is in cc
    used d found false is = refl

    go : (o : Option ℕ) → device_named c name ≡ o → (d : ℕ) × IsRemoval c name d
    go None is = let clash : None ≡ Some Rattle.stack_rules.specs.declared.refusal.RemoveFault.TheVariants.NoSuchDevice = sym none ∙ fault-none c name is in cc
    go (Some d) found = (
      d,
      record {
        found = found;
        unused = unused-of c d (place-inside c name d found).0 (used d found (is_in_use c d) refl);
        after = after_removal-without c name d loaded found;
      },
    )

-- another device has its table and flag at its new place
pub device-after : (c : Configuration) (name : List ℕ) (d : ℕ) → IsRemoval c name d → (e : ℕ) → (e ≡ d → ⊥) → slice_get (after_removal c name).devices (place_after d e) ≡ slice_get c.devices e
device-after c name d removal e other = ap (λ (c : Configuration). slice_get c.devices (place_after d e)) removal.after ∙ slice_get-remove c.devices d e removal.unused.inside other

-- and another name means the device that it meant
pub device_named-after : (c : Configuration) (name : List ℕ) (d : ℕ) → IsRemoval c name d → (other : List ℕ) → (other ≡ name → ⊥) → device_named (after_removal c name) other ≡ option_map (place_after d) (device_named c other)
device_named-after c name d removal other apart =
    ap (λ (c : Configuration). device_named c other) removal.after
    ∙ position-remove (λ (x : DeviceRecord). bytes_eq x.name other) c.devices d removal.unused.inside
    (λ found.
    let mine = (bytes_eq-Decides (get_or c.devices d none_of).name name).0 (place-inside c name d removal.found).1 in
    let theirs = (bytes_eq-Decides (get_or c.devices d none_of).name other).0 (place-inside c other d found).1 in
    apart (sym theirs ∙ mine))
