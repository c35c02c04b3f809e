-- What the calls of a read or a write have of the stack.
use Rattle.std.proofs.Common.{◌≡◌, ℕ, ◌+◌, ◌/◌, ◌<◌, ◌≤◌, List, length, map, get_or, set, Option, Some, None, refl, sym, ap, ◌∙◌, arith}
use Rattle.std.specs.Prelude.{slice_get}
use Rattle.std.specs.Option.{option_map_or}
use Rattle.std.proofs.lemmas.List.{length-map, get_or_default}
use Rattle.block_device.specs.Call.{Call}
use Rattle.std.proofs.lemmas.Option.{slice_get_within}
use Rattle.block_device.specs.Device.{Device}
use Rattle.stack_rules.specs.declared.lower.Lower.TheVariants.{Leaf}
use Rattle.stack_rules.specs.Records.{Configuration, LeafRecord}
use Rattle.stack_lines.specs.declared.source.Source.TheVariants.{Below}
use Rattle.stack_meaning.specs.Leaves.{fixed_part}
use Rattle.stack_lines.specs.Caches.{StackCache, KeepsCache}
use Rattle.stack_engine.specs.LeafCalls.{IsLeafCall}
use Rattle.stack_engine.specs.Stacks.{IsSound, IsStack}
use Rattle.stack_engine.specs.Premises.{FitsIn}
use Rattle.stack_meaning.proofs.lemmas.LeafListLemmas.{leaves_kept}

-- what holds of a stack still holds once its leaves were read or written
pub stack-later : (c : Configuration) {old new : List Device} {before first after : StackCache} → map fixed_part new ≡ map fixed_part old → IsStack c old before → KeepsCache c new first after → IsStack c new after
stack-later c {old = old} {new = new} same stack kept = record { sound = record { loaded = stack.sound.loaded; serve = leaves_kept c.leaves old new same stack.sound.serve }; cached = kept.sound }

-- a leaf that has sectors is there
pub leaf-there : {X : Type 0} (state : X → Device) (devices : List X) (c : Configuration) (leaf first : ℕ) (bytes : List ℕ) → IsSound c (map state devices) → FitsIn c (Below (Leaf leaf) first) bytes → leaf < length devices
leaf-there state devices c leaf first bytes sound fits = go (slice_get c.leaves leaf) refl fits.holds
  where
    count : length devices ≡ length c.leaves
    count = sym (length-map devices state) ∙ sym (length-map (map state devices) (λ l. l.size)) ∙ ap length sound.serve.sizes ∙ length-map c.leaves (λ l. l.sectors)

    go : (o : Option LeafRecord) → slice_get c.leaves leaf ≡ o → first + length bytes / 512 ≤ option_map_or (λ l. l.sectors) o 0 → leaf < length devices
    go None e h = absurd (omega (arith, fits.sectors.some, fits.sectors.whole, h))
    go (Some l) e h = omega (arith, slice_get_within c.leaves leaf l e, count)

-- its device was called once, and no other one
pub leaf-called : {D : Type 0} (does : D → Call → D → Type 0) (devices : List D) (leaf : ℕ) (x : D) → leaf < length devices → (call : Call) (after : D) → does (get_or devices leaf x) call after → IsLeafCall does leaf devices call (set devices leaf after)
leaf-called does devices leaf x there call after made = record {
  before = get_or devices leaf x;
  after = after;
  there = there;
  is = λ d. get_or_default devices leaf d x there;
  made = made;
  leaves = refl;
}
