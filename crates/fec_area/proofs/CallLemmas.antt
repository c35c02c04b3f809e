-- Calls on two devices, one after another.
use Rattle.std.proofs.Common.{◌≡◌, ℕ, Bool, true, false, IsTrue, List, subst, inl, inr, refl, ◌∙◌, arith}
use Rattle.block_device.specs.Device.{Device, IsRead}
use Rattle.verity_format.specs.Blocks.{AreOnlyRead, IsOnlyRead}
use Rattle.verity_format.proofs.lemmas.DeviceLemmas.{only_read-none, only_read-then, steady-then, failed-then}
use Rattle.fec_area.specs.declared.layout.Layout.{Layout}
use Rattle.fec_area.specs.Layouts.{IsLaidOn}
use Rattle.fec_area.specs.Rounds.{AreFailuresCounted, AreUnfailed, BothNeverFail, HasOneFailed}

pub read-none : (a b : Device) → AreOnlyRead a b a b
read-none a b = record { data_read = only_read-none a; hash_read = only_read-none b }

pub read-then : {a b c d e f : Device} → AreOnlyRead a b c d → AreOnlyRead c d e f → AreOnlyRead a b e f
read-then p q = record { data_read = only_read-then p.data_read q.data_read; hash_read = only_read-then p.hash_read q.hash_read }

pub unfailed-none : (a b : Device) → AreUnfailed a b a b
unfailed-none a b = record { data_kept = refl; hash_kept = refl }

pub unfailed-then : {a b c d e f : Device} → AreUnfailed a b c d → AreUnfailed c d e f → AreUnfailed a b e f
unfailed-then p q = record { data_kept = q.data_kept ∙ p.data_kept; hash_kept = q.hash_kept ∙ p.hash_kept }

pub one_failed-then : (a b c d e f : Device) → AreUnfailed a b c d → HasOneFailed c d e f → HasOneFailed a b e f
one_failed-then a b c d e f p (inl x) = inl (failed-then a c e p.data_kept x)
one_failed-then a b c d e f p (inr x) = inr (failed-then b d f p.hash_kept x)

-- failures that were counted after calls that didn't fail are counted from before them
pub counted-behind : {a b c d e f : Device} → AreUnfailed a b c d → AreFailuresCounted c d e f → AreFailuresCounted a b e f
counted-behind p q = record { data_more = omega (arith, p.data_kept, q.data_more); hash_more = omega (arith, p.hash_kept, q.hash_more) }

pub counted-unfailed : {a b c d : Device} → AreUnfailed a b c d → AreFailuresCounted a b c d
counted-unfailed p = record { data_more = omega (arith, p.data_kept); hash_more = omega (arith, p.hash_kept) }

-- the covered blocks still lie on devices that were read
pub laid-then : (l : Layout) {a b c d : Device} → AreOnlyRead a b c d → IsLaidOn l a b → IsLaidOn l c d
laid-then l p known = record {
  layout = known.layout;
  data_room = omega (arith, known.data_room, p.data_read.same.size);
  hash_room = omega (arith, known.hash_room, p.hash_read.same.size);
}

-- devices that never fail are such once they were read
pub never-then : {a b c d : Device} → AreOnlyRead a b c d → BothNeverFail a b → BothNeverFail c d
never-then p never = (p.data_read.same.never_fails never.0, p.hash_read.same.never_fails never.1)

-- what holds of images that were only read holds of them before
pub image-then : {a b c d : Device} → AreOnlyRead a b c d → (P : List (List ℕ) → List (List ℕ) → Type 0) → (IsTrue c.steady → IsTrue d.steady → P c.image d.image) → IsTrue a.steady → IsTrue b.steady → P a.image b.image
image-then {a = a} {b = b} {c = c} {d = d} p P known one other =
    let here = known (steady-then p.data_read.same one) (steady-then p.hash_read.same other) in
    subst (λ (x : List (List ℕ)). P x b.image) (p.data_read.image one) (subst (λ (y : List (List ℕ)). P c.image y) (p.hash_read.image other) here)

-- a call of read
pub call-read : {old new : Device} {n : ℕ} {ok : Bool} → IsRead old n ok new → IsOnlyRead old new
call-read p = record { same = p.same; writes = p.writes; image = p.image }

-- what a test says of an answer
pub same-told : (answer : Bool) → answer ≡ true → answer ≡ true
same-told answer e = e

pub other-told : (answer : Bool) → answer ≡ false → answer ≡ false
other-told answer e = e
