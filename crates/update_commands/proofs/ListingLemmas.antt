-- Devices that are read one after another.
use Rattle.std.proofs.Common.{◌≡◌, ◌≢◌, ◌<◌, ℕ, List, length, map, set, get_or, ap, arith, inl, inr, refl, subst, sym, ◌∙◌}
use Rattle.std.proofs.Math.ListN.{length-set}
use Rattle.std.proofs.lemmas.Bool.{cases_eq}
use Rattle.std.proofs.lemmas.List.{get_or-map, get_or-set_other, get_or-set_same, length-map, map-set}
use Rattle.block_device.specs.Device.{Device}
use Rattle.verity_format.specs.Blocks.{IsOnlyRead}
use Rattle.verity_format.proofs.lemmas.DeviceLemmas.{only_read-none, only_read-then}
use Rattle.update_commands.specs.Listings.{AreEachOnlyRead}

pub each-none : (old : List Device) → AreEachOnlyRead old old
each-none old = record { count = refl; each = λ j low d. only_read-none (get_or old j d) }

-- one more was read
module _ {X : Type 0} (f : X → Device) (old : List Device) (xs : List X) (k : ℕ) (d v : X) (inside : k < length xs) (so_far : AreEachOnlyRead old (map f xs)) where
  low-here : k < length old
  low-here = omega (arith, inside, length-map xs f, so_far.count)

  read-here : (e : Device) → IsOnlyRead (get_or old k e) (f (get_or xs k d))
  read-here e = subst (IsOnlyRead (get_or old k e)) (get_or-map f xs k d e inside) (so_far.each k low-here e)

  new-here : (e : Device) → get_or (map f (set xs k v)) k e ≡ f v
  new-here e = ap (λ (l : List Device). get_or l k e) (map-set f xs k v) ∙ get_or-set_same (map f xs) k (f v) e (omega (arith, inside, length-map xs f))

  new-other : (j : ℕ) (e : Device) → j ≢ k → get_or (map f (set xs k v)) j e ≡ get_or (map f xs) j e
  new-other j e other = ap (λ (l : List Device). get_or l j e) (map-set f xs k v) ∙ get_or-set_other (map f xs) k j (f v) e other

  pub each-next : IsOnlyRead (f (get_or xs k d)) (f v) → AreEachOnlyRead old (map f (set xs k v))
  each-next read = record {
    count = length-map (set xs k v) f ∙ length-set xs k v ∙ sym (length-map xs f) ∙ so_far.count;
    each = λ j low e. elim (cases_eq j k) [
      | inl same ↦
          subst (λ (n : ℕ). IsOnlyRead (get_or old n e) (get_or (map f (set xs k v)) n e)) (sym same)
          (subst (IsOnlyRead (get_or old k e)) (sym (new-here e)) (only_read-then (read-here e) read))
      | inr other ↦ subst (IsOnlyRead (get_or old j e)) (sym (new-other j e other)) (so_far.each j low e)
    ];
  }
