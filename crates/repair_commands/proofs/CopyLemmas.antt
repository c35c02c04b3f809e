-- Copies that are opened, one after the other.
use Rattle.std.proofs.Common.{◌≡◌, ◌<◌, ◌+◌, ℕ, zero, suc, List, [], ◌∷◌, ◌++◌, length, map, take, get_or, arith, refl, sym, ap, subst, ◌∙◌, inl, inr}
use Rattle.std.proofs.lemmas.List.{map-append, take_more}
use Rattle.block_device.specs.Device.{Device}
use Rattle.image_files.specs.declared.file_use.FileUse.{FileUse}
use Rattle.image_files.specs.Opener.{Opener, calls}
use Rattle.verity_commands.specs.declared.tree_fault.TreeFault.{TreeFault}
use Rattle.repair_commands.specs.Copies.{IsCopyUnopened, OpensImageCopy, OpensEachCopy, RefusesEach}

-- a list at one of its elements
split : {X : Type 0} (f : X → List ℕ) (xs : List X) (i : ℕ) (d : X) → i < length xs → (rest : List (List ℕ)) × (map f xs ≡ map f (take i xs) ++ f (get_or xs i d) ∷ rest)
split f [] i d inside = absurd (omega (arith, inside))
split f (x ∷ xs) zero d inside = (map f xs, refl)
split f (x ∷ xs) (suc i) d inside =
    let more = split f xs i d (omega (arith, inside)) in
    (more.0, ap (λ (t : List (List ℕ)). f x ∷ t) more.1)

module _ {S D : Type 0} (o : Opener S D) (state : D → Device) (files : List FileUse) where
  -- one more is opened
  opens-last : (old between new : S) (paths : List (List ℕ)) (devices : List D) (path : List ℕ) (device : D) → OpensEachCopy (calls o state old between) files paths devices
      → OpensImageCopy (calls o state between new) files path device → OpensEachCopy (calls o state old new) files (paths ++ path ∷ []) (devices ++ device ∷ [])
  opens-last old between new [] [] path device each last = (new, (subst (λ (s : S). OpensImageCopy (calls o state s new) files path device) each last, refl))
  opens-last old between new [] (d ∷ ds) path device each last = absurd each
  opens-last old between new (p ∷ ps) [] path device each last = absurd each
  opens-last old between new (p ∷ ps) (d ∷ ds) path device each last = (each.0, (each.1.0, opens-last each.0 between new ps ds path device each.1.1 last))

  pub opens-next : {X : Type 0} (f : X → List ℕ) (old between new : S) (xs : List X) (i : ℕ) (x : X) (devices devices' : List D) (device : D) → i < length xs
      → OpensEachCopy (calls o state old between) files (map f (take i xs)) devices → OpensImageCopy (calls o state between new) files (f (get_or xs i x)) device → devices' ≡ devices ++ device ∷ []
      → OpensEachCopy (calls o state old new) files (map f (take (i + 1) xs)) devices'
  opens-next f old between new xs i x devices devices' device inside before last more =
      let one : map f (take (i + 1) xs) ≡ map f (take i xs) ++ f (get_or xs i x) ∷ [] = ap (map f) (take_more xs i x inside) ∙ map-append f (take i xs) (get_or xs i x ∷ []) in
      subst (λ (ps : List (List ℕ)). OpensEachCopy (calls o state old new) files ps devices') (sym one)
      (subst (λ (ds : List D). OpensEachCopy (calls o state old new) files (map f (take i xs) ++ f (get_or xs i x) ∷ []) ds) (sym more)
      (opens-last old between new (map f (take i xs)) devices (f (get_or xs i x)) device before last))

  -- a copy after some that were opened is refused
  refuses-behind : (old between new : S) (first : List (List ℕ)) (devices : List D) (path : List ℕ) (rest : List (List ℕ)) (fault : TreeFault) → OpensEachCopy (calls o state old between) files first devices
      → IsCopyUnopened (calls o state between new) files path fault → RefusesEach (calls o state old new) files (first ++ path ∷ rest) fault
  refuses-behind old between new [] [] path rest fault each ends = inl (subst (λ (s : S). IsCopyUnopened (calls o state s new) files path fault) each ends)
  refuses-behind old between new [] (d ∷ ds) path rest fault each ends = absurd each
  refuses-behind old between new (p ∷ ps) [] path rest fault each ends = absurd each
  refuses-behind old between new (p ∷ ps) (d ∷ ds) path rest fault each ends =
      inr (each.0, (d, (each.1.0, refuses-behind each.0 between new ps ds path rest fault each.1.1 ends)))

  pub refuses-at : {X : Type 0} (f : X → List ℕ) (old between new : S) (xs : List X) (i : ℕ) (x : X) (devices : List D) (fault : TreeFault) → i < length xs
      → OpensEachCopy (calls o state old between) files (map f (take i xs)) devices → IsCopyUnopened (calls o state between new) files (f (get_or xs i x)) fault
      → RefusesEach (calls o state old new) files (map f xs) fault
  refuses-at f old between new xs i x devices fault inside before ends =
      let at = split f xs i x inside in
      subst (λ (ps : List (List ℕ)). RefusesEach (calls o state old new) files ps fault) (sym at.1)
      (refuses-behind old between new (map f (take i xs)) devices (f (get_or xs i x)) at.0 fault before ends)
