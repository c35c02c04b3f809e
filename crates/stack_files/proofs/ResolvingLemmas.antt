-- Bindings that are resolved one after another, and those that aren't.
use Rattle.std.proofs.Common.{◌≡◌, ◌<◌, ◌+◌, ℕ, zero, suc, List, [], ◌∷◌, ◌++◌, length, map, take, get_or, arith, refl, sym, ap, subst, ◌∙◌, append_assoc}
use Rattle.std.proofs.lemmas.List.{map-append, take_more}
use Rattle.block_device.specs.Device.{Device}
use Rattle.command_line.specs.declared.bindings.Binding.{Binding}
use Rattle.command_line.specs.Bindings.{BindingRecord, backing_record, binding_record}
use Rattle.image_files.specs.declared.opening.UnopenedFile.{UnopenedFile}
use Rattle.image_files.specs.Opener.{Opener, calls}
use Rattle.stack_files.specs.Resolving.{IsBackingUnresolved, IsBindingUnresolved, ResolvesBinding, ResolvesEach, RunsOutResolving}

-- a list of bindings at one of them
split : (bindings : List Binding) (i : ℕ) (d : Binding) → i < length bindings
    → (rest : List BindingRecord) × (map binding_record bindings ≡ map binding_record (take i bindings) ++ binding_record (get_or bindings i d) ∷ rest)
split [] i d there = absurd (omega (arith, there))
split (b ∷ bs) zero d there = (map binding_record bs, refl)
split (b ∷ bs) (suc i) d there =
    let more = split bs i d (omega (arith, there)) in
    (more.0, ap (λ (t : List BindingRecord). binding_record b ∷ t) more.1)

module _ {S D : Type 0} (o : Opener S D) (state : D → Device) where
  -- one more is resolved
  pub ResolvesEach-last : (old between new : S) (bindings resolved : List BindingRecord) (binding found : BindingRecord)
      → ResolvesEach (calls o state old between) bindings resolved → ResolvesBinding (calls o state between new) binding found
      → ResolvesEach (calls o state old new) (bindings ++ binding ∷ []) (resolved ++ found ∷ [])
  ResolvesEach-last old between new [] [] binding found each last = (new, subst (λ (s : S). ResolvesBinding (calls o state s new) binding found) each last, refl)
  ResolvesEach-last old between new [] (r ∷ rs) binding found each last = absurd each
  ResolvesEach-last old between new (b ∷ bs) [] binding found each last = absurd each
  ResolvesEach-last old between new (b ∷ bs) (r ∷ rs) binding found each last = (each.0, each.1, ResolvesEach-last each.0 between new bs rs binding found each.2 last)

  module _ (old between new : S) (bindings : List Binding) (i : ℕ) (d : Binding) (resolved : List Binding) where
    pub ResolvesEach-more : (resolved' : List Binding) (found : Binding)
        → i < length bindings → ResolvesEach (calls o state old between) (map binding_record (take i bindings)) (map binding_record resolved)
        → resolved' ≡ resolved ++ found ∷ [] → ResolvesBinding (calls o state between new) (binding_record (get_or bindings i d)) (binding_record found)
        → ResolvesEach (calls o state old new) (map binding_record (take (i + 1) bindings)) (map binding_record resolved')
    ResolvesEach-more resolved' found there so_far added last =
        let one : map binding_record (take (i + 1) bindings) ≡ map binding_record (take i bindings) ++ binding_record (get_or bindings i d) ∷ [] =
        ap (map binding_record) (take_more bindings i d there) ∙ map-append binding_record (take i bindings) (get_or bindings i d ∷ []) in
        let more : map binding_record resolved' ≡ map binding_record resolved ++ binding_record found ∷ [] =
        ap (map binding_record) added ∙ map-append binding_record resolved (found ∷ []) in
        let each = ResolvesEach-last old between new (map binding_record (take i bindings)) (map binding_record resolved) (binding_record (get_or bindings i d)) (binding_record found) so_far last in
        subst (λ (bs : List BindingRecord). ResolvesEach (calls o state old new) bs (map binding_record resolved')) (sym one)
        (subst (λ (rs : List BindingRecord). ResolvesEach (calls o state old new) (map binding_record (take i bindings) ++ binding_record (get_or bindings i d) ∷ []) rs) (sym more) each)

    -- one of them isn't resolved
    pub unresolved-at : (unopened : UnopenedFile)
        → i < length bindings → ResolvesEach (calls o state old between) (map binding_record (take i bindings)) (map binding_record resolved)
        → IsBackingUnresolved (calls o state between new) (backing_record (get_or bindings i d).backing) unopened
        → IsBindingUnresolved (calls o state old new) (map binding_record bindings) unopened
    unresolved-at unopened there so_far refused =
        let at = split bindings i d there in
        record {
          first = map binding_record (take i bindings);
          binding = binding_record (get_or bindings i d);
          more = at.0;
          resolved = map binding_record resolved;
          between = between;
          are = at.1;
          so_far = so_far;
          refused = refused;
        }

    -- memory ran out after one more was resolved
    pub runs_out-at : (found : BindingRecord)
        → i < length bindings → ResolvesEach (calls o state old between) (map binding_record (take i bindings)) (map binding_record resolved)
        → ResolvesBinding (calls o state between new) (binding_record (get_or bindings i d)) found
        → RunsOutResolving (calls o state old new) (map binding_record bindings)
    runs_out-at found there so_far last =
        let at = split bindings i d there in
        record {
          first = map binding_record (take i bindings) ++ binding_record (get_or bindings i d) ∷ [];
          more = at.0;
          resolved = map binding_record resolved ++ found ∷ [];
          are = at.1 ∙ sym (append_assoc (map binding_record (take i bindings)) (binding_record (get_or bindings i d) ∷ []) at.0);
          so_far = ResolvesEach-last old between new (map binding_record (take i bindings)) (map binding_record resolved) (binding_record (get_or bindings i d)) found so_far last;
        }
