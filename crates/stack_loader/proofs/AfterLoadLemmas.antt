-- Names after a load.
use Rattle.std.proofs.Common.{◌≡◌, ◌+◌, ℕ, List, [], ◌∷◌, ◌++◌, refl, sym, ap, ◌∙◌, Bool, true, false, cond, Option, Some, None, map, filter, find}
use Rattle.std.specs.Prelude.{is_none, IsTrue, All}
use Rattle.std.specs.List.{AllByRecursion, IsDistinct, list_any, position_from}
use Rattle.std.specs.Option.{option_map_or}
use Rattle.std.specs.Str.{bytes_eq}
use Rattle.std.proofs.lemmas.Iterator.Adapters.{position_from-zero}
use Rattle.std.proofs.lemmas.List.{map-append}
use Rattle.std.proofs.lemmas.List.Elements.{All-from_recursion, recursion_from_All}
use Rattle.dm_table.specs.declared.stack.Entry.{Entry}
use Rattle.dm_table.specs.Grammar.{IsTableOfGrammar}
use Rattle.dm_table.specs.Names.{is_mapped_name}
use Rattle.dm_table.specs.StackText.{IsStackOfGrammar, IsEntryOfGrammar}
use Rattle.stack_rules.specs.declared.refusal.LoadKind.TheVariants.{DuplicateName}
use Rattle.stack_rules.specs.Records.{Configuration, DeviceRecord}
use Rattle.stack_rules.specs.Names.{device_named}
use Rattle.stack_rules.proofs.lemmas.ValidLineLemmas.{apart}
use Rattle.stack_rules.proofs.lemmas.CycleLemmas.{acyclic}
use Rattle.stack_rules.specs.Rules.{first, duplicate_names, replacement, new_device, after_load, IsLoaded, IsValid, rules}
use Rattle.stack_loader.proofs.LeafLemmas.{none-all, over_map, change}
use Rattle.stack_loader.proofs.DuplicateNameLemmas.{bytes_eq-sym}

-- ---- facts of each element

both : {X : Type 0} (P Q R : X → Type 0) → ((x : X) → P x → Q x → R x) → (xs : List X) → AllByRecursion P xs → AllByRecursion Q xs → AllByRecursion R xs
both P Q R f [] p q = tt
both P Q R f (x ∷ xs) p q = (f x p.0 q.0, both P Q R f xs p.1 q.1)

each : {X : Type 0} (P : X → Type 0) → ((x : X) → P x) → (xs : List X) → AllByRecursion P xs
each P f [] = tt
each P f (x ∷ xs) = (f x, each P f xs)

append : {X : Type 0} (P : X → Type 0) (xs ys : List X) → AllByRecursion P xs → AllByRecursion P ys → AllByRecursion P (xs ++ ys)
append P [] ys p q = q
append P (x ∷ xs) ys p q = (p.0, append P xs ys p.1 q)

swap : {X Y : Type 0} (R : X → Y → Type 0) (xs : List X) (ys : List Y) → AllByRecursion (λ y. AllByRecursion (λ x. R x y) xs) ys → AllByRecursion (λ x. AllByRecursion (λ y. R x y) ys) xs
swap R [] ys all = tt
swap R (x ∷ xs) ys all = (
  change (λ y. AllByRecursion (λ x. R x y) (x ∷ xs)) (λ y. R x y) (λ y h. h.0) ys all,
  swap R xs ys (change (λ y. AllByRecursion (λ x. R x y) (x ∷ xs)) (λ y. AllByRecursion (λ x. R x y) xs) (λ y h. h.1) ys all),
)

kept : {X : Type 0} (P : X → Type 0) (p : X → Bool) (xs : List X) → AllByRecursion P xs → AllByRecursion P (filter p xs)
kept P p [] all = tt
kept P p (x ∷ xs) all = go (p x) (kept P p xs all.1)
  where
    go : (b : Bool) → AllByRecursion P (filter p xs) → AllByRecursion P (cond b (x ∷ filter p xs) (filter p xs))
    go true more = (all.0, more)
    go false more = more

passing : {X : Type 0} (p : X → Bool) (xs : List X) → AllByRecursion (λ x. p x ≡ true) (filter p xs)
passing p [] = tt
passing p (x ∷ xs) = go (p x) refl (passing p xs)
  where
    go : (b : Bool) → p x ≡ b → AllByRecursion (λ x. p x ≡ true) (filter p xs) → AllByRecursion (λ x. p x ≡ true) (cond b (x ∷ filter p xs) (filter p xs))
    go true is more = (is, more)
    go false is more = more

-- ---- distinct names

distinct-append : (xs ys : List (List ℕ)) → IsDistinct bytes_eq xs → IsDistinct bytes_eq ys → AllByRecursion (λ x. AllByRecursion (λ y. bytes_eq x y ≡ false) ys) xs → IsDistinct bytes_eq (xs ++ ys)
unfolding IsDistinct
distinct-append [] ys dx dy apart = dy
distinct-append (x ∷ xs) ys dx dy apart = (append (λ y. bytes_eq x y ≡ false) xs ys dx.0 apart.0, distinct-append xs ys dx.1 dy apart.1)

distinct-filter : (p : Entry → Bool) (xs : List Entry) → IsDistinct bytes_eq (map (λ e. e.name) xs) → IsDistinct bytes_eq (map (λ e. e.name) (filter p xs))
unfolding IsDistinct
distinct-filter p [] d = tt
distinct-filter p (x ∷ xs) d = go (p x) (distinct-filter p xs d.1) (over_map (λ y. bytes_eq x.name y ≡ false) (λ (e : Entry). e.name) (filter p xs) (kept (λ (e : Entry). bytes_eq x.name e.name ≡ false) p xs (under x.name xs d.0)))
  where
    under : (n : List ℕ) (xs : List Entry) → AllByRecursion (λ y. bytes_eq n y ≡ false) (map (λ e. e.name) xs) → AllByRecursion (λ (e : Entry). bytes_eq n e.name ≡ false) xs
    under n [] all = tt
    under n (x ∷ xs) all = (all.0, under n xs all.1)

    go : (b : Bool) → IsDistinct bytes_eq (map (λ e. e.name) (filter p xs)) → AllByRecursion (λ y. bytes_eq x.name y ≡ false) (map (λ e. e.name) (filter p xs)) → IsDistinct bytes_eq (map (λ e. e.name) (cond b (x ∷ filter p xs) (filter p xs)))
    go true more all = (all, more)
    go false more all = more

-- entries that no rule on names refuses
distinct-text : (earlier : List (List ℕ)) (text : List Entry) → first (duplicate_names earlier text) ≡ None
    → AllByRecursion (λ n. AllByRecursion (λ y. bytes_eq n y ≡ false) (map (λ e. e.name) text)) earlier × IsDistinct bytes_eq (map (λ e. e.name) text)
unfolding IsDistinct
distinct-text earlier [] h = (each (λ n. Unit {0}) (λ n. tt) earlier, tt)
distinct-text earlier (e ∷ more) h =
    let now = apart DuplicateName e.number 0 (list_any (bytes_eq e.name) earlier) (duplicate_names (e.name ∷ earlier) more) h in
    let rest = distinct-text (e.name ∷ earlier) more now.1 in (
      both (λ n. bytes_eq e.name n ≡ false) (λ n. AllByRecursion (λ y. bytes_eq n y ≡ false) (map (λ e. e.name) more)) (λ n. AllByRecursion (λ y. bytes_eq n y ≡ false) (map (λ e. e.name) (e ∷ more)))
          (λ n here later. (bytes_eq-sym n e.name ∙ here, later)) earlier (none-all (bytes_eq e.name) earlier now.0) rest.0.1,
      (rest.0.0, rest.1),
    )

-- ---- the devices after a load

names-replacement : (text : List Entry) (devices : List DeviceRecord) → map (λ d. d.name) (map (replacement text) devices) ≡ map (λ d. d.name) devices
names-replacement text [] = refl
names-replacement text (d ∷ more) = ap (λ n. n ∷ map (λ d. d.name) (map (replacement text) more)) (name-replacement (find (λ e. bytes_eq e.name d.name) text)) ∙ ap (λ ns. d.name ∷ ns) (names-replacement text more)
  where
    name-replacement : (o : Option Entry) → (option_map_or (λ (e : Entry). record d { writable = e.writable; table = e.table }) o d).name ≡ d.name
    name-replacement None = refl
    name-replacement (Some e) = refl

names-new_device : (text : List Entry) → map (λ d. d.name) (map new_device text) ≡ map (λ e. e.name) text
names-new_device [] = refl
names-new_device (e ∷ more) = ap (λ ns. e.name ∷ ns) (names-new_device more)

pub names-after : (c : Configuration) (text : List Entry) → map (λ d. d.name) (after_load c text).devices ≡ map (λ d. d.name) c.devices ++ map (λ e. e.name) (filter (λ e. is_none (device_named c e.name)) text)
names-after c text =
    map-append (λ (d : DeviceRecord). d.name) (map (replacement text) c.devices) (map new_device (filter (λ e. is_none (device_named c e.name)) text))
    ∙ ap (λ ns. ns ++ map (λ d. d.name) (map new_device (filter (λ e. is_none (device_named c e.name)) text))) (names-replacement text c.devices)
    ∙ ap (λ ns. map (λ d. d.name) c.devices ++ ns) (names-new_device (filter (λ e. is_none (device_named c e.name)) text))

none-from : {X : Type 0} (p : X → Bool) (i : ℕ) (xs : List X) → is_none (position_from p i xs) ≡ true → AllByRecursion (λ x. p x ≡ false) xs
none-from p i [] h = tt
none-from p i (x ∷ xs) h = go (p x) refl h (none-from p (i + 1) xs)
  where
    go : (b : Bool) → p x ≡ b → is_none (cond b (Some i) (position_from p (i + 1) xs)) ≡ true → (is_none (position_from p (i + 1) xs) ≡ true → AllByRecursion (λ x. p x ≡ false) xs) → (p x ≡ false) × AllByRecursion (λ x. p x ≡ false) xs
    go true is h more = let clash : false ≡ true = h in cc
    go false is h more = (is, more h)

distinct-after : (c : Configuration) (text : List Entry) → IsDistinct bytes_eq (map (λ d. d.name) c.devices) → first (duplicate_names [] text) ≡ None → IsDistinct bytes_eq (map (λ d. d.name) (after_load c text).devices)
distinct-after c text old fresh =
    rw names-after
    (distinct-append (map (λ d. d.name) c.devices) (map (λ e. e.name) (filter (λ e. is_none (device_named c e.name)) text)) old (distinct-filter (λ e. is_none (device_named c e.name)) text (distinct-text [] text fresh).1)
    (swap (λ x y. bytes_eq x y ≡ false) (map (λ d. d.name) c.devices) (map (λ e. e.name) (filter (λ e. is_none (device_named c e.name)) text))
    (over_map (λ y. AllByRecursion (λ x. bytes_eq x y ≡ false) (map (λ d. d.name) c.devices)) (λ (e : Entry). e.name) (filter (λ e. is_none (device_named c e.name)) text)
    (change (λ (e : Entry). is_none (device_named c e.name) ≡ true) (λ (e : Entry). AllByRecursion (λ x. bytes_eq x e.name ≡ false) (map (λ d. d.name) c.devices))
    (λ e new. over_map (λ x. bytes_eq x e.name ≡ false) (λ (d : DeviceRecord). d.name) c.devices (none-from (λ (d : DeviceRecord). bytes_eq d.name e.name) 0 c.devices (ap is_none (sym (position_from-zero (λ (d : DeviceRecord). bytes_eq d.name e.name) c.devices)) ∙ new)))
    (filter (λ e. is_none (device_named c e.name)) text) (passing (λ e. is_none (device_named c e.name)) text)))))

mapped-names : (P : List ℕ → Type 0) (devices : List DeviceRecord) → AllByRecursion P (map (λ d. d.name) devices) → AllByRecursion (λ (d : DeviceRecord). P d.name) devices
mapped-names P [] all = tt
mapped-names P (d ∷ more) all = (all.0, mapped-names P more all.1)

pub mapped-after : (c : Configuration) (text : List Entry) → All (λ d. IsTrue (is_mapped_name d.name)) c.devices → IsStackOfGrammar text → All (λ d. IsTrue (is_mapped_name d.name)) (after_load c text).devices
mapped-after c text old grammar =
    All-from_recursion (λ (d : DeviceRecord). IsTrue (is_mapped_name d.name)) (after_load c text).devices
    (mapped-names (λ n. IsTrue (is_mapped_name n)) (after_load c text).devices
    (rw names-after
    (append (λ n. IsTrue (is_mapped_name n)) (map (λ d. d.name) c.devices) (map (λ e. e.name) (filter (λ e. is_none (device_named c e.name)) text))
    (over_map (λ n. IsTrue (is_mapped_name n)) (λ (d : DeviceRecord). d.name) c.devices (recursion_from_All (λ (d : DeviceRecord). IsTrue (is_mapped_name d.name)) c.devices old))
    (over_map (λ n. IsTrue (is_mapped_name n)) (λ (e : Entry). e.name) (filter (λ e. is_none (device_named c e.name)) text)
    (kept (λ (e : Entry). IsTrue (is_mapped_name e.name)) (λ e. is_none (device_named c e.name)) text
    (change IsEntryOfGrammar (λ (e : Entry). IsTrue (is_mapped_name e.name)) (λ e g. g.name) text (recursion_from_All IsEntryOfGrammar text grammar.each)))))))

tables-after : (c : Configuration) (text : List Entry) → All (λ d. IsTableOfGrammar d.table) c.devices → IsStackOfGrammar text → All (λ d. IsTableOfGrammar d.table) (after_load c text).devices
tables-after c text old grammar =
    All-from_recursion (λ (d : DeviceRecord). IsTableOfGrammar d.table) (after_load c text).devices
    (append (λ (d : DeviceRecord). IsTableOfGrammar d.table) (map (replacement text) c.devices) (map new_device (filter (λ e. is_none (device_named c e.name)) text))
    (over_map (λ (d : DeviceRecord). IsTableOfGrammar d.table) (replacement text) c.devices
    (change (λ (d : DeviceRecord). IsTableOfGrammar d.table) (λ (d : DeviceRecord). IsTableOfGrammar (replacement text d).table) (λ d here. replaced d here text entries) c.devices (recursion_from_All (λ (d : DeviceRecord). IsTableOfGrammar d.table) c.devices old)))
    (over_map (λ (d : DeviceRecord). IsTableOfGrammar d.table) new_device (filter (λ e. is_none (device_named c e.name)) text)
    (kept (λ (e : Entry). IsTableOfGrammar e.table) (λ e. is_none (device_named c e.name)) text entries)))
  where
    entries : AllByRecursion (λ (e : Entry). IsTableOfGrammar e.table) text
    entries = change IsEntryOfGrammar (λ (e : Entry). IsTableOfGrammar e.table) (λ e g. g.table) text (recursion_from_All IsEntryOfGrammar text grammar.each)

    replaced : (d : DeviceRecord) → IsTableOfGrammar d.table → (text : List Entry) → AllByRecursion (λ (e : Entry). IsTableOfGrammar e.table) text → IsTableOfGrammar (replacement text d).table
    replaced d here [] all = here
    replaced d here (e ∷ more) all = go (bytes_eq e.name d.name) (replaced d here more all.1)
      where
        go : (b : Bool) → IsTableOfGrammar (replacement more d).table → IsTableOfGrammar (option_map_or (λ (e : Entry). record d { writable = e.writable; table = e.table }) (cond b (Some e) (find (λ (e : Entry). bytes_eq e.name d.name) more)) d).table
        go true later = all.0
        go false later = later

pub loaded-after : (c : Configuration) (text : List Entry) → IsLoaded c → IsStackOfGrammar text → first (duplicate_names [] text) ≡ None → first (rules (after_load c text)) ≡ None → IsLoaded (after_load c text)
unfolding IsValid
loaded-after c text loaded grammar fresh valid = record { leaves = loaded.leaves; distinct = distinct-after c text loaded.distinct fresh; mapped = mapped-after c text loaded.mapped grammar; tables = tables-after c text loaded.tables grammar; valid = valid; acyclic = acyclic (after_load c text) valid }
