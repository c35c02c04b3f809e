-- What is kept of a configuration after a removal.
use Rattle.std.proofs.Common.{◌≡◌, ◌+◌, ◌≤◌, ◌<◌, ℕ, zero, suc, List, [], ◌∷◌, refl, sym, ap, ◌∙◌, Bool, true, false, cond, Some, None, length, get_or, map, arith}
use Rattle.std.specs.Prelude.{slice_get, IsTrue}
use Rattle.std.specs.List.{AllByRecursion, IsDistinct, list_any, remove, range_with_len}
use Rattle.std.specs.Option.{option_map}
use Rattle.std.specs.Str.{bytes_eq}
use Rattle.std.proofs.Math.Decide.{dec_le}
use Rattle.std.proofs.lemmas.List.Edits.{length-remove, get_or-remove_below, get_or-remove_above}
use Rattle.std.proofs.lemmas.List.Elements.{All-from_recursion, recursion_from_All}
use Rattle.std.proofs.lemmas.List.Folds.{list_any_at}
use Rattle.std.proofs.lemmas.List.FromFn.{fill_by_all, get_or-map-range_with_len, get_or-range_with_len, length-range_with_len}
use Rattle.dm_table.specs.Grammar.{IsTableOfGrammar}
use Rattle.dm_table.specs.Names.{is_mapped_name}
use Rattle.dm_table.specs.declared.table.Line.{Line}
use Rattle.stack_config.specs.declared.facts.DeviceFacts.{DeviceFacts}
use Rattle.stack_config.specs.declared.facts.Facts.{Facts}
use Rattle.stack_rules.specs.declared.lower.Lower.{Lower}
use Rattle.stack_rules.specs.declared.refusal.RemoveFault.TheVariants.{NoSuchDevice, InUse}
use Rattle.stack_rules.specs.Records.{Configuration, DeviceRecord}
use Rattle.stack_rules.specs.Names.{mapped, named, names, device_named}
use Rattle.stack_rules.specs.Descend.{depth, read_cost, write_cost}
use Rattle.stack_rules.specs.Cycles.{is_mapped, names_device}
use Rattle.stack_config.specs.Facts.{AreFacts, IsLoadedWith, AreWithout, fact_after}
use Rattle.stack_loader.proofs.FactsLemmas.{map-map}
use Rattle.stack_config.proofs.lemmas.FactLemmas.{length-facts}
use Rattle.stack_rules.specs.Kept.{AreLowers, meanings, each_mapped}
use Rattle.stack_config.specs.Keys.{keys_from, zero_digests_of}
use Rattle.stack_rules.specs.Removal.{is_in_use, removal_fault, after_removal, lower_after}
use Rattle.stack_rules.specs.Rules.{IsLoaded}
use Rattle.stack_rules.proofs.lemmas.KeptLemmas.{length-each_mapped, length-lowers, lines_of-read}
use Rattle.stack_rules.proofs.lemmas.LowerLemmas.{names_device-rows}
use Rattle.stack_loader.proofs.RemoveLemmas.{map-remove, all-remove, filter-remove, place_before, place_before-same, place_before-later, place_before-earlier}
use Rattle.stack_loader.proofs.RemovalRuleLemmas.{valid-after}
use Rattle.stack_rules.proofs.lemmas.CycleLemmas.{acyclic, names_device-inside}
use Rattle.stack_rules.proofs.lemmas.RangeLemmas.{list_any-map}
use Rattle.stack_loader.proofs.lemmas.RemovalLemmas.{without, IsUnused, Avoids, unused-lines, named-after, depth-after, read_cost-after, write_cost-after}

-- ---- a device that is in use

list_any-same : {X : Type 0} (p q : X → Bool) → ((x : X) → p x ≡ q x) → (xs : List X) → list_any p xs ≡ list_any q xs
list_any-same p q same [] = refl
list_any-same p q same (x ∷ xs) = rw (same x, list_any-same p q same xs) refl

in_use-rows : (c : Configuration) (lowers : List (List (List Lower))) → AreLowers c lowers → (d : ℕ) → list_any (list_any (list_any (is_mapped d))) lowers ≡ is_in_use c d
in_use-rows c lowers are d =
    ap (list_any (list_any (list_any (is_mapped d)))) (fill_by_all (λ e. get_or lowers e []) lowers (length c.devices) [] (length-lowers c lowers are) (λ e low. refl))
    ∙ list_any-map (list_any (list_any (is_mapped d))) (λ e. get_or lowers e []) (range_with_len 0 (length c.devices))
    ∙ list_any-same (λ e. list_any (list_any (is_mapped d)) (get_or lowers e [])) (λ e. names_device c e d) (λ e. sym (names_device-rows c lowers are e d)) (range_with_len 0 (length c.devices))

pub in_use-facts : (c : Configuration) (facts : Facts) → AreFacts c facts → (d : ℕ) → list_any (λ (f : DeviceFacts). list_any (list_any (is_mapped d)) f.lowers) facts.devices.items ≡ is_in_use c d
in_use-facts c facts are d =
    sym (list_any-map (list_any (list_any (is_mapped d))) (λ (f : DeviceFacts). f.lowers) facts.devices.items) ∙ in_use-rows c (map (λ (f : DeviceFacts). f.lowers) facts.devices.items) are.lowers d

pub unused-of : (c : Configuration) (d : ℕ) → d < length c.devices → is_in_use c d ≡ false → IsUnused c d
unused-of c d inside none = record { inside = inside; unnamed = λ e. go e (names_device c e d) refl }
  where
    go : (e : ℕ) (b : Bool) → names_device c e d ≡ b → b ≡ false
    go e false is = refl
    go e true is =
        let low = names_device-inside c e d is in
        let long = length-range_with_len 0 (length c.devices) in
        let place : get_or (range_with_len 0 (length c.devices)) e 0 ≡ e = get_or-range_with_len 0 (length c.devices) e 0 low ∙ (omega arith) in
        let some = list_any_at (λ e. names_device c e d) (range_with_len 0 (length c.devices)) e 0 (omega (arith, low, long)) (ap (λ e. names_device c e d) place ∙ is) in
        sym some ∙ none

-- ---- the rule that refuses, and the configuration after it

pub fault-none : (c : Configuration) (name : List ℕ) → device_named c name ≡ None → removal_fault c name ≡ Some NoSuchDevice
unfolding removal_fault
fault-none c name none = rw none refl

pub fault-some : (c : Configuration) (name : List ℕ) (d : ℕ) (b : Bool) → device_named c name ≡ Some d → is_in_use c d ≡ b → removal_fault c name ≡ cond b (Some InUse) None
unfolding removal_fault
fault-some c name d b found is = rw (found, is) refl

pub after_removal-without : (c : Configuration) (name : List ℕ) (d : ℕ) → IsLoaded c → device_named c name ≡ Some d → after_removal c name ≡ without c d
after_removal-without c name d loaded found =
    ap (λ devices. record c { devices = devices }) (filter-remove (λ (x : DeviceRecord). x.name) name c.devices d found loaded.distinct)

-- ---- names

names-remove : (P : List ℕ → Type 0) (xs : List DeviceRecord) (d : ℕ) → d < length xs → AllByRecursion P (map (λ x. x.name) xs) → AllByRecursion P (map (λ x. x.name) (remove xs d))
names-remove P [] d inside all = let no : ⊥ = omega (arith, inside) in absurd no
names-remove P (y ∷ ys) zero inside all = all.1
names-remove P (y ∷ ys) (suc d) inside all = (all.0, names-remove P ys d (omega (arith, inside)) all.1)

distinct-remove : (xs : List DeviceRecord) (d : ℕ) → d < length xs → IsDistinct bytes_eq (map (λ x. x.name) xs) → IsDistinct bytes_eq (map (λ x. x.name) (remove xs d))
unfolding IsDistinct
distinct-remove [] d inside distinct = let no : ⊥ = omega (arith, inside) in absurd no
distinct-remove (y ∷ ys) zero inside distinct = distinct.1
distinct-remove (y ∷ ys) (suc d) inside distinct =
    (names-remove (λ n. bytes_eq y.name n ≡ false) ys d (omega (arith, inside)) distinct.0, distinct-remove ys d (omega (arith, inside)) distinct.1)

-- ---- numbers of each device

get_or-before : (v : List ℕ) (d k : ℕ) → d < length v → get_or (remove v d) k 0 ≡ get_or v (place_before d k) 0
get_or-before v d k inside = go (dec_le d k)
  where
    go : Dec (d ≤ k) → get_or (remove v d) k 0 ≡ get_or v (place_before d k) 0
    go (yes past) = let later : place_before d k ≡ k + 1 = place_before-later d k past in get_or-remove_above v d 0 k past inside ∙ ap (λ e. get_or v e 0) (sym later)
    go (no before) =
        let low : k < d = grind (arith, before) in
        get_or-remove_below v d 0 k low inside ∙ ap (λ e. get_or v e 0) (sym (place_before-earlier d k low))

place_before-inside : (d k n : ℕ) → d < n → k + 1 < n → place_before d k < n
place_before-inside d k n inside low = go (dec_le d k)
  where
    go : Dec (d ≤ k) → place_before d k < n
    go (yes past) = let later : place_before d k ≡ k + 1 = place_before-later d k past in omega (arith, later, low)
    go (no before) =
        let less : k < d = grind (arith, before) in
        let same : place_before d k ≡ k = place_before-earlier d k less in omega (arith, same, low)

values-after : (f g : Lower → ℕ) (v w : List ℕ) (n m d : ℕ) → v ≡ each_mapped f n → d < n → m + 1 ≡ n → w ≡ remove v d → ((e : ℕ) → (e ≡ d → ⊥) → f (mapped e) ≡ g (lower_after d (mapped e))) → w ≡ each_mapped g m
values-after f g v w n m d is inside count without same =
    fill_by_all (λ k. g (mapped k)) w m 0 (omega (arith, ap length without, long, length-remove v d within, count))
    (λ k low.
    let place = place_before-same d k in
    ap (λ w. get_or w k 0) without
    ∙ get_or-before v d k within
    ∙ ap (λ v. get_or v (place_before d k) 0) is
    ∙ get_or-map-range_with_len (λ d. f (mapped d)) 0 n (place_before d k) (place_before d k) 0 (place_before-inside d k n inside (omega (arith, low, count))) (omega arith)
    ∙ same (place_before d k) place.0
    ∙ ap (λ k. g (mapped k)) place.1)
  where
    long : length v ≡ n
    long = length-each_mapped f n v is

    within : d < length v
    within = omega (arith, long, inside)

-- ---- what names mean

row-after : (c : Configuration) (d : ℕ) → IsUnused c d → (row : List Lower) (ns : List (List ℕ)) → AllByRecursion (Avoids c d) ns → map (λ (lower : Lower). Some lower) row ≡ map (named c) ns
    → map (λ (lower : Lower). Some lower) (map (lower_after d) row) ≡ map (named (without c d)) ns
row-after c d unused [] [] avoids means = refl
row-after c d unused [] (n ∷ ns) avoids means = let clash : [] ≡ map (named c) (n ∷ ns) = means in cc
row-after c d unused (l ∷ ls) [] avoids means = let clash : map (λ (lower : Lower). Some lower) (l ∷ ls) ≡ [] = means in cc
row-after c d unused (l ∷ ls) (n ∷ ns) avoids means =
    let here : Some l ≡ named c n = cc in
    let more : map (λ (lower : Lower). Some lower) ls ≡ map (named c) ns = cc in
    let moved : named (without c d) n ≡ Some (lower_after d l) = named-after c d unused n avoids.0 ∙ ap (option_map (lower_after d)) (sym here) in
    rw (moved, row-after c d unused ls ns avoids.1 more) refl

table-after : (c : Configuration) (d : ℕ) → IsUnused c d → (rows : List (List Lower)) (lines : List Line) → AllByRecursion (λ (line : Line). AllByRecursion (Avoids c d) (names line.target)) lines
    → map (map (λ (lower : Lower). Some lower)) rows ≡ map (λ (line : Line). map (named c) (names line.target)) lines
    → map (map (λ (lower : Lower). Some lower)) (map (map (lower_after d)) rows) ≡ map (λ (line : Line). map (named (without c d)) (names line.target)) lines
table-after c d unused [] [] avoids means = refl
table-after c d unused [] (x ∷ xs) avoids means = let clash : [] ≡ map (λ (line : Line). map (named c) (names line.target)) (x ∷ xs) = means in cc
table-after c d unused (r ∷ rs) [] avoids means = let clash : map (map (λ (lower : Lower). Some lower)) (r ∷ rs) ≡ [] = means in cc
table-after c d unused (r ∷ rs) (x ∷ xs) avoids means =
    let here : map (λ (lower : Lower). Some lower) r ≡ map (named c) (names x.target) = cc in
    let more : map (map (λ (lower : Lower). Some lower)) rs ≡ map (λ (line : Line). map (named c) (names line.target)) xs = cc in
    rw (row-after c d unused r (names x.target) avoids.0 here, table-after c d unused rs xs avoids.1 more) refl

abbrev AvoidsAll : Configuration → ℕ → DeviceRecord → Type 0
AvoidsAll c d x = AllByRecursion (λ (line : Line). AllByRecursion (Avoids c d) (names line.target)) x.table

tables-after : (c : Configuration) (d : ℕ) → IsUnused c d → (tables : List (List (List Lower))) (devices : List DeviceRecord) → AllByRecursion (AvoidsAll c d) devices
    → map (map (map (λ (lower : Lower). Some lower))) tables ≡ map (meanings c) devices
    → map (map (map (λ (lower : Lower). Some lower))) (map (map (map (lower_after d))) tables) ≡ map (meanings (without c d)) devices
tables-after c d unused [] [] avoids means = refl
tables-after c d unused [] (x ∷ xs) avoids means = let clash : [] ≡ map (meanings c) (x ∷ xs) = means in cc
tables-after c d unused (t ∷ ts) [] avoids means = let clash : map (map (map (λ (lower : Lower). Some lower))) (t ∷ ts) ≡ [] = means in cc
tables-after c d unused (t ∷ ts) (x ∷ xs) avoids means =
    let here : map (map (λ (lower : Lower). Some lower)) t ≡ meanings c x = cc in
    let more : map (map (map (λ (lower : Lower). Some lower))) ts ≡ map (meanings c) xs = cc in
    rw (table-after c d unused t x.table avoids.0 here, tables-after c d unused ts xs avoids.1 more) refl

all-from : {X : Type 0} (P : X → Type 0) (xs : List X) → ((i : ℕ) (x : X) → slice_get xs i ≡ Some x → P x) → AllByRecursion P xs
all-from P [] each = tt
all-from P (x ∷ xs) each = (each 0 x refl, all-from P xs (λ i y there. each (suc i) y there))

lowers-kept : (c : Configuration) (d : ℕ) → IsUnused c d → (tables : List (List (List Lower))) → AreLowers c tables → AreLowers (without c d) (map (map (map (lower_after d))) (remove tables d))
lowers-kept c d unused tables are =
    tables-after c d unused (remove tables d) (remove c.devices d)
    (all-remove (AvoidsAll c d) c.devices d unused.inside (all-from (AvoidsAll c d) c.devices (λ e x there. rw (lines_of-read c e x there) at (unused-lines c d unused e))))
    (map-remove (map (map (λ (lower : Lower). Some lower))) tables d within ∙ ap (λ rows. remove rows d) are ∙ sym (map-remove (meanings c) c.devices d unused.inside))
  where
    within : d < length tables
    within = let long = length-lowers c tables are in omega (arith, long, unused.inside)

-- ---- all that is kept

pub facts-after : (c : Configuration) (d : ℕ) → IsUnused c d → (old new : Facts) → AreFacts c old → AreWithout d old new → AreFacts (without c d) new
facts-after c d unused old new are is = record {
  depths = values (depth c) (depth (without c d)) _ _ are.depths (field (λ (f : DeviceFacts). f.depth)) (λ e other. depth-after c d unused (mapped e) other);
  reads = values (read_cost c) (read_cost (without c d)) _ _ are.reads (field (λ (f : DeviceFacts). f.read_cost)) (λ e other. read_cost-after c d unused (mapped e) other);
  writes = values (write_cost c) (write_cost (without c d)) _ _ are.writes (field (λ (f : DeviceFacts). f.write_cost)) (λ e other. write_cost-after c d unused (mapped e) other);
  lowers = rw (ap (map (λ (f : DeviceFacts). f.lowers)) is ∙ map-map (λ (f : DeviceFacts). f.lowers) (fact_after d) (remove old.devices.items d) ∙ sym (map-map (map (map (lower_after d))) (λ (f : DeviceFacts). f.lowers) (remove old.devices.items d))
      ∙ ap (map (map (map (lower_after d)))) (map-remove (λ (f : DeviceFacts). f.lowers) old.devices.items d inside)) (lowers-kept c d unused (map (λ (f : DeviceFacts). f.lowers) old.devices.items) are.lowers);
  keys = field (λ (f : DeviceFacts). f.keys) ∙ ap (λ keys. remove keys d) are.keys ∙ sym (map-remove (λ (x : DeviceRecord). keys_from 0 x.table) c.devices d unused.inside);
  zero_digests = field (λ (f : DeviceFacts). f.zero_digests) ∙ ap (λ digests. remove digests d) are.zero_digests ∙ sym (map-remove (λ (x : DeviceRecord). zero_digests_of x.table) c.devices d unused.inside);
}
  where
    inside : d < length old.devices.items
    inside = omega (arith, unused.inside, length-facts are)

    field : {A : Type 0} (f : DeviceFacts → A) → map f new.devices.items ≡ remove (map (λ x. f (fact_after d x)) old.devices.items) d
    field f = ap (map f) is ∙ map-map f (fact_after d) (remove old.devices.items d) ∙ map-remove (λ x. f (fact_after d x)) old.devices.items d inside

    values : (f g : Lower → ℕ) (v w : List ℕ) → v ≡ each_mapped f (length c.devices) → w ≡ remove v d → ((e : ℕ) → (e ≡ d → ⊥) → f (mapped e) ≡ g (lower_after d (mapped e))) → w ≡ each_mapped g (length (remove c.devices d))
    values f g v w was now after = values-after f g v w (length c.devices) (length (remove c.devices d)) d was unused.inside (length-remove c.devices d unused.inside) now after

pub kept-after : (c : Configuration) (d : ℕ) → IsUnused c d → (old new : Facts) → IsLoadedWith c old → AreWithout d old new → IsLoadedWith (without c d) new
kept-after c d unused old new kept without-it = record {
  loaded = record {
    leaves = kept.loaded.leaves;
    distinct = distinct-remove c.devices d unused.inside kept.loaded.distinct;
    mapped = All-from_recursion (λ (x : DeviceRecord). IsTrue (is_mapped_name x.name)) (remove c.devices d)
        (all-remove (λ (x : DeviceRecord). IsTrue (is_mapped_name x.name)) c.devices d unused.inside (recursion_from_All (λ (x : DeviceRecord). IsTrue (is_mapped_name x.name)) c.devices kept.loaded.mapped));
    tables = All-from_recursion (λ (x : DeviceRecord). IsTableOfGrammar x.table) (remove c.devices d)
        (all-remove (λ (x : DeviceRecord). IsTableOfGrammar x.table) c.devices d unused.inside (recursion_from_All (λ (x : DeviceRecord). IsTableOfGrammar x.table) c.devices kept.loaded.tables));
    valid = valid-after c d unused kept.loaded.valid kept.loaded.acyclic;
    acyclic = acyclic (without c d) (valid-after c d unused kept.loaded.valid kept.loaded.acyclic);
  };
  facts = facts-after c d unused old new kept.facts without-it;
}
