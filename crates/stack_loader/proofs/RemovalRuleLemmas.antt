-- No rule refuses the configuration after a removal.
use Rattle.std.proofs.Common.{subst, ◌≡◌, ◌+◌, ◌-◌, ◌≤◌, ℕ, zero, suc, List, [], ◌∷◌, ◌++◌, refl, sym, ap, ◌∙◌, Bool, true, false, not, ◌==◌, Option, Some, None, length, map, take, nat_lt, arith}
use Rattle.std.specs.Prelude.{flat_map, slice_get, is_none}
use Rattle.std.specs.List.{AllByRecursion, enumerate_from, list_any, remove}
use Rattle.std.specs.Option.{option_map, option_map_or}
use Rattle.std.proofs.Math.Decide.{dec_le}
use Rattle.std.proofs.lemmas.Bool.{ltb-false}
use Rattle.std.proofs.lemmas.Bool.Decides.{nat_tests}
use Rattle.std.proofs.lemmas.List.Edits.{length-remove}
use Rattle.dm_table.specs.declared.table.Line.{Line}
use Rattle.dm_table.specs.declared.table.Target.{Target}
use Rattle.stack_rules.specs.declared.lower.Lower.{Lower}
use Rattle.stack_rules.specs.declared.lower.Lower.TheVariants.{Leaf as leaf, Device as device}
use Rattle.stack_rules.specs.declared.refusal.LoadKind.{LoadKind}
use Rattle.stack_rules.specs.declared.refusal.LoadKind.TheVariants.{TooMany, NoSuchDevice, StandsOnItself, TooDeep, CostTooLarge}
use Rattle.stack_rules.specs.declared.refusal.Refusal.{Refusal}
use Rattle.stack_rules.specs.Records.{Configuration, DeviceRecord}
use Rattle.stack_rules.specs.Names.{mapped, named, names, lowers, table_sectors, size, may_write}
use Rattle.stack_rules.specs.RulesOf.{rules_of}
use Rattle.stack_rules.proofs.lemmas.TargetLaws.{OfRange}
use Rattle.stack_rules.proofs.lemmas.RulesLawsOf.{rules-laws}
use Rattle.stack_rules.specs.Descend.{depth, read_cost, most_devices}
use Rattle.stack_rules.specs.Cycles.{is_mapped, names_device, Leads, by_line, by_chain, IsOnCycle, is_on_cycle}
use Rattle.stack_rules.specs.Removal.{place_after, lower_after}
use Rattle.stack_rules.specs.Rules.{IsValid, first, refuse, each_device, ends_past, is_beyond, is_tree_beyond, ranges, names_read_only, line_faults, line_rules, table_rules, unknown_in, unknown_names, cycles, is_too_many, most_lines, depth_rules, cost_rules, device_rules, most_depth, most_cost}
use Rattle.stack_rules.proofs.lemmas.KeptLemmas.{lines_of-read}
use Rattle.stack_loader.proofs.RemoveLemmas.{slice_get-remove, list_any-remove, place_before, place_before-same}
use Rattle.stack_rules.proofs.lemmas.CycleLemmas.{is_on_cycle-decides}
use Rattle.stack_rules.proofs.lemmas.RangeLemmas.{ranges-names}
use Rattle.stack_loader.proofs.lemmas.RemovalLemmas.{without, IsUnused, IsOther, Avoids, others-beneath, unused-lines, size-after, may_write-after, named-after, lowers-after, depth-after, read_cost-after}
use Rattle.stack_rules.proofs.lemmas.UnrollLemmas.{all-map}
use Rattle.stack_rules.proofs.lemmas.ValidLemmas.{depth-low}
use Rattle.stack_rules.proofs.lemmas.ValidLineLemmas.{apart, at_place, faults-none, none-faults, rules-of, or-false}

-- ---- lists in which nothing refuses

first-append : (xs ys : List (Option Refusal)) → first xs ≡ None → first ys ≡ None → first (xs ++ ys) ≡ None
first-append [] ys h more = more
first-append (None ∷ xs) ys h more = first-append xs ys h more
first-append (Some r ∷ xs) ys h more = let clash : Some r ≡ None = h in cc

first-each : {X : Type 0} (f : ℕ → X → List (Option Refusal)) (k : ℕ) (xs : List X) → ((i j : ℕ) (x : X) → slice_get xs i ≡ Some x → j ≡ i + k → first (f j x) ≡ None)
    → first (flat_map (λ p. f p.0 p.1) (enumerate_from k xs)) ≡ None
first-each f k [] all = refl
first-each f k (y ∷ ys) all =
    first-append (f k y) (flat_map (λ p. f p.0 p.1) (enumerate_from (k + 1) ys)) (all 0 k y refl (omega arith))
    (first-each f (k + 1) ys (λ i j x there place. all (suc i) j x there (omega (arith, place))))

all-at : {X : Type 0} (P : X → Type 0) (xs : List X) (i : ℕ) (x : X) → AllByRecursion P xs → slice_get xs i ≡ Some x → P x
all-at P [] i x all there = let clash : None ≡ Some x = there in cc
all-at P (y ∷ ys) zero x all there = let same : y ≡ x = cc in rw (← same) all.0
all-at P (y ∷ ys) (suc i) x all there = all-at P ys i x all.1 there

any-same : {X : Type 0} (p q : X → Bool) (xs : List X) → AllByRecursion (λ x. p x ≡ q x) xs → list_any p xs ≡ list_any q xs
any-same p q [] all = refl
any-same p q (x ∷ xs) all = rw (all.0, any-same p q xs all.1) refl

-- ---- the rules on one line

other-of : (c : Configuration) (d : ℕ) (name : List ℕ) (y : Lower) → Avoids c d name → named c name ≡ Some y → IsOther d y
other-of c d name (leaf i) avoids is = tt
other-of c d name (device e) avoids is = λ same. avoids (is ∙ ap (λ n. Some (mapped n)) same)

ends-after : (c : Configuration) (d : ℕ) → IsUnused c d → (name : List ℕ) (end : ℕ) → Avoids c d name → ends_past (without c d) name end ≡ ends_past c name end
ends-after c d unused name end avoids =
    ap (λ o. option_map_or (λ lower. nat_lt (size (without c d) lower) end) o true) (named-after c d unused name avoids) ∙ go (named c name) refl
  where
    go : (o : Option Lower) → named c name ≡ o → option_map_or (λ lower. nat_lt (size (without c d) lower) end) (option_map (lower_after d) o) true ≡ option_map_or (λ lower. nat_lt (size c lower) end) o true
    go None is = refl
    go (Some y) is = ap (λ n. nat_lt n end) (size-after c d unused y (other-of c d name y avoids is))

is_beyond-after : (c : Configuration) (d : ℕ) → IsUnused c d → (len : ℕ) (target : Target) → AllByRecursion (Avoids c d) (names target) → is_beyond (without c d) len target ≡ is_beyond c len target
is_beyond-after c d unused len target avoids =
    any-same (λ (range : List ℕ × ℕ). ends_past (without c d) range.0 range.1) (λ (range : List ℕ × ℕ). ends_past c range.0 range.1) (ranges len target)
    (all-map (λ range apart. ends-after c d unused range.0 range.1 apart) (ranges len target) (ranges-names (Avoids c d) len target avoids))

is_tree_beyond-after : (c : Configuration) (d : ℕ) → IsUnused c d → (target : Target) → AllByRecursion (Avoids c d) (names target) → is_tree_beyond (without c d) target ≡ is_tree_beyond c target
is_tree_beyond-after c d unused target avoids = go (rules_of target).tree ((rules-laws target).tree (Avoids c d) avoids)
  where
    go : (o : Option (List ℕ × ℕ)) → OfRange (Avoids c d) o → option_map_or (λ range. ends_past (without c d) range.0 range.1) o false ≡ option_map_or (λ range. ends_past c range.0 range.1) o false
    go None apart = refl
    go (Some range) apart = ends-after c d unused range.0 range.1 apart

read_only-after : (c : Configuration) (d : ℕ) → IsUnused c d → (name : List ℕ) → Avoids c d name
    → option_map_or (λ lower. not (may_write (without c d) lower)) (named (without c d) name) false ≡ option_map_or (λ lower. not (may_write c lower)) (named c name) false
read_only-after c d unused name avoids =
    ap (λ o. option_map_or (λ lower. not (may_write (without c d) lower)) o false) (named-after c d unused name avoids) ∙ go (named c name) refl
  where
    go : (o : Option Lower) → named c name ≡ o → option_map_or (λ lower. not (may_write (without c d) lower)) (option_map (lower_after d) o) false ≡ option_map_or (λ lower. not (may_write c lower)) o false
    go None is = refl
    go (Some y) is = ap not (may_write-after c d unused y (other-of c d name y avoids is))

names_read_only-after : (c : Configuration) (d : ℕ) → IsUnused c d → (target : Target) → AllByRecursion (Avoids c d) (names target) → names_read_only (without c d) target ≡ names_read_only c target
names_read_only-after c d unused target avoids =
    any-same (λ name. option_map_or (λ lower. not (may_write (without c d) lower)) (named (without c d) name) false) (λ name. option_map_or (λ lower. not (may_write c lower)) (named c name) false) (names target)
    (all-map (read_only-after c d unused) (names target) avoids)

unknown-after : (c : Configuration) (d : ℕ) → IsUnused c d → (ns : List (List ℕ)) → AllByRecursion (Avoids c d) ns → list_any (λ name. is_none (named (without c d) name)) ns ≡ list_any (λ name. is_none (named c name)) ns
unknown-after c d unused ns avoids =
    any-same (λ name. is_none (named (without c d) name)) (λ name. is_none (named c name)) ns
    (all-map (λ name apart. ap is_none (named-after c d unused name apart) ∙ go (named c name)) ns avoids)
  where
    go : (o : Option Lower) → is_none (option_map (lower_after d) o) ≡ is_none o
    go None = refl
    go (Some y) = refl

line_rules-after : (c : Configuration) (d : ℕ) → IsUnused c d → (writable : Bool) (before : ℕ) (line : Line) → AllByRecursion (Avoids c d) (names line.target) → (e l k m : ℕ)
    → first (line_rules c writable e l before line) ≡ None → first (line_rules (without c d) writable k m before line) ≡ None
line_rules-after c d unused writable before line avoids e l k m h =
    let same : line_faults (without c d) writable before line ≡ line_faults c writable before line =
    rw (is_beyond-after c d unused line.length line.target avoids, is_tree_beyond-after c d unused line.target avoids, names_read_only-after c d unused line.target avoids) refl in
    let P : List (LoadKind × Bool) → Type 0 = AllByRecursion (λ (fault : LoadKind × Bool). fault.1 ≡ false) in
    none-faults k m (line_faults (without c d) writable before line) (subst P (sym same) (faults-none e l (line_faults c writable before line) h))

-- ---- the rules on each device

device-before : (c : Configuration) (d : ℕ) → IsUnused c d → (k : ℕ) (x : DeviceRecord) → slice_get (remove c.devices d) k ≡ Some x → slice_get c.devices (place_before d k) ≡ Some x
device-before c d unused k x there =
    let same = place_before-same d k in
    sym (slice_get-remove c.devices d (place_before d k) unused.inside same.0) ∙ ap (slice_get (remove c.devices d)) same.1 ∙ there

line-avoids : (c : Configuration) (d : ℕ) → IsUnused c d → (e : ℕ) (x : DeviceRecord) → slice_get c.devices e ≡ Some x → (l : ℕ) (line : Line) → slice_get x.table l ≡ Some line → AllByRecursion (Avoids c d) (names line.target)
line-avoids c d unused e x stands l line there =
    all-at (λ (line : Line). AllByRecursion (Avoids c d) (names line.target)) x.table l line (rw (lines_of-read c e x stands) at (unused-lines c d unused e)) there

each-after : (c : Configuration) (d : ℕ) → IsUnused c d → (f g : ℕ → DeviceRecord → List (Option Refusal)) → first (each_device c f) ≡ None
    → ((e k : ℕ) (x : DeviceRecord) → e ≡ place_before d k → slice_get c.devices e ≡ Some x → first (f (e + 1) x) ≡ None → first (g (k + 1) x) ≡ None) → first (each_device (without c d) g) ≡ None
each-after c d unused f g h step =
    first-each g 1 (remove c.devices d)
    (λ k j x there place.
    let e = place_before d k in
    let stands = device-before c d unused k x there in
    rw place (step e k x refl stands (at_place f 1 c.devices h e (e + 1) x stands refl)))

unknown_names-after : (c : Configuration) (d : ℕ) → IsUnused c d → first (unknown_names c) ≡ None → first (unknown_names (without c d)) ≡ None
unknown_names-after c d unused h =
    each-after c d unused (λ d x. unknown_in c d x.table) (λ k x. unknown_in (without c d) k x.table) h
    (λ e k x is stands none.
    first-each (λ l (line : Line). refuse NoSuchDevice (k + 1) l (list_any (λ name. is_none (named (without c d) name)) (names line.target)) ∷ []) 1 x.table
    (λ l m line there place.
    let known = apart NoSuchDevice (e + 1) m (list_any (λ name. is_none (named c name)) (names line.target)) []
    (at_place (λ l (line : Line). refuse NoSuchDevice (e + 1) l (list_any (λ name. is_none (named c name)) (names line.target)) ∷ []) 1 x.table none l m line there place) in
    rw (unknown-after c d unused (names line.target) (line-avoids c d unused e x stands l line there) ∙ known.0) refl))

table_rules-after : (c : Configuration) (d : ℕ) → IsUnused c d → first (each_device c (table_rules c)) ≡ None → first (each_device (without c d) (table_rules (without c d))) ≡ None
table_rules-after c d unused h =
    each-after c d unused (table_rules c) (table_rules (without c d)) h
    (λ e k x is stands none.
    first-each (λ l line. line_rules (without c d) x.writable (k + 1) l (table_sectors (take (l - 1) x.table)) line) 1 x.table
    (λ l m line there place.
    line_rules-after c d unused x.writable (table_sectors (take (m - 1) x.table)) line (line-avoids c d unused e x stands l line there) (e + 1) m (k + 1) m
    (at_place (λ l line. line_rules c x.writable (e + 1) l (table_sectors (take (l - 1) x.table)) line) 1 x.table none l m line there place)))

-- ---- cycles

same-place : (d j e : ℕ) → (e ≡ d → ⊥) → (j == place_after d e) ≡ (place_before d j == e)
same-place d j e other = go (dec_le e d) (dec_le d j)
  where
    go : Dec (e ≤ d) → Dec (d ≤ j) → (j == place_after d e) ≡ (place_before d j == e)
    go (yes p) (yes q) = grind (arith, nat_tests)
    go (yes p) (no q) = grind (arith, nat_tests)
    go (no p) (yes q) = grind (arith, nat_tests)
    go (no p) (no q) = grind (arith, nat_tests)

any-before : (d j : ℕ) (ys : List Lower) → AllByRecursion (IsOther d) ys → list_any (is_mapped j) (map (lower_after d) ys) ≡ list_any (is_mapped (place_before d j)) ys
any-before d j [] all = refl
any-before d j (leaf i ∷ ys) all = any-before d j ys all.1
any-before d j (device e ∷ ys) all = rw (same-place d j e.0 all.0, any-before d j ys all.1) refl

names_device-before : (c : Configuration) (d : ℕ) → IsUnused c d → (k j : ℕ) → names_device (without c d) k j ≡ names_device c (place_before d k) (place_before d j)
names_device-before c d unused k j =
    let same = place_before-same d k in
    ap (λ k. list_any (is_mapped j) (lowers (without c d) k)) (sym same.1)
    ∙ ap (list_any (is_mapped j)) (lowers-after c d unused (place_before d k) same.0)
    ∙ any-before d j (lowers c (place_before d k)) (others-beneath c d unused (mapped (place_before d k)) same.0)

leads-before : (c : Configuration) (d : ℕ) → IsUnused c d → {k j : ℕ} → Leads (without c d) k j → Leads c (place_before d k) (place_before d j)
leads-before c d unused (by_line k j step) = by_line (place_before d k) (place_before d j) (sym (names_device-before c d unused k j) ∙ step)
leads-before c d unused (by_chain k i j step rest) =
    by_chain (place_before d k) (place_before d i) (place_before d j) (sym (names_device-before c d unused k i) ∙ step) (leads-before c d unused rest)

off-cycle : (c : Configuration) (d : ℕ) → IsUnused c d → ((e : ℕ) → IsOnCycle c e → ⊥) → (k : ℕ) → is_on_cycle (without c d) k ≡ false
off-cycle c d unused acyclic k = go (is_on_cycle (without c d) k) refl
  where
    go : (b : Bool) → is_on_cycle (without c d) k ≡ b → b ≡ false
    go true on = absurd (acyclic (place_before d k) (leads-before c d unused ((is_on_cycle-decides (without c d) k).0 on)))
    go false on = refl

cycles-after : (c : Configuration) (d : ℕ) → IsUnused c d → ((e : ℕ) → IsOnCycle c e → ⊥) → first (cycles (without c d)) ≡ None
cycles-after c d unused acyclic =
    first-each (λ j (x : DeviceRecord). refuse StandsOnItself j 0 (is_on_cycle (without c d) (j - 1)) ∷ []) 1 (remove c.devices d)
    (λ k j x there place. rw (off-cycle c d unused acyclic (j - 1)) refl)

-- ---- depths, costs and counts

lt-false : (m n : ℕ) → n ≤ m → nat_lt m n ≡ false
lt-false m n h = grind (arith, nat_tests)

depth_rules-after : (c : Configuration) (d : ℕ) → IsUnused c d → IsValid c → first (depth_rules (without c d)) ≡ None
depth_rules-after c d unused valid =
    first-each (λ j (x : DeviceRecord). refuse TooDeep j 0 (nat_lt most_depth (depth (without c d) (mapped (j - 1)))) ∷ []) 1 (remove c.devices d)
    (λ k j x there place. rw (lt-false most_depth (depth (without c d) (mapped (j - 1))) (low (j - 1))) refl)
  where
    low : (k : ℕ) → depth (without c d) (mapped k) ≤ most_depth
    low k =
        let same = place_before-same d k in
        let is : depth (without c d) (mapped k) ≡ depth c (mapped (place_before d k)) = ap (λ k. depth (without c d) (mapped k)) (sym same.1) ∙ sym (depth-after c d unused (mapped (place_before d k)) same.0) in
        let shallow = depth-low c valid (mapped (place_before d k)) in
        omega (arith, is, shallow)

cost_rules-after : (c : Configuration) (d : ℕ) → IsUnused c d → first (cost_rules c) ≡ None → first (cost_rules (without c d)) ≡ None
cost_rules-after c d unused h =
    each-after c d unused (λ d x. refuse CostTooLarge d 0 (nat_lt most_cost (read_cost c (mapped (d - 1)))) ∷ []) (λ j x. refuse CostTooLarge j 0 (nat_lt most_cost (read_cost (without c d) (mapped (j - 1)))) ∷ []) h
    (λ e k x is stands none. rw (ap (nat_lt most_cost) (cost e k is) ∙ (apart CostTooLarge (e + 1) 0 (nat_lt most_cost (read_cost c (mapped ((e + 1) - 1)))) [] none).0) refl)
  where
    cost : (e k : ℕ) → e ≡ place_before d k → read_cost (without c d) (mapped ((k + 1) - 1)) ≡ read_cost c (mapped ((e + 1) - 1))
    cost e k is =
        let same = place_before-same d k in
        let first : (k + 1) - 1 ≡ place_after d (place_before d k) = omega (arith, same.1) in
        let second : place_before d k ≡ (e + 1) - 1 = omega (arith, is) in
        ap (λ k. read_cost (without c d) (mapped k)) first ∙ sym (read_cost-after c d unused (mapped (place_before d k)) same.0) ∙ ap (λ e. read_cost c (mapped e)) second

few-after : (c : Configuration) (d : ℕ) → IsUnused c d → is_too_many c.devices ≡ false → is_too_many (remove c.devices d) ≡ false
few-after c d unused few =
    let both = or-false (nat_lt most_devices (length c.devices)) (list_any (λ d. nat_lt most_lines (length d.table)) c.devices) few in
    let most = ltb-false most_devices (length c.devices) both.0 in
    rw (lt-false most_devices (length (remove c.devices d)) (omega (arith, most, length-remove c.devices d unused.inside)), list_any-remove (λ d. nat_lt most_lines (length d.table)) c.devices d unused.inside both.1) refl

-- so a valid configuration stays valid
pub valid-after : (c : Configuration) (d : ℕ) → IsUnused c d → IsValid c → ((e : ℕ) → IsOnCycle c e → ⊥) → IsValid (without c d)
unfolding IsValid
valid-after c d unused valid acyclic =
    let old = rules-of c valid in
    first-append (device_rules (without c d) ++ depth_rules (without c d)) (cost_rules (without c d))
    (first-append (device_rules (without c d)) (depth_rules (without c d))
    (first-append (refuse TooMany 0 0 (is_too_many (remove c.devices d)) ∷ unknown_names (without c d) ++ cycles (without c d)) (each_device (without c d) (table_rules (without c d)))
    (first-append (refuse TooMany 0 0 (is_too_many (remove c.devices d)) ∷ unknown_names (without c d)) (cycles (without c d))
    (rw (few-after c d unused old.many) (unknown_names-after c d unused old.known))
    (cycles-after c d unused acyclic))
    (table_rules-after c d unused old.lines))
    (depth_rules-after c d unused valid))
    (cost_rules-after c d unused old.costs)
