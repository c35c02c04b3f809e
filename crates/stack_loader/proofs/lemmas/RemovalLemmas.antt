-- Names, depths and costs after a removal.
use Rattle.std.proofs.Common.{◌≡◌, ◌+◌, ◌<◌, ℕ, List, [], ◌∷◌, refl, sym, ap, ◌∙◌, true, false, ◌==◌, Option, Some, None, length, map, position, arith}
use Rattle.std.specs.Prelude.{flat_map, filter_map, slice_get}
use Rattle.std.specs.List.{AllByRecursion, cons_option, list_any, remove}
use Rattle.std.specs.Option.{option_map, option_map_or, option_or}
use Rattle.std.specs.Str.{bytes_eq}
use Rattle.std.proofs.lemmas.Bool.Decides.{nat_tests}
use Rattle.std.proofs.lemmas.List.Elements.{filter_map-append}
use Rattle.dm_table.specs.declared.table.Line.{Line}
use Rattle.dm_table.specs.declared.table.Target.{Target}
use Rattle.stack_rules.specs.declared.lower.Lower.{Lower}
use Rattle.stack_rules.specs.declared.lower.Lower.TheVariants.{Leaf as leaf, Device as device}
use Rattle.stack_rules.specs.Records.{Configuration, DeviceRecord}
use Rattle.stack_rules.specs.Names.{mapped, named, names, path_of, lowers, lowers_of, lines_of, table_sectors, size, may_write}
use Rattle.stack_rules.specs.Descend.{greatest, known, by_name, depth, depth_rule, descend, cost_rule, line_read_cost, line_write_cost, read_cost, write_cost}
use Rattle.stack_rules.specs.RulesOf.{rules_of}
use Rattle.stack_rules.specs.Cycles.{is_mapped, names_device}
use Rattle.stack_rules.specs.Removal.{place_after, lower_after}
use Rattle.stack_loader.proofs.RemoveLemmas.{slice_get-remove, position-remove}
use Rattle.stack_rules.proofs.lemmas.CostRuleLemmas.{IsLineLocal, line_read_cost-local, line_write_cost-local, in-append, cons-tail}
use Rattle.stack_loader.proofs.lemmas.RenumberLemmas.{AreRelated, descend-renumbered}
use Rattle.stack_rules.proofs.lemmas.UnrollLemmas.{AllOf, all_and}
use Rattle.stack_rules.proofs.lemmas.ValidLineLemmas.{or-false}

-- the configuration without device d
abbrev pub without : Configuration → ℕ → Configuration
without c d = record c { devices = remove c.devices d }

-- device d is there, and no line names it
pub record IsUnused (c : Configuration) (d : ℕ) : Type 0 where
  pub inside : d < length c.devices
  pub unnamed : (e : ℕ) → names_device c e d ≡ false

-- all but device d
abbrev pub IsOther : ℕ → Lower → Type 0
IsOther d (leaf i) = Unit {0}
IsOther d (device e) = e.0 ≡ d → ⊥

-- the name doesn't mean device d
abbrev pub Avoids : Configuration → ℕ → List ℕ → Type 0
Avoids c d name = named c name ≡ Some (mapped d) → ⊥

-- ---- what is beneath another device is another device

eq-self : (n : ℕ) → (n == n) ≡ true
eq-self n = grind (arith, nat_tests)

others : (d : ℕ) (ys : List Lower) → list_any (is_mapped d) ys ≡ false → AllByRecursion (IsOther d) ys
others d [] none = tt
others d (leaf i ∷ ys) none = (tt, others d ys none)
others d (device e ∷ ys) none =
    let both = or-false (d == e.0) (list_any (is_mapped d) ys) none in
    let apart : (d == e.0) ≡ false = both.0 in
    ((λ same. let clash : true ≡ false = sym (eq-self d) ∙ ap (λ n. d == n) (sym same) ∙ apart in cc), others d ys both.1)

pub others-beneath : (c : Configuration) (d : ℕ) → IsUnused c d → (x : Lower) → IsOther d x → AllByRecursion (IsOther d) (lowers_of c x)
others-beneath c d unused (leaf i) other = tt
others-beneath c d unused (device e) other = others d (lowers c e.0) (unused.unnamed e.0)

-- ---- no name in a line means the device

avoid : (c : Configuration) (d : ℕ) (ns : List (List ℕ)) → list_any (is_mapped d) (filter_map (named c) ns) ≡ false → AllByRecursion (Avoids c d) ns
avoid c d [] none = tt
avoid c d (n ∷ ns) none = go (named c n) refl none (avoid c d ns)
  where
    go : (o : Option Lower) → named c n ≡ o → list_any (is_mapped d) (cons_option o (filter_map (named c) ns)) ≡ false
        → (list_any (is_mapped d) (filter_map (named c) ns) ≡ false → AllByRecursion (Avoids c d) ns) → AllByRecursion (Avoids c d) (n ∷ ns)
    go None is none more = ((λ means. let clash : None ≡ Some (mapped d) = sym is ∙ means in cc), more none)
    go (Some y) is none more =
        let both = or-false (is_mapped d y) (list_any (is_mapped d) (filter_map (named c) ns)) none in
        let apart : is_mapped d y ≡ false = both.0 in
        ((λ means. let same : y ≡ mapped d = cc in let clash : true ≡ false = sym (eq-self d) ∙ ap (is_mapped d) (sym same) ∙ apart in cc), more both.1)

avoid-lines : (c : Configuration) (d : ℕ) (lines : List Line) → AllByRecursion (Avoids c d) (flat_map (λ (line : Line). names line.target) lines) → AllByRecursion (λ (line : Line). AllByRecursion (Avoids c d) (names line.target)) lines
avoid-lines c d [] all = tt
avoid-lines c d (x ∷ xs) all = let both = in-append (Avoids c d) (names x.target) (flat_map (λ (line : Line). names line.target) xs) all in (both.0, avoid-lines c d xs both.1)

pub unused-lines : (c : Configuration) (d : ℕ) → IsUnused c d → (e : ℕ) → AllByRecursion (λ (line : Line). AllByRecursion (Avoids c d) (names line.target)) (lines_of c e)
unused-lines c d unused e = avoid-lines c d (lines_of c e) (avoid c d (flat_map (λ (line : Line). names line.target) (lines_of c e)) (unused.unnamed e))

-- ---- what is read of a device by its place

slice_get-after : (c : Configuration) (d : ℕ) → IsUnused c d → (e : ℕ) → (e ≡ d → ⊥) → slice_get (without c d).devices (place_after d e) ≡ slice_get c.devices e
slice_get-after c d unused e other = slice_get-remove c.devices d e unused.inside other

pub lines-after : (c : Configuration) (d : ℕ) → IsUnused c d → (e : ℕ) → (e ≡ d → ⊥) → lines_of (without c d) (place_after d e) ≡ lines_of c e
lines-after c d unused e other = ap (λ o. option_map_or (λ (x : DeviceRecord). x.table) o []) (slice_get-after c d unused e other)

pub size-after : (c : Configuration) (d : ℕ) → IsUnused c d → (x : Lower) → IsOther d x → size (without c d) (lower_after d x) ≡ size c x
size-after c d unused (leaf i) other = refl
size-after c d unused (device e) other = ap table_sectors (lines-after c d unused e.0 other)

pub may_write-after : (c : Configuration) (d : ℕ) → IsUnused c d → (x : Lower) → IsOther d x → may_write (without c d) (lower_after d x) ≡ may_write c x
may_write-after c d unused (leaf i) other = refl
may_write-after c d unused (device e) other = ap (λ o. option_map_or (λ (x : DeviceRecord). x.writable) o false) (slice_get-after c d unused e.0 other)

-- ---- what a name means

pub named-after : (c : Configuration) (d : ℕ) → IsUnused c d → (name : List ℕ) → Avoids c d name → named (without c d) name ≡ option_map (lower_after d) (named c name)
named-after c d unused name avoids = go (position (λ l. bytes_eq l.name name) c.leaves) avoids
  where
    moved : (o : Option ℕ) → option_map mapped (option_map (place_after d) o) ≡ option_map (lower_after d) (option_map mapped o)
    moved None = refl
    moved (Some e) = refl

    go : (a : Option ℕ) → (option_or (option_map leaf a) (option_map mapped (position (λ x. bytes_eq (path_of x.name) name) c.devices)) ≡ Some (mapped d) → ⊥)
        → option_or (option_map leaf a) (option_map mapped (position (λ x. bytes_eq (path_of x.name) name) (remove c.devices d)))
        ≡ option_map (lower_after d) (option_or (option_map leaf a) (option_map mapped (position (λ x. bytes_eq (path_of x.name) name) c.devices)))
    go (Some i) other = refl
    go None other =
        ap (option_map mapped) (position-remove (λ (x : DeviceRecord). bytes_eq (path_of x.name) name) c.devices d unused.inside (λ is. other (ap (option_map mapped) is)))
        ∙ moved (position (λ x. bytes_eq (path_of x.name) name) c.devices)

filter-after : (c : Configuration) (d : ℕ) → IsUnused c d → (ns : List (List ℕ)) → AllByRecursion (Avoids c d) ns → filter_map (named (without c d)) ns ≡ map (lower_after d) (filter_map (named c) ns)
filter-after c d unused [] all = refl
filter-after c d unused (n ∷ ns) all =
    ap (λ o. cons_option o (filter_map (named (without c d)) ns)) (named-after c d unused n all.0)
    ∙ ap (cons_option (option_map (lower_after d) (named c n))) (filter-after c d unused ns all.1)
    ∙ go (named c n)
  where
    go : (o : Option Lower) → cons_option (option_map (lower_after d) o) (map (lower_after d) (filter_map (named c) ns)) ≡ map (lower_after d) (cons_option o (filter_map (named c) ns))
    go None = refl
    go (Some y) = refl

-- what a device names has its new place
pub lowers-after : (c : Configuration) (d : ℕ) → IsUnused c d → (e : ℕ) → (e ≡ d → ⊥) → lowers (without c d) (place_after d e) ≡ map (lower_after d) (lowers c e)
lowers-after c d unused e other =
    ap (λ lines. filter_map (named (without c d)) (flat_map (λ (line : Line). names line.target) lines)) (lines-after c d unused e other)
    ∙ filter-after c d unused (flat_map (λ (line : Line). names line.target) (lines_of c e)) (avoid c d (flat_map (λ (line : Line). names line.target) (lines_of c e)) (unused.unnamed e))

-- ---- depths

greatest-after : (d : ℕ) (f g : Lower → ℕ) (ys : List Lower) → AllOf (λ y. f y ≡ g (lower_after d y)) ys → greatest (map f ys) ≡ greatest (map g (map (lower_after d) ys))
greatest-after d f g [] all = refl
greatest-after d f g (y ∷ ys) (all_and same more) = rw (same, greatest-after d f g ys more) refl

pub depth-after : (c : Configuration) (d : ℕ) → IsUnused c d → (x : Lower) → IsOther d x → depth c x ≡ depth (without c d) (lower_after d x)
depth-after c d unused x other =
    descend-renumbered (λ m n. m ≡ n) c (IsOther d) (lower_after d) (others-beneath c d unused) 0 0 refl (depth_rule c) (depth_rule (without c d)) related x other
  where
    related : AreRelated (λ m n. m ≡ n) c (IsOther d) (lower_after d) (depth_rule c) (depth_rule (without c d))
    related f g (leaf i) other all = refl
    related f g (device e) other all =
        ap (λ n. 1 + n) (greatest-after d f g (lowers c e.0) all) ∙ ap (λ ys. 1 + greatest (map g ys)) (sym (lowers-after c d unused e.0 other))

-- ---- costs

name-after : (c : Configuration) (d : ℕ) → IsUnused c d → (f g : Lower → ℕ) (ns : List (List ℕ)) → AllByRecursion (Avoids c d) ns → AllByRecursion (λ y. f y ≡ g (lower_after d y)) (filter_map (named c) ns)
    → AllByRecursion (λ n. by_name c 0 f n ≡ by_name (without c d) 0 g n) ns
name-after c d unused f g [] avoids all = tt
name-after c d unused f g (n ∷ ns) avoids all =
    (head (named c n) all ∙ ap (known 0 g) (sym (named-after c d unused n avoids.0)), name-after c d unused f g ns avoids.1 (cons-tail (λ y. f y ≡ g (lower_after d y)) (named c n) (filter_map (named c) ns) all))
  where
    head : (o : Option Lower) → AllByRecursion (λ y. f y ≡ g (lower_after d y)) (cons_option o (filter_map (named c) ns)) → known 0 f o ≡ known 0 g (option_map (lower_after d) o)
    head None all = refl
    head (Some y) all = all.0

recursion-of : {P : Lower → Type 0} (xs : List Lower) → AllOf P xs → AllByRecursion P xs
recursion-of [] all = tt
recursion-of (x ∷ xs) (all_and here more) = (here, recursion-of xs more)

-- what a line costs is said alike of both configurations, where it doesn't name the device
abbrev pub Agree : Configuration → ℕ → ((List ℕ → ℕ) → Target → ℕ) → ((List ℕ → ℕ) → Target → ℕ) → Type 0
Agree c d line_cost other_cost = (cost : List ℕ → ℕ) (target : Target) → AllByRecursion (Avoids c d) (names target) → line_cost cost target ≡ other_cost cost target

dearest-after : (c : Configuration) (d : ℕ) → IsUnused c d → (line_cost other_cost : (List ℕ → ℕ) → Target → ℕ) → IsLineLocal line_cost → Agree c d line_cost other_cost → (f g : Lower → ℕ) (lines : List Line)
    → AllByRecursion (λ (line : Line). AllByRecursion (Avoids c d) (names line.target)) lines
    → AllByRecursion (λ y. f y ≡ g (lower_after d y)) (filter_map (named c) (flat_map (λ (line : Line). names line.target) lines))
    → greatest (map (λ (line : Line). line_cost (by_name c 0 f) line.target) lines) ≡ greatest (map (λ (line : Line). other_cost (by_name (without c d) 0 g) line.target) lines)
dearest-after c d unused line_cost other_cost local agree f g [] avoids all = refl
dearest-after c d unused line_cost other_cost local agree f g (x ∷ xs) avoids all =
    let both = in-append (λ y. f y ≡ g (lower_after d y)) (filter_map (named c) (names x.target)) (filter_map (named c) (flat_map (λ (line : Line). names line.target) xs))
    (rw (filter_map-append (named c) (names x.target) (flat_map (λ (line : Line). names line.target) xs)) at all) in
    let here = local (by_name c 0 f) (by_name (without c d) 0 g) x.target (name-after c d unused f g (names x.target) avoids.0 both.0) ∙ agree (by_name (without c d) 0 g) x.target avoids.0 in
    rw (here, dearest-after c d unused line_cost other_cost local agree f g xs avoids.1 both.1) refl

pub cost-after : (c : Configuration) (d : ℕ) → IsUnused c d → (line_cost other_cost : (List ℕ → ℕ) → Target → ℕ) → IsLineLocal line_cost → Agree c d line_cost other_cost → (x : Lower) → IsOther d x
    → descend 0 (cost_rule c line_cost) x ≡ descend 0 (cost_rule (without c d) other_cost) (lower_after d x)
cost-after c d unused line_cost other_cost local agree x other =
    descend-renumbered (λ m n. m ≡ n) c (IsOther d) (lower_after d) (others-beneath c d unused) 0 0 refl (cost_rule c line_cost) (cost_rule (without c d) other_cost) related x other
  where
    related : AreRelated (λ m n. m ≡ n) c (IsOther d) (lower_after d) (cost_rule c line_cost) (cost_rule (without c d) other_cost)
    related f g (leaf i) other all = refl
    related f g (device e) other all =
        dearest-after c d unused line_cost other_cost local agree f g (lines_of c e.0) (unused-lines c d unused e.0) (recursion-of (lowers c e.0) all)
        ∙ ap (λ lines. greatest (map (λ (line : Line). other_cost (by_name (without c d) 0 g) line.target) lines)) (sym (lines-after c d unused e.0 other))

pub read_cost-after : (c : Configuration) (d : ℕ) → IsUnused c d → (x : Lower) → IsOther d x → read_cost c x ≡ read_cost (without c d) (lower_after d x)
read_cost-after c d unused x other = cost-after c d unused line_read_cost line_read_cost line_read_cost-local (λ cost target avoids. refl) x other

other-of : (d : ℕ) (y : Lower) → (y ≡ mapped d → ⊥) → IsOther d y
other-of d (leaf i) apart = tt
other-of d (device e) apart = λ same. apart (ap mapped same)

pub write_cost-after : (c : Configuration) (d : ℕ) → IsUnused c d → (x : Lower) → IsOther d x → write_cost c x ≡ write_cost (without c d) (lower_after d x)
write_cost-after c d unused x other =
    cost-after c d unused (line_write_cost (by_name c 0 (read_cost c))) (line_write_cost (by_name (without c d) 0 (read_cost (without c d)))) (line_write_cost-local (by_name c 0 (read_cost c))) agree x other
  where
    name : (n : List ℕ) → Avoids c d n → by_name c 0 (read_cost c) n ≡ by_name (without c d) 0 (read_cost (without c d)) n
    name n avoids = go (named c n) avoids ∙ ap (known 0 (read_cost (without c d))) (sym (named-after c d unused n avoids))
      where
        go : (o : Option Lower) → (o ≡ Some (mapped d) → ⊥) → known 0 (read_cost c) o ≡ known 0 (read_cost (without c d)) (option_map (lower_after d) o)
        go None apart = refl
        go (Some y) apart = read_cost-after c d unused y (other-of d y (λ same. apart (ap (λ (y : Lower). Some y) same)))

    agree : Agree c d (line_write_cost (by_name c 0 (read_cost c))) (line_write_cost (by_name (without c d) 0 (read_cost (without c d))))
    agree cost target avoids = ap (λ reads. (rules_of target).write_cost reads (map cost (names target))) (same-reads (names target) avoids)
      where
        same-reads : (ns : List (List ℕ)) → AllByRecursion (Avoids c d) ns → map (by_name c 0 (read_cost c)) ns ≡ map (by_name (without c d) 0 (read_cost (without c d))) ns
        same-reads [] all = refl
        same-reads (n ∷ ns) all = rw (name n all.0, same-reads ns all.1) refl
