-- What a loaded configuration gives of each line: what it names, how deep that is and what it costs.
use Rattle.std.proofs.Common.{subst, ◌≡◌, ◌+◌, ◌≤◌, ◌<◌, ℕ, zero, suc, List, [], ◌∷◌, ◌++◌, refl, sym, ap, ◌∙◌, Bool, true, false, not, ◌&&◌, Option, Some, None, map, take, arith, nat_lt}
use Rattle.std.specs.Prelude.{flat_map, filter_map, is_none, slice_get}
use Rattle.std.specs.List.{AllByRecursion, cons_option, list_any}
use Rattle.std.specs.Option.{option_map_or}
use Rattle.std.proofs.Math.Nat.{le-max_left, le-max_right}
use Rattle.std.proofs.lemmas.Bool.{ltb-false}
use Rattle.std.proofs.lemmas.List.Elements.{recursion_from_All}
use Rattle.dm_table.specs.Grammar.{IsTableOfGrammar, IsLineOfGrammar}
use Rattle.dm_table.specs.declared.table.Line.{Line}
use Rattle.dm_table.specs.declared.table.Target.{Target}
use Rattle.stack_rules.specs.declared.lower.Lower.{Lower}
use Rattle.stack_rules.specs.declared.lower.Lower.TheVariants.{Leaf as leaf, Device as device}
use Rattle.stack_rules.specs.declared.refusal.LoadKind.TheVariants.{NoSuchDevice}
use Rattle.stack_rules.specs.Records.{Configuration, DeviceRecord, LeafRecord}
use Rattle.stack_rules.specs.Names.{mapped, named, names, lines_of, table_sectors, size, may_write}
use Rattle.stack_rules.specs.Descend.{descend, depth, greatest, known, by_name, cost_rule, line_read_cost, line_write_cost, read_cost, write_cost}
use Rattle.stack_rules.specs.Lines.{IsLine}
use Rattle.stack_rules.specs.Rules.{IsLoaded, IsValid, refuse, unknown_in, ends_past, names_read_only, most_sectors}
use Rattle.stack_rules.proofs.lemmas.CostRuleLemmas.{IsLineLocal, line_read_cost-local, line_write_cost-local, cost-rule}
use Rattle.stack_rules.proofs.lemmas.UnrollLemmas.{falls-at}
use Rattle.stack_rules.proofs.lemmas.ValidLemmas.{depth-low}
use Rattle.stack_rules.proofs.lemmas.ValidLineLemmas.{IsSound, sound, size-low, apart, at_place, rules-of, or-false}

-- ---- elements

at : {X : Type 0} (P : X → Type 0) (xs : List X) (i : ℕ) (x : X) → AllByRecursion P xs → slice_get xs i ≡ Some x → P x
at P [] i x all there = let clash : None ≡ Some x = there in cc
at P (y ∷ ys) zero x all there = let same : y ≡ x = cc in subst P same all.0
at P (y ∷ ys) (suc i) x all there = at P ys i x all.1 there

-- the device that has a line
pub device_of : (c : Configuration) (d l : ℕ) (line : Line) → IsLine c d l line → (x : DeviceRecord) × (slice_get c.devices d ≡ Some x) × (slice_get x.table l ≡ Some line)
device_of c d l line is = go (slice_get c.devices d) refl is
  where
    go : (o : Option DeviceRecord) → slice_get c.devices d ≡ o → slice_get (option_map_or (λ x. x.table) o []) l ≡ Some line → (x : DeviceRecord) × (slice_get c.devices d ≡ Some x) × (slice_get x.table l ≡ Some line)
    go None e there = let clash : None ≡ Some line = there in cc
    go (Some x) e there = (x, e, there)

-- what no rule refuses in a line, whatever the lines before it are
pub sound-line : (c : Configuration) (d l : ℕ) (line : Line) → IsValid c → IsLine c d l line → (before : ℕ) × IsSound c (may_write c (mapped d)) before line
sound-line c d l line valid is =
    let x = device_of c d l line is in
    let writes : x.0.writable ≡ may_write c (mapped d) = sym (ap (λ (o : Option DeviceRecord). option_map_or (λ x. x.writable) o false) x.1) in
    (table_sectors (take l x.0.table), subst (λ b. IsSound c b (table_sectors (take l x.0.table)) line) writes (sound c valid d x.0 x.1 l line x.2))

-- a line is as one that is read
pub line-grammar : (c : Configuration) (d l : ℕ) (line : Line) → IsLoaded c → IsLine c d l line → IsLineOfGrammar line
line-grammar c d l line loaded is =
    let x = device_of c d l line is in
    let table = at (λ (d : DeviceRecord). IsTableOfGrammar d.table) c.devices d x.0 (recursion_from_All (λ (d : DeviceRecord). IsTableOfGrammar d.table) c.devices loaded.tables) x.1 in
    at IsLineOfGrammar x.0.table l line (recursion_from_All IsLineOfGrammar x.0.table table.each) x.2

-- ---- sizes

leaf-most : (leaves : List LeafRecord) (i : ℕ) → AllByRecursion (λ (l : LeafRecord). l.sectors ≤ most_sectors) leaves → option_map_or (λ (l : LeafRecord). l.sectors) (slice_get leaves i) 0 ≤ most_sectors
leaf-most [] i all = omega arith
leaf-most (l ∷ ls) zero all = all.0
leaf-most (l ∷ ls) (suc i) all = leaf-most ls i all.1

-- no leaf and no device has more than 2^54 sectors
pub size-most : (c : Configuration) → IsLoaded c → (x : Lower) → size c x ≤ most_sectors
size-most c loaded (leaf i) = leaf-most c.leaves i (recursion_from_All (λ (l : LeafRecord). l.sectors ≤ most_sectors) c.leaves loaded.leaves.sizes)
size-most c loaded (device d) = go (slice_get c.devices d.0) refl
  where
    go : (o : Option DeviceRecord) → slice_get c.devices d.0 ≡ o → table_sectors (option_map_or (λ x. x.table) o []) ≤ most_sectors
    go None e = omega arith
    go (Some x) e = size-low c loaded.valid d.0 x e

-- a range that doesn't end past the named device
pub range-inside : (c : Configuration) (name : List ℕ) (lower : Lower) (end : ℕ) → named c name ≡ Some lower → ends_past c name end ≡ false → end ≤ size c lower
range-inside c name lower end is h = ltb-false (size c lower) end (sym (ap (λ (o : Option Lower). option_map_or (λ lower. nat_lt (size c lower) end) o true) is) ∙ h)

-- ---- what a line names

name-known : (c : Configuration) (ns : List (List ℕ)) → list_any (λ name. is_none (named c name)) ns ≡ false → AllByRecursion (λ name. (y : Lower) × (named c name ≡ Some y)) ns
name-known c [] h = tt
name-known c (n ∷ ns) h = let both = or-false (is_none (named c n)) (list_any (λ name. is_none (named c name)) ns) h in (go (named c n) refl both.0, name-known c ns both.1)
  where
    go : (o : Option Lower) → named c n ≡ o → is_none o ≡ false → (y : Lower) × (named c n ≡ Some y)
    go None is none = let clash : true ≡ false = none in cc
    go (Some y) is none = (y, is)

-- each name in a line means a leaf or device
pub names-known : (c : Configuration) (d l : ℕ) (line : Line) → IsValid c → IsLine c d l line → AllByRecursion (λ name. (y : Lower) × (named c name ≡ Some y)) (names line.target)
names-known c d l line valid is =
    let x = device_of c d l line is in
    let here = at_place (λ d (x : DeviceRecord). unknown_in c d x.table) 1 c.devices (rules-of c valid).known d (d + 1) x.0 x.1 refl in
    let there = at_place (λ l (line : Line). refuse NoSuchDevice (d + 1) l (list_any (λ name. is_none (named c name)) (names line.target)) ∷ []) 1 x.0.table here l (l + 1) line x.2 refl in
    name-known c (names line.target) (apart NoSuchDevice (d + 1) (l + 1) (list_any (λ name. is_none (named c name)) (names line.target)) [] there).0

-- where a device may be written, so may what a line of it names
name-writable : (c : Configuration) (ns : List (List ℕ)) → list_any (λ name. option_map_or (λ lower. not (may_write c lower)) (named c name) false) ns ≡ false
    → AllByRecursion (λ name. (y : Lower) → named c name ≡ Some y → may_write c y ≡ true) ns
name-writable c [] h = tt
name-writable c (n ∷ ns) h =
    let both = or-false (option_map_or (λ lower. not (may_write c lower)) (named c n) false) (list_any (λ name. option_map_or (λ lower. not (may_write c lower)) (named c name) false) ns) h in
    ((λ y is. go (may_write c y) (sym (ap (λ (o : Option Lower). option_map_or (λ lower. not (may_write c lower)) o false) is) ∙ both.0)), name-writable c ns both.1)
  where
    go : (b : Bool) → not b ≡ false → b ≡ true
    go true h = refl
    go false h = let clash : true ≡ false = h in cc

pub names-writable : (c : Configuration) (d l : ℕ) (line : Line) → IsValid c → IsLine c d l line → may_write c (mapped d) ≡ true → AllByRecursion (λ name. (y : Lower) → named c name ≡ Some y → may_write c y ≡ true) (names line.target)
names-writable c d l line valid is writes =
    let s = (sound-line c d l line valid is).1.lowers in
    name-writable c (names line.target) (sym (ap (λ b. b && names_read_only c line.target) writes) ∙ s)

-- ---- depths

first-of : {P : Lower → Type 0} (o : Option Lower) (rest : List Lower) → AllByRecursion P (cons_option o rest) → ((y : Lower) → o ≡ Some y → P y) × AllByRecursion P rest
first-of None rest all = ((λ y is. let clash : None ≡ Some y = is in cc), all)
first-of {P = P} (Some z) rest all = ((λ y is. let same : z ≡ y = cc in subst P same all.0), all.1)

of-names : (c : Configuration) (P : Lower → Type 0) (ns ms : List (List ℕ)) → AllByRecursion P (filter_map (named c) (ns ++ ms)) → AllByRecursion (λ name. (y : Lower) → named c name ≡ Some y → P y) ns × AllByRecursion P (filter_map (named c) ms)
of-names c P [] ms all = (tt, all)
of-names c P (n ∷ ns) ms all =
    let both = first-of (named c n) (filter_map (named c) (ns ++ ms)) all in
    let more = of-names c P ns ms both.1 in
    ((both.0, more.0), more.1)

of-lines : (c : Configuration) (P : Lower → Type 0) (lines : List Line) (l : ℕ) (line : Line) → AllByRecursion P (filter_map (named c) (flat_map (λ (line : Line). names line.target) lines)) → slice_get lines l ≡ Some line
    → AllByRecursion (λ name. (y : Lower) → named c name ≡ Some y → P y) (names line.target)
of-lines c P [] l line all there = let clash : None ≡ Some line = there in cc
of-lines c P (x ∷ xs) zero line all there =
    let same : x ≡ line = cc in
    subst (λ (line : Line). AllByRecursion (λ name. (y : Lower) → named c name ≡ Some y → P y) (names line.target)) same (of-names c P (names x.target) (flat_map (λ (line : Line). names line.target) xs) all).0
of-lines c P (x ∷ xs) (suc l) line all there = of-lines c P xs l line (of-names c P (names x.target) (flat_map (λ (line : Line). names line.target) xs) all).1 there

-- what a line names is less deep than its device
pub names-shallower : (c : Configuration) (d l : ℕ) (line : Line) → IsValid c → IsLine c d l line → AllByRecursion (λ name. (y : Lower) → named c name ≡ Some y → depth c y < depth c (mapped d)) (names line.target)
names-shallower c d l line valid is =
    of-lines c (λ y. depth c y < depth c (mapped d)) (lines_of c d) l line (falls-at c (λ x. let low = depth-low c valid x in omega (arith, low)) (mapped d)) is

-- ---- costs

line-below : (f : Line → ℕ) (lines : List Line) (l : ℕ) (line : Line) → slice_get lines l ≡ Some line → f line ≤ greatest (map f lines)
line-below f [] l line there = let clash : None ≡ Some line = there in cc
line-below f (x ∷ xs) zero line there = let same : x ≡ line = cc in subst (λ y. f y ≤ greatest (map f (x ∷ xs))) same (le-max_left (f x) (greatest (map f xs)))
line-below f (x ∷ xs) (suc l) line there = let more = line-below f xs l line there in omega (arith, more, le-max_right (f x) (greatest (map f xs)))

line-cost : (c : Configuration) (line_cost : (List ℕ → ℕ) → Target → ℕ) → IsLineLocal line_cost → (d l : ℕ) (line : Line) → IsValid c → IsLine c d l line
    → line_cost (by_name c 0 (descend 0 (cost_rule c line_cost))) line.target ≤ descend 0 (cost_rule c line_cost) (mapped d)
line-cost c line_cost local d l line valid is =
    let below = line-below (λ line. line_cost (by_name c 0 (descend 0 (cost_rule c line_cost))) line.target) (lines_of c d) l line is in
    let rule = cost-rule c line_cost local (depth-low c valid) (mapped d) in
    omega (arith, below, rule)

-- a device costs at least what each of its lines does
pub line-read-cost : (c : Configuration) (d l : ℕ) (line : Line) → IsValid c → IsLine c d l line → line_read_cost (by_name c 0 (read_cost c)) line.target ≤ read_cost c (mapped d)
line-read-cost c d l line valid is = line-cost c line_read_cost line_read_cost-local d l line valid is

pub line-write-cost : (c : Configuration) (d l : ℕ) (line : Line) → IsValid c → IsLine c d l line → line_write_cost (by_name c 0 (read_cost c)) (by_name c 0 (write_cost c)) line.target ≤ write_cost c (mapped d)
line-write-cost c d l line valid is =
    let read : List ℕ → ℕ = by_name c 0 (read_cost c) in
    line-cost c (line_write_cost read) (line_write_cost-local read) d l line valid is

-- what one name costs
pub name-cost : (c : Configuration) (cost : Lower → ℕ) (name : List ℕ) (y : Lower) → named c name ≡ Some y → by_name c 0 cost name ≡ cost y
name-cost c cost name y is = ap (known 0 cost) is
