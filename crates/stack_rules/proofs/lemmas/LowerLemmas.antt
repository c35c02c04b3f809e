-- What each device names.
use Rattle.std.proofs.Common.{◌≡◌, ◌<◌, ℕ, List, [], ◌∷◌, ◌++◌, refl, ap, ◌∙◌, Bool, true, ◌||◌, Option, Some, None, length, get_or, map}
use Rattle.std.specs.Prelude.{flat_map, filter_map, slice_get, position}
use Rattle.std.specs.List.{AllByRecursion, cons_option, list_any}
use Rattle.std.proofs.lemmas.List.Folds.{list_any-append}
use Rattle.std.specs.Option.{option_map_or, option_map, option_or}
use Rattle.std.specs.Str.{bytes_eq}
use Rattle.std.proofs.lemmas.List.Quantifiers.{position-Some}
use Rattle.dm_table.specs.declared.table.Line.{Line}
use Rattle.stack_rules.specs.declared.lower.Lower.{Lower}
use Rattle.stack_rules.specs.declared.lower.Lower.TheVariants.{Leaf as leaf, Device as device}
use Rattle.stack_rules.specs.Records.{Configuration, DeviceRecord}
use Rattle.stack_rules.specs.Names.{mapped, named, names, lowers, lines_of, path_of}
use Rattle.stack_rules.specs.Cycles.{is_mapped, names_device}
use Rattle.stack_rules.specs.Kept.{AreLowers, meanings}
use Rattle.stack_rules.specs.Passing.{Mean, RowsMean}
use Rattle.stack_rules.proofs.lemmas.ListLemmas.{same_row}

-- ---- the rows of each device

pub rows-of : (c : Configuration) (tables : List (List (List Lower))) → AreLowers c tables → (d : ℕ) → RowsMean c (get_or tables d []) (lines_of c d)
rows-of c tables are d = same_row (map (λ (lower : Lower). Some lower)) (meanings c) tables c.devices d are ∙ move (slice_get c.devices d)
  where
    move : (o : Option DeviceRecord) → option_map_or (meanings c) o [] ≡ map (λ (line : Line). map (named c) (names line.target)) (option_map_or (λ x. x.table) o [])
    move None = refl
    move (Some x) = refl

filter-row : (c : Configuration) (row : List Lower) (ns rest : List (List ℕ)) → Mean c row ns → filter_map (named c) (ns ++ rest) ≡ row ++ filter_map (named c) rest
filter-row c [] [] rest means = refl
filter-row c [] (n ∷ ns) rest means = let clash : [] ≡ map (named c) (n ∷ ns) = means in cc
filter-row c (l ∷ ls) [] rest means = let clash : map (λ (lower : Lower). Some lower) (l ∷ ls) ≡ [] = means in cc
filter-row c (l ∷ ls) (n ∷ ns) rest means =
    let here : Some l ≡ named c n = cc in
    let more : map (λ (lower : Lower). Some lower) ls ≡ map (named c) ns = cc in
    rw (← here) (ap (λ xs. l ∷ xs) (filter-row c ls ns rest more))

pub lowers-flat : (c : Configuration) (rows : List (List Lower)) (lines : List Line) → RowsMean c rows lines
    → filter_map (named c) (flat_map (λ (line : Line). names line.target) lines) ≡ flat_map (λ row. row) rows
lowers-flat c [] [] means = refl
lowers-flat c [] (x ∷ xs) means = let clash : [] ≡ map (λ (line : Line). map (named c) (names line.target)) (x ∷ xs) = means in cc
lowers-flat c (r ∷ rs) [] means = let clash : map (map (λ (lower : Lower). Some lower)) (r ∷ rs) ≡ [] = means in cc
lowers-flat c (r ∷ rs) (x ∷ xs) means =
    let here : map (λ (lower : Lower). Some lower) r ≡ map (named c) (names x.target) = cc in
    let more : map (map (λ (lower : Lower). Some lower)) rs ≡ map (λ (line : Line). map (named c) (names line.target)) xs = cc in
    filter-row c r (names x.target) (flat_map (λ (line : Line). names line.target) xs) here ∙ ap (λ ys. r ++ ys) (lowers-flat c rs xs more)

-- ---- a device that another names, by its rows

list_any-flat : {X : Type 0} (p : X → Bool) (rows : List (List X)) → list_any p (flat_map (λ row. row) rows) ≡ list_any (list_any p) rows
list_any-flat p [] = refl
list_any-flat p (row ∷ rows) = list_any-append p row (flat_map (λ row. row) rows) ∙ ap (λ b. list_any p row || b) (list_any-flat p rows)

pub names_device-rows : (c : Configuration) (lowers : List (List (List Lower))) → AreLowers c lowers → (d e : ℕ) → names_device c d e ≡ list_any (list_any (is_mapped e)) (get_or lowers d [])
names_device-rows c lowers are d e =
    ap (list_any (is_mapped e)) (lowers-flat c (get_or lowers d []) (lines_of c d) (rows-of c lowers are d)) ∙ list_any-flat (is_mapped e) (get_or lowers d [])

-- ---- what is beneath is inside

abbrev pub IsInside : Configuration → Lower → Type 0
IsInside c (leaf i) = Unit {0}
IsInside c (device d) = d.0 < length c.devices

pub named-inside : (c : Configuration) (name : List ℕ) (y : Lower) → named c name ≡ Some y → IsInside c y
named-inside c name y is = go (position (λ l. bytes_eq l.name name) c.leaves) (position (λ d. bytes_eq (path_of d.name) name) c.devices) refl is
  where
    go : (a b : Option ℕ) → position (λ d. bytes_eq (path_of d.name) name) c.devices ≡ b → option_or (option_map leaf a) (option_map mapped b) ≡ Some y → IsInside c y
    go (Some i) b e h = let same : leaf i ≡ y = cc in rw (← same) tt
    go None None e h = let clash : None ≡ Some y = h in cc
    go None (Some d) e h =
        let same : mapped d ≡ y = cc in
        let low = (position-Some (λ (x : DeviceRecord). bytes_eq (path_of x.name) name) c.devices d (record { name = name; writable = true; table = [] }) e).0 in
        rw (← same) low

filter-inside : (c : Configuration) (ns : List (List ℕ)) → AllByRecursion (IsInside c) (filter_map (named c) ns)
filter-inside c [] = tt
filter-inside c (n ∷ ns) = go (named c n) refl (filter-inside c ns)
  where
    go : (o : Option Lower) → named c n ≡ o → AllByRecursion (IsInside c) (filter_map (named c) ns) → AllByRecursion (IsInside c) (cons_option o (filter_map (named c) ns))
    go None is more = more
    go (Some y) is more = (named-inside c n y is, more)

-- what a device names is a leaf, or a device of the configuration
pub lowers-inside : (c : Configuration) (d : ℕ) → AllByRecursion (IsInside c) (lowers c d)
lowers-inside c d = filter-inside c (flat_map (λ (line : Line). names line.target) (lines_of c d))
