-- What a loaded configuration gives.
use Rattle.std.proofs.Common.{◌≡◌, ℕ, zero, suc, ◌+◌, ◌<◌, ◌≤◌, List, [], ◌∷◌, ◌++◌, length, map, Option, Some, None, refl, subst, arith}
use Rattle.std.specs.Prelude.{filter_map, flat_map, slice_get, option_and_then, All}
use Rattle.std.specs.List.{AllByRecursion, cons_option}
use Rattle.std.specs.Option.{option_map_or}
use Rattle.std.proofs.Common.{false}
use Rattle.std.proofs.lemmas.Option.{slice_get_within, get_or_from_slice_get}
use Rattle.dm_table.specs.declared.table.Base.{Base}
use Rattle.dm_table.specs.declared.table.Line.{Line}
use Rattle.dm_table.specs.declared.table.Target.{Target}
use Rattle.stack_rules.specs.declared.lower.Lower.{Lower}
use Rattle.stack_rules.specs.declared.lower.Lower.TheVariants.{Leaf as leaf, Device as device}
use Rattle.stack_rules.specs.Records.{Configuration, DeviceRecord, LeafRecord}
use Rattle.stack_rules.specs.Names.{mapped, named, names, lines_of, table_sectors, size}
use Rattle.stack_rules.specs.Descend.{depth}
use Rattle.stack_rules.specs.Lines.{IsLine}
use Rattle.stack_rules.proofs.lemmas.UnrollLemmas.{falls-at}
use Rattle.stack_rules.proofs.lemmas.ValidLemmas.{depth-low}
use Rattle.stack_rules.proofs.lemmas.ValidLineLemmas.{sound, size-low}
use Rattle.stack_rules.specs.Rules.{IsValid, IsLoaded, is_undivided, is_beyond, most_sectors, most_depth}
use Rattle.stack_rules.specs.RulesOf.{rules_of}
use Rattle.stack_meaning.specs.Beneath.{on_base, beneath}

pub at_place : {X : Type 0} (P : X → Type 0) (xs : List X) (i : ℕ) (x : X) → AllByRecursion P xs → slice_get xs i ≡ Some x → P x
at_place P [] i x all e = cc
at_place P (y ∷ ys) zero x all e = let same : y ≡ x = cc in subst P same all.0
at_place P (y ∷ ys) (suc i) x all e = at_place P ys i x all.1 e

-- ---- lines

-- a device that has a line is there, and its table has the line
pub device-of : (c : Configuration) (d l : ℕ) (line : Line) → IsLine c d l line → (x : DeviceRecord) × (slice_get c.devices d ≡ Some x) × (slice_get x.table l ≡ Some line)
device-of c d l line at = go (slice_get c.devices d) refl at
  where
    go : (o : Option DeviceRecord) → slice_get c.devices d ≡ o → slice_get (option_map_or (λ x. x.table) o []) l ≡ Some line → (x : DeviceRecord) × (slice_get c.devices d ≡ Some x) × (slice_get x.table l ≡ Some line)
    go None e at = cc
    go (Some x) e at = (x, e, at)

pub device-there : (c : Configuration) (d l : ℕ) (line : Line) → IsLine c d l line → d < length c.devices
device-there c d l line at = let x = device-of c d l line at in slice_get_within c.devices d x.0 x.1

-- the line is a multiple of its stripes, and its ranges lie inside the devices that it names
pub line-divided : (c : Configuration) (d l : ℕ) (line : Line) → IsValid c → IsLine c d l line → is_undivided line.length line.target ≡ false
line-divided c d l line valid at = let x = device-of c d l line at in (sound c valid d x.0 x.1 l line x.2).divides

pub line-inside : (c : Configuration) (d l : ℕ) (line : Line) → IsValid c → IsLine c d l line → is_beyond c line.length line.target ≡ false
line-inside c d l line valid at = let x = device-of c d l line at in (sound c valid d x.0 x.1 l line x.2).inside

-- ---- sizes

device-small : (c : Configuration) (d : ℕ) → IsValid c → table_sectors (lines_of c d) ≤ most_sectors
device-small c d valid = go (slice_get c.devices d) refl
  where
    go : (o : Option DeviceRecord) → slice_get c.devices d ≡ o → table_sectors (option_map_or (λ x. x.table) o []) ≤ most_sectors
    go None e = omega arith
    go (Some x) e = size-low c valid d x e

leaf-small : (leaves : List LeafRecord) (i : ℕ) → All (λ l. l.sectors ≤ most_sectors) leaves → option_map_or (λ l. l.sectors) (slice_get leaves i) 0 ≤ most_sectors
leaf-small leaves i all = go (slice_get leaves i) refl
  where
    go : (o : Option LeafRecord) → slice_get leaves i ≡ o → option_map_or (λ l. l.sectors) o 0 ≤ most_sectors
    go None e = omega arith
    go (Some x) e = subst (λ (l : LeafRecord). l.sectors ≤ most_sectors) (get_or_from_slice_get leaves i x x e) (all i x (slice_get_within leaves i x e))

pub size-small : (c : Configuration) (x : Lower) → IsLoaded c → size c x ≤ most_sectors
size-small c (leaf i) loaded = leaf-small c.leaves i loaded.leaves.sizes
size-small c (device d) loaded = device-small c d.0 loaded.valid

-- ---- what a line names

module _ (c : Configuration) (P : Lower → Type 0) where
  abbrev ForName : List ℕ → Type 0
  ForName name = (lower : Lower) → named c name ≡ Some lower → P lower

  first_of : (o : Option Lower) (rest : List Lower) → AllByRecursion P (cons_option o rest) → (lower : Lower) → o ≡ Some lower → P lower
  first_of None rest all lower e = cc
  first_of (Some y) rest all lower e = let same : y ≡ lower = cc in subst P same all.0

  rest_of : (o : Option Lower) (rest : List Lower) → AllByRecursion P (cons_option o rest) → AllByRecursion P rest
  rest_of None rest all = all
  rest_of (Some y) rest all = all.1

  front : (xs ys : List (List ℕ)) → AllByRecursion P (filter_map (named c) (xs ++ ys)) → AllByRecursion ForName xs
  front [] ys all = tt
  front (x ∷ xs) ys all = (first_of (named c x) (filter_map (named c) (xs ++ ys)) all, front xs ys (rest_of (named c x) (filter_map (named c) (xs ++ ys)) all))

  back : (xs ys : List (List ℕ)) → AllByRecursion P (filter_map (named c) (xs ++ ys)) → AllByRecursion P (filter_map (named c) ys)
  back [] ys all = all
  back (x ∷ xs) ys all = back xs ys (rest_of (named c x) (filter_map (named c) (xs ++ ys)) all)

  -- what holds of each lower device holds of each that one line names
  pub of_line : (lines : List Line) (l : ℕ) (line : Line) → AllByRecursion P (filter_map (named c) (flat_map (λ line. names line.target) lines)) → slice_get lines l ≡ Some line → AllByRecursion ForName (names line.target)
  of_line [] l line all e = cc
  of_line (x ∷ lines) zero line all e = let same : x ≡ line = cc in subst (λ (y : Line). AllByRecursion ForName (names y.target)) same (front (names x.target) (flat_map (λ line. names line.target) lines) all)
  of_line (x ∷ lines) (suc l) line all e = of_line lines l line (back (names x.target) (flat_map (λ line. names line.target) lines) all) e

-- what holds of each base's device holds of the one on which a sector lies
of_base : (P : List ℕ → Type 0) (bases : List Base) (k t : ℕ) (p : List ℕ × ℕ) → AllByRecursion P (map (λ base. base.device) bases) → on_base bases (k, t) ≡ Some p → P p.0
of_base P [] k t p all e = cc
of_base P (base ∷ bases) zero t p all e = let same : (base.device, base.offset + t) ≡ p = cc in subst (λ (q : List ℕ × ℕ). P q.0) same all.0
of_base P (base ∷ bases) (suc k) t p all e = of_base P bases k t p all.1 e

pub of_beneath : (P : List ℕ → Type 0) (target : Target) (s : ℕ) (p : List ℕ × ℕ) → AllByRecursion P (names target) → beneath target s ≡ Some p → P p.0
of_beneath P target s p all e = go ((rules_of target).lies s) e
  where
    go : (o : Option (ℕ × ℕ)) → option_and_then (on_base (rules_of target).bases) o ≡ Some p → P p.0
    go None e = cc
    go (Some q) e = of_base P (rules_of target).bases q.0 q.1 p all e

-- a device on which a line's sector lies has a smaller depth
pub depth-falls : (c : Configuration) (d l : ℕ) (line : Line) (s : ℕ) (p : List ℕ × ℕ) (lower : Lower) → IsValid c → IsLine c d l line → beneath line.target s ≡ Some p → named c p.0 ≡ Some lower
    → depth c lower < depth c (mapped d)
depth-falls c d l line s p lower valid at under is =
    of_beneath (λ name. (x : Lower) → named c name ≡ Some x → depth c x < depth c (mapped d)) line.target s p
    (of_line c (λ x. depth c x < depth c (mapped d)) (lines_of c d) l line
    (falls-at c (λ y. let low : depth c y ≤ most_depth = depth-low c valid y in omega (arith, low)) (mapped d)) at)
    under lower is
