-- What is said of a sector: by the line that has it, and what holds of each.
use Rattle.std.proofs.Common.{◌≡◌, ℕ, zero, suc, ◌+◌, ◌-◌, ◌<◌, ◌≤◌, List, [], ◌∷◌, ◌++◌, refl, ap, ◌∙◌, arith, Bool, true, false, cond, Option, Some, None, map}
use Rattle.std.specs.Prelude.{filter_map, flat_map, find, nat_lt, slice_get, option_map, option_and_then}
use Rattle.std.specs.List.{cons_option, enumerate_from}
use Rattle.std.proofs.Math.Path.{fun_ext}
use Rattle.dm_table.specs.declared.table.Base.{Base}
use Rattle.dm_table.specs.declared.table.Line.{Line}
use Rattle.dm_table.specs.declared.table.Target.{Target}
use Rattle.stack_rules.specs.declared.lower.Lower.{Lower}
use Rattle.stack_rules.specs.declared.lower.Lower.TheVariants.{Leaf as leaf, Device as device}
use Rattle.stack_rules.specs.Records.{Configuration}
use Rattle.stack_rules.specs.Names.{mapped, named, names, lines_of}
use Rattle.stack_rules.specs.Descend.{descend, after_steps, most_devices, depth, by_name, known}
use Rattle.stack_rules.specs.Lines.{line_at}
use Rattle.stack_rules.proofs.lemmas.UnrollLemmas.{AllOf, all_none, all_and, IsLocal, descend-rule, falls-at}
use Rattle.stack_rules.specs.Rules.{IsValid, most_depth}
use Rattle.stack_rules.proofs.lemmas.ValidLemmas.{depth-low}
use Rattle.stack_meaning.specs.Sectors.{OnLine, on_found, sector_rule, by_sector}
use Rattle.stack_rules.specs.RulesOf.{rules_of}
use Rattle.stack_meaning.specs.Beneath.{on_base, beneath, below, said_or, HandsOn}
use Rattle.stack_meaning.specs.TargetMeaning.{Meant, handed, own, said_as, IsHanded}
use Rattle.stack_meaning.specs.MeaningOf.{meaning_of}
use Rattle.stack_meaning.specs.Meaning.{Said, leaf_said, none_said, line_said, said_at, said_by_name}
use Rattle.stack_meaning.proofs.lemmas.LineLemmas.{found-more}

-- it asks only of the devices that the line names
abbrev pub AsksOfNames {ℓ} : {X : Type ℓ} → OnLine X → Type ℓ
AsksOfNames {X = X} on_line = (at at' : List ℕ → ℕ → X) (d l : ℕ) (target : Target) (s : ℕ) → AllOf (λ name. at name ≡ at' name) (names target) → on_line at d l target s ≡ on_line at' d l target s

-- ---- the names of one line among those of all

module _ {ℓ} {X : Type ℓ} (c : Configuration) (none : X) (f g : Lower → X) where
  first-part : (o : Option Lower) (rest : List Lower) → AllOf (λ y. f y ≡ g y) (cons_option o rest) → known none f o ≡ known none g o
  first-part None rest all = refl
  first-part (Some y) rest (all_and same more) = same

  last-part : (o : Option Lower) (rest : List Lower) → AllOf (λ y. f y ≡ g y) (cons_option o rest) → AllOf (λ y. f y ≡ g y) rest
  last-part None rest all = all
  last-part (Some y) rest (all_and same more) = more

  -- the names of one line, which are first among all
  pub front : (xs ys : List (List ℕ)) → AllOf (λ y. f y ≡ g y) (filter_map (named c) (xs ++ ys)) → AllOf (λ name. by_name c none f name ≡ by_name c none g name) xs
  front [] ys all = all_none
  front (x ∷ xs) ys all = all_and (first-part (named c x) (filter_map (named c) (xs ++ ys)) all) (front xs ys (last-part (named c x) (filter_map (named c) (xs ++ ys)) all))

  pub back : (xs ys : List (List ℕ)) → AllOf (λ y. f y ≡ g y) (filter_map (named c) (xs ++ ys)) → AllOf (λ y. f y ≡ g y) (filter_map (named c) ys)
  back [] ys all = all
  back (x ∷ xs) ys all = back xs ys (last-part (named c x) (filter_map (named c) (xs ++ ys)) all)

-- ---- the rule of sectors

module _ {ℓ} {X : Type ℓ} (c : Configuration) (none : X) (on_line : OnLine X) (asks : AsksOfNames on_line) (f g : Lower → ℕ → X) where
  choose : (d s : ℕ) (p : ℕ × Line) (b : Bool) (o : Option (ℕ × Line))
      → on_line (by_name c (λ t. none) f) d p.0 p.1.target (s - p.1.start) ≡ on_line (by_name c (λ t. none) g) d p.0 p.1.target (s - p.1.start)
      → on_found none (on_line (by_name c (λ t. none) f)) d s o ≡ on_found none (on_line (by_name c (λ t. none) g)) d s o
      → on_found none (on_line (by_name c (λ t. none) f)) d s (cond b (Some p) o) ≡ on_found none (on_line (by_name c (λ t. none) g)) d s (cond b (Some p) o)
  choose d s p true o here there = here
  choose d s p false o here there = there

  found-same : (d s k : ℕ) (test : ℕ × Line → Bool) (lines : List Line) → AllOf (λ y. f y ≡ g y) (filter_map (named c) (flat_map (λ line. names line.target) lines))
      → on_found none (on_line (by_name c (λ t. none) f)) d s (find test (enumerate_from k lines)) ≡ on_found none (on_line (by_name c (λ t. none) g)) d s (find test (enumerate_from k lines))
  found-same d s k test [] all = refl
  found-same d s k test (line ∷ lines) all =
      choose d s (k, line) (test (k, line)) (find test (enumerate_from (k + 1) lines))
      (asks (by_name c (λ t. none) f) (by_name c (λ t. none) g) d k line.target (s - line.start) (front {X = ℕ → X} c (λ t. none) f g (names line.target) (flat_map (λ line. names line.target) lines) all))
      (found-same d s (k + 1) test lines (back {X = ℕ → X} c (λ t. none) f g (names line.target) (flat_map (λ line. names line.target) lines) all))

pub sector_rule-local {ℓ} : {X : Type ℓ} (c : Configuration) (none : X) (on_leaf : ℕ → ℕ → X) (on_line : OnLine X) → AsksOfNames on_line → IsLocal c (sector_rule c none on_leaf on_line)
sector_rule-local c none on_leaf on_line asks f g (leaf i) all = refl
sector_rule-local c none on_leaf on_line asks f g (device d) all =
    fun_ext (λ s. found-same c none on_line asks f g d.0 s 0 (λ p. nat_lt s (p.1.start + p.1.length)) (lines_of c d.0) all)

-- the equation of all that is said of sectors
pub by_sector-rule {ℓ} : {X : Type ℓ} (c : Configuration) (none : X) (on_leaf : ℕ → ℕ → X) (on_line : OnLine X) → AsksOfNames on_line → IsValid c
    → (x : Lower) (s : ℕ) → by_sector c none on_leaf on_line x s ≡ sector_rule c none on_leaf on_line (by_sector c none on_leaf on_line) x s
by_sector-rule c none on_leaf on_line asks valid x s =
    let low : (y : Lower) → depth c y < most_devices = λ y. let l : depth c y ≤ most_depth = depth-low c valid y in omega (arith, l) in
    ap (λ h. h s) (descend-rule c (λ t. none) (sector_rule c none on_leaf on_line) (sector_rule-local c none on_leaf on_line asks) (depth c) (falls-at c low) x (let l : depth c x ≤ most_depth = depth-low c valid x in omega (arith, l)))

-- the sectors of one line
pub by_sector-line {ℓ} : {X : Type ℓ} (c : Configuration) (none : X) (on_leaf : ℕ → ℕ → X) (on_line : OnLine X) → AsksOfNames on_line → IsValid c
    → (d s j l : ℕ) (line : Line) → line_at c d s ≡ Some (l, line) → line.start ≤ s → s + j < line.start + line.length
    → by_sector c none on_leaf on_line (mapped d) (s + j) ≡ on_line (by_name c (λ t. none) (by_sector c none on_leaf on_line)) d l line.target (s - line.start + j)
by_sector-line c none on_leaf on_line asks valid d s j l line found start inside =
    let all = by_sector c none on_leaf on_line in
    let within : s + j - line.start ≡ s - line.start + j = omega (arith, start) in
    by_sector-rule c none on_leaf on_line asks valid (mapped d) (s + j)
    ∙ ap (on_found none (on_line (by_name c (λ t. none) all)) d (s + j)) (found-more 0 (lines_of c d) s (s + j) (l, line) found (omega arith) inside)
    ∙ ap (on_line (by_name c (λ t. none) all) d l line.target) within

-- ---- the device beneath is one of those that the line names

base-same {ℓ} : {X : Type ℓ} (none : X) (at at' : List ℕ → ℕ → X) (bases : List Base) (k : ℕ) (place : Base → ℕ) → AllOf (λ name. at name ≡ at' name) (map (λ base. base.device) bases)
    → said_or none at (option_map (λ base. (base.device, place base)) (slice_get bases k)) ≡ said_or none at' (option_map (λ base. (base.device, place base)) (slice_get bases k))
base-same none at at' [] k place all = refl
base-same none at at' (base ∷ bases) zero place (all_and same more) = ap (λ h. h (place base)) same
base-same none at at' (base ∷ bases) (suc k) place (all_and same more) = base-same none at at' bases k place more

pub said_or-same {ℓ} : {X : Type ℓ} (none : X) (at at' : List ℕ → ℕ → X) (target : Target) (s : ℕ) → AllOf (λ name. at name ≡ at' name) (names target) → said_or none at (beneath target s) ≡ said_or none at' (beneath target s)
said_or-same none at at' target s all = go ((rules_of target).lies s)
  where
    go : (o : Option (ℕ × ℕ)) → said_or none at (option_and_then (on_base (rules_of target).bases) o) ≡ said_or none at' (option_and_then (on_base (rules_of target).bases) o)
    go None = refl
    go (Some p) = base-same none at at' (rules_of target).bases p.0 (λ base. base.offset + p.1) all

pub below-same {ℓ} : {X : Type ℓ} (none : X) (at at' : List ℕ → ℕ → X) (target : Target) → AllOf (λ name. at name ≡ at' name) (names target) → below none at target ≡ below none at' target
below-same none at at' target all = fun_ext (λ i. fun_ext (λ t. base-same none at at' (rules_of target).bases i (λ base. t) all))

pub line_said-asks : AsksOfNames line_said
line_said-asks at at' d l target s all =
    ap (λ (x : Said). said_as (meaning_of target).meant x (below none_said at target) d l s) (said_or-same none_said at at' target s all)
    ∙ ap (λ (f : ℕ → ℕ → Said). said_as (meaning_of target).meant (said_or none_said at' (beneath target s)) f d l s) (below-same none_said at at' target all)

-- ---- the sectors of one line

pub said_at-line : (c : Configuration) (valid : IsValid c) (d s j l : ℕ) (line : Line) → line_at c d s ≡ Some (l, line) → line.start ≤ s → s + j < line.start + line.length
    → said_at c (mapped d) (s + j) ≡ line_said (said_by_name c) d l line.target (s - line.start + j)
said_at-line c valid d s j l line found start inside = by_sector-line c none_said leaf_said line_said line_said-asks valid d s j l line found start inside

-- a line that hands on the sector beneath
pub line_said-beneath : (at : List ℕ → ℕ → Said) (d l : ℕ) (target : Target) (s : ℕ) (p : List ℕ × ℕ) → HandsOn target → beneath target s ≡ Some p → line_said at d l target s ≡ at p.0 p.1
line_said-beneath at d l target s p hands e = go (meaning_of target).meant hands
  where
    go : (m : Meant) → IsHanded m → said_as m (said_or none_said at (beneath target s)) (below none_said at target) d l s ≡ at p.0 p.1
    go handed h = ap (said_or none_said at) e
    go (own m) h = absurd h

-- ---- leaves

pub said_at-leaf : (c : Configuration) (i s : ℕ) → said_at c (leaf i) s ≡ leaf_said i s
unfolding descend
said_at-leaf c i s = refl

-- ---- what holds of each sector

-- a line's sector has what each sector that it may ask for has
abbrev pub IsHandedUp : (Said → Type 0) → Type 1
IsHandedUp P = (at : List ℕ → ℕ → Said) → ((name : List ℕ) (s : ℕ) → P (at name s)) → (d l : ℕ) (target : Target) (s : ℕ) → P (line_said at d l target s)

module _ (c : Configuration) (P : Said → Type 0) (none : P none_said) (leaves : (i s : ℕ) → P (leaf_said i s)) (lines : IsHandedUp P) where
  on_found-each : (at : List ℕ → ℕ → Said) → ((name : List ℕ) (s : ℕ) → P (at name s)) → (d s : ℕ) (o : Option (ℕ × Line)) → P (on_found none_said (line_said at) d s o)
  on_found-each at all d s None = none
  on_found-each at all d s (Some p) = lines at all d p.0 p.1.target _

  known-each : (f : Lower → ℕ → Said) → ((y : Lower) (s : ℕ) → P (f y s)) → (o : Option Lower) (s : ℕ) → P (known {A = ℕ → Said} (λ t. none_said) f o s)
  known-each f all None s = none
  known-each f all (Some y) s = all y s

  steps-each : (n : ℕ) (y : Lower) (s : ℕ) → P (after_steps (λ t. none_said) (sector_rule c none_said leaf_said line_said) n y s)
  steps-each zero y s = none
  steps-each (suc n) (leaf i) s = leaves i s
  steps-each (suc n) (device d) s =
      let below : Lower → ℕ → Said = after_steps (λ t. none_said) (sector_rule c none_said leaf_said line_said) n in
      on_found-each (by_name c (λ t. none_said) below) (λ name t. known-each below (steps-each n) (named c name) t) d.0 s (line_at c d.0 s)

  pub said_at-each : (lower : Lower) (s : ℕ) → P (said_at c lower s)
  unfolding descend
  said_at-each lower s = steps-each (suc most_devices) lower s
