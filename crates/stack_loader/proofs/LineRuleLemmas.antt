-- The rules on what a line names.
use Rattle.std.proofs.Common.{◌≡◌, ◌+◌, ◌≤◌, ◌<◌, ℕ, List, [], ◌∷◌, refl, sym, ap, ◌∙◌, Bool, true, false, not, ◌||◌, ◌&&◌, ◌==◌, Some, Option, None, length, take, get_or, map, nat_lt, arith}
use Rattle.std.specs.List.{list_any}
use Rattle.std.specs.Option.{option_map_or}
use Rattle.std.proofs.lemmas.List.{get_or_default, get_or-map, length-map, take_all}
use Rattle.std.proofs.lemmas.List.Folds.{list_any_at, list_any_more}
use Rattle.std.proofs.lemmas.Bool.Decides.{nat_tests}
use Rattle.dm_table.specs.declared.table.Base.{Base}
use Rattle.dm_table.specs.declared.table.Line.{Line}
use Rattle.dm_table.specs.declared.table.Target.TheVariants.{Verity}
use Rattle.dm_table.specs.declared.verity.Verity.{Verity as VerityRecord}
use Rattle.dm_table.specs.declared.parity.Parity.{Parity}
use Rattle.stack_rules.specs.declared.refusal.Refusal.{Refusal}
use Rattle.stack_rules.specs.declared.refusal.LoadKind.TheVariants.{BeyondDevice, LineBeyondTree, TreeBeyondDevice, NeedsReadOnly, LowerReadOnly, StripesDontDivide, UnitDoesntDivide, IvOffset, ParityDoesntCover}
use Rattle.stack_rules.specs.declared.lower.Lower.{Lower}
use Rattle.stack_rules.specs.Records.{Configuration}
use Rattle.stack_rules.specs.Names.{named, names, size, may_write}
use Rattle.stack_rules.specs.Passing.{Mean}
use Rattle.stack_rules.specs.Rules.{first, refuse, line_rules, most_sectors, is_undivided, cuts_unit, is_off_unit, is_unprotected, is_beyond, is_uncovered, is_tree_beyond, needs_read_only, names_read_only, ends_beyond, ends_past}
use Rattle.stack_rules.specs.Trees.{line_data_sectors, covered_sectors, parity_sectors}
use Rattle.stack_rules.specs.targets.Verity.{parity_ranges}
use Rattle.stack_rules.proofs.lemmas.RangeLemmas.{is_beyond-verity, parity_ranges-some}
use Rattle.stack_rules.proofs.lemmas.NameMeaningLemmas.{device_of, mean-at, length-mean}

-- the facts of one base
pub record AtBase (c : Configuration) (lowers : List Lower) (bases : List Base) (i : ℕ) (base : Base) : Type 0 where
  pub means : Mean c lowers (map device_of bases)
  pub inside : i < length bases
  pub is_base : base ≡ get_or bases i base

pub length-bases : (c : Configuration) (lowers : List Lower) (bases : List Base) → Mean c lowers (map device_of bases) → length lowers ≡ length bases
length-bases c lowers bases means = length-mean c lowers (map device_of bases) means ∙ length-map bases device_of

-- where a range from name i of a line ends
pub ends-name : (c : Configuration) (lowers : List Lower) (ns : List (List ℕ)) (i : ℕ) (name : List ℕ) (d : Lower) (room end : ℕ) → Mean c lowers ns → i < length ns → name ≡ get_or ns i name
    → room ≡ size c (get_or lowers i d) → ends_past c name end ≡ nat_lt room end
ends-name c lowers ns i name d room end means many is-name is =
    let low : i < length lowers = omega (arith, many, length-mean c lowers ns means) in
    let lower = get_or lowers i d in
    let named-is = mean-at c lowers ns i name lower means many is-name (get_or_default lowers i d lower low) in
    ap (λ o. option_map_or (λ lower. nat_lt (size c lower) end) o true) named-is ∙ ap (λ n. nat_lt n end) (sym is)

ends-at : (c : Configuration) (lowers : List Lower) (bases : List Base) (i : ℕ) (base : Base) (d : Lower) (sectors room end : ℕ) → AtBase c lowers bases i base
    → room ≡ size c (get_or lowers i d) → end ≡ base.offset + sectors → ends_beyond c sectors (get_or bases i base) ≡ nat_lt room end
ends-at c lowers bases i base d sectors room end at is ends =
    let many : i < length (map device_of bases) = omega (arith, at.inside, length-map bases device_of) in
    let name : base.device ≡ get_or (map device_of bases) i base.device = ap device_of at.is_base ∙ sym (get_or-map device_of bases i base base.device at.inside) in
    sym (ap (ends_beyond c sectors) at.is_base) ∙ ends-name c lowers (map device_of bases) i base.device d room (base.offset + sectors) at.means many name is ∙ ap (nat_lt room) (sym ends)

lt-true : (m n : ℕ) → m < n → nat_lt m n ≡ true
lt-true m n h = grind (arith, nat_tests)

pub lt-false : (m n : ℕ) → n ≤ m → nat_lt m n ≡ false
lt-false m n h = grind (arith, nat_tests)

pub beyond-here : (c : Configuration) (lowers : List Lower) (bases : List Base) (i : ℕ) (base : Base) (d : Lower) (sectors room end : ℕ) → AtBase c lowers bases i base
    → room ≡ size c (get_or lowers i d) → end ≡ base.offset + sectors → room < end → true ≡ list_any (ends_beyond c sectors) bases
beyond-here c lowers bases i base d sectors room end at is ends past =
    sym (list_any_at (ends_beyond c sectors) bases i base at.inside (ends-at c lowers bases i base d sectors room end at is ends ∙ lt-true room end past))

pub beyond-step : (c : Configuration) (lowers : List Lower) (bases : List Base) (i : ℕ) (base : Base) (d : Lower) (sectors room end : ℕ) → AtBase c lowers bases i base
    → room ≡ size c (get_or lowers i d) → end ≡ base.offset + sectors → end ≤ room → list_any (ends_beyond c sectors) (take i bases) ≡ false → list_any (ends_beyond c sectors) (take (i + 1) bases) ≡ false
beyond-step c lowers bases i base d sectors room end at is ends low before =
    list_any_more (ends_beyond c sectors) bases i base at.inside ∙ rw (before, ends-at c lowers bases i base d sectors room end at is ends ∙ lt-false room end low) refl

pub beyond-none : (c : Configuration) (bases : List Base) (i sectors : ℕ) → length bases ≤ i → list_any (ends_beyond c sectors) (take i bases) ≡ false → false ≡ list_any (ends_beyond c sectors) bases
beyond-none c bases i sectors past before = sym before ∙ ap (list_any (ends_beyond c sectors)) (take_all i bases past)

pub read_only-lowers : (c : Configuration) (lowers : List Lower) (ns : List (List ℕ)) → Mean c lowers ns
    → list_any (λ name. option_map_or (λ lower. not (may_write c lower)) (named c name) false) ns ≡ list_any (λ lower. not (may_write c lower)) lowers
read_only-lowers c [] [] means = refl
read_only-lowers c [] (n ∷ ns) means = let clash : [] ≡ map (named c) (n ∷ ns) = means in cc
read_only-lowers c (l ∷ ls) [] means = let clash : map (λ (lower : Lower). Some lower) (l ∷ ls) ≡ [] = means in cc
read_only-lowers c (l ∷ ls) (n ∷ ns) means =
    let here : Some l ≡ named c n = cc in
    let more : map (λ (lower : Lower). Some lower) ls ≡ map (named c) ns = cc in
    rw (← here) (ap (λ b. not (may_write c l) || b) (read_only-lowers c ls ns more))

-- a verity line with parity, whose data blocks and covered hash blocks end within their devices
pub beyond-parity : (c : Configuration) (len : ℕ) (verity : VerityRecord) (parity : Parity) (last : Bool) → verity.parity ≡ Some parity → ends_past c verity.data (line_data_sectors verity) ≡ false
    → ends_past c verity.hash (covered_sectors verity parity) ≡ false → ends_past c parity.device (parity_sectors verity parity) ≡ last → is_beyond c len (Verity verity) ≡ last
beyond-parity c len verity parity last is on_data on_hash on_parity =
    is_beyond-verity c len verity ∙ ap (λ b. b || list_any (λ range. ends_past c range.0 range.1) (parity_ranges verity verity.parity)) on_data
    ∙ parity_ranges-some c verity parity (sym is) ∙ ap (λ b. b || ends_past c parity.device (parity_sectors verity parity)) on_hash ∙ on_parity

-- ---- the rules on stripes and units

-- what none of them refuses
pub parts-none : (d l : ℕ) (divided cut off : Bool) → None ≡ first (refuse StripesDontDivide d l divided ∷ refuse UnitDoesntDivide d l cut ∷ refuse IvOffset d l off ∷ []) → (divided ≡ false) × ((cut ≡ false) × (off ≡ false))
parts-none d l true cut off h = let refused : Refusal = record { kind = StripesDontDivide; device = d; line = l } in let clash : None ≡ Some refused = h in cc
parts-none d l false true off h = let refused : Refusal = record { kind = UnitDoesntDivide; device = d; line = l } in let clash : None ≡ Some refused = h in cc
parts-none d l false false true h = let refused : Refusal = record { kind = IvOffset; device = d; line = l } in let clash : None ≡ Some refused = h in cc
parts-none d l false false false h = (refl, (refl, refl))

-- what one of them refuses, whatever rules follow
parts-some : (d l : ℕ) (divided cut off : Bool) (more : List (Option Refusal)) (r : Refusal) → Some r ≡ first (refuse StripesDontDivide d l divided ∷ refuse UnitDoesntDivide d l cut ∷ refuse IvOffset d l off ∷ [])
    → Some r ≡ first (refuse StripesDontDivide d l divided ∷ refuse UnitDoesntDivide d l cut ∷ refuse IvOffset d l off ∷ more)
parts-some d l true cut off more r h = h
parts-some d l false true off more r h = h
parts-some d l false false true more r h = h
parts-some d l false false false more r h = let clash : Some r ≡ None = h in cc

-- ---- the last rules on a line

at-zero : (n : ℕ) → (n ≡ 0 → ⊥) → (n == 0) ≡ false
at-zero n h = grind (arith, nat_tests, h)

at-same : (m n : ℕ) → m ≡ n → not (m == n) ≡ false
at-same m n h = grind (arith, nat_tests)

-- a line that none of the rules before the last two refuses
pub record IsPassedLine (c : Configuration) (before : ℕ) (line : Line) : Type 0 where
  pub some : line.length ≡ 0 → ⊥
  pub start : line.start ≡ before
  pub low : line.start + line.length ≤ most_sectors
  pub divides : is_undivided line.length line.target ≡ false
  pub units : cuts_unit line.length line.target ≡ false
  pub offset : is_off_unit line.length line.target ≡ false
  pub protected : is_unprotected line.length line.target ≡ false
  pub inside : is_beyond c line.length line.target ≡ false
  pub covered : is_uncovered line.length line.target ≡ false
  pub tree : is_tree_beyond c line.target ≡ false

pub line-last : (c : Configuration) (writable : Bool) (d l before : ℕ) (line : Line) (lowers : List Lower) → IsPassedLine c before line → Mean c lowers (names line.target)
    → first (line_rules c writable d l before line)
    ≡ first (refuse NeedsReadOnly d l (writable && needs_read_only line.length line.target) ∷ refuse LowerReadOnly d l (writable && list_any (λ lower. not (may_write c lower)) lowers) ∷ [])
line-last c writable d l before line lowers p means =
    rw (at-zero line.length p.some, at-same line.start before p.start, lt-false most_sectors (line.start + line.length) p.low, p.divides, p.units, p.offset, p.protected, p.inside, p.covered, p.tree)
    (ap (λ b. first (refuse NeedsReadOnly d l (writable && needs_read_only line.length line.target) ∷ refuse LowerReadOnly d l (writable && b) ∷ [])) (read_only-lowers c lowers (names line.target) means))

-- a line that none of the first three rules refuses, and one of those on stripes and units does
pub line-parts : (c : Configuration) (writable : Bool) (d l before : ℕ) (line : Line) (r : Refusal) → (line.length ≡ 0 → ⊥) → line.start ≡ before → line.start + line.length ≤ most_sectors
    → Some r ≡ first (refuse StripesDontDivide d l (is_undivided line.length line.target) ∷ refuse UnitDoesntDivide d l (cuts_unit line.length line.target) ∷ refuse IvOffset d l (is_off_unit line.length line.target) ∷ [])
    → Some r ≡ first (line_rules c writable d l before line)
line-parts c writable d l before line r some start low h =
    rw (at-zero line.length some, at-same line.start before start, lt-false most_sectors (line.start + line.length) low)
    (parts-some d l (is_undivided line.length line.target) (cuts_unit line.length line.target) (is_off_unit line.length line.target)
    (refuse ParityDoesntCover d l (is_unprotected line.length line.target) ∷ refuse BeyondDevice d l (is_beyond c line.length line.target) ∷ refuse LineBeyondTree d l (is_uncovered line.length line.target) ∷ refuse TreeBeyondDevice d l (is_tree_beyond c line.target)
    ∷ refuse NeedsReadOnly d l (writable && needs_read_only line.length line.target) ∷ refuse LowerReadOnly d l (writable && names_read_only c line.target) ∷ []) r h)
