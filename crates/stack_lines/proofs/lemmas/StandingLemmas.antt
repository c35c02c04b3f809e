-- The leaves beneath the devices of a loaded configuration.
use Rattle.std.proofs.Common.{IsTrue, ◌≡◌, ◌≢◌, ℕ, ◌+◌, ◌*◌, ◌%◌, ◌^◌, ◌<◌, ◌≤◌, Bool, true, false, not, ◌&&◌, ◌||◌, ◌==◌, ◌⊎◌, List, [], ◌∷◌, ◌++◌, length, get_or, set, take, Option, Some, None, refl, sym, ap, ◌∙◌, subst, arith, max, inl, inr}
use Rattle.std.specs.Prelude.{filter_map, flat_map, slice_get, is_some, option_map, option_and_then, position}
use Rattle.std.specs.Int.{bit_at, bit_not, w64}
use Rattle.std.specs.Int.RustNames.{bit_or, bit_and}
use Rattle.std.specs.List.{list_any, cons_option}
use Rattle.std.specs.Option.{option_map_or, option_or}
use Rattle.std.specs.Str.{bytes_eq}
use Rattle.std.proofs.lemmas.Bool.{cases_lt, cases_eq}
use Rattle.std.proofs.lemmas.Bool.Decides.{nat_tests}
use Rattle.std.proofs.lemmas.List.{get_or-set_same, get_or-set_other}
use Rattle.std.proofs.lemmas.Nat.Bits.{bit_at_or, bit_at_set_same, bit_at_set_other, bit_at_clear_same, bit_at_clear_other, bit_at-lt}
use Rattle.std.proofs.lemmas.List.Folds.{list_any-append, list_any_more}
use Rattle.std.proofs.lemmas.List.Quantifiers.{position-Some}
use Rattle.std.proofs.lemmas.Option.{same_Some, slice_get_within, slice_get_past, get_or_from_slice_get}
use Rattle.dm_table.specs.declared.table.Line.{Line}
use Rattle.dm_table.specs.declared.table.Target.{Target}
use Rattle.dm_table.specs.declared.table.Target.TheVariants.{Verity as verity_target}
use Rattle.dm_table.specs.declared.verity.Verity.{Verity}
use Rattle.stack_rules.specs.declared.lower.Lower.{Lower}
use Rattle.stack_rules.specs.declared.lower.Lower.TheVariants.{Leaf as leaf, Device as device}
use Rattle.stack_rules.specs.Records.{Configuration, LeafRecord, DeviceRecord}
use Rattle.stack_rules.specs.Names.{mapped, named, names, lines_of, lowers, path_of}
use Rattle.stack_rules.specs.Descend.{descend, depth, depth_rule, known, most_devices}
use Rattle.stack_rules.specs.Lines.{IsLine, names_at, lower_at}
use Rattle.stack_rules.specs.Rules.{IsLoaded, most_depth}
use Rattle.stack_rules.specs.Trees.{verity_of}
use Rattle.stack_config.proofs.lemmas.LoadedLineLemmas.{names-shallower}
use Rattle.stack_rules.proofs.lemmas.UnrollLemmas.{AllOf, all_and, IsLocal, descend-rule, depth-rule, falls-at}
use Rattle.stack_rules.proofs.lemmas.ValidLemmas.{depth-low}
use Rattle.stack_rules.proofs.lemmas.ValidLineLemmas.{few, few_lines}
use Rattle.stack_lines.specs.declared.leaf_set.LeafSet.{LeafSet}
use Rattle.stack_meaning.specs.LeavesBeneath.{leaves_rule, leaves_beneath}
use Rattle.stack_lines.specs.Standing.{is_verity, leaf_set_at, stands_on, name_stands_on, hashes_stand_on, line_stands_on, HasLeaves, IsPossibleLower, KnowsLeaves, AreSetsBelow, AreLeafSets}
use Rattle.stack_meaning.proofs.lemmas.LoadedLemmas.{at_place}

-- ---- bits

pub or-true : (b : Bool) → (b || true) ≡ true
or-true true = refl
or-true false = refl

pub or-false : (b : Bool) → (b || false) ≡ b
or-false true = refl
or-false false = refl

pub and-true : (b : Bool) → (b && true) ≡ b
and-true true = refl
and-true false = refl

pub and-false : (b : Bool) → (b && false) ≡ false
and-false true = refl
and-false false = refl

pub bit_or-at : (m n d : ℕ) → (bit_at (bit_or m n) d == 1) ≡ ((bit_at m d == 1) || (bit_at n d == 1))
bit_or-at m n d = ap (λ b. b == 1) (bit_at_or m n d) ∙ greater (bit_at m d) (bit_at n d) (bit_at-lt m d) (bit_at-lt n d)
  where
    greater : (a b : ℕ) → a < 2 → b < 2 → (max a b == 1) ≡ ((a == 1) || (b == 1))
    greater a b p q = grind (arith, nat_tests)

same-of : (e d : ℕ) → (e == d) ≡ true → e ≡ d
same-of e d h = grind (arith, nat_tests)

other-of : (e d : ℕ) → (e == d) ≡ false → e ≢ d
other-of e d h same = let yes : (e == d) ≡ true = grind (arith, nat_tests) in let clash : false ≡ true = sym h ∙ yes in cc

pub bit_set-at : (n d e : ℕ) → d < 64 → (bit_at (bit_or n (1 * 2 ^ d % 2 ^ 64)) e == 1) ≡ ((bit_at n e == 1) || (e == d))
bit_set-at n d e low = go (e == d) refl
  where
    go : (b : Bool) → (e == d) ≡ b → (bit_at (bit_or n (1 * 2 ^ d % 2 ^ 64)) e == 1) ≡ ((bit_at n e == 1) || b)
    go true h = ap (λ e. bit_at (bit_or n (1 * 2 ^ d % 2 ^ 64)) e == 1) (same-of e d h) ∙ ap (λ b. b == 1) (bit_at_set_same w64 n d low) ∙ sym (or-true (bit_at n e == 1))
    go false h = ap (λ b. b == 1) (bit_at_set_other w64 n d low e (other-of e d h)) ∙ sym (or-false (bit_at n e == 1))

pub bit_clear-at : (n d e : ℕ) → d < 64 → e < 64 → (bit_at (bit_and n (bit_not w64 (1 * 2 ^ d % 2 ^ 64))) e == 1) ≡ ((bit_at n e == 1) && not (e == d))
bit_clear-at n d e low below = go (e == d) refl
  where
    go : (b : Bool) → (e == d) ≡ b → (bit_at (bit_and n (bit_not w64 (1 * 2 ^ d % 2 ^ 64))) e == 1) ≡ ((bit_at n e == 1) && not b)
    go true h = ap (λ e. bit_at (bit_and n (bit_not w64 (1 * 2 ^ d % 2 ^ 64))) e == 1) (same-of e d h) ∙ ap (λ b. b == 1) (bit_at_clear_same w64 n d low) ∙ sym (and-false (bit_at n e == 1))
    go false h = ap (λ b. b == 1) (bit_at_clear_other w64 n d low e below (other-of e d h)) ∙ sym (and-true (bit_at n e == 1))

-- ---- leaves beneath

list_any-flat : {X Y : Type 0} (p : Y → Bool) (f : X → List Y) (xs : List X) → list_any p (flat_map f xs) ≡ list_any (λ x. list_any p (f x)) xs
list_any-flat p f [] = refl
list_any-flat p f (x ∷ xs) = list_any-append p (f x) (flat_map f xs) ∙ ap (λ b. list_any p (f x) || b) (list_any-flat p f xs)

flat_same : (f g : Lower → List ℕ) (ys : List Lower) → AllOf (λ y. f y ≡ g y) ys → flat_map f ys ≡ flat_map g ys
flat_same f g [] all = refl
flat_same f g (y ∷ ys) (all_and same more) = ap (λ l. l ++ flat_map f ys) same ∙ ap (λ l. g y ++ l) (flat_same f g ys more)

module _ (c : Configuration) where
  list_any-known : (q : Lower → Bool) (ns : List (List ℕ)) → list_any q (filter_map (named c) ns) ≡ list_any (λ name. known false q (named c name)) ns
  list_any-known q [] = refl
  list_any-known q (n ∷ ns) = by (named c n) (list_any-known q ns)
    where
      by : (o : Option Lower) → list_any q (filter_map (named c) ns) ≡ list_any (λ name. known false q (named c name)) ns
          → list_any q (cons_option o (filter_map (named c) ns)) ≡ (known false q o || list_any (λ name. known false q (named c name)) ns)
      by None more = more
      by (Some y) more = ap (λ b. q y || b) more

  leaves_rule-local : IsLocal c (leaves_rule c)
  leaves_rule-local f g (leaf i) all = refl
  leaves_rule-local f g (device d) all = flat_same f g (lowers c d.0) all

  -- only the leaf itself is beneath a leaf
  pub stands-leaf : (i j : ℕ) → stands_on c i (leaf j) ≡ (i == j)
  unfolding descend
  stands-leaf i j = or-false (i == j)

  -- a leaf is beneath itself
  pub leaf-stands : (i : ℕ) → IsTrue (stands_on c i (leaf i))
  leaf-stands i = let same : (i == i) ≡ true = grind (arith, nat_tests) in stands-leaf i i ∙ same

  module _ (loaded : IsLoaded c) where
    low : (y : Lower) → depth c y < most_devices
    low y = let l : depth c y ≤ most_depth = depth-low c loaded.valid y in omega (arith, l)

    leaves_beneath-rule : (x : Lower) → leaves_beneath c x ≡ leaves_rule c (leaves_beneath c) x
    leaves_beneath-rule x = descend-rule c [] (leaves_rule c) leaves_rule-local (depth c) (falls-at c low) x (omega (arith, low x))

    -- what is beneath a device's lines is beneath the device
    pub stands-device : (i d : ℕ) → stands_on c i (mapped d) ≡ list_any (λ line. list_any (name_stands_on c i) (names line.target)) (lines_of c d)
    stands-device i d =
        ap (list_any (λ j. i == j)) (leaves_beneath-rule (mapped d))
        ∙ list_any-flat (λ j. i == j) (leaves_beneath c) (lowers c d)
        ∙ list_any-known (stands_on c i) (flat_map (λ (line : Line). names line.target) (lines_of c d))
        ∙ list_any-flat (name_stands_on c i) (λ (line : Line). names line.target) (lines_of c d)

    -- a mapped device has at least depth 1, and none is deeper than 8
    pub depth-some : (d : ℕ) → 0 < depth c (mapped d)
    depth-some d = let rule : depth c (mapped d) ≡ depth_rule c (depth c) (mapped d) = depth-rule c low (mapped d) in omega (arith, rule)

    pub sets-all : (n : ℕ) (sets : List LeafSet) → most_depth < n → AreSetsBelow c n sets → AreLeafSets c sets
    sets-all n sets past all d low = let l : depth c (mapped d) ≤ most_depth = depth-low c loaded.valid (mapped d) in all d low (omega (arith, l, past))

-- ---- what a line names

-- what is on a leaf by its name is on it by what the name means
pub name-stands : (c : Configuration) (i : ℕ) (name : List ℕ) (y : Lower) → named c name ≡ Some y → name_stands_on c i name ≡ stands_on c i y
name-stands c i name y is = ap (λ (o : Option Lower). known false (stands_on c i) o) is

any_leaf : LeafRecord
any_leaf = record { name = []; sectors = 0; writable = false }

any_device : DeviceRecord
any_device = record { name = []; writable = false; table = [] }

module _ (c : Configuration) (loaded : IsLoaded c) where
  -- what a name means is there
  abbrev IsThere : Lower → Type 0
  IsThere (leaf i) = i < length c.leaves
  IsThere (device d) = d.0 < length c.devices

  named-there : (name : List ℕ) (y : Lower) → named c name ≡ Some y → IsThere y
  named-there name y is = go (position (λ l. bytes_eq l.name name) c.leaves) refl (position (λ d. bytes_eq (path_of d.name) name) c.devices) refl is
    where
      go : (a : Option ℕ) → position (λ l. bytes_eq l.name name) c.leaves ≡ a → (b : Option ℕ) → position (λ d. bytes_eq (path_of d.name) name) c.devices ≡ b
          → option_or (option_map leaf a) (option_map mapped b) ≡ Some y → IsThere y
      go (Some i) ea b eb h = subst IsThere (same_Some (leaf i) y h) (position-Some (λ l. bytes_eq l.name name) c.leaves i any_leaf ea).0
      go None ea (Some d) eb h = subst IsThere (same_Some (mapped d) y h) (position-Some (λ d. bytes_eq (path_of d.name) name) c.devices d any_device eb).0
      go None ea None eb h = absurd cc

  there-inside : (y : Lower) → IsThere y → IsPossibleLower y
  there-inside (leaf i) h = let most = loaded.leaves.count in omega (arith, h, most)
  there-inside (device d) h = let most = few c loaded.valid in omega (arith, h, most)

  pub named-inside : (name : List ℕ) (y : Lower) → named c name ≡ Some y → IsPossibleLower y
  named-inside name y is = there-inside y (named-there name y is)

  -- the k-th name of a line, and what it means
  pub name-at : (d l k : ℕ) (y : Lower) → lower_at c d l k ≡ Some y → (name : List ℕ) × (slice_get (names_at c d l) k ≡ Some name) × (named c name ≡ Some y)
  name-at d l k y is = go (slice_get (names_at c d l) k) refl is
    where
      go : (o : Option (List ℕ)) → slice_get (names_at c d l) k ≡ o → option_and_then (named c) o ≡ Some y → (name : List ℕ) × (slice_get (names_at c d l) k ≡ Some name) × (named c name ≡ Some y)
      go None e h = absurd cc
      go (Some name) e h = (name, e, h)

  pub lower-inside : (d l k : ℕ) (y : Lower) → lower_at c d l k ≡ Some y → IsPossibleLower y
  lower-inside d l k y is = let at = name-at d l k y is in named-inside at.0 y at.2

  -- ---- by the sets

  knows : (sets : List LeafSet) (y : Lower) → IsThere y → ((e : ℕ) → y ≡ mapped e → e < length c.devices → HasLeaves c (mapped e) (leaf_set_at sets e)) → KnowsLeaves c sets y
  knows sets (leaf i) h all = tt
  knows sets (device d) h all = all d.0 refl h

  pub knows-all : (sets : List LeafSet) → AreLeafSets c sets → (name : List ℕ) (y : Lower) → named c name ≡ Some y → KnowsLeaves c sets y
  knows-all sets all name y is = knows sets y (named-there name y is) (λ e same inside. all e inside)

  pub knows-at : (sets : List LeafSet) → AreLeafSets c sets → (d l k : ℕ) (y : Lower) → lower_at c d l k ≡ Some y → KnowsLeaves c sets y
  knows-at sets all d l k y is = let at = name-at d l k y is in knows-all sets all at.0 y at.2

  -- the lines of a device name less deep ones
  pub knows-below : (sets : List LeafSet) (d l k : ℕ) (line : Line) (y : Lower) → IsLine c d l line → AreSetsBelow c (depth c (mapped d)) sets → lower_at c d l k ≡ Some y → KnowsLeaves c sets y
  knows-below sets d l k line y at below is =
      let name = name-at d l k y is in
      let same : names_at c d l ≡ names line.target = ap (λ (o : Option Line). option_map_or (λ line. names line.target) o []) at in
      let there : slice_get (names line.target) k ≡ Some name.0 = ap (λ (l : List (List ℕ)). slice_get l k) (sym same) ∙ name.1 in
      let shallow = at_place (λ n. (y : Lower) → named c n ≡ Some y → depth c y < depth c (mapped d)) (names line.target) k name.0 (names-shallower c d l line loaded.valid at) there y name.2 in
      knows sets y (named-there name.0 y name.2) (λ e same inside. below e inside (subst (λ (x : Lower). depth c x < depth c (mapped d)) same shallow))

-- ---- verity lines

pub verity-stands : (c : Configuration) (i d l : ℕ) (line : Line) (v : Verity) → IsLine c d l line → line.target ≡ verity_target v → line_stands_on c i d l ≡ name_stands_on c i v.hash
verity-stands c i d l line v at is = ap (λ (o : Option Line). option_map_or (λ line. hashes_stand_on c i line.target) o false) at ∙ ap (hashes_stand_on c i) is

-- the hash device of a verity line is its second name
pub hash-stands : (c : Configuration) (i d l : ℕ) (line : Line) (v : Verity) (y : Lower) → IsLoaded c → IsLine c d l line → line.target ≡ verity_target v → lower_at c d l 1 ≡ Some y
    → line_stands_on c i d l ≡ stands_on c i y
hash-stands c i d l line v y loaded at is second =
    let name = name-at c loaded d l 1 y second in
    let same : names_at c d l ≡ names (verity_target v) = ap (λ (o : Option Line). option_map_or (λ line. names line.target) o []) at ∙ ap names is in
    let hash : Some v.hash ≡ Some name.0 = ap (λ (l : List (List ℕ)). slice_get l 1) (sym same) ∙ name.1 in
    let whole : line_stands_on c i d l ≡ name_stands_on c i v.hash = verity-stands c i d l line v at is in
    whole ∙ ap (name_stands_on c i) (same_Some v.hash name.0 hash) ∙ name-stands c i name.0 y name.2

-- ---- the devices of one depth

-- the sets of less deep devices, and of the first n of those of that depth
abbrev pub AreSettled : Configuration → ℕ → ℕ → List LeafSet → Type 0
AreSettled c deep n sets = (d : ℕ) → d < length c.devices → (depth c (mapped d) < deep) ⊎ ((depth c (mapped d) ≡ deep) × (d < n)) → HasLeaves c (mapped d) (leaf_set_at sets d)

pub settled-none : (c : Configuration) (deep : ℕ) (sets : List LeafSet) → AreSetsBelow c deep sets → AreSettled c deep 0 sets
settled-none c deep sets below d low which = elim which [
  | inl less ↦ below d low less
  | inr here ↦ absurd (omega (arith, here.1))
]

pub settled-below : (c : Configuration) (deep n : ℕ) (sets : List LeafSet) → AreSettled c deep n sets → AreSetsBelow c deep sets
settled-below c deep n sets all d low less = all d low (inl less)

-- a device of another depth
pub settled-past : (c : Configuration) (deep n : ℕ) (sets : List LeafSet) → depth c (mapped n) ≢ deep → AreSettled c deep n sets → AreSettled c deep (n + 1) sets
settled-past c deep n sets other all d low which = elim which [
  | inl less ↦ all d low (inl less)
  | inr here ↦ elim (cases_lt d n) [
    | inl before ↦ all d low (inr (here.0, before))
    | inr behind ↦ absurd (other (ap (λ (k : ℕ). depth c (mapped k)) (let same : n ≡ d = omega (arith, behind, here.1) in same) ∙ here.0))
  ]
]

less_of : (d n : ℕ) → d < n + 1 → (d ≡ n → ⊥) → d < n
less_of d n h other = elim (cases_lt d n) [ inl below ↦ below | inr above ↦ absurd (other (omega (arith, h, above))) ]

-- one of that depth
pub settled-more : (c : Configuration) (deep n : ℕ) (sets : List LeafSet) (one : LeafSet) → n < length sets → depth c (mapped n) ≡ deep → HasLeaves c (mapped n) one → AreSettled c deep n sets → AreSettled c deep (n + 1) (set sets n one)
settled-more c deep n sets one inside is has all d low which = elim (cases_eq d n) [
  | inl same ↦ subst (λ (k : ℕ). HasLeaves c (mapped k) (leaf_set_at (set sets n one) k)) (sym same) (subst (HasLeaves c (mapped n)) (sym (get_or-set_same sets n one (record { bits = 0; clear = false }) inside)) has)
  | inr other ↦ subst (HasLeaves c (mapped d)) (sym (get_or-set_other sets n d one (record { bits = 0; clear = false }) other))
      (all d low (elim which [ inl less ↦ inl less | inr here ↦ inr (here.0, less_of d n here.1 other) ]))
]

pub settled-all : (c : Configuration) (deep n : ℕ) (sets : List LeafSet) → length c.devices ≤ n → AreSettled c deep n sets → AreSetsBelow c (deep + 1) sets
settled-all c deep n sets past all d low less = elim (cases_lt (depth c (mapped d)) deep) [
  | inl below ↦ all d low (inl below)
  | inr above ↦ all d low (inr (omega (arith, above, less), omega (arith, low, past)))
]

-- ---- lines of other targets

pub stands-at : (c : Configuration) (i d l : ℕ) (line : Line) → IsLine c d l line → line_stands_on c i d l ≡ hashes_stand_on c i line.target
stands-at c i d l line at = ap (λ (o : Option Line). option_map_or (λ line. hashes_stand_on c i line.target) o false) at

not-hashed : (c : Configuration) (i : ℕ) (target : Target) → is_verity target ≡ false → hashes_stand_on c i target ≡ false
not-hashed c i target h = go (verity_of target) h
  where
    go : (o : Option Verity) → is_some o ≡ false → option_map_or (λ v. name_stands_on c i v.hash) o false ≡ false
    go None h = refl
    go (Some v) h = absurd cc

pub stands-not : (c : Configuration) (i d l : ℕ) (line : Line) → IsLine c d l line → is_verity line.target ≡ false → line_stands_on c i d l ≡ false
stands-not c i d l line at h = stands-at c i d l line at ∙ not-hashed c i line.target h

two-names : (target : Target) → is_verity target ≡ true → 2 ≤ length (names target)
two-names (verity_target v) h = omega arith
two-names target h = absurd cc

pub verity-names : (c : Configuration) (d l : ℕ) (line : Line) → IsLine c d l line → is_verity line.target ≡ true → 2 ≤ length (names_at c d l)
verity-names c d l line at h = omega (arith, ap (λ (o : Option Line). length (option_map_or (λ line. names line.target) o [])) at, two-names line.target h)

second-stands : (c : Configuration) (i d l : ℕ) (line : Line) (y : Lower) (target : Target) → IsLoaded c → IsLine c d l line → line.target ≡ target → is_verity target ≡ true → lower_at c d l 1 ≡ Some y → line_stands_on c i d l ≡ stands_on c i y
second-stands c i d l line y (verity_target v) loaded at is h second = hash-stands c i d l line v y loaded at is second
second-stands c i d l line y target loaded at is h second = absurd cc

pub lower-stands : (c : Configuration) (i d l : ℕ) (line : Line) (y : Lower) → IsLoaded c → IsLine c d l line → is_verity line.target ≡ true → lower_at c d l 1 ≡ Some y → line_stands_on c i d l ≡ stands_on c i y
lower-stands c i d l line y loaded at h second = second-stands c i d l line y line.target loaded at refl h second

-- ---- one name or line more

line-of : (c : Configuration) (d l i : ℕ) (y : Lower) → lower_at c d l i ≡ Some y → (line : Line) × IsLine c d l line
line-of c d l i y is = go (slice_get (lines_of c d) l) refl is
  where
    go : (o : Option Line) → slice_get (lines_of c d) l ≡ o → option_and_then (named c) (slice_get (option_map_or (λ line. names line.target) o []) i) ≡ Some y → (line : Line) × (slice_get (lines_of c d) l ≡ Some line)
    go None e h = let none : option_and_then (named c) None ≡ Some y = subst (λ (o : Option (List ℕ)). option_and_then (named c) o ≡ Some y) (slice_get_past {X = List ℕ} [] i (omega arith)) h in absurd cc
    go (Some line) e h = (line, e)

pub knows-lower : (c : Configuration) (loaded : IsLoaded c) (sets : List LeafSet) (d l k : ℕ) (y : Lower) → AreSetsBelow c (depth c (mapped d)) sets → lower_at c d l k ≡ Some y → KnowsLeaves c sets y
knows-lower c loaded sets d l k y below is = let line = line-of c d l k y is in knows-below c loaded sets d l k line.0 y line.1 below is

pub names-more : (c : Configuration) (loaded : IsLoaded c) (d l i : ℕ) (y : Lower) (k : ℕ) (sum one more : Bool) → lower_at c d l i ≡ Some y → sum ≡ list_any (name_stands_on c k) (take i (names_at c d l)) → one ≡ stands_on c k y → more ≡ (sum || one)
    → more ≡ list_any (name_stands_on c k) (take (i + 1) (names_at c d l))
names-more c loaded d l i y k sum one more is so_far this both =
    let name = name-at c loaded d l i y is in
    let inside : i < length (names_at c d l) = slice_get_within (names_at c d l) i name.0 name.1 in
    let here : get_or (names_at c d l) i [] ≡ name.0 = get_or_from_slice_get (names_at c d l) i name.0 [] name.1 in
    let last : one ≡ name_stands_on c k (get_or (names_at c d l) i []) = this ∙ sym (name-stands c k name.0 y name.2) ∙ ap (name_stands_on c k) (sym here) in
    both ∙ ap (λ (b : Bool). b || one) so_far ∙ ap (λ (b : Bool). list_any (name_stands_on c k) (take i (names_at c d l)) || b) last
    ∙ sym (list_any_more (name_stands_on c k) (names_at c d l) i [] inside)

pub lines-more : (c : Configuration) (d n : ℕ) (line : Line) (k : ℕ) (sum one more : Bool) → IsLine c d n line → sum ≡ list_any (λ (line : Line). list_any (name_stands_on c k) (names line.target)) (take n (lines_of c d))
    → one ≡ list_any (name_stands_on c k) (names_at c d n) → more ≡ (sum || one) → more ≡ list_any (λ (line : Line). list_any (name_stands_on c k) (names line.target)) (take (n + 1) (lines_of c d))
lines-more c d n line k sum one more is so_far this both =
    let f : Line → Bool = λ (line : Line). list_any (name_stands_on c k) (names line.target) in
    let inside : n < length (lines_of c d) = slice_get_within (lines_of c d) n line is in
    let here : get_or (lines_of c d) n line ≡ line = get_or_from_slice_get (lines_of c d) n line line is in
    let last : one ≡ f (get_or (lines_of c d) n line) = this ∙ ap (λ (o : Option Line). list_any (name_stands_on c k) (option_map_or (λ line. names line.target) o [])) is ∙ ap f (sym here) in
    both ∙ ap (λ (b : Bool). b || one) so_far ∙ ap (λ (b : Bool). list_any f (take n (lines_of c d)) || b) last ∙ sym (list_any_more f (lines_of c d) n line inside)

-- no device has more than 256 lines
pub lines-few : (c : Configuration) → IsLoaded c → (d : ℕ) → length (lines_of c d) ≤ 256
lines-few c loaded d = go (slice_get c.devices d) refl
  where
    go : (o : Option DeviceRecord) → slice_get c.devices d ≡ o → length (option_map_or (λ x. x.table) o []) ≤ 256
    go None e = omega arith
    go (Some x) e = few_lines c loaded.valid d x e
