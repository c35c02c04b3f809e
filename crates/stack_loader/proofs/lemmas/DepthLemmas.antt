-- Depths by rounds are those of the definition.
use Rattle.std.proofs.Common.{◌≡◌, ◌+◌, ◌≤◌, ◌<◌, ℕ, zero, suc, max, List, [], ◌∷◌, ◌++◌, refl, sym, ap, ◌∙◌, Bool, true, false, ◌||◌, ◌==◌, ◌⊎◌, inl, inr, length, drop, take, get_or, map, slice_index, arith}
use Rattle.std.specs.List.{AllByRecursion, enumerate_from, list_any}
use Rattle.std.proofs.Math.Decide.{dec_le}
use Rattle.std.proofs.lemmas.Bool.Decides.{nat_tests}
use Rattle.std.proofs.lemmas.List.{at_drop_more, map_more, get_or-map, length-map}
use Rattle.std.proofs.lemmas.List.FromFn.{fill_by_all, get_or-map-range_with_len, length-map-range_with_len}
use Rattle.stack_loader.specs.declared.device_set.DeviceSet.{DeviceSet}
use Rattle.stack_rules.specs.declared.lower.Lower.{Lower}
use Rattle.stack_rules.specs.declared.lower.Lower.TheVariants.{Leaf as leaf, Device as device}
use Rattle.stack_rules.specs.Records.{Configuration}
use Rattle.stack_rules.specs.Names.{mapped, lowers}
use Rattle.stack_rules.specs.Cycles.{is_mapped, names_device}
use Rattle.stack_rules.specs.Descend.{greatest, after_steps, descend, most_devices, depth, depth_rule}
use Rattle.stack_loader.specs.DeviceSet.{contains, set_at, AreLowerSets}
use Rattle.stack_loader.specs.Depths.{value_in, greatest_in, depth_round, depth_rounds}
use Rattle.stack_rules.specs.Kept.{each_mapped}
use Rattle.stack_rules.proofs.lemmas.LowerLemmas.{IsInside, lowers-inside}
use Rattle.stack_loader.proofs.GreatestLemmas.{greatest-zero, map-low}

or-cases : (a b : Bool) → (a || b) ≡ true → (a ≡ true) ⊎ (b ≡ true)
or-cases true b h = inl refl
or-cases false b h = inr h

or-left : (a b : Bool) → a ≡ true → (a || b) ≡ true
or-left true b h = refl
or-left false b h = let clash : false ≡ true = h in cc

or-right : (a b : Bool) → b ≡ true → (a || b) ≡ true
or-right true b h = refl
or-right false b h = h

eq-self : (n : ℕ) → (n == n) ≡ true
eq-self n = grind (arith, nat_tests)

eq-same : (m n : ℕ) → (m == n) ≡ true → m ≡ n
eq-same m n h = grind (arith, nat_tests)

-- ---- what a device names is one of the configuration's

any-inside : (c : Configuration) (e : ℕ) (ys : List Lower) → AllByRecursion (IsInside c) ys → list_any (is_mapped e) ys ≡ true → e < length c.devices
any-inside c e [] all h = let clash : false ≡ true = h in cc
any-inside c e (leaf i ∷ ys) all h = any-inside c e ys all.1 h
any-inside c e (device d ∷ ys) all h = elim (or-cases (e == d.0) (list_any (is_mapped e) ys) h) [
  | inl here ↦ let same = eq-same e d.0 here in omega (arith, same, all.0)
  | inr there ↦ any-inside c e ys all.1 there
]

pub named-device-inside : (c : Configuration) (d e : ℕ) → names_device c d e ≡ true → e < length c.devices
named-device-inside c d e h = any-inside c e (lowers c d) (lowers-inside c d) h

-- ---- the greatest among the devices that a list names

one-below : (f : Lower → ℕ) (e : ℕ) (ys : List Lower) → list_any (is_mapped e) ys ≡ true → f (mapped e) ≤ greatest (map f ys)
one-below f e [] h = let clash : false ≡ true = h in cc
one-below f e (leaf i ∷ ys) h = let more = one-below f e ys h in omega (arith, more)
one-below f e (device d ∷ ys) h = elim (or-cases (e == d.0) (list_any (is_mapped e) ys) h) [
  | inl here ↦ let same : f (mapped e) ≡ f (device d) = ap (λ n. f (mapped n)) (eq-same e d.0 here) in omega (arith, same)
  | inr there ↦ let more = one-below f e ys there in omega (arith, more)
]

all-below : (f : Lower → ℕ) (b : ℕ) (ys : List Lower) → ((i : ℕ) → f (leaf i) ≡ 0) → ((e : ℕ) → list_any (is_mapped e) ys ≡ true → f (mapped e) ≤ b) → greatest (map f ys) ≤ b
all-below f b [] none each = omega arith
all-below f b (leaf i ∷ ys) none each = let here = none i in let more = all-below f b ys none each in omega (arith, here, more)
all-below f b (device d ∷ ys) none each =
    let here : f (device d) ≤ b = each d.0 (or-left (d.0 == d.0) (list_any (is_mapped d.0) ys) (eq-self d.0)) in
    let more = all-below f b ys none (λ e h. each e (or-right (e == d.0) (list_any (is_mapped e) ys) h)) in
    omega (arith, here, more)

-- ---- the greatest among the values of a set

value-below : (set : DeviceSet) (k e p : ℕ) (values : List ℕ) → p ≡ k + e → e < length values → value_in set (p, get_or values e 0) ≤ greatest (map (value_in set) (enumerate_from k values))
value-below set k e p [] place low = let no : ⊥ = omega (arith, low) in absurd no
value-below set k zero p (x ∷ xs) place low =
    let here : p ≡ k = omega (arith, place) in
    let same : value_in set (p, x) ≡ value_in set (k, x) = ap (λ k. value_in set (k, x)) here in omega (arith, same)
value-below set k (suc e) p (x ∷ xs) place low = let more = value-below set (k + 1) e p xs (omega (arith, place)) (omega (arith, low)) in omega (arith, more)

values-below : (set : DeviceSet) (b k : ℕ) (values : List ℕ) → ((e p : ℕ) → p ≡ k + e → e < length values → value_in set (p, get_or values e 0) ≤ b) → greatest (map (value_in set) (enumerate_from k values)) ≤ b
values-below set b k [] each = omega arith
values-below set b k (x ∷ xs) each =
    let here : value_in set (k, x) ≤ b = each 0 k (omega arith) (omega arith) in
    let more = values-below set b (k + 1) xs (λ e p place low. each (suc e) p (omega (arith, place)) (omega (arith, low))) in
    omega (arith, here, more)

greatest_in-lowers : (set : DeviceSet) (values : List ℕ) (f : Lower → ℕ) (ys : List Lower) → ((e : ℕ) → e < length values → contains set e ≡ list_any (is_mapped e) ys)
    → ((e : ℕ) → e < length values → get_or values e 0 ≡ f (mapped e)) → ((i : ℕ) → f (leaf i) ≡ 0) → ((e : ℕ) → list_any (is_mapped e) ys ≡ true → e < length values)
    → greatest_in set values ≡ greatest (map f ys)
greatest_in-lowers set values f ys same is none inside =
    let below : greatest_in set values ≤ greatest (map f ys) = values-below set (greatest (map f ys)) 0 values (λ e p place low. under e p (omega (arith, place)) low (contains set e) refl) in
    let above : greatest (map f ys) ≤ greatest_in set values = all-below f (greatest_in set values) ys none over in
    omega (arith, below, above)
  where
    under : (e p : ℕ) → p ≡ e → e < length values → (b : Bool) → contains set e ≡ b → value_in set (p, get_or values e 0) ≤ greatest (map f ys)
    under e p place low true has =
        let here = one-below f e ys (sym (same e low) ∙ has) in
        rw (place, has, is e low) here
    under e p place low false lacks = rw (place, lacks) (omega arith)

    over : (e : ℕ) → list_any (is_mapped e) ys ≡ true → f (mapped e) ≤ greatest_in set values
    over e named =
        let low = inside e named in
        let has : contains set e ≡ true = same e low ∙ named in
        let value : value_in set (e, get_or values e 0) ≡ f (mapped e) = rw has (is e low) in
        let here = value-below set 0 e e values (omega arith) low in
        omega (arith, here, value)

-- ---- rounds

round-mapped : (c : Configuration) (sets : List DeviceSet) → AreLowerSets c sets → (f F : Lower → ℕ) → ((i : ℕ) → f (leaf i) ≡ 0) → ((d : ℕ) → F (mapped d) ≡ 1 + greatest (map f (lowers c d)))
    → depth_round sets (each_mapped f (length c.devices)) ≡ each_mapped F (length c.devices)
round-mapped c sets are f F none is =
    fill_by_all (λ d. F (mapped d)) (depth_round sets (each_mapped f (length c.devices))) (length c.devices) 0
    (length-map sets (λ set. 1 + greatest_in set (each_mapped f (length c.devices))) ∙ are.count)
    (λ d low.
    get_or-map (λ set. 1 + greatest_in set (each_mapped f (length c.devices))) sets d (record { bits = 0 }) 0 (omega (arith, low, are.count))
    ∙ ap (λ n. 1 + n) (greatest_in-lowers (set_at sets d) (each_mapped f (length c.devices)) f (lowers c d)
    (λ e inside. are.named.each d e (omega (arith, low, are.count)) (omega (arith, inside, are.count, count)))
    (λ e inside. get_or-map-range_with_len (λ d. f (mapped d)) 0 (length c.devices) e e 0 (omega (arith, inside, count)) (omega arith))
    none
    (λ e named. let within = named-device-inside c d e named in omega (arith, within, count)))
    ∙ sym (is d))
  where
    count : length (each_mapped f (length c.devices)) ≡ length c.devices
    count = length-map-range_with_len (λ d. f (mapped d)) 0 (length c.devices)

rounds-mapped : (c : Configuration) (sets : List DeviceSet) → AreLowerSets c sets → (n : ℕ) → depth_rounds sets n ≡ each_mapped (after_steps 0 (depth_rule c) (suc n)) (length c.devices)
unfolding depth_rounds
rounds-mapped c sets are zero =
    fill_by_all (λ d. after_steps 0 (depth_rule c) 1 (mapped d)) (map (λ set. 1) sets) (length c.devices) 0 (length-map sets (λ set. 1) ∙ are.count)
    (λ d low. get_or-map (λ (set : DeviceSet). 1) sets d (record { bits = 0 }) 0 (omega (arith, low, are.count)) ∙ (let none = greatest-zero (lowers c d) in omega (arith, none)))
rounds-mapped c sets are (suc n) =
    ap (depth_round sets) (rounds-mapped c sets are n)
    ∙ round-mapped c sets are (after_steps 0 (depth_rule c) (suc n)) (after_steps 0 (depth_rule c) (suc (suc n))) (λ i. refl) (λ d. refl)

pub rounds-depths : (c : Configuration) (sets : List DeviceSet) → AreLowerSets c sets → depth_rounds sets most_devices ≡ each_mapped (depth c) (length c.devices)
unfolding descend
rounds-depths c sets are = rounds-mapped c sets are most_devices

-- ---- round by round

pub rounds-zero : (sets : List DeviceSet) → depth_rounds sets 0 ≡ map (λ set. 1) sets
unfolding depth_rounds
rounds-zero sets = refl

pub rounds-suc : (sets : List DeviceSet) (n : ℕ) → depth_rounds sets (n + 1) ≡ depth_round sets (depth_rounds sets n)
unfolding depth_rounds
rounds-suc sets n = let same : n + 1 ≡ suc n = omega arith in rw same refl

pub length-rounds : (sets : List DeviceSet) (n : ℕ) → length (depth_rounds sets n) ≡ length sets
unfolding depth_rounds
length-rounds sets zero = length-map sets (λ set. 1)
length-rounds sets (suc n) = length-map sets (λ set. 1 + greatest_in set (depth_rounds sets n))

-- a round that changes nothing is the last that does
pub rounds-stay : (sets : List DeviceSet) (k : ℕ) → depth_rounds sets (k + 1) ≡ depth_rounds sets k → (m : ℕ) → k ≤ m → depth_rounds sets m ≡ depth_rounds sets k
unfolding depth_rounds
rounds-stay sets k same zero low = let none : 0 ≡ k = omega (arith, low) in ap (depth_rounds sets) none
rounds-stay sets k same (suc m) low = go (dec_le k m) (rounds-stay sets k same m)
  where
    go : Dec (k ≤ m) → (k ≤ m → depth_rounds sets m ≡ depth_rounds sets k) → depth_rounds sets (suc m) ≡ depth_rounds sets k
    go (yes below) more = ap (depth_round sets) (more below) ∙ sym (rounds-suc sets k) ∙ same
    go (no above) more = let here : suc m ≡ k = grind (arith, low, above) in ap (depth_rounds sets) here

-- no value is above the number of rounds
value_in-low : (set : DeviceSet) (b k : ℕ) (values : List ℕ) → ((k : ℕ) → slice_index values k ≤ b) → greatest (map (value_in set) (enumerate_from k values)) ≤ b
value_in-low set b k values low = values-below set b k values (λ e p place inside. go e p (contains set p) refl)
  where
    go : (e p : ℕ) (has : Bool) → contains set p ≡ has → value_in set (p, get_or values e 0) ≤ b
    go e p true has = rw has (low e)
    go e p false lacks = rw lacks (omega arith)

pub greatest_in-low : (set : DeviceSet) (b : ℕ) (values : List ℕ) → ((k : ℕ) → slice_index values k ≤ b) → greatest_in set values ≤ b
greatest_in-low set b values low = value_in-low set b 0 values low

pub rounds-low : (sets : List DeviceSet) (n k : ℕ) → slice_index (depth_rounds sets n) k ≤ n + 1
unfolding depth_rounds
rounds-low sets zero k = map-low (λ set. 1) (0 + 1) sets (λ set. omega arith) k
rounds-low sets (suc n) k =
    map-low (λ set. 1 + greatest_in set (depth_rounds sets n)) (suc n + 1) sets
    (λ set. let low = greatest_in-low set (n + 1) (depth_rounds sets n) (rounds-low sets n) in omega (arith, low)) k

pub round_more : (sets : List DeviceSet) (i value : ℕ) (values done : List ℕ) → i < length sets → value ≡ 1 + greatest_in (set_at sets i) values
    → done ≡ depth_round (take i sets) values → done ++ value ∷ [] ≡ depth_round (take (i + 1) sets) values
round_more sets i value values done low same before =
    ap (λ xs. xs ++ value ∷ []) before
    ∙ ap (λ v. depth_round (take i sets) values ++ v ∷ []) same
    ∙ sym (map_more (λ set. 1 + greatest_in set values) sets i (record { bits = 0 }) low)

-- ---- the greatest of a set, value by value

from_place-more : (set : DeviceSet) (values : List ℕ) (d : ℕ) → d < length values
    → greatest (map (value_in set) (enumerate_from d (drop d values))) ≡ max (value_in set (d, get_or values d 0)) (greatest (map (value_in set) (enumerate_from (d + 1) (drop (d + 1) values))))
from_place-more set values d low = at_drop_more (λ xs. greatest (map (value_in set) (enumerate_from d xs))) values d 0 low

pub greatest_in_taken : (set : DeviceSet) (values : List ℕ) (d g value all : ℕ) → d < length values → contains set d ≡ true → value ≡ get_or values d 0
    → max g (greatest (map (value_in set) (enumerate_from d (drop d values)))) ≡ all → max (max g value) (greatest (map (value_in set) (enumerate_from (d + 1) (drop (d + 1) values)))) ≡ all
greatest_in_taken set values d g value all low has is before =
    let here : value_in set (d, get_or values d 0) ≡ value = rw has (sym is) in
    let step = from_place-more set values d low in
    omega (arith, here, step, before)

pub greatest_in_skipped : (set : DeviceSet) (values : List ℕ) (d g all : ℕ) → d < length values → contains set d ≡ false
    → max g (greatest (map (value_in set) (enumerate_from d (drop d values)))) ≡ all → max g (greatest (map (value_in set) (enumerate_from (d + 1) (drop (d + 1) values)))) ≡ all
greatest_in_skipped set values d g all low lacks before =
    let here : value_in set (d, get_or values d 0) ≡ 0 = rw lacks refl in
    let step = from_place-more set values d low in
    omega (arith, here, step, before)
