-- What a valid configuration gives.
use Rattle.std.proofs.Common.{◌≡◌, ◌+◌, ◌-◌, ◌≤◌, ◌<◌, ℕ, zero, suc, List, [], ◌∷◌, ◌++◌, refl, Bool, true, false, Option, Some, None, length, arith, nat_lt}
use Rattle.std.specs.Prelude.{flat_map, slice_get}
use Rattle.std.specs.List.{AllByRecursion, enumerate_from}
use Rattle.stack_rules.specs.Records.{Configuration, DeviceRecord}
use Rattle.stack_rules.specs.declared.lower.Lower.{Lower}
use Rattle.stack_rules.specs.declared.lower.Lower.TheVariants.{Leaf as leaf, Device as device}
use Rattle.stack_rules.specs.declared.refusal.LoadKind.{LoadKind}
use Rattle.stack_rules.specs.declared.refusal.LoadKind.TheVariants.{TooDeep, CostTooLarge}
use Rattle.stack_rules.specs.declared.refusal.Refusal.{Refusal}
use Rattle.stack_rules.specs.Names.{mapped}
use Rattle.stack_rules.specs.Descend.{depth, read_cost, descend}
use Rattle.stack_rules.specs.Rules.{IsValid, first, each_device, device_rules, depth_rules, cost_rules, refuse, most_depth, most_cost}

-- a list in which nothing refuses
parts : (xs ys : List (Option Refusal)) → first (xs ++ ys) ≡ None → (first xs ≡ None) × (first ys ≡ None)
parts [] ys h = (refl, h)
parts (None ∷ xs) ys h = parts xs ys h
parts (Some r ∷ xs) ys h = let clash : Some r ≡ None = h in cc

each : {X : Type 0} (f : X → List (Option Refusal)) (xs : List X) → first (flat_map f xs) ≡ None → AllByRecursion (λ x. first (f x) ≡ None) xs
each f [] h = tt
each f (x ∷ xs) h = let both : (first (f x) ≡ None) × (first (flat_map f xs) ≡ None) = parts (f x) (flat_map f xs) h in (both.0, each f xs both.1)

-- ---- rules on one number of each device

low-one : (kind : LoadKind) (most d n : ℕ) → first (refuse kind d 0 (nat_lt most n) ∷ []) ≡ None → n ≤ most
low-one kind most d n h = go (nat_lt most n) refl h
  where
    go : (b : Bool) → nat_lt most n ≡ b → first (refuse kind d 0 b ∷ []) ≡ None → n ≤ most
    go true e h = let refused : Refusal = record { kind = kind; device = d; line = 0 } in let clash : Some refused ≡ None = h in cc
    go false e h = Rattle.std.proofs.lemmas.Bool.ltb-false most n e

in_order : (kind : LoadKind) (most : ℕ) (f : Lower → ℕ) (k : ℕ) (devices : List DeviceRecord)
    → AllByRecursion (λ p. first (refuse kind p.0 0 (nat_lt most (f (mapped (p.0 - 1)))) ∷ []) ≡ None) (enumerate_from (k + 1) devices)
    → (d : ℕ) → k ≤ d → d < k + length devices → f (mapped d) ≤ most
in_order kind most f k [] all d low high = let no_room : ⊥ = omega (arith, low, high) in absurd no_room
in_order kind most f k (x ∷ xs) all d low high = go (Rattle.std.proofs.Math.Decide.dec_le d k) (λ above. in_order kind most f (k + 1) xs all.1 d above (omega (arith, high)))
  where
    go : Dec (d ≤ k) → (k + 1 ≤ d → f (mapped d) ≤ most) → f (mapped d) ≤ most
    go (yes below) later =
        let here : d ≡ (k + 1) - 1 = omega (arith, below, low) in
        rw here (low-one kind most (k + 1) (f (mapped ((k + 1) - 1))) all.0)
    go (no above) later = later (grind (arith, above))

pub past_end : (d : ℕ) (devices : List DeviceRecord) → length devices ≤ d → slice_get devices d ≡ None
past_end d [] h = refl
past_end zero (x ∷ xs) h = let no_room : ⊥ = omega (arith, h) in absurd no_room
past_end (suc d) (x ∷ xs) h = past_end d xs (omega (arith, h))

pub depth-leaf : (c : Configuration) (i : ℕ) → depth c (leaf i) ≡ 0
unfolding descend
depth-leaf c i = refl

pub depth-past : (c : Configuration) (d : ℕ) → slice_get c.devices d ≡ None → depth c (mapped d) ≡ 1
unfolding descend
depth-past c d none = rw none refl

pub read_cost-leaf : (c : Configuration) (i : ℕ) → read_cost c (leaf i) ≡ 1
unfolding descend
read_cost-leaf c i = refl

read_cost-past : (c : Configuration) (d : ℕ) → slice_get c.devices d ≡ None → read_cost c (mapped d) ≡ 0
unfolding descend
read_cost-past c d none = rw none refl

all-low : (c : Configuration) (kind : LoadKind) (most : ℕ) (f : Lower → ℕ) → ((i : ℕ) → f (leaf i) ≤ most) → ((d : ℕ) → slice_get c.devices d ≡ None → f (mapped d) ≤ most)
    → first (each_device c (λ d x. refuse kind d 0 (nat_lt most (f (mapped (d - 1)))) ∷ [])) ≡ None → (x : Lower) → f x ≤ most
all-low c kind most f leaves past none (leaf i) = leaves i
all-low c kind most f leaves past none (device d) = go (Rattle.std.proofs.Math.Decide.dec_le (length c.devices) d.0)
  where
    all : AllByRecursion (λ p. first (refuse kind p.0 0 (nat_lt most (f (mapped (p.0 - 1)))) ∷ []) ≡ None) (enumerate_from 1 c.devices)
    all = each (λ p. refuse kind p.0 0 (nat_lt most (f (mapped (p.0 - 1)))) ∷ []) (enumerate_from 1 c.devices) none

    go : Dec (length c.devices ≤ d.0) → f (device d) ≤ most
    go (yes after) = past d.0 (past_end d.0 c.devices after)
    go (no inside) = in_order kind most f 0 c.devices all d.0 (omega arith) (grind (arith, inside))

-- where the rule on depths refuses none, no depth is above 8
pub depths-low : (c : Configuration) → first (depth_rules c) ≡ None → (x : Lower) → depth c x ≤ most_depth
depths-low c deep = all-low c TooDeep most_depth (depth c) (λ i. rw depth-leaf (omega arith)) (λ d none. rw (depth-past c d none) (omega arith)) deep

-- where the rule on costs refuses none, no read cost is above 2^32
pub costs-low : (c : Configuration) → first (cost_rules c) ≡ None → (x : Lower) → read_cost c x ≤ most_cost
costs-low c dear = all-low c CostTooLarge most_cost (read_cost c) (λ i. rw read_cost-leaf (omega arith)) (λ d none. rw (read_cost-past c d none) (omega arith)) dear

-- so in a valid configuration
pub depth-low : (c : Configuration) → IsValid c → (x : Lower) → depth c x ≤ most_depth
unfolding IsValid
depth-low c valid = depths-low c (parts (device_rules c) (depth_rules c) (parts (device_rules c ++ depth_rules c) (cost_rules c) valid).0).1

pub cost-low : (c : Configuration) → IsValid c → (x : Lower) → read_cost c x ≤ most_cost
unfolding IsValid
cost-low c valid = costs-low c (parts (device_rules c ++ depth_rules c) (cost_rules c) valid).1
