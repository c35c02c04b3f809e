-- The rules in their order: the first part that refuses decides.
use Rattle.std.proofs.Common.{◌≡◌, ◌+◌, ◌-◌, ℕ, List, [], ◌∷◌, ◌++◌, refl, sym, ap, ◌∙◌, subst, false, Option, None, length, map, nat_lt, arith}
use Rattle.std.specs.Prelude.{flat_map}
use Rattle.std.specs.List.{enumerate_from, range_with_len}
use Rattle.std.proofs.lemmas.List.{append_assoc}
use Rattle.stack_loader.specs.declared.cost.Direction.TheVariants.{Read}
use Rattle.stack_rules.specs.declared.lower.Lower.{Lower}
use Rattle.stack_rules.specs.declared.refusal.LoadFault.{LoadFault}
use Rattle.stack_rules.specs.declared.refusal.LoadFault.TheVariants.{Refused, NoMemory}
use Rattle.stack_rules.specs.declared.refusal.LoadKind.{LoadKind}
use Rattle.stack_rules.specs.declared.refusal.LoadKind.TheVariants.{TooMany, TooDeep, CostTooLarge}
use Rattle.stack_rules.specs.declared.refusal.Refusal.{Refusal}
use Rattle.stack_rules.specs.Records.{Configuration}
use Rattle.stack_rules.specs.Names.{mapped}
use Rattle.stack_rules.specs.Descend.{depth, read_cost}
use Rattle.stack_rules.specs.Kept.{AreLowers, each_mapped}
use Rattle.stack_rules.specs.Passing.{IsFirst, above}
use Rattle.stack_rules.specs.Rules.{first, refuse, rules, is_too_many, unknown_names, cycles, each_device, table_rules, depth_rules, cost_rules, most_depth, most_cost}
use Rattle.stack_loader.specs.Costs.{AreMeasured, capped_cost}
use Rattle.stack_loader.proofs.lemmas.CappedLemmas.{above-capped}
use Rattle.stack_rules.proofs.lemmas.FirstRefusalLemmas.{first-none, first-some}

pub left : (fault : LoadFault) (xs ys : List (Option Refusal)) → IsFirst fault xs → IsFirst fault (xs ++ ys)
left (Refused r) xs ys h = first-some xs ys r h
left NoMemory xs ys h = h

pub right : (fault : LoadFault) (xs ys : List (Option Refusal)) → first xs ≡ None → IsFirst fault ys → IsFirst fault (xs ++ ys)
right (Refused r) xs ys none h = first-none xs ys none ∙ h
right NoMemory xs ys none h = h

abbrev many_rule : Configuration → List (Option Refusal)
many_rule c = refuse TooMany 0 0 (is_too_many c.devices) ∷ []

abbrev pub outer_rules : Configuration → List (Option Refusal)
outer_rules c = many_rule c ++ unknown_names c

abbrev pub inner_rules : Configuration → List (Option Refusal)
inner_rules c = cycles c ++ each_device c (table_rules c) ++ depth_rules c

parts : (c : Configuration) → rules c ≡ (outer_rules c) ++ (inner_rules c ++ cost_rules c)
parts c =
    ap (λ l. l ++ depth_rules c ++ cost_rules c) (append_assoc (outer_rules c) (cycles c) (each_device c (table_rules c)))
    ∙ ap (λ l. l ++ cost_rules c) (append_assoc (outer_rules c) (cycles c ++ each_device c (table_rules c)) (depth_rules c)) ∙ append_assoc (outer_rules c) (inner_rules c) (cost_rules c)

pub outer-none : (c : Configuration) → is_too_many c.devices ≡ false → first (unknown_names c) ≡ None → first (outer_rules c) ≡ None
outer-none c few known = first-none (many_rule c) (unknown_names c) (rw few refl) ∙ known

pub unknown-first : (c : Configuration) (fault : LoadFault) → is_too_many c.devices ≡ false → IsFirst fault (unknown_names c) → IsFirst fault (rules c)
unknown-first c fault few h =
    subst (IsFirst fault) (sym (parts c)) (left fault (outer_rules c) (inner_rules c ++ cost_rules c) (right fault (many_rule c) (unknown_names c) (rw few refl) h))

pub inner-first : (c : Configuration) (fault : LoadFault) → first (outer_rules c) ≡ None → IsFirst fault (inner_rules c) → IsFirst fault (rules c)
inner-first c fault outer h =
    subst (IsFirst fault) (sym (parts c)) (right fault (outer_rules c) (inner_rules c ++ cost_rules c) outer (left fault (inner_rules c) (cost_rules c) h))

pub costs-first : (c : Configuration) (fault : LoadFault) → first (outer_rules c) ≡ None → first (inner_rules c) ≡ None → IsFirst fault (cost_rules c) → IsFirst fault (rules c)
costs-first c fault outer inner h =
    subst (IsFirst fault) (sym (parts c)) (right fault (outer_rules c) (inner_rules c ++ cost_rules c) outer (right fault (inner_rules c) (cost_rules c) inner h))

pub none-first : (c : Configuration) → first (outer_rules c) ≡ None → first (inner_rules c) ≡ None → first (cost_rules c) ≡ None → first (rules c) ≡ None
none-first c outer inner cost = ap first (parts c) ∙ first-none (outer_rules c) (inner_rules c ++ cost_rules c) outer ∙ first-none (inner_rules c) (cost_rules c) inner ∙ cost

-- ---- rules on one number for each device

above-from : {X : Type 0} (kind : LoadKind) (most : ℕ) (f : Lower → ℕ) (k : ℕ) (xs : List X)
    → flat_map (λ p. refuse kind p.0 0 (nat_lt most p.1) ∷ []) (enumerate_from (k + 1) (map (λ d. f (mapped d)) (range_with_len k (length xs))))
    ≡ flat_map (λ (p : ℕ × X). refuse kind p.0 0 (nat_lt most (f (mapped (p.0 - 1)))) ∷ []) (enumerate_from (k + 1) xs)
above-from kind most f k [] = refl
above-from kind most f k (x ∷ xs) =
    let here : k ≡ (k + 1) - 1 = omega arith in
    ap (λ n. refuse kind (k + 1) 0 (nat_lt most (f (mapped n))) ∷ flat_map (λ p. refuse kind p.0 0 (nat_lt most p.1) ∷ []) (enumerate_from ((k + 1) + 1) (map (λ d. f (mapped d)) (range_with_len (k + 1) (length xs))))) here
    ∙ ap (λ rest. refuse kind (k + 1) 0 (nat_lt most (f (mapped ((k + 1) - 1)))) ∷ rest) (above-from kind most f (k + 1) xs)

pub depths-above : (c : Configuration) (values : List ℕ) → values ≡ each_mapped (depth c) (length c.devices) → above TooDeep most_depth values ≡ depth_rules c
depths-above c values is = ap (above TooDeep most_depth) is ∙ above-from TooDeep most_depth (depth c) 0 c.devices

pub costs-above : (c : Configuration) (values : List ℕ) → values ≡ each_mapped (λ x. capped_cost Read (read_cost c x)) (length c.devices) → above CostTooLarge most_cost values ≡ cost_rules c
costs-above c values is = ap (above CostTooLarge most_cost) is ∙ above-from CostTooLarge most_cost (λ x. capped_cost Read (read_cost c x)) 0 c.devices ∙ above-capped (read_cost c) (enumerate_from 1 c.devices)

-- depths of which none is refused
pub measured-of : (c : Configuration) (lowers : List (List (List Lower))) (depths levels : List ℕ) → AreLowers c lowers → depths ≡ each_mapped (depth c) (length c.devices) → levels ≡ depths → None ≡ first (above TooDeep most_depth levels) → AreMeasured c lowers depths
measured-of c lowers depths levels are is same none = record { lowers = are; depths = is; low = sym (ap first (ap (above TooDeep most_depth) same ∙ depths-above c depths is)) ∙ sym none }
