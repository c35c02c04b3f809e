-- The set of what each device names.
use Rattle.std.proofs.Common.{◌≡◌, ◌+◌, ◌<◌, ◌≤◌, ℕ, List, [], ◌∷◌, ◌++◌, sym, ap, ◌∙◌, length, get_or, arith, length-append}
use Rattle.std.specs.List.{list_any}
use Rattle.std.proofs.Math.Decide.{dec_le}
use Rattle.std.proofs.lemmas.List.{get_or_append_left, get_or_default}
use Rattle.std.proofs.Math.Seq.{get_or-append_seam}
use Rattle.stack_rules.specs.declared.lower.Lower.{Lower}
use Rattle.stack_loader.specs.declared.device_set.DeviceSet.{DeviceSet}
use Rattle.stack_rules.specs.Records.{Configuration}
use Rattle.stack_rules.specs.Descend.{most_devices}
use Rattle.stack_rules.specs.Cycles.{is_mapped}
use Rattle.stack_loader.specs.DeviceSet.{contains, set_at, AreLowerSets}
use Rattle.stack_rules.specs.Kept.{AreLowers}
use Rattle.stack_rules.proofs.lemmas.LowerLemmas.{names_device-rows}
use Rattle.stack_rules.proofs.lemmas.KeptLemmas.{length-lowers}

-- the sets of the first n devices
pub record SetsSoFar (lowers : List (List (List Lower))) (n : ℕ) (sets : List DeviceSet) : Type 0 where
  pub count : length sets ≡ n
  pub each : (d e : ℕ) → d < n → e < most_devices → contains (set_at sets d) e ≡ list_any (list_any (is_mapped e)) (get_or lowers d [])

pub sets_none : (lowers : List (List (List Lower))) (sets : List DeviceSet) → sets ≡ [] → SetsSoFar lowers 0 sets
sets_none lowers sets is = record { count = ap length is; each = λ d e low. absurd (omega (arith, low)) }

pub sets_more : (lowers : List (List (List Lower))) (n : ℕ) (rows : List (List Lower)) (set : DeviceSet) (sets next : List DeviceSet) → n < length lowers → rows ≡ get_or lowers n rows
    → ((e : ℕ) → e < most_devices → contains set e ≡ list_any (list_any (is_mapped e)) rows) → next ≡ sets ++ set ∷ [] → SetsSoFar lowers n sets → SetsSoFar lowers (n + 1) next
sets_more lowers n rows set sets next low is all step before = record {
  count = ap length step ∙ (let long = length-append sets (set ∷ []) in omega (arith, long, before.count));
  each = λ d e lower few. ap (λ xs. contains (set_at xs d) e) step ∙ go d e (dec_le n d) lower few;
}
  where
    go : (d e : ℕ) → Dec (n ≤ d) → d < n + 1 → e < most_devices → contains (set_at (sets ++ set ∷ []) d) e ≡ list_any (list_any (is_mapped e)) (get_or lowers d [])
    go d e (yes past) lower few =
        let here : d ≡ length sets = omega (arith, past, lower, before.count) in
        let place : n ≡ d = omega (arith, past, lower) in
        ap (λ d. contains (set_at (sets ++ set ∷ []) d) e) here ∙ ap (λ s. contains s e) (get_or-append_seam sets set [] (record { bits = 0 })) ∙ all e few
        ∙ ap (list_any (list_any (is_mapped e))) (is ∙ get_or_default lowers n rows [] low) ∙ ap (λ d. list_any (list_any (is_mapped e)) (get_or lowers d [])) place
    go d e (no inside) lower few =
        let low' : d < n = grind (arith, inside) in
        ap (λ s. contains s e) (get_or_append_left sets (set ∷ []) (record { bits = 0 }) d (omega (arith, low', before.count))) ∙ before.each d e low' few

pub lower_sets-named : (c : Configuration) (lowers : List (List (List Lower))) (n : ℕ) (sets : List DeviceSet) → AreLowers c lowers → length lowers ≤ most_devices → length lowers ≤ n → n ≤ length lowers → SetsSoFar lowers n sets → AreLowerSets c sets
lower_sets-named c lowers n sets are few past inside so-far = record {
  count = so-far.count ∙ (let long = length-lowers c lowers are in omega (arith, past, inside, long));
  named = record { each = λ d e low lower. so-far.each d e (omega (arith, low, so-far.count)) (omega (arith, lower, so-far.count, inside, few)) ∙ sym (names_device-rows c lowers are d e) };
}
