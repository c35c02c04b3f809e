-- The facts of each device, brought together.
use Rattle.std.proofs.Common.{◌≡◌, ◌+◌, ◌<◌, ℕ, List, [], ◌∷◌, ◌++◌, refl, sym, ap, ◌∙◌, Option, length, get_or, map, drop, arith}
use Rattle.std.specs.List.{range_with_len}
use Rattle.std.proofs.lemmas.List.{length-map, length-drop, drop_more, get_or-map}
use Rattle.std.proofs.lemmas.List.FromFn.{fill_by_all, map-range_with_len_more}
use Rattle.stack_config.specs.declared.facts.DeviceFacts.{DeviceFacts}
use Rattle.stack_config.specs.declared.facts.Facts.{Facts}
use Rattle.stack_config.specs.Facts.{AreFacts}
use Rattle.stack_config.specs.declared.keys.LineKey.{LineKey}
use Rattle.stack_config.specs.Keys.{keys_from, zero_digests_of}
use Rattle.stack_rules.specs.declared.lower.Lower.{Lower}
use Rattle.stack_rules.specs.Descend.{depth, read_cost, write_cost}
use Rattle.stack_rules.specs.Kept.{AreLowers, each_mapped}
use Rattle.stack_rules.specs.Records.{Configuration, DeviceRecord}
use Rattle.stack_rules.proofs.lemmas.KeptLemmas.{length-each_mapped, length-lowers}
use Rattle.stack_loader.specs.Facts.{facts_at}

-- the first of what is left of a list from place k on, and what is left after it
pub rest-head : {X : Type 0} (xs ys : List X) (k : ℕ) (x d : X) → x ∷ ys ≡ drop k xs → (k < length xs) × (x ≡ get_or xs k d) × (ys ≡ drop (k + 1) xs)
rest-head {X} xs ys k x d is =
    let inside : k < length xs = omega (arith, ap (λ (l : List X). length l) is, length-drop k xs) in
    let e = is ∙ drop_more xs k d inside in
    (inside, ap (λ (l : List X). get_or l 0 d) e, ap (λ (l : List X). drop 1 l) e)

pub range-push : {X : Type 0} (f : ℕ → X) (k : ℕ) (xs : List X) (x : X) → xs ≡ map f (range_with_len 0 k) → x ≡ f k → xs ++ (x ∷ []) ≡ map f (range_with_len 0 (k + 1))
range-push f k xs x so_far is = rw (so_far, is) (sym (map-range_with_len_more f 0 k k (omega arith)))

-- what f gives for a device
pub device-at : {A : Type 0} (f : DeviceRecord → A) (devices : List DeviceRecord) (k : ℕ) (x : DeviceRecord) (d : A) → k < length devices → x ≡ get_or devices k x → f x ≡ get_or (map f devices) k d
device-at f devices k x d low is = ap f is ∙ sym (get_or-map f devices k x d low)

pub map-map : {A B C : Type 0} (f : B → C) (g : A → B) (xs : List A) → map f (map g xs) ≡ map (λ x. f (g x)) xs
map-map f g [] = refl
map-map f g (x ∷ xs) = ap (λ ys. f (g x) ∷ ys) (map-map f g xs)

field : {A : Type 0} {g : ℕ → DeviceFacts} {n : ℕ} {facts : List DeviceFacts} → facts ≡ map g (range_with_len 0 n) → (f : DeviceFacts → A) (xs : List A) (d : A) → length xs ≡ n → ((i : ℕ) → get_or xs i d ≡ f (g i)) → map f facts ≡ xs
field {g = g} {n = n} are f xs d long is = ap (map f) are ∙ map-map f g (range_with_len 0 n) ∙ sym (fill_by_all (λ i. f (g i)) xs n d long (λ k low. is k))

pub facts-are : (c : Configuration) (depths reads writes : List ℕ) (lowers : List (List (List Lower))) (facts : Facts) → facts.devices.items ≡ map (facts_at c.devices depths reads writes lowers) (range_with_len 0 (length c.devices))
    → depths ≡ each_mapped (depth c) (length c.devices) → reads ≡ each_mapped (read_cost c) (length c.devices) → writes ≡ each_mapped (write_cost c) (length c.devices) → AreLowers c lowers → AreFacts c facts
facts-are c depths reads writes lowers facts is deep read written named =
    let n = length c.devices in
    let keys : DeviceRecord → List LineKey = λ d. keys_from 0 d.table in
    let digests : DeviceRecord → List (Option (List ℕ)) = λ d. zero_digests_of d.table in
    record {
      depths = field is (λ (f : DeviceFacts). f.depth) depths 0 (length-each_mapped (depth c) n depths deep) (λ i. refl) ∙ deep;
      reads = field is (λ (f : DeviceFacts). f.read_cost) reads 0 (length-each_mapped (read_cost c) n reads read) (λ i. refl) ∙ read;
      writes = field is (λ (f : DeviceFacts). f.write_cost) writes 0 (length-each_mapped (write_cost c) n writes written) (λ i. refl) ∙ written;
      lowers = rw (field is (λ (f : DeviceFacts). f.lowers) lowers [] (length-lowers c lowers named) (λ i. refl)) named;
      keys = field is (λ (f : DeviceFacts). f.keys) (map keys c.devices) [] (length-map c.devices keys) (λ i. refl);
      zero_digests = field is (λ (f : DeviceFacts). f.zero_digests) (map digests c.devices) [] (length-map c.devices digests) (λ i. refl);
    }
