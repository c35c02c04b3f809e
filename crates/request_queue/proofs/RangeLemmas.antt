-- The checks of a range.
use Rattle.std.proofs.Common.{◌≡◌, ◌⊎◌, ◌<◌, ◌≤◌, ℕ, ◌+◌, true, false, Bool, List, refl, ap, sym, ◌∙◌, arith, inl, inr, nat_lt, ◌==◌, Ok, Err, Option, Some, None}
use Rattle.std.specs.Prelude.{option_map}
use Rattle.std.proofs.lemmas.Bool.{lt-ltb}
use Rattle.stack_rules.specs.declared.lower.DevId.{DevId}
use Rattle.stack_rules.specs.Records.{Configuration}
use Rattle.stack_rules.specs.Names.{mapped, device_named, size}
use Rattle.request_queue.specs.declared.fault.SubmitFault.TheVariants.{NoSuchDevice, OutOfRange, Length}
use Rattle.request_queue.specs.Ranges.{range_at, range_in, range_of}

-- ---- names

pub named-none : (o : Option ℕ) → None ≡ option_map {U = DevId} (λ d. record { 0 = d }) o → o ≡ None
named-none None e = refl
named-none (Some d) e = let one : DevId = record { 0 = d } in let clash : None ≡ Some one = e in cc

pub named-some : (o : Option ℕ) (d : DevId) → Some d ≡ option_map {U = DevId} (λ d. record { 0 = d }) o → o ≡ Some d.0
named-some None d e = let clash : Some d ≡ None = e in cc
named-some (Some x) d e =
    let one : DevId = record { 0 = x } in
    let same : Some d ≡ Some one = e in
    let inner : d ≡ one = cc in
    ap (λ y. Some y.0) (sym inner)

-- ---- the checks

pub range_of-none : (c : Configuration) (name : List ℕ) (first count : ℕ) → device_named c name ≡ None → range_of c name first count ≡ Err NoSuchDevice
unfolding range_of
range_of-none c name first count none = ap (λ o. range_in c o first count) none

pub range_of-past : (c : Configuration) (name : List ℕ) (first count d : ℕ) → device_named c name ≡ Some d → size c (mapped d) < first + count → range_of c name first count ≡ Err OutOfRange
unfolding range_of
range_of-past c name first count d some past =
    let test : nat_lt (size c (mapped d)) (first + count) ≡ true = lt-ltb (size c (mapped d)) (first + count) past in
    let one : range_in c (Some d) first count ≡ Err OutOfRange = rw test refl in
    ap (λ o. range_in c o first count) some ∙ one

not_less : (a b : ℕ) → b ≤ a → nat_lt a b ≡ false
not_less a b le = go (nat_lt a b) refl
  where
    go : (t : Bool) → nat_lt a b ≡ t → nat_lt a b ≡ false
    go false e = e
    go true e = let lt : a < b = Rattle.std.proofs.lemmas.Bool.ltb-true a b e in absurd (omega arith)

pub range_of-length : (c : Configuration) (name : List ℕ) (first count d : ℕ) → device_named c name ≡ Some d → first + count ≤ size c (mapped d)
    → (count ≡ 0) ⊎ (2048 < count) → range_of c name first count ≡ Err Length
unfolding range_of
range_of-length c name first count d some inside bad =
    let test : nat_lt (size c (mapped d)) (first + count) ≡ false = not_less (size c (mapped d)) (first + count) inside in
    let one : range_in c (Some d) first count ≡ Err Length = rw test (which bad) in
    ap (λ o. range_in c o first count) some ∙ one
  where
    which : (count ≡ 0) ⊎ (2048 < count) → Rattle.std.specs.Prelude.if◌then◌else◌ (Rattle.std.specs.Prelude.◌||◌ (count == 0) (nat_lt 2048 count)) (Err Length) (Ok (range_at d first count)) ≡ Err Length
    which (inl zero) = rw zero refl
    which (inr long) = let test : nat_lt 2048 count ≡ true = lt-ltb 2048 count long in let any : (count == 0) ≡ false = grind (arith, long) in rw (any, test) refl

pub range_of-ok : (c : Configuration) (name : List ℕ) (first count d : ℕ) → device_named c name ≡ Some d → first + count ≤ size c (mapped d) → 0 < count → count ≤ 2048
    → range_of c name first count ≡ Ok (range_at d first count)
unfolding range_of
range_of-ok c name first count d some inside any few =
    let test : nat_lt (size c (mapped d)) (first + count) ≡ false = not_less (size c (mapped d)) (first + count) inside in
    let more : nat_lt 2048 count ≡ false = not_less 2048 count few in
    let zero : (count == 0) ≡ false = grind (arith, any) in
    let one : range_in c (Some d) first count ≡ Ok (range_at d first count) = rw (test, zero, more) refl in
    ap (λ o. range_in c o first count) some ∙ one
