-- A refusal for a cycle is that of the rule on cycles, at the first device on one.
use Rattle.std.proofs.Common.{◌≡◌, ◌+◌, ◌-◌, ◌≤◌, ◌<◌, ℕ, List, [], ◌∷◌, ◌++◌, refl, sym, ap, ◌∙◌, Bool, true, false, ◌⊎◌, inl, inr, Option, Some, None, arith}
use Rattle.std.specs.Prelude.{flat_map}
use Rattle.std.specs.List.{AllByRecursion, enumerate_from, list_any}
use Rattle.std.specs.Str.{bytes_eq}
use Rattle.std.proofs.Math.Decide.{dec_le}
use Rattle.dm_table.specs.declared.stack.Entry.{Entry}
use Rattle.stack_rules.specs.declared.refusal.LoadKind.{LoadKind}
use Rattle.stack_rules.specs.declared.refusal.LoadKind.TheVariants.{DuplicateName, TooMany, NoSuchDevice, StandsOnItself, ZeroLength, Gap, TooLarge, StripesDontDivide, UnitDoesntDivide, IvOffset, ParityDoesntCover, BeyondDevice, LineBeyondTree, TreeBeyondDevice, NeedsReadOnly, LowerReadOnly, TooDeep, CostTooLarge}
use Rattle.stack_rules.specs.declared.refusal.Refusal.{Refusal}
use Rattle.stack_rules.specs.Records.{Configuration, DeviceRecord}
use Rattle.stack_rules.specs.Cycles.{is_on_cycle}
use Rattle.stack_rules.specs.Rules.{first, refuse, rules, first_refusal, after_load, IsRefusal, duplicate_names, cycles, unknown_names, each_device, table_rules, device_rules, depth_rules, cost_rules, is_too_many}
use Rattle.stack_rules.proofs.lemmas.CycleLemmas.{is_on_cycle-decides}

-- ---- rules of other kinds

abbrev IsOtherKind : LoadKind → Type 0
IsOtherKind kind = kind ≡ StandsOnItself → ⊥

abbrev IsOther : Option Refusal → Type 0
IsOther None = Unit {0}
IsOther (Some refusal) = IsOtherKind refusal.kind

AreOther : List (Option Refusal) → Type 0
AreOther rules = AllByRecursion IsOther rules

other-refuse : (kind : LoadKind) (d l : ℕ) (b : Bool) → IsOtherKind kind → IsOther (refuse kind d l b)
other-refuse kind d l true other = other
other-refuse kind d l false other = tt

others-cons : (kind : LoadKind) (d l : ℕ) (b : Bool) (more : List (Option Refusal)) → IsOtherKind kind → AreOther more → AreOther (refuse kind d l b ∷ more)
unfolding AreOther
others-cons kind d l b more other rest = (other-refuse kind d l b other, rest)

others-none : AreOther []
unfolding AreOther
others-none = tt

others-append : (xs ys : List (Option Refusal)) → AreOther xs → AreOther ys → AreOther (xs ++ ys)
unfolding AreOther
others-append [] ys p q = q
others-append (x ∷ xs) ys p q = (p.0, others-append xs ys p.1 q)

others-flat : {X : Type 0} (f : X → List (Option Refusal)) (xs : List X) → ((x : X) → AreOther (f x)) → AreOther (flat_map f xs)
others-flat f [] all = others-none
others-flat f (x ∷ xs) all = others-append (f x) (flat_map f xs) (all x) (others-flat f xs all)

first-other : (rules : List (Option Refusal)) (r : Refusal) → AreOther rules → first rules ≡ Some r → r.kind ≡ StandsOnItself → ⊥
unfolding AreOther
first-other [] r others h cycle = let clash : None ≡ Some r = h in cc
first-other (None ∷ more) r others h cycle = first-other more r others.1 h cycle
first-other (Some q ∷ more) r others h cycle = let same : q ≡ r = cc in others.0 (ap (λ (r : Refusal). r.kind) same ∙ cycle)

others-one : (kind : LoadKind) (d l : ℕ) (b : Bool) → IsOtherKind kind → AreOther (refuse kind d l b ∷ [])
others-one kind d l b other = others-cons kind d l b [] other others-none

others-names : (earlier : List (List ℕ)) (text : List Entry) → AreOther (duplicate_names earlier text)
others-names earlier [] = others-none
others-names earlier (e ∷ more) = others-cons DuplicateName e.number 0 (list_any (bytes_eq e.name) earlier) (duplicate_names (e.name ∷ earlier) more) (λ h. cc) (others-names (e.name ∷ earlier) more)

others-unknown : (c : Configuration) → AreOther (unknown_names c)
others-unknown c = others-flat _ (enumerate_from 1 c.devices) (λ p. others-flat _ (enumerate_from 1 p.1.table) (λ q. others-one NoSuchDevice p.0 q.0 _ (λ h. cc)))

others-lines : (c : Configuration) → AreOther (each_device c (table_rules c))
others-lines c = others-flat _ (enumerate_from 1 c.devices) (λ p. others-flat _ (enumerate_from 1 p.1.table) (λ q.
    others-cons ZeroLength p.0 q.0 _ _ (λ h. cc) (others-cons Gap p.0 q.0 _ _ (λ h. cc) (others-cons TooLarge p.0 q.0 _ _ (λ h. cc)
    (others-cons StripesDontDivide p.0 q.0 _ _ (λ h. cc) (others-cons UnitDoesntDivide p.0 q.0 _ _ (λ h. cc) (others-cons IvOffset p.0 q.0 _ _ (λ h. cc) (others-cons ParityDoesntCover p.0 q.0 _ _ (λ h. cc) (others-cons BeyondDevice p.0 q.0 _ _ (λ h. cc)
    (others-cons LineBeyondTree p.0 q.0 _ _ (λ h. cc) (others-cons TreeBeyondDevice p.0 q.0 _ _ (λ h. cc) (others-cons NeedsReadOnly p.0 q.0 _ _ (λ h. cc) (others-one LowerReadOnly p.0 q.0 _ (λ h. cc))))))))))))))

others-depths : (c : Configuration) → AreOther (depth_rules c)
others-depths c = others-flat _ (enumerate_from 1 c.devices) (λ p. others-one TooDeep p.0 0 _ (λ h. cc))

others-costs : (c : Configuration) → AreOther (cost_rules c)
others-costs c = others-flat _ (enumerate_from 1 c.devices) (λ p. others-one CostTooLarge p.0 0 _ (λ h. cc))

-- ---- the rule of cycles

first-parts : (xs ys : List (Option Refusal)) (r : Refusal) → first (xs ++ ys) ≡ Some r → (first xs ≡ Some r) ⊎ (first ys ≡ Some r)
first-parts [] ys r h = inr h
first-parts (None ∷ xs) ys r h = first-parts xs ys r h
first-parts (Some q ∷ xs) ys r h = inl h

-- where the second part is of other kinds, a cycle is found in the first
from-left : (xs ys : List (Option Refusal)) (r : Refusal) → AreOther ys → r.kind ≡ StandsOnItself → first (xs ++ ys) ≡ Some r → first xs ≡ Some r
from-left xs ys r others cycle h = elim (first-parts xs ys r h) [ inl here ↦ here | inr there ↦ absurd (first-other ys r others there cycle) ]

from-right : (xs ys : List (Option Refusal)) (r : Refusal) → AreOther xs → r.kind ≡ StandsOnItself → first (xs ++ ys) ≡ Some r → first ys ≡ Some r
from-right xs ys r others cycle h = elim (first-parts xs ys r h) [ inl here ↦ absurd (first-other xs r others here cycle) | inr there ↦ there ]

cycles-first : (c : Configuration) (r : Refusal) → r.kind ≡ StandsOnItself → first (rules c) ≡ Some r → first (cycles c) ≡ Some r
cycles-first c r cycle h =
    let many : List (Option Refusal) = refuse TooMany 0 0 (is_too_many c.devices) ∷ unknown_names c in
    from-right many (cycles c) r (others-cons TooMany 0 0 (is_too_many c.devices) (unknown_names c) (λ h. cc) (others-unknown c)) cycle
    (from-left (many ++ cycles c) (each_device c (table_rules c)) r (others-lines c) cycle
    (from-left (device_rules c) (depth_rules c) r (others-depths c) cycle
    (from-left (device_rules c ++ depth_rules c) (cost_rules c) r (others-costs c) cycle h)))

-- the first of some devices on a cycle, which are counted from k
record IsFirstFrom (c : Configuration) (k number : ℕ) : Type 0 where
  place : ℕ
  counted : number ≡ place + 1
  low : k ≤ place
  on : is_on_cycle c place ≡ true
  earlier : (e : ℕ) → k ≤ e → e < place → is_on_cycle c e ≡ false

cycles-from : (c : Configuration) (k : ℕ) (xs : List DeviceRecord) (r : Refusal)
    → first (flat_map (λ (p : ℕ × DeviceRecord). refuse StandsOnItself p.0 0 (is_on_cycle c (p.0 - 1)) ∷ []) (enumerate_from (k + 1) xs)) ≡ Some r → IsFirstFrom c k r.device
cycles-from c k [] r h = let clash : None ≡ Some r = h in cc
cycles-from c k (x ∷ xs) r h = go (is_on_cycle c ((k + 1) - 1)) refl h (λ later. cycles-from c (k + 1) xs r later)
  where
    rest : List (Option Refusal)
    rest = flat_map (λ (p : ℕ × DeviceRecord). refuse StandsOnItself p.0 0 (is_on_cycle c (p.0 - 1)) ∷ []) (enumerate_from ((k + 1) + 1) xs)

    here : (k + 1) - 1 ≡ k
    here = omega arith

    at_or_after : (e : ℕ) → is_on_cycle c k ≡ false → (k + 1 ≤ e → is_on_cycle c e ≡ false) → k ≤ e → Dec (k + 1 ≤ e) → is_on_cycle c e ≡ false
    at_or_after e first-off later low (yes above) = later above
    at_or_after e first-off later low (no under) = let same : k ≡ e = grind (arith, low, under) in rw (← same) first-off

    go : (b : Bool) → is_on_cycle c ((k + 1) - 1) ≡ b → first (refuse StandsOnItself (k + 1) 0 b ∷ rest) ≡ Some r → (first rest ≡ Some r → IsFirstFrom c (k + 1) r.device) → IsFirstFrom c k r.device
    go true on h later =
        let found : Refusal = record { kind = StandsOnItself; device = k + 1; line = 0 } in
        let same : found ≡ r = cc in
        record { place = k; counted = ap (λ (r : Refusal). r.device) (sym same); low = omega arith; on = rw here at on; earlier = λ e low less. absurd (omega (arith, low, less)) }
    go false off h later =
        let more = later h in
        record { place = more.place; counted = more.counted; low = omega (arith, more.low); on = more.on; earlier = λ e low less. at_or_after e (rw here at off) (λ above. more.earlier e above less) low (dec_le (k + 1) e) }

pub refusal-of : (c : Configuration) (text : List Entry) (r : Refusal) → first_refusal c text ≡ Some r → IsRefusal c text r
unfolding first_refusal
refusal-of c text r h = record {
  first = h;
  cycle = λ cycle.
      let now : Configuration = after_load c text in
      let found = cycles-from now 0 now.devices r (cycles-first now r cycle (from-right (duplicate_names [] text) (rules now) r (others-names [] text) cycle h)) in
      record {
        place = found.place;
        counted = found.counted;
        on_cycle = (is_on_cycle-decides now found.place).0 found.on;
        earlier = λ e less on. let clash : true ≡ false = sym ((is_on_cycle-decides now e).1 on) ∙ found.earlier e (omega arith) less in cc;
      };
}
