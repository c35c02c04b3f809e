-- Leaves that no rule refuses.
use Rattle.std.proofs.Common.{◌≡◌, ◌≤◌, List, [], ◌∷◌, refl, Bool, true, false, not, ◌||◌, cond, Option, Some, None, length, map, nat_lt}
use Rattle.std.specs.Prelude.{IsTrue}
use Rattle.std.specs.List.{AllByRecursion, IsDistinct, list_any}
use Rattle.std.specs.Str.{bytes_eq}
use Rattle.std.proofs.lemmas.Bool.{ltb-false}
use Rattle.std.proofs.lemmas.List.Elements.{All-from_recursion}
use Rattle.stack_rules.specs.declared.refusal.ConfigFault.{ConfigFault}
use Rattle.stack_rules.specs.declared.refusal.ConfigFault.TheVariants.{DuplicateLeaf, TooMany, BadName, TooLarge}
use Rattle.stack_rules.specs.Records.{LeafRecord}
use Rattle.stack_rules.specs.Leaves.{has_duplicate, first_leaf_fault}
use Rattle.stack_rules.specs.Rules.{AreLeaves, is_leaf_name, most_leaves, most_sectors}

none-or : (a b : Bool) → (a || b) ≡ false → (a ≡ false) × (b ≡ false)
none-or true b h = let clash : true ≡ false = h in cc
none-or false b h = (refl, h)

pub none-all : {X : Type 0} (p : X → Bool) (xs : List X) → list_any p xs ≡ false → AllByRecursion (λ x. p x ≡ false) xs
none-all p [] h = tt
none-all p (x ∷ xs) h = let both = none-or (p x) (list_any p xs) h in (both.0, none-all p xs both.1)

pub change : {X : Type 0} (P Q : X → Type 0) → ((x : X) → P x → Q x) → (xs : List X) → AllByRecursion P xs → AllByRecursion Q xs
change P Q f [] all = tt
change P Q f (x ∷ xs) all = (f x all.0, change P Q f xs all.1)

pub over_map : {X Y : Type 0} (P : Y → Type 0) (f : X → Y) (xs : List X) → AllByRecursion (λ x. P (f x)) xs → AllByRecursion P (map f xs)
over_map P f [] all = tt
over_map P f (x ∷ xs) all = (all.0, over_map P f xs all.1)

distinct : (leaves : List LeafRecord) → has_duplicate leaves ≡ false → IsDistinct bytes_eq (map (λ l. l.name) leaves)
unfolding IsDistinct
distinct [] h = tt
distinct (l ∷ more) h =
    let both = none-or (list_any (λ (other : LeafRecord). bytes_eq l.name other.name) more) (has_duplicate more) h in
    (over_map (λ name. bytes_eq l.name name ≡ false) (λ (other : LeafRecord). other.name) more (none-all (λ (other : LeafRecord). bytes_eq l.name other.name) more both.0), distinct more both.1)

true-not : (b : Bool) → not b ≡ false → IsTrue b
true-not true h = refl
true-not false h = let clash : true ≡ false = h in cc

abbrev chosen : Bool → Bool → Bool → Bool → Option ConfigFault
chosen a b e f = cond a (Some DuplicateLeaf) (cond b (Some TooMany) (cond e (Some BadName) (cond f (Some TooLarge) None)))

none-chosen : (a b e f : Bool) → chosen a b e f ≡ None → (a ≡ false) × (b ≡ false) × (e ≡ false) × (f ≡ false)
none-chosen true b e f h = let clash : Some DuplicateLeaf ≡ None = h in cc
none-chosen false true e f h = let clash : Some TooMany ≡ None = h in cc
none-chosen false false true f h = let clash : Some BadName ≡ None = h in cc
none-chosen false false false true h = let clash : Some TooLarge ≡ None = h in cc
none-chosen false false false false h = (refl, refl, refl, refl)

pub leaves-sound : (leaves : List LeafRecord) → first_leaf_fault leaves ≡ None → AreLeaves leaves
unfolding first_leaf_fault
leaves-sound leaves h =
    let all = none-chosen (has_duplicate leaves) (nat_lt most_leaves (length leaves)) (list_any (λ (l : LeafRecord). not (is_leaf_name l.name)) leaves) (list_any (λ (l : LeafRecord). nat_lt most_sectors l.sectors) leaves) h in
    record {
      count = ltb-false most_leaves (length leaves) all.1;
      distinct = distinct leaves all.0;
      names = All-from_recursion (λ (l : LeafRecord). IsTrue (is_leaf_name l.name)) leaves
          (change (λ (l : LeafRecord). not (is_leaf_name l.name) ≡ false) (λ (l : LeafRecord). IsTrue (is_leaf_name l.name)) (λ l. true-not (is_leaf_name l.name)) leaves (none-all (λ (l : LeafRecord). not (is_leaf_name l.name)) leaves all.2));
      sizes = All-from_recursion (λ (l : LeafRecord). l.sectors ≤ most_sectors) leaves
          (change (λ (l : LeafRecord). nat_lt most_sectors l.sectors ≡ false) (λ (l : LeafRecord). l.sectors ≤ most_sectors) (λ l. ltb-false most_sectors l.sectors) leaves (none-all (λ (l : LeafRecord). nat_lt most_sectors l.sectors) leaves all.3));
    }
