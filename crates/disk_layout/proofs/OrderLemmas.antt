-- Partitions in order have no fault.
use Rattle.std.proofs.Common.{◌≡◌, ◌∙◌, ◌+◌, ◌≤◌, ◌<◌, ◌&&◌, ◌||◌, ℕ, Bool, true, false, cond, not, nat_le, nat_lt, List, [], ◌∷◌, ◌++◌, Option, None, Some, ap, arith, refl}
use Rattle.std.specs.Bool.{⊤}
use Rattle.std.specs.List.{list_any}
use Rattle.std.proofs.lemmas.Bool.Decides.{nat_tests}
use Rattle.partition_table.specs.declared.partition.Partition.{Partition}
use Rattle.partition_table.specs.declared.table_fault.TableFault.{TableFault}
use Rattle.partition_table.specs.declared.table_fault.TableFault.TheVariants.{Backwards, OutsideUsable, Overlap}
use Rattle.partition_table.specs.Headers.{table_header}
use Rattle.partition_table.specs.Partitions.{fault_behind, is_usable, or_fault, partition_fault, partitions_overlap}
use Rattle.disk_layout.specs.Written.{AreInOrder}

-- ---- tests

pub le-true : (m n : ℕ) → m ≤ n → nat_le m n ≡ true
le-true m n h = grind (arith, nat_tests)

pub lt-true : (m n : ℕ) → m < n → nat_lt m n ≡ true
lt-true m n h = grind (arith, nat_tests)

pub le-false : (m n : ℕ) → n < m → nat_le m n ≡ false
le-false m n h = grind (arith, nat_tests)

lt-false : (m n : ℕ) → n ≤ m → nat_lt m n ≡ false
lt-false m n h = grind (arith, nat_tests)

pub and-true : (a b : Bool) → a ≡ true → b ≡ true → (a && b) ≡ true
and-true true b p q = q
and-true false b p q = cc

and-false : (a b : Bool) → b ≡ false → (a && b) ≡ false
and-false true b q = q
and-false false b q = refl

-- ---- partitions before a sector

abbrev AreBefore : ℕ → List Partition → Type 0
AreBefore from [] = ⊤
AreBefore from (q ∷ qs) = (q.last < from) × AreBefore from qs

before-more : (from : ℕ) (qs : List Partition) (p : Partition) → AreBefore from qs → from ≤ p.first → p.first ≤ p.last → AreBefore (p.last + 1) (qs ++ p ∷ [])
before-more from [] p before a b = (omega arith, tt)
before-more from (q ∷ qs) p before a b = (omega (arith, before.0), before-more from qs p before.1 a b)

none-overlap : (from : ℕ) (qs : List Partition) (p : Partition) → AreBefore from qs → from ≤ p.first → list_any (λ q. partitions_overlap q p) qs ≡ false
none-overlap from [] p before a = refl
none-overlap from (q ∷ qs) p before a =
    ap (λ (b : Bool). b || list_any (λ q. partitions_overlap q p) qs) (and-false (nat_le q.first p.last) (nat_le p.first q.last) (le-false p.first q.last (omega (arith, before.0, a))))
    ∙ none-overlap from qs p before.1 a

no-fault : (a b f : Bool) (x y z : TableFault) → a ≡ false → b ≡ true → f ≡ false → cond a (Some x) (cond (not b) (Some y) (cond f (Some z) None)) ≡ None
no-fault false true false x y z p q r = refl
no-fault true b f x y z p q r = cc
no-fault false false f x y z p q r = cc
no-fault false true true x y z p q r = cc

module _ (header : List ℕ) (last : ℕ) (last_is : (table_header header).last_usable ≡ last) where
  pub order-faultless : (n from : ℕ) (before ps : List Partition) → (table_header header).first_usable ≤ from → AreBefore from before → AreInOrder n from last ps
      → fault_behind (table_header header) before ps ≡ None
  order-faultless n from before [] first done order = refl
  order-faultless n from before (p ∷ ps) first done order =
      let usable : is_usable (table_header header) p ≡ true =
      and-true (nat_le (table_header header).first_usable p.first) (nat_le p.last (table_header header).last_usable) (le-true _ _ (omega (arith, first, order.1))) (le-true _ _ (omega (arith, last_is, order.3))) in
      let here : partition_fault (table_header header) before p ≡ None =
      no-fault (nat_lt p.last p.first) (is_usable (table_header header) p) (list_any (λ q. partitions_overlap q p) before) (Backwards p.number) (OutsideUsable p.number) (Overlap p.number)
      (lt-false p.last p.first order.2) usable (none-overlap from before p done order.1) in
      ap (λ (f : Option TableFault). or_fault f (fault_behind (table_header header) (before ++ p ∷ []) ps)) here
      ∙ order-faultless (n + 1) (p.last + 1) (before ++ p ∷ []) ps (omega (arith, first, order.1, order.2)) (before-more from before p done order.1 order.2) order.5
