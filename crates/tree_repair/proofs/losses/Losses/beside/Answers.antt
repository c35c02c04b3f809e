use Rattle.std.proofs.Common.{ℕ, ◌≡◌, ◌≤◌, ◌-◌, ◌%◌, false, List, length, length-drop, arith, take, drop, ltb, leb, rules, subst, sym}
use Rattle.std.specs.List.{AllWithin}
use Rattle.std.specs.List.Sorted.{IsNonDecreasingBy}
use Rattle.std.proofs.lemmas.List.{take_all}
use Rattle.std.proofs.lemmas.List.Sorted.{IsNonDecreasingBy-drop, IsPartitionPoint-from_clause, IsPartitionedBy-leb, IsPartitionedBy-ltb}
use Rattle.tree_repair.specs.Losing.{AreLostAlike}
use Rattle.tree_repair.proofs.LosingLemmas.{run-alike}
use Rattle.tree_repair.proofs.losses.Losses.beside.Goals as goal

pub returns : goal.returns
returns c =
    let xs = c.as_slice-lost.result.now in
    let l = c.args.self.now.layout in
    let key : ℕ → ℕ = λ n. n % c.args.self.now.rounds in
    let round = c.args.index % c.args.self.now.rounds in
    let first = c.partition_point-first.result in
    let count = c.partition_point-count.result in
    let sorted : IsNonDecreasingBy key xs = subst (IsNonDecreasingBy key) (sym c.as_slice-lost.ensures.value) c.args.self.now.in_order in
    let before = IsPartitionPoint-from_clause (λ n. ltb (key n) round) xs first c.partition_point-first.ensures.partitioned (IsPartitionedBy-ltb key xs round sorted) (λ a r q k. search rules) in
    let rest = take (length xs - first) (drop first xs) in
    let same : rest ≡ drop first xs = take_all (length xs - first) (drop first xs) (omega (arith, length-drop first xs)) in
    let rest_sorted : IsNonDecreasingBy key rest = subst (IsNonDecreasingBy key) (sym same) (IsNonDecreasingBy-drop key first xs sorted) in
    let behind = IsPartitionPoint-from_clause (λ n. leb (key n) round) rest count c.partition_point-count.ensures.partitioned (IsPartitionedBy-leb key rest round rest_sorted) (λ a r q k. search rules) in
    let bound : count ≤ length (drop first xs) = subst (λ (ys : List ℕ). count ≤ length ys) same c.partition_point-count.ensures.bound in
    let above : AllWithin (λ y. leb (key y) round ≡ false) (drop first xs) count (length (drop first xs)) = subst (λ (ys : List ℕ). AllWithin (λ y. leb (key y) round ≡ false) ys count (length ys)) same behind.1 in
    let alike = run-alike l c.args.index c.args.self.now.rounds xs first count c.requires.layout c.requires.index c.args.self.now.rounds_are bound before.0 above in
    subst (λ (all : List ℕ). AreLostAlike l c.args.index (take count rest) all) c.as_slice-lost.ensures.value
    (subst (λ (ys : List ℕ). AreLostAlike l c.args.index (take count ys) xs) (sym same) alike)
