-- Costs, depth by depth.
use Rattle.std.proofs.Common.{◌≡◌, ◌+◌, ◌*◌, ◌≤◌, ◌<◌, ◌==◌, ℕ, zero, suc, max, List, [], ◌∷◌, refl, sym, ap, subst, ◌∙◌, Option, Some, None, length, get_or, map, slice_index, arith, length-set}
use Rattle.std.specs.Prelude.{slice_get, slice_set}
use Rattle.std.specs.Option.{option_map_or}
use Rattle.std.specs.Borrow.{Bor}
use Rattle.std.specs.List.{AllByRecursion}
use Rattle.std.proofs.Math.Decide.{dec_le}
use Rattle.std.proofs.Math.Path.{fun_ext}
use Rattle.std.proofs.lemmas.Bool.{cond-true, cond-false, eq-eqb, ne_eqb}
use Rattle.std.proofs.lemmas.List.{get_or-set_same, get_or-set_other, length-map}
use Rattle.std.proofs.lemmas.List.FromFn.{fill_by_all, get_or-map-range_with_len}
use Rattle.dm_table.specs.declared.table.Base.{Base}
use Rattle.dm_table.specs.declared.table.Line.{Line}
use Rattle.dm_table.specs.declared.table.Target.{Target}
use Rattle.dm_table.specs.declared.table.Target.TheVariants.{Crypt, Verity}
use Rattle.dm_table.specs.declared.crypt.Crypt.{Crypt as CryptRecord}
use Rattle.dm_table.specs.declared.verity.Verity.{Verity as VerityRecord}
use Rattle.dm_table.specs.declared.parity.Parity.{Parity}
use Rattle.stack_loader.specs.declared.cost.Direction.{Direction}
use Rattle.stack_loader.specs.declared.cost.Direction.TheVariants.{Read, Write}
use Rattle.stack_rules.specs.declared.lower.Lower.{Lower}
use Rattle.stack_rules.specs.declared.lower.Lower.TheVariants.{Leaf as leaf, Device as device}
use Rattle.stack_rules.specs.Records.{Configuration, DeviceRecord}
use Rattle.stack_rules.specs.Names.{mapped, named, names, lowers_of, lines_of}
use Rattle.stack_rules.specs.Trees.{block_sectors, path_blocks, path_sectors, mend_sectors, verity_of}
use Rattle.stack_rules.specs.targets.Verity.{parity_bases, mend_cost}
use Rattle.stack_rules.specs.Units.{crypt_of, unit_write_cost}
use Rattle.stack_rules.specs.Descend.{greatest, known, by_name, depth, descend, cost_rule, line_read_cost, line_write_cost, read_cost, write_cost}
use Rattle.stack_rules.specs.Kept.{each_mapped, meanings}
use Rattle.stack_rules.specs.Passing.{Mean, RowsMean}
use Rattle.stack_loader.specs.Costs.{line_cost, cost, cost_in, dearest, AreLineRows, AreMeasured, AreCosts, capped_cost}
use Rattle.stack_rules.specs.Rules.{most_depth}
use Rattle.stack_rules.proofs.lemmas.LastCaseLemmas.{reads-dearest, writes-dearest}
use Rattle.stack_rules.proofs.lemmas.UnrollLemmas.{turn, falls-at}
use Rattle.stack_rules.proofs.lemmas.CostRuleLemmas.{IsLineLocal, line_read_cost-local, line_write_cost-local, cost_rule-local, cost-rule}
use Rattle.stack_loader.proofs.lemmas.CappedLemmas.{rule-capped}
use Rattle.stack_rules.proofs.lemmas.KeptLemmas.{lines_of-read}
use Rattle.stack_rules.proofs.lemmas.ListLemmas.{slice_get-read}
use Rattle.stack_rules.proofs.lemmas.NameMeaningLemmas.{table-at}
use Rattle.stack_rules.proofs.lemmas.LowerLemmas.{IsInside, lowers-inside, named-inside}
use Rattle.stack_rules.proofs.lemmas.ValidLemmas.{read_cost-leaf}

-- ---- one line

names-row : (c : Configuration) (below : Lower → ℕ) (row : List Lower) (ns : List (List ℕ)) → Mean c row ns → greatest (map (by_name c 0 below) ns) ≡ greatest (map below row)
names-row c below [] [] means = refl
names-row c below [] (n ∷ ns) means = let clash : [] ≡ map (named c) (n ∷ ns) = means in cc
names-row c below (l ∷ ls) [] means = let clash : map (λ (lower : Lower). Some lower) (l ∷ ls) ≡ [] = means in cc
names-row c below (l ∷ ls) (n ∷ ns) means =
    let here : Some l ≡ named c n = cc in
    let more : map (λ (lower : Lower). Some lower) ls ≡ map (named c) ns = cc in
    rw (← here) (ap (max (below l)) (names-row c below ls ns more))

-- a line that is neither a verity line nor a crypt line
pub line_read_cost-row : (c : Configuration) (below : Lower → ℕ) (row : List Lower) (target : Target) → None ≡ verity_of target → None ≡ crypt_of target → Mean c row (names target) → greatest (map below row) ≡ line_read_cost (by_name c 0 below) target
line_read_cost-row c below row target plain bare means = sym (reads-dearest target plain bare (map (by_name c 0 below) (names target)) ∙ names-row c below row (names target) means)

pub line_write_cost-row : (c : Configuration) (read : List ℕ → ℕ) (below : Lower → ℕ) (row : List Lower) (target : Target) → None ≡ verity_of target → None ≡ crypt_of target → Mean c row (names target)
    → greatest (map below row) ≡ line_write_cost read (by_name c 0 below) target
line_write_cost-row c read below row target plain bare means =
    sym (writes-dearest target plain bare (map read (names target)) (map (by_name c 0 below) (names target)) ∙ names-row c below row (names target) means)

-- the one lower device of a crypt line
pub crypt-lower : (c : Configuration) (below : Lower → ℕ) (row : List Lower) (crypt : CryptRecord) → Mean c row (names (Crypt crypt)) → option_map_or below (slice_get row 0) 0 ≡ by_name c 0 below crypt.base.device
crypt-lower c below (l ∷ []) crypt means = let first : Some l ≡ named c crypt.base.device = cc in rw (← first) refl
crypt-lower c below [] crypt means = let clash : [] ≡ map (named c) (names (Crypt crypt)) = means in cc
crypt-lower c below (l ∷ m ∷ ls) crypt means = let clash : map (λ (lower : Lower). Some lower) (m ∷ ls) ≡ [] = cc in cc

-- a unit of one sector, and one of several
pub unit-one : (u read write : ℕ) → u ≡ 1 → unit_write_cost u read write ≡ write
unit-one u read write one = cond-true (u == 1) write (u * (read + write)) (eq-eqb u 1 one)

pub unit-more : (u read write : ℕ) → (u ≡ 1 → ⊥) → unit_write_cost u read write ≡ u * (read + write)
unit-more u read write more = cond-false (u == 1) write (u * (read + write)) (ne_eqb u 1 more)

mend-row : (c : Configuration) (below : Lower → ℕ) (row : List Lower) (ns : List (List ℕ)) (verity : VerityRecord) (parity : Option Parity) → Mean c row ns
    → mend_cost verity parity (map below row) ≡ mend_cost verity parity (map (by_name c 0 below) ns)
mend-row c below row ns verity None means = refl
mend-row c below row ns verity (Some parity) means = ap (λ n. mend_sectors verity * n) (sym (names-row c below row ns means))

-- the lower devices of a verity line
pub line_read_cost-verity : (c : Configuration) (below : Lower → ℕ) (row : List Lower) (verity : VerityRecord) → Mean c row (names (Verity verity))
    → block_sectors verity * option_map_or below (slice_get row 0) 0 + path_sectors verity * option_map_or below (slice_get row 1) 0 + path_blocks verity * mend_cost verity verity.parity (map below row) ≡ line_read_cost (by_name c 0 below) (Verity verity)
line_read_cost-verity c below (l ∷ m ∷ ls) verity means =
    let first : Some l ≡ named c verity.data = cc in
    let second : Some m ≡ named c verity.hash = cc in
    let restored = mend-row c below (l ∷ m ∷ ls) (names (Verity verity)) verity verity.parity means in
    ap (λ n. block_sectors verity * n + path_sectors verity * below m + path_blocks verity * mend_cost verity verity.parity (map below (l ∷ m ∷ ls))) (ap (known 0 below) first)
    ∙ ap (λ n. block_sectors verity * by_name c 0 below verity.data + path_sectors verity * n + path_blocks verity * mend_cost verity verity.parity (map below (l ∷ m ∷ ls))) (ap (known 0 below) second)
    ∙ ap (λ n. block_sectors verity * by_name c 0 below verity.data + path_sectors verity * by_name c 0 below verity.hash + path_blocks verity * n) restored
line_read_cost-verity c below [] verity means = let clash : [] ≡ map (named c) (names (Verity verity)) = means in cc
line_read_cost-verity c below (l ∷ []) verity means = let clash : [] ≡ map (named c) (verity.hash ∷ map (λ (base : Base). base.device) (parity_bases verity.parity)) = cc in cc

-- ---- one device

-- the depth of a device, as it is kept
pub depth-kept : (c : Configuration) (rows : List (List (List Lower))) (values : List ℕ) → AreMeasured c rows values → (d : ℕ) → d < length c.devices → get_or values d 0 ≡ depth c (mapped d)
depth-kept c rows values measured d low =
    ap (λ v. get_or v d 0) measured.depths ∙ get_or-map-range_with_len (λ d. depth c (mapped d)) 0 (length c.devices) d d 0 low (omega arith)

-- the cost that the loop writes
pub cost-written : (c : Configuration) (direction : Direction) (costs : List ℕ) (rows : List (List (List Lower))) (values : List ℕ) → AreMeasured c rows values → (d value : ℕ) (x : DeviceRecord) (row : List (List Lower))
    → d < length c.devices → x ≡ get_or c.devices d x → row ≡ get_or rows d row → ((c : Configuration) → RowsMean c row x.table → value ≡ dearest c direction (cost_in costs) x.table)
    → value ≡ dearest c direction (cost_in costs) (lines_of c d)
cost-written c direction costs rows values measured d value x row low is read gives =
    gives c (table-at c rows c.devices d x row measured.lowers low is read)
    ∙ ap (dearest c direction (cost_in costs)) (sym (lines_of-read c d x (slice_get-read c.devices d x low is)))

both : {X : Type 0} (P Q R : X → Type 0) → ((x : X) → P x → Q x → R x) → (xs : List X) → AllByRecursion P xs → AllByRecursion Q xs → AllByRecursion R xs
both P Q R f [] p q = tt
both P Q R f (x ∷ xs) p q = (f x p.0 q.0, both P Q R f xs p.1 q.1)

line_cost-local : (c : Configuration) (direction : Direction) → IsLineLocal (line_cost c direction)
line_cost-local c Read = line_read_cost-local
line_cost-local c (Write reads) = line_write_cost-local (by_name c 0 (cost_in reads.now))

cost-leaf : (c : Configuration) (direction : Direction) (i : ℕ) → cost c direction (leaf i) ≡ 1
unfolding descend
cost-leaf c direction i = refl

one-capped : (direction : Direction) → 1 ≡ capped_cost direction 1
one-capped Read = refl
one-capped (Write reads) = refl

-- the dearest line, where the devices of less depth have their costs
dearest-cost : (c : Configuration) (direction : Direction) (costs : List ℕ) (d : ℕ) → ((x : Lower) → depth c x ≤ most_depth) → length costs ≡ length c.devices
    → AreCosts c direction (depth c (mapped d)) costs → capped_cost direction (dearest c direction (cost_in costs) (lines_of c d)) ≡ capped_cost direction (cost c direction (mapped d))
dearest-cost c direction costs d low count are =
    ap (capped_cost direction) (cost_rule-local c (line_cost c direction) (line_cost-local c direction) (cost_in costs) (λ y. capped_cost direction (cost c direction y)) (mapped d)
    (turn (λ y both. at y both.0 both.1) (lowers_of c (mapped d))
    (both (λ y. depth c y < depth c (mapped d)) (IsInside c) (λ y. (depth c y < depth c (mapped d)) × IsInside c y) (λ y p q. (p, q)) (lowers_of c (mapped d))
    (falls-at c (λ x. let shallow = low x in omega (arith, shallow)) (mapped d)) (lowers-inside c d))))
    ∙ rule-capped c direction (cost c direction) (mapped d)
    ∙ ap (capped_cost direction) (sym (cost-rule c (line_cost c direction) (line_cost-local c direction) low (mapped d)))
  where
    at : (y : Lower) → depth c y < depth c (mapped d) → IsInside c y → cost_in costs y ≡ capped_cost direction (cost c direction y)
    at (leaf i) less inside = one-capped direction ∙ ap (capped_cost direction) (sym (cost-leaf c direction i))
    at (device e) less inside = are.each e.0 (omega (arith, inside, count)) less

-- ---- the devices of one depth

-- the costs of less depth than k, and of depth k those of the first i devices
pub record SettlesSoFar (c : Configuration) (direction : Direction) (k i : ℕ) (costs : List ℕ) : Type 0 where
  pub below : AreCosts c direction k costs
  pub done : (d : ℕ) → d < i → depth c (mapped d) ≡ k → slice_index costs d ≡ capped_cost direction (cost c direction (mapped d))

pub settles_none : (c : Configuration) (direction : Direction) (k : ℕ) (costs : List ℕ) → AreCosts c direction k costs → SettlesSoFar c direction k 0 costs
settles_none c direction k costs are = record { below = are; done = λ d low. absurd (omega (arith, low)) }

pub settles_all : (c : Configuration) (direction : Direction) (k i : ℕ) (costs : List ℕ) → length costs ≤ i → SettlesSoFar c direction k i costs → AreCosts c direction (k + 1) costs
settles_all c direction k i costs past so-far = record { each = λ d low less. go d low less (dec_le k (depth c (mapped d))) }
  where
    go : (d : ℕ) → d < length costs → depth c (mapped d) < k + 1 → Dec (k ≤ depth c (mapped d)) → slice_index costs d ≡ capped_cost direction (cost c direction (mapped d))
    go d low less (yes deep) = so-far.done d (omega (arith, low, past)) (omega (arith, less, deep))
    go d low less (no shallow) = so-far.below.each d low (grind (arith, shallow))

-- a device of another depth
pub settles_skipped : (c : Configuration) (direction : Direction) (k i : ℕ) (costs : List ℕ) → (depth c (mapped i) ≡ k → ⊥) → SettlesSoFar c direction k i costs → SettlesSoFar c direction k (i + 1) costs
settles_skipped c direction k i costs other so-far = record { below = so-far.below; done = λ d low same. go d low same (dec_le i d) }
  where
    go : (d : ℕ) → d < i + 1 → depth c (mapped d) ≡ k → Dec (i ≤ d) → slice_index costs d ≡ capped_cost direction (cost c direction (mapped d))
    go d low same (yes past) = let here : d ≡ i = omega (arith, low, past) in absurd (other (ap (λ d. depth c (mapped d)) (sym here) ∙ same))
    go d low same (no before) = so-far.done d (grind (arith, before)) same

-- a device of depth k, whose cost is written
pub settles_written : (c : Configuration) (direction : Direction) (k i value : ℕ) (costs : List ℕ) → ((x : Lower) → depth c x ≤ most_depth) → length costs ≡ length c.devices → i < length costs
    → depth c (mapped i) ≡ k → value ≡ capped_cost direction (dearest c direction (cost_in costs) (lines_of c i)) → SettlesSoFar c direction k i costs → SettlesSoFar c direction k (i + 1) (slice_set costs i value)
settles_written c direction k i value costs low count inside deep is so-far = record {
  below = record { each = λ d within less. get_or-set_other costs i d value 0 (λ here. apart d less here) ∙ so-far.below.each d (omega (arith, within, length-set {A = ℕ} costs i value)) less };
  done = λ d lower same. go d lower same (dec_le i d);
}
  where
    here-is : value ≡ capped_cost direction (cost c direction (mapped i))
    here-is = is ∙ dearest-cost c direction costs i low count (let P : ℕ → Type 0 = λ k. AreCosts c direction k costs in subst P (sym deep) so-far.below)

    apart : (d : ℕ) → depth c (mapped d) < k → d ≡ i → ⊥
    apart d less here = let same : depth c (mapped d) ≡ depth c (mapped i) = ap (λ d. depth c (mapped d)) here in omega (arith, less, same, deep)

    go : (d : ℕ) → d < i + 1 → depth c (mapped d) ≡ k → Dec (i ≤ d) → slice_index (slice_set costs i value) d ≡ capped_cost direction (cost c direction (mapped d))
    go d lower same (yes past) =
        let here : i ≡ d = omega (arith, lower, past) in
        ap (λ d. slice_index (slice_set costs i value) d) (sym here) ∙ get_or-set_same costs i value 0 inside ∙ here-is ∙ ap (λ d. capped_cost direction (cost c direction (mapped d))) here
    go d lower same (no before) =
        let less : d < i = grind (arith, before) in
        get_or-set_other costs i d value 0 (λ here. omega (arith, here, less)) ∙ so-far.done d less same

-- ---- rows by place

pub rows-table : (rows : List (List (List Lower))) (devices : List DeviceRecord) (d : ℕ) (row : List (List Lower)) (x : DeviceRecord) → AreLineRows rows devices → d < length devices
    → row ≡ get_or rows d row → x ≡ get_or devices d x → length row ≡ length x.table
rows-table rows [] d row x are low read is = let no : ⊥ = omega (arith, low) in absurd no
rows-table [] (y ∷ ys) d row x are low read is = let clash : [] ≡ map (λ (d : DeviceRecord). length d.table) (y ∷ ys) = are in cc
rows-table (r ∷ rs) (y ∷ ys) zero row x are low read is =
    let here : length r ≡ length y.table = cc in ap length read ∙ here ∙ ap (λ (d : DeviceRecord). length d.table) (sym is)
rows-table (r ∷ rs) (y ∷ ys) (suc d) row x are low read is =
    let more : map length rs ≡ map (λ (d : DeviceRecord). length d.table) ys = cc in rows-table rs ys d row x more (omega (arith, low)) read is

pub lowers-rows : (c : Configuration) (rows : List (List (List Lower))) (devices : List DeviceRecord) → map (map (map (λ (lower : Lower). Some lower))) rows ≡ map (meanings c) devices → AreLineRows rows devices
lowers-rows c [] [] are = refl
lowers-rows c [] (y ∷ ys) are = let clash : [] ≡ map (meanings c) (y ∷ ys) = are in cc
lowers-rows c (r ∷ rs) [] are = let clash : map (map (map (λ (lower : Lower). Some lower))) (r ∷ rs) ≡ [] = are in cc
lowers-rows c (r ∷ rs) (y ∷ ys) are =
    let here : map (map (λ (lower : Lower). Some lower)) r ≡ meanings c y = cc in
    let more : map (map (map (λ (lower : Lower). Some lower))) rs ≡ map (meanings c) ys = cc in
    let long : length r ≡ length y.table = sym (length-map r (map (λ (lower : Lower). Some lower))) ∙ ap length here ∙ length-map y.table (λ (line : Line). map (named c) (names line.target)) in
    rw (long, lowers-rows c rs ys more) refl

-- ---- all devices

-- no device has depth 0
pub costs_none : (c : Configuration) (direction : Direction) (costs : List ℕ) → AreCosts c direction 1 costs
unfolding descend
costs_none c direction costs = record { each = λ d low less. absurd (omega (arith, less)) }

pub costs_all : (c : Configuration) (direction : Direction) (k : ℕ) (costs : List ℕ) → ((x : Lower) → depth c x ≤ most_depth) → length costs ≡ length c.devices → most_depth < k → AreCosts c direction k costs
    → costs ≡ each_mapped (λ x. capped_cost direction (cost c direction x)) (length c.devices)
costs_all c direction k costs low count deep are =
    fill_by_all (λ d. capped_cost direction (cost c direction (mapped d))) costs (length c.devices) 0 count
    (λ d inside. are.each d (omega (arith, inside, count)) (let shallow = low (mapped d) in omega (arith, shallow, deep)))

-- ---- reads that are given

-- where they are what reading costs, so is what they say of each name
reads-named : (c : Configuration) (reads : List ℕ) → reads ≡ each_mapped (read_cost c) (length c.devices) → (n : List ℕ) → by_name c 0 (cost_in reads) n ≡ by_name c 0 (read_cost c) n
reads-named c reads are n = go (named c n) (named-inside c n)
  where
    go : (o : Option Lower) → ((y : Lower) → o ≡ Some y → IsInside c y) → known 0 (cost_in reads) o ≡ known 0 (read_cost c) o
    go None inside = refl
    go (Some (leaf i)) inside = sym (read_cost-leaf c i)
    go (Some (device e)) inside = ap (λ v. slice_index v e.0) are ∙ get_or-map-range_with_len (λ d. read_cost c (mapped d)) 0 (length c.devices) e.0 e.0 0 (inside (device e) refl) (omega arith)

-- and the write costs are those of the definition
pub write_cost-given : (c : Configuration) (reads : Bor (List ℕ)) → reads.now ≡ each_mapped (read_cost c) (length c.devices) → (x : Lower) → cost c (Write reads) x ≡ write_cost c x
write_cost-given c reads are x = ap (λ (read : List ℕ → ℕ). descend 0 (cost_rule c (line_write_cost read)) x) (fun_ext (reads-named c reads.now are))
