-- What a line asks of the devices that it names.
use Rattle.std.proofs.Common.{◌≡◌, ℕ, max, List, [], ◌∷◌, refl, sym, ap, Some, None, map, arith}
use Rattle.std.specs.Prelude.{slice_get}
use Rattle.std.specs.Option.{option_map_or}
use Rattle.dm_table.specs.declared.table.Base.{Base}
use Rattle.dm_table.specs.declared.table.Target.{Target}
use Rattle.dm_table.specs.declared.table.Target.TheVariants.{Verity as verity_target}
use Rattle.dm_table.specs.declared.verity.Verity.{Verity}
use Rattle.stack_rules.specs.declared.lower.Lower.{Lower}
use Rattle.stack_rules.specs.Records.{Configuration}
use Rattle.stack_rules.specs.Names.{named, names}
use Rattle.stack_rules.specs.Descend.{greatest, by_name}
use Rattle.stack_rules.specs.Passing.{Mean}
use Rattle.stack_rules.specs.Trees.{verity_of}
use Rattle.stack_rules.specs.targets.Verity.{parity_bases}
use Rattle.stack_rules.proofs.lemmas.LastCaseLemmas.{verity_of-is}
use Rattle.linux_rules.specs.Blocks.{lower_block}
use Rattle.linux_rules.specs.Rules.{are_smaller, has_small_block}

-- what is given of the names is what is given of the devices that they mean
pub by_name-row : (c : Configuration) (below : Lower → ℕ) (row : List Lower) (ns : List (List ℕ)) → Mean c row ns → map (by_name c 0 below) ns ≡ map below row
by_name-row c below [] [] means = refl
by_name-row c below [] (n ∷ ns) means = let clash : [] ≡ map (named c) (n ∷ ns) = means in cc
by_name-row c below (l ∷ ls) [] means = let clash : map (λ (lower : Lower). Some lower) (l ∷ ls) ≡ [] = means in cc
by_name-row c below (l ∷ ls) (n ∷ ns) means =
    let here : Some l ≡ named c n = cc in
    let more : map (λ (lower : Lower). Some lower) ls ≡ map (named c) ns = cc in
    rw (← here) (ap (λ xs. below l ∷ xs) (by_name-row c below ls ns more))

-- the first two devices of a `verity` line
pub record AreTwo (c : Configuration) (row : List Lower) (line : Verity) : Type 0 where
  pub lower_data : Lower
  pub lower_hash : Lower
  pub rest : List Lower
  pub row_is : row ≡ lower_data ∷ lower_hash ∷ rest
  pub data_is : named c line.data ≡ Some lower_data
  pub hash_is : named c line.hash ≡ Some lower_hash

pub two-of : (c : Configuration) (row : List Lower) (line : Verity) → Mean c row (names (verity_target line)) → AreTwo c row line
two-of c (l ∷ m ∷ ls) line means =
    let first : named c line.data ≡ Some l = cc in
    let second : named c line.hash ≡ Some m = cc in
    record { lower_data = l; lower_hash = m; rest = ls; row_is = refl; data_is = first; hash_is = second }
two-of c [] line means = let clash : [] ≡ map (named c) (names (verity_target line)) = means in cc
two-of c (l ∷ []) line means = let clash : [] ≡ map (named c) (line.hash ∷ map (λ (base : Base). base.device) (parity_bases line.parity)) = cc in cc

pub two-of-target : (c : Configuration) (row : List Lower) (target : Target) (line : Verity) → Some line ≡ verity_of target → Mean c row (names target) → AreTwo c row line
two-of-target c row target line is means = two-of c row line (rw (verity_of-is target line is) at means)

pub data-at : (c : Configuration) (below : Lower → ℕ) (row : List Lower) (line : Verity) → AreTwo c row line → option_map_or below (slice_get row 0) 0 ≡ by_name c 0 below line.data
data-at c below row line two = rw (two.row_is, two.data_is) refl

pub hash-at : (c : Configuration) (below : Lower → ℕ) (row : List Lower) (line : Verity) → AreTwo c row line → option_map_or below (slice_get row 1) 0 ≡ by_name c 0 below line.hash
hash-at c below row line two = rw (two.row_is, two.hash_is) refl

-- the blocks beneath a `verity` line, and beneath another one
pub lower_block-verity : (c : Configuration) (below : Lower → ℕ) (row : List Lower) (target : Target) (line : Verity) → Some line ≡ verity_of target → Mean c row (names target)
    → max (option_map_or below (slice_get row 0) 0) 1 ≡ lower_block (by_name c 0 below) target
lower_block-verity c below row target line is means =
    let here = data-at c below row line (two-of-target c row target line is means) in
    rw (verity_of-is target line is) (omega (arith, here))

pub lower_block-plain : (c : Configuration) (below : Lower → ℕ) (row : List Lower) (target : Target) → None ≡ verity_of target → Mean c row (names target)
    → max (greatest (map below row)) 1 ≡ lower_block (by_name c 0 below) target
lower_block-plain c below row (verity_target line) plain means = cc
lower_block-plain c below row target plain means = ap (λ costs. max (greatest costs) 1) (sym (by_name-row c below row (names target) means))

pub small-is : (c : Configuration) (below : Lower → ℕ) (row : List Lower) (target : Target) (line : Verity) → Some line ≡ verity_of target → Mean c row (names target)
    → are_smaller line (option_map_or below (slice_get row 0) 0) (option_map_or below (slice_get row 1) 0) ≡ has_small_block (by_name c 0 below) target
small-is c below row target line is means =
    let two = two-of-target c row target line is means in
    rw (← is, data-at c below row line two, hash-at c below row line two) refl
