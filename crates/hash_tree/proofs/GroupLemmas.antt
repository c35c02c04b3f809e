-- Groups of eight of the blocks that bytes are cut into.
use Rattle.std.proofs.Common.{◌≡◌, ℕ, ◌<◌, ◌≤◌, ◌+◌, ◌-◌, ◌*◌, ◌/◌, ◌%◌, ◌++◌, List, [], length, get_or, take, drop, map, sym, ap, ◌∙◌, arith}
use Rattle.std.proofs.Math.Nat.{mul-le-mul_left}
use Rattle.std.proofs.lemmas.List.{ext_get_or, get_or-map, get_or-take, get_or-drop, length-map, length-drop, length-take-le, drop-take, take-take, drop-drop}
use Rattle.tree_shape.specs.Digests.{digest}
use Rattle.hash_tree.specs.Tree.{cut}
use Rattle.hash_tree.proofs.lemmas.PackingLemmas.{length-cut, get_or-cut_whole, div_ceil-exact}
use Rattle.sha2.specs.Sha256.{sha256}
use Rattle.sha256_lanes.specs.Lanes.{message}

-- a block within a part of the bytes
block_in : (bytes : List ℕ) (at s size n m : ℕ) → s + size ≤ n → m ≡ at + s → take size (drop s (take n (drop at bytes))) ≡ take size (drop m bytes)
block_in bytes at s size n m fits e =
    let split : n ≡ s + (n - s) = omega arith in
    ap (λ (k : ℕ). take size (drop s (take k (drop at bytes)))) split
    ∙ ap (λ (x : List ℕ). take size x) (drop-take s (n - s) (drop at bytes))
    ∙ take-take size (n - s) (drop s (drop at bytes)) (omega arith)
    ∙ ap (λ (x : List ℕ). take size x) (drop-drop s at bytes)
    ∙ ap (λ (k : ℕ). take size (drop k bytes)) (sym e)

pub length-cut_whole : (hb : ℕ) (bytes : List ℕ) → 0 < hb → length bytes % hb ≡ 0 → length (cut hb bytes) ≡ length bytes / hb
length-cut_whole hb bytes some whole = length-cut hb bytes ∙ div_ceil-exact (length bytes) hb some whole

-- eight digests that are those of the blocks of a group
pub digests_of_group : (ds : List (List ℕ)) (salt bytes : List ℕ) (hb g n : ℕ) → length ds ≡ 8 → 0 < hb → length bytes % hb ≡ 0 → 8 * g + 8 ≤ length bytes / hb
    → n ≡ 8 * hb → ((j : ℕ) → j < 8 → get_or ds j [] ≡ sha256 (message salt (take n (drop (8 * g * hb) bytes)) hb j))
    → ds ≡ map (digest salt) (take 8 (drop (8 * g) (cut hb bytes)))
unfolding digest
digests_of_group ds salt bytes hb g n long some whole inside en same =
    let cs : List (List ℕ) = cut hb bytes in
    let count : length cs ≡ length bytes / hb = length-cut_whole hb bytes some whole in
    let eight : length (take 8 (drop (8 * g) cs)) ≡ 8 = length-take-le 8 (drop (8 * g) cs) (omega (arith, length-drop (8 * g) cs)) in
    ext_get_or [] ds (map (digest salt) (take 8 (drop (8 * g) cs))) (long ∙ sym (length-map (take 8 (drop (8 * g) cs)) (digest salt) ∙ eight))
    (λ j h.
    let lt : j < 8 = omega arith in
    let most : hb * (j + 1) ≤ hb * 8 = mul-le-mul_left hb (omega arith) in
    let here : take hb (drop (j * hb) (take n (drop (8 * g * hb) bytes))) ≡ take hb (drop (hb * (8 * g + j)) bytes) =
    block_in bytes (8 * g * hb) (j * hb) hb n (hb * (8 * g + j)) (omega arith) (omega arith) in
    let cell : get_or (take 8 (drop (8 * g) cs)) j [] ≡ take hb (drop (hb * (8 * g + j)) bytes) =
    get_or-take 8 (drop (8 * g) cs) j [] lt ∙ get_or-drop (8 * g) cs j [] ∙ get_or-cut_whole hb (8 * g + j) bytes some whole (omega arith) in
    same j lt
    ∙ ap (λ (x : List ℕ). sha256 (salt ++ x)) (here ∙ sym cell)
    ∙ sym (get_or-map (digest salt) (take 8 (drop (8 * g) cs)) j [] [] (omega arith)))
