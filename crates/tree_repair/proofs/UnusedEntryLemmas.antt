-- The hash blocks of a formatted image are zero after their last used entries.
use Rattle.std.proofs.Common.{◌≡◌, ◌<◌, ◌+◌, ◌-◌, ◌*◌, ◌==◌, ℕ, zero, suc, min, List, ◌++◌, length, map, drop, replicate, true, refl, ap, ◌∙◌, arith}
use Rattle.std.specs.List.{concat, list_all}
use Rattle.std.proofs.lemmas.List.{drop_at}
use Rattle.std.proofs.lemmas.List.Elements.{All-map}
use Rattle.std.proofs.lemmas.List.FromFn.{length-map-range_with_len}
use Rattle.tree_shape.specs.Digests.{digest}
use Rattle.tree_shape.specs.Shape.{ShapeRecord, IsShape, ancestor, per_block, levels}
use Rattle.tree_shape.proofs.lemmas.ShapeFactLemmas.{ancestor-lt}
use Rattle.hash_tree.proofs.lemmas.PackingLemmas.{length-concat}
use Rattle.hash_tree.proofs.lemmas.TreeLemmas.{length-digest}
use Rattle.tree_path.specs.Unused.{digests_in, is_unused_zero, used_entries}
use Rattle.tree_survey.specs.Hashes.{is_zero_after_used}
use Rattle.tree_survey.specs.Surveys.{Tree}
use Rattle.verity_format.specs.Superblock.{shape_of}
use Rattle.tree_repair.specs.Remaking.{StoredTree, children, made}
use Rattle.tree_repair.specs.WithinParity.{FormattedEntriesAreZero, FormerImage, IsFormerOf}
use Rattle.tree_repair.proofs.FormedLemmas.{level-made}
use Rattle.tree_repair.proofs.FormerLemmas.{former-area}
use Rattle.tree_repair.proofs.FreshLemmas.{fresh-former}

zeros-all : (n : ℕ) → list_all (λ b. b == 0) (replicate n 0) ≡ true
zeros-all zero = refl
zeros-all (suc n) = zeros-all n

-- what zeros are appended to ends in zeros
filled-zero : (n size : ℕ) (bytes : List ℕ) → length bytes ≡ n → list_all (λ b. b == 0) (drop n (bytes ++ replicate size 0)) ≡ true
filled-zero n size bytes count = ap (list_all (λ b. b == 0)) (drop_at bytes (replicate size 0) n count) ∙ zeros-all size

-- a hash block made of the blocks beneath it
made-unused : (s : ShapeRecord) (salt : List ℕ) (data_image hash_image : List (List ℕ)) (l n : ℕ)
    → is_unused_zero s l n (made (record { shape = s; salt = salt; data_image = data_image; hash_image = hash_image; height = 0 }) (suc l) n) ≡ true
unfolding is_unused_zero made
made-unused s salt data_image hash_image l n =
    let here : StoredTree = record { shape = s; salt = salt; data_image = data_image; hash_image = hash_image; height = 0 } in
    let below : ℕ → List ℕ = λ i. digest salt (made here l i) in
    let none : 0 + l ≡ l = omega arith in
    let digests : List (List ℕ) = map below (children s (0 + l) n) in
    let count : length digests ≡ used_entries s l n =
    length-map-range_with_len below (n * per_block s) (min (per_block s) (digests_in s (0 + l) - n * per_block s)) ∙ ap (λ (h : ℕ). used_entries s h n) none in
    let long : length (concat digests) ≡ 32 * used_entries s l n =
    length-concat 32 digests (All-map (λ (d : List ℕ). length d ≡ 32) below (children s (0 + l) n) (λ k d inside. length-digest salt _)) ∙ ap (λ (k : ℕ). 32 * k) count in
    filled-zero (32 * used_entries s l n) (s.hash_block - length (concat digests)) (concat digests) long

-- a hash block of the image
pub former-unused : (t : Tree) → IsShape t.shape → (f : FormerImage) → IsFormerOf t f → (l i : ℕ) → l < levels t.shape → i < t.shape.blocks → is_zero_after_used t.shape f.hash_image l i ≡ true
former-unused t valid f former l i low inside =
    let s = t.shape in
    ap (is_unused_zero s l (ancestor s (l + 1) i)) (former-area t valid f former l (ancestor s (l + 1) i) (low, ancestor-lt s valid l i inside) ∙ level-made s valid t.salt f.data_image f.hash_image l i inside)
    ∙ made-unused s t.salt f.data_image f.hash_image l (ancestor s (l + 1) i)

pub fresh-unused : FormattedEntriesAreZero
fresh-unused s valid data_dev hash_dev data_dev' hash_dev' data_whole hash_whole data_steady hash_steady fit root made l i low inside =
    let former = fresh-former s valid data_dev hash_dev data_dev' hash_dev' data_whole hash_whole data_steady hash_steady fit root made in
    former-unused (record { shape = shape_of s; salt = s.salt; root = root }) valid.shape (record { data_image = data_dev.image; hash_image = hash_dev'.image }) former l i low inside
