-- Runs of blocks that were read at once.
use Rattle.std.proofs.Common.{◌≡◌, ◌≤◌, ◌<◌, ◌+◌, ◌*◌, ◌/◌, ℕ, zero, suc, add-one, List, [], ◌∷◌, ◌++◌, All, IsTrue, length, take, drop, refl, sym, ap, ◌∙◌, arith}
use Rattle.std.specs.List.{concat}
use Rattle.std.proofs.Math.Nat.{zero-mul}
use Rattle.std.proofs.Math.Seq.{take-add}
use Rattle.std.proofs.lemmas.List.{append-nil, drop-drop, length-drop, length-take-le}
use Rattle.std.proofs.lemmas.List.Elements.{All-from_get_or, All-take, All-drop}
use Rattle.std.proofs.lemmas.List.Folds.{concat-append}
use Rattle.std.proofs.lemmas.List.FromFn.{map-range_with_len_more, get_or-map-range_with_len, length-map-range_with_len}
use Rattle.block_device.specs.Device.{IsSector, run_of}
use Rattle.tree_shape.specs.Shape.{is_block_size}
use Rattle.hash_tree.specs.Tree.{cut}
use Rattle.hash_tree.proofs.lemmas.PackingLemmas.{AllOf, length-concat, cut-concat}
use Rattle.verity_format.specs.Blocks.{block_at, blocks_at}
use Rattle.verity_format.proofs.lemmas.SizeLemmas.{block-size, block-inside}

module _ (image : List (List ℕ)) (size : ℕ) where
  -- a run of sectors is the blocks that are stored there
  pub run-blocks : (first n : ℕ) → concat (run_of image (first * (size / 512)) (n * (size / 512))) ≡ concat (blocks_at image size first n)
  unfolding block_at
  run-blocks first zero = ap (λ k. concat (take k (drop (first * (size / 512)) image))) (zero-mul (size / 512))
  run-blocks first (suc n) =
      let k = size / 512 in
      let at : ℕ = first * k in
      let more : suc n * k ≡ n * k + k = grind arith in
      let next : at + n * k ≡ (first + n) * k = grind arith in
      ap (λ m. concat (take m (drop at image))) more
      ∙ ap concat (take-add (n * k) k (drop at image))
      ∙ concat-append (take (n * k) (drop at image)) (take k (drop (n * k) (drop at image)))
      ∙ ap (λ xs. xs ++ concat (take k (drop (n * k) (drop at image)))) (run-blocks first n)
      ∙ ap (λ xs. concat (blocks_at image size first n) ++ concat (take k xs)) (drop-drop (n * k) at image ∙ ap (λ m. drop m image) next)
      ∙ ap (λ b. concat (blocks_at image size first n) ++ b) (sym (append-nil (block_at image size (first + n))))
      ∙ sym (concat-append (blocks_at image size first n) (block_at image size (first + n) ∷ []))
      ∙ ap concat (sym (map-range_with_len_more (block_at image size) first n (first + n) refl))
      ∙ ap (λ m. concat (blocks_at image size first m)) (add-one n)

  -- blocks inside a device have their size
  module _ (valid : IsTrue (is_block_size size)) (sectors : All IsSector image) where
    pub block-sized : (i : ℕ) → i * (size / 512) + size / 512 ≤ length image → length (block_at image size i) ≡ size
    unfolding block_at
    block-sized i inside =
        let k = size / 512 in
        let whole : size ≡ 512 * k = omega (arith, (block-size size valid).whole) in
        let run = run_of image (i * k) k in
        let count : length run ≡ k = length-take-le k (drop (i * k) image) (omega (arith, length-drop (i * k) image)) in
        length-concat 512 run (All-take IsSector k (drop (i * k) image) (All-drop IsSector (i * k) image sectors))
        ∙ ap (λ n. 512 * n) count
        ∙ sym whole

    pub blocks-sized : (first n : ℕ) → (first + n) * (size / 512) ≤ length image → AllOf size (blocks_at image size first n)
    blocks-sized first n inside =
        All-from_get_or (λ b. length b ≡ size) (blocks_at image size first n) []
        (λ i below.
        let low : i < n = omega (arith, length-map-range_with_len (block_at image size) first n) in
        let here : first + i < first + n = omega arith in
        let room : (first + i) * (size / 512) + size / 512 ≤ (first + n) * (size / 512) = block-inside (first + i) (first + n) (size / 512) here in
        ap length (get_or-map-range_with_len (block_at image size) first n i (first + i) [] low refl) ∙ block-sized (first + i) (omega (arith, room, inside)))

    -- a run's bytes are cut into its blocks
    pub run-cut : (run : List ℕ) (first n at m : ℕ) → (first + n) * (size / 512) ≤ length image
        → at ≡ first * (size / 512) → m ≡ n * (size / 512) → run ≡ concat (run_of image at m) → cut size run ≡ blocks_at image size first n
    run-cut run first n at m inside at_is m_is is =
        let bytes : run ≡ concat (blocks_at image size first n) = is ∙ ap (λ k. concat (run_of image k m)) at_is ∙ ap (λ k. concat (run_of image (first * (size / 512)) k)) m_is ∙ run-blocks first n in
        ap (cut size) bytes ∙ cut-concat size (blocks_at image size first n) (block-size size valid).some (blocks-sized first n inside)

-- the sectors of a run, and bytes as sectors
pub run-sectors : (size n : ℕ) → IsTrue (is_block_size size) → (n * size) / 512 ≡ n * (size / 512)
run-sectors size n valid =
    let whole : size ≡ 512 * (size / 512) = omega (arith, (block-size size valid).whole) in
    let bytes : n * size ≡ 512 * (n * (size / 512)) = ap (λ s. n * s) whole ∙ (let e : n * (512 * (size / 512)) ≡ 512 * (n * (size / 512)) = grind arith in e) in
    omega (arith, bytes)
