-- One level of a tree written: its size, its bytes, and the digests above it.
use Rattle.std.proofs.Common.{◌≡◌, ◌≤◌, ◌<◌, ◌/◌, ◌*◌, ◌+◌, ◌-◌, ℕ, suc, refl, sym, ap, ◌∙◌, arith, List, [], ◌∷◌, ◌++◌, length, get_or, take, drop, map, replicate, add-one, IsTrue}
use Rattle.std.proofs.Math.Nat.{div-lt_self}
use Rattle.std.proofs.lemmas.List.{length-append, length-take, length-take-le, length-drop, drop_all, drop_at, take_at, take_all, append-nil}
use borrow.Rule.Slice.PartMut.{put_mid}
use Rattle.std.proofs.lemmas.List.Folds.{concat-append}
use Rattle.std.specs.Int.{div_ceil}
use Rattle.std.specs.List.{concat}
use Rattle.tree_shape.specs.Digests.{digest}
use Rattle.tree_shape.specs.Shape.{ShapeRecord, per_block, is_block_size}
use Rattle.hash_tree.specs.Tree.{cut, pack, digests_above, area, root}
use Rattle.tree_shape.proofs.lemmas.ShapeFaultLemmas.{block_size-wide}
use Rattle.hash_tree.proofs.lemmas.PackingLemmas.{AllOf, length-concat, length-cut, cut-room, concat-cut, cut-concat, cut-sized}
use Rattle.hash_tree.proofs.lemmas.TreeLemmas.{length-pack, length-above, area-up, root-up}

module _ (size : ℕ) (valid : IsTrue (is_block_size size)) (salt : List ℕ) (ds : List (List ℕ)) (all : AllOf 32 ds) (more : 1 < length ds) where
  shape : ShapeRecord
  shape = record { data_block = 512; hash_block = size; blocks = 1; start = 0 }

  wide : 2 ≤ per_block shape
  unfolding shape
  wide = omega (arith, (block_size-wide size valid).0)

  parts : size ≡ 32 * per_block shape
  unfolding shape
  parts = (block_size-wide size valid).1

  some : 0 < size
  some = omega (arith, (block_size-wide size valid).0, (block_size-wide size valid).1)

  counted : length ds ≡ suc (suc (length ds - 2))
  counted = omega arith

  -- how many hash blocks the digests fill
  pub length-level : length (pack size ds) ≡ (length ds - 1) / (size / 32) + 1
  unfolding shape
  length-level =
      let before : suc (length ds - 2) ≡ length ds - 1 = omega arith in
      length-pack shape wide parts salt (suc (length ds - 2)) ds all counted
      ∙ ap (λ m. suc (m / (size / 32))) before
      ∙ sym (add-one ((length ds - 1) / (size / 32)))

  pub area-split : area size salt ds ≡ area size salt (digests_above size salt ds) ++ pack size ds
  unfolding shape
  area-split = area-up shape wide parts salt (length ds - 2) ds all counted

  pub root-same : root size salt ds ≡ root size salt (digests_above size salt ds)
  unfolding shape
  root-same = root-up shape wide parts salt (length ds - 2) ds all counted

  pub length-split : size * length (area size salt ds) ≡ size * length (area size salt (digests_above size salt ds)) + size * length (pack size ds)
  length-split =
      let sum : length (area size salt ds) ≡ length (area size salt (digests_above size salt ds)) + length (pack size ds) =
      ap length area-split ∙ length-append (area size salt (digests_above size salt ds)) (pack size ds) in
      let scaled : size * length (area size salt ds) ≡ size * (length (area size salt (digests_above size salt ds)) + length (pack size ds)) = ap (λ n. size * n) sum in
      omega (arith, scaled)

  pub level-room : 32 * length ds ≤ size * length (pack size ds)
  level-room =
      let bytes : length (concat ds) ≡ 32 * length ds = length-concat 32 ds all in
      let blocks : length (pack size ds) ≡ div_ceil (length (concat ds)) size = length-cut size (concat ds) in
      let room : length (concat ds) ≤ size * div_ceil (length (concat ds)) size = cut-room (length (concat ds)) size some in
      let same : size * length (pack size ds) ≡ size * div_ceil (length (concat ds)) size = ap (λ n. size * n) blocks in
      omega (arith, bytes, room, same)

  -- the digests with zeros after them are the level's blocks
  pub concat-level : concat ds ++ replicate (size * length (pack size ds) - 32 * length ds) 0 ≡ concat (pack size ds)
  concat-level =
      let bytes : length (concat ds) ≡ 32 * length ds = length-concat 32 ds all in
      let blocks : length (pack size ds) ≡ div_ceil (length (concat ds)) size = length-cut size (concat ds) in
      sym (concat-cut size (concat ds) some
      ∙ ap (λ n. concat ds ++ replicate (size * n - length (concat ds)) 0) (sym blocks)
      ∙ ap (λ n. concat ds ++ replicate (size * length (pack size ds) - n) 0) bytes)

  pub length-concat_level : length (concat (pack size ds)) ≡ size * length (pack size ds)
  length-concat_level = length-concat size (pack size ds) (cut-sized size (concat ds) some)

  pub cut-level : cut size (concat (pack size ds)) ≡ pack size ds
  cut-level = cut-concat size (pack size ds) some (cut-sized size (concat ds) some)

  pub fewer-above : (0 < length (digests_above size salt ds)) × (length (digests_above size salt ds) < length ds)
  unfolding shape
  fewer-above =
      let count : length (digests_above size salt ds) ≡ suc (suc (length ds - 2) / per_block shape) = length-above shape wide parts salt (suc (length ds - 2)) ds all counted in
      let less : suc (length ds - 2) / per_block shape < suc (length ds - 2) = div-lt_self (omega arith) (omega (arith, wide)) in
      (omega (arith, count), omega (arith, count, less))

-- what is written at a list's end
pub end-written : (above : ℕ) (xs ys : List ℕ) → above ≤ length xs → drop above (put_mid above (length xs - above) xs ys) ≡ ys
end-written above xs ys inside =
    let front : length (take above xs) ≡ above = length-take-le above xs inside in
    let behind : drop (length xs - above) (drop above xs) ≡ [] = drop_all (length xs - above) (drop above xs) (omega (arith, length-drop above xs)) in
    drop_at (take above xs) (ys ++ drop (length xs - above) (drop above xs)) above front
    ∙ ap (λ r. ys ++ r) behind
    ∙ append-nil ys

pub front-written : (above : ℕ) (xs ys : List ℕ) → above ≤ length xs → length (take above (put_mid above (length xs - above) xs ys)) ≡ above
front-written above xs ys inside =
    let front : length (take above xs) ≡ above = length-take-le above xs inside in
    ap length (take_at (take above xs) (ys ++ drop (length xs - above) (drop above xs)) above front) ∙ front

-- One level written at the end of the room that the tree has.
module _ (size : ℕ) (valid : IsTrue (is_block_size size)) (salt : List ℕ) (ds : List (List ℕ)) (all : AllOf 32 ds) (more : 1 < length ds)
    (out : List ℕ) (room : length out ≡ size * length (area size salt ds)) where
  pub level-fits : size * ((length ds - 1) / (size / 32) + 1) ≤ length out
  level-fits =
      let blocks : size * length (pack size ds) ≡ size * ((length ds - 1) / (size / 32) + 1) = ap (λ n. size * n) (length-level size valid salt ds all more) in
      omega (arith, blocks, room, length-split size valid salt ds all more)

  module _ (above : ℕ) (start : above + size * ((length ds - 1) / (size / 32) + 1) ≡ length out) where
    level-size : length out - above ≡ size * length (pack size ds)
    level-size =
        let blocks : size * length (pack size ds) ≡ size * ((length ds - 1) / (size / 32) + 1) = ap (λ n. size * n) (length-level size valid salt ds all more) in
        omega (arith, blocks, start)

    pub above-le : above ≤ length out
    above-le = omega (arith, start)

    pub above-is : above ≡ size * length (area size salt (digests_above size salt ds))
    above-is = omega (arith, level-size, above-le, room, length-split size valid salt ds all more)

    pub part-size : length (take (length out - above) (drop above out)) ≡ size * length (pack size ds)
    part-size = length-take-le (length out - above) (drop above out) (omega (arith, length-drop above out)) ∙ level-size

    pub part-room : 32 * length ds ≤ length (take (length out - above) (drop above out))
    part-room = omega (arith, part-size, level-room size valid salt ds all more)

    module _ (put : List ℕ) (written : put ≡ concat ds ++ replicate (length (take (length out - above) (drop above out)) - 32 * length ds) 0) where
      pub put-is : put ≡ concat (pack size ds)
      put-is = written ∙ ap (λ n. concat ds ++ replicate (n - 32 * length ds) 0) part-size ∙ concat-level size valid salt ds all more

      pub level-written : drop above (put_mid above (length out - above) out put) ≡ concat (pack size ds)
      level-written = end-written above out put above-le ∙ put-is

      pub read-level : (n : ℕ) → length (concat (pack size ds)) ≤ n → take n (drop above (put_mid above (length out - above) out put)) ≡ concat (pack size ds)
      read-level n long = ap (take n) level-written ∙ take_all n (concat (pack size ds)) long

      pub length-written : length (put_mid above (length out - above) out put) ≡ length out
      length-written =
          let end : length (drop above (put_mid above (length out - above) out put)) ≡ length out - above =
          ap length level-written ∙ length-concat_level size valid salt ds all more ∙ sym level-size in
          let front = front-written above out put above-le in
          omega (arith, end, front, above-le, length-drop above (put_mid above (length out - above) out put), length-take above (put_mid above (length out - above) out put))

      pub next-is : (n : ℕ) (next : List (List ℕ)) → n ≡ length (put_mid above (length out - above) out put) - above
          → next ≡ map (digest salt) (cut size (take n (drop above (put_mid above (length out - above) out put))))
          → next ≡ digests_above size salt ds
      next-is n next is made =
          let long : length (concat (pack size ds)) ≤ n = omega (arith, is, length-written, length-concat_level size valid salt ds all more, level-size) in
          made ∙ ap (λ b. map (digest salt) (cut size b)) (read-level n long) ∙ ap (map (digest salt)) (cut-level size valid salt ds all more)

      pub area-written : (next : List (List ℕ)) (front : List ℕ) → next ≡ digests_above size salt ds → front ≡ concat (area size salt next)
          → front ++ drop above (put_mid above (length out - above) out put) ≡ concat (area size salt ds)
      area-written next front is made =
          ap (λ f. f ++ drop above (put_mid above (length out - above) out put)) (made ∙ ap (λ d. concat (area size salt d)) is)
          ∙ ap (λ b. concat (area size salt (digests_above size salt ds)) ++ b) level-written
          ∙ sym (concat-append (area size salt (digests_above size salt ds)) (pack size ds))
          ∙ ap concat (sym (area-split size valid salt ds all more))

-- one digest has no hash block, and is the root
pub area-single : (size : ℕ) (salt : List ℕ) (ds : List (List ℕ)) → length ds ≡ 1 → area size salt ds ≡ []
unfolding area
area-single size salt [] count = absurd (omega (arith, count))
area-single size salt (one ∷ []) count = refl
area-single size salt (one ∷ two ∷ more) count = absurd (omega (arith, count))

pub root-single : (size : ℕ) (salt : List ℕ) (ds : List (List ℕ)) → length ds ≡ 1 → root size salt ds ≡ get_or ds 0 []
unfolding root
root-single size salt [] count = absurd (omega (arith, count))
root-single size salt (one ∷ []) count = refl
root-single size salt (one ∷ two ∷ more) count = absurd (omega (arith, count))

-- what is written after a list's front up to its end
pub rest-written : (end : ℕ) (out front ys zs : List ℕ) → end ≤ length out → take end out ≡ front → ys ≡ zs → put_mid end (length out - end) out ys ≡ front ++ zs
rest-written end out front ys zs inside before same =
    let behind : drop (length out - end) (drop end out) ≡ [] = drop_all (length out - end) (drop end out) (omega (arith, length-drop end out)) in
    ap (λ r. take end out ++ (ys ++ r)) behind
    ∙ ap (λ r. take end out ++ r) (append-nil ys ∙ same)
    ∙ ap (λ f. f ++ zs) before
