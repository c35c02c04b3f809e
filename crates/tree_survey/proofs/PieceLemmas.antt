-- Pieces of data blocks.
use Rattle.std.proofs.Common.{◌≡◌, ◌≤◌, ◌<◌, ◌+◌, ◌*◌, ◌/◌, ℕ, IsTrue, List, [], Option, Some, None, Bool, true, false, length, take, get_or, refl, sym, ap, ◌∙◌, subst, arith, inl, inr}
use Rattle.std.proofs.Math.Nat.{div-mul-le_self, mul-le-mul_right}
use Rattle.std.proofs.lemmas.List.{get_or-map, get_or-take, length-map}
use Rattle.std.proofs.lemmas.List.FromFn.{get_or-map-range_with_len}
use Rattle.block_device.specs.Device.{Device}
use Rattle.tree_shape.specs.Digests.{digest}
use Rattle.tree_shape.specs.Shape.{ShapeRecord, IsShape, is_block_size}
use Rattle.tree_shape.proofs.lemmas.ShapeFaultLemmas.{is_block_size-cases}
use Rattle.verity_format.proofs.lemmas.DeviceLemmas.{steady-then}
use Rattle.verity_format.specs.Blocks.{IsFullRead, block_at}
use Rattle.verity_format.specs.Image.{data_sectors}
use Rattle.verity_format.specs.Premises.{IsBlockOn}
use Rattle.tree_survey.specs.Failing.{HasFailedRead, IsReadOver, IsReadThrough}
use Rattle.tree_survey.specs.Pieces.{IsDigestFound, IsDigestRead, LieOnDevice, IsRunRead, IsRunTried, blocks_of}
use Rattle.tree_survey.proofs.FailingLemmas.{failed-later, failed-more, over-then, through-failed, through-full}
use Rattle.verity_format.proofs.lemmas.RunLemmas.{quotient-some}
use Rattle.tree_survey.proofs.CheckedPathLemmas.{IsDigestOr}
use Rattle.verity_format.proofs.lemmas.SizeLemmas.{block-inside, block-size}

-- ---- how many blocks a piece has

pub record IsPiece (s : ShapeRecord) (at count : ℕ) : Type 0 where
  pub some : 0 < count
  pub many : count ≤ 128
  pub within : at + count ≤ s.blocks
  pub room : count * s.data_block ≤ 65536
  pub inside : (at + count) * (s.data_block / 512) ≤ data_sectors s

quotient-few : (size : ℕ) → IsTrue (is_block_size size) → 65536 / size ≤ 128
quotient-few size valid = elim (is_block_size-cases size valid) [
  | inl (inl e) ↦ rw e (omega arith)
  | inl (inr e) ↦ rw e (omega arith)
  | inr (inl e) ↦ rw e (omega arith)
  | inr (inr e) ↦ rw e (omega arith)
]

pub piece-is : (s : ShapeRecord) → IsTrue (is_block_size s.data_block) → (at count : ℕ) → at < s.blocks → count ≡ blocks_of s at → IsPiece s at count
piece-is s valid at count left is =
    let q : ℕ = 65536 / s.data_block in
    let block = block-size s.data_block valid in
    let one : 1 ≤ q = quotient-some 65536 s.data_block block.some (omega (arith, block.most_bytes)) in
    let few : count ≤ q = omega (arith, is) in
    let bytes : count * s.data_block ≤ q * s.data_block = mul-le-mul_right s.data_block few in
    let within : at + count ≤ s.blocks = omega (arith, is, left) in
    record {
      some = omega (arith, is, one, left);
      many = omega (arith, few, quotient-few s.data_block valid);
      within = within;
      room = omega (arith, bytes, div-mul-le_self 65536 s.data_block);
      inside = mul-le-mul_right (s.data_block / 512) within;
    }

-- ---- and its blocks on a device

module _ (s : ShapeRecord) (valid : IsShape s) (d d' : Device) (over : IsReadOver d d') (fits : data_sectors s ≤ d.size) where
  pub run-on : (at count size bytes : ℕ) → size ≡ s.data_block → bytes ≡ count * size → IsPiece s at count → LieOnDevice d' size at count bytes
  run-on at count size bytes same all piece = subst (λ (n : ℕ). LieOnDevice d' n at count bytes) (sym same) (record {
    size = valid.data_size;
    some = piece.some;
    run = all ∙ ap (λ (n : ℕ). count * n) same;
    inside = omega (arith, piece.inside, fits, over.read.same.size, valid.data_fits);
  })

  pub block-on : (i size : ℕ) → size ≡ s.data_block → i < s.blocks → IsBlockOn d' size i
  block-on i size same low = subst (λ (n : ℕ). IsBlockOn d' n i) (sym same)
      (let block = block-size s.data_block valid.data_size in
      let room : i * (s.data_block / 512) + s.data_block / 512 ≤ s.blocks * (s.data_block / 512) = block-inside i s.blocks (s.data_block / 512) low in
      record {
        some = block.some;
        whole = block.whole;
        inside = omega (arith, room, fits, over.read.same.size);
        few = omega (arith, room, valid.data_fits);
      })

-- ---- what is said of a block of a piece

-- its content, if it could be read, else the read failed; over a steady device the block that is stored there
pub record IsContent (salt : List ℕ) (d dk dk' : Device) (size i : ℕ) (found : Option (List ℕ)) : Type 0 where
  pub content : List ℕ
  pub told : IsDigestOr (HasFailedRead dk dk') salt content found
  pub over : IsTrue d.steady → content ≡ block_at d.image size i

module _ (salt : List ℕ) (d dp dq dk dk' : Device) (size at count k : ℕ) (ds : List (List ℕ)) (before : IsReadOver d dp) (piece : IsReadOver dp dq) (between : IsReadOver dq dk) (read : IsReadOver dk dk') (low : k < count) (count_is : length (take count ds) ≡ count) where
  -- of one that was read with others
  of-run : (known : List ℕ) → known ≡ get_or ds k [] → IsRunRead dp salt size at (take count ds) dq → IsContent salt d dk dk' size (at + k) (Some known)
  of-run known is run =
      let low' : k < length run.contents = omega (arith, low, count_is, ap length run.are, length-map run.contents (digest salt)) in
      record {
        content = get_or run.contents k [];
        told = is ∙ sym (get_or-take count ds k [] low) ∙ ap (λ (xs : List (List ℕ)). get_or xs k []) run.are ∙ get_or-map (digest salt) run.contents k [] [] low';
        over = λ steady.
            ap (λ (xs : List (List ℕ)). get_or xs k []) (run.over (steady-then before.read.same steady))
            ∙ get_or-map-range_with_len (block_at dp.image size) at (length (take count ds)) k (at + k) [] (omega (arith, low, count_is)) refl
            ∙ ap (λ (im : List (List ℕ)). block_at im size (at + k)) (before.read.image steady);
      }

  here : IsReadOver d dk
  here = over-then before (over-then piece between)

  -- of one that was read by itself
  of-block : (found : Option (List ℕ)) → IsDigestRead dk salt size (at + k) found dk' → IsContent salt d dk dk' size (at + k) found
  of-block (Some x) (content, (is, over)) = record {
    content = content;
    told = is;
    over = λ steady. over (steady-then here.read.same steady) ∙ ap (λ (im : List (List ℕ)). block_at im size (at + k)) (here.read.image steady);
  }
  of-block None failed = record { content = block_at d.image size (at + k); told = failed; over = λ steady. refl }

  pub content-of : (whole : Bool) (known : List ℕ) (found : Option (List ℕ)) → known ≡ get_or ds k [] → IsRunTried dp salt size at (take count ds) whole dq → IsDigestFound dk salt size (at + k) known whole found dk' → IsContent salt d dk dk' size (at + k) found
  content-of true known found is run same = subst (IsContent salt d dk dk' size (at + k)) (sym same.0) (of-run known is run)
  content-of false known found is failed alone = of-block found alone

-- all blocks of a piece were read, or a read failed
pub piece-read : (salt : List ℕ) (d dp dq dk : Device) (size at count n m : ℕ) (ds : List (List ℕ)) (whole : Bool) → length (take count ds) ≡ count → IsReadThrough d n dp → IsRunTried dp salt size at (take count ds) whole dq
    → IsReadOver dp dq → IsReadOver dq dk → (whole ≡ true → dk ≡ dq) → n + count * (size / 512) ≡ m → IsReadThrough d m dk
piece-read salt d dp dq dk size at count n m ds true count_is before run over behind same sum =
    subst (IsReadThrough d m) (sym (same refl))
    (through-full n (count * (size / 512)) m before (subst (λ (k : ℕ). IsFullRead dp (k * (size / 512)) dq) count_is run.full) sum)
piece-read salt d dp dq dk size at count n m ds false count_is before failed over behind same sum =
    through-failed m (over-then before.over (over-then over behind)) (failed-more d (failed-later before.over over failed) behind)
