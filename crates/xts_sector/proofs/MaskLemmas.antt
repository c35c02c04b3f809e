-- The masks of a part: from its first eight, and from part to part.
use Rattle.std.proofs.Common.{◌≡◌, ◌≢◌, ℕ, ◌+◌, ◌-◌, ◌*◌, ◌/◌, ◌%◌, ◌<◌, ◌≤◌, List, length, take, drop, sym, ap, ◌∙◌, refl, arith}
use Rattle.std.proofs.lemmas.List.{drop-drop, length-take-le, length-drop, take_all}
use Rattle.aes_block.specs.Blocks.{block, joined}
use Rattle.aes_block.proofs.lemmas.BlockLemmas.{block-joined, joined-block, block-take, joined-same}
use Rattle.aes_block.proofs.lemmas.PartLemmas.{IsWrittenTo}
use Rattle.xts_sector.specs.Tweak.{times_alpha_power}
use Rattle.xts_sector.specs.Masks.{HoldMasks}
use Rattle.xts_sector.proofs.TweakLemmas.{times_alpha_power-add, length-times_alpha_power}

pub length-block : (bytes : List ℕ) (j : ℕ) → 16 * j + 16 ≤ length bytes → length (block bytes j) ≡ 16
length-block bytes j h = length-take-le 16 (drop (16 * j) bytes) (omega (arith, h, length-drop (16 * j) bytes))

-- a block of those that are written
pub block-front : (blocks : ℕ → List ℕ) (now : List ℕ) (m j : ℕ) → ((j : ℕ) → j < m → length (blocks j) ≡ 16) → take (16 * m) now ≡ joined blocks m → j < m → block now j ≡ blocks j
block-front blocks now m j long front h = sym (block-take now (16 * m) j (omega (arith, h))) ∙ ap (λ ms. block ms j) front ∙ block-joined blocks m j long h

-- a block of the rest that isn't written
pub block-rest : (old now : List ℕ) (m j : ℕ) → drop (16 * m) now ≡ drop (16 * m) old → m ≤ j → block now j ≡ block old j
block-rest old now m j rest h =
    let to : 16 * m + 16 * (j - m) ≡ 16 * j = omega (arith, h) in
    let at = λ (xs : List ℕ). drop-drop (16 * (j - m)) (16 * m) xs ∙ ap (λ x. drop x xs) to in
    ap (take 16) (sym (at now) ∙ ap (drop (16 * (j - m))) rest ∙ at old)

-- ---- from the first eight

abbrev pub extended : List ℕ → ℕ → List ℕ
extended old j = times_alpha_power (8 * (j / 8)) (block old (j % 8))

pub length-extended : (old : List ℕ) (j : ℕ) → length old ≡ 512 → length (extended old j) ≡ 16
length-extended old j long = length-times_alpha_power (8 * (j / 8)) (block old (j % 8)) (length-block old (j % 8) (omega (arith, long)))

pub extended-more : (old : List ℕ) (j : ℕ) → times_alpha_power 8 (extended old j) ≡ extended old (8 + j)
extended-more old j =
    let row : 8 * (j / 8) + 8 ≡ 8 * ((8 + j) / 8) = omega arith in
    let column : j % 8 ≡ (8 + j) % 8 = omega arith in
    times_alpha_power-add (8 * (j / 8)) 8 (block old (j % 8)) ∙ ap (λ n. times_alpha_power n (block old (j % 8))) row ∙ ap (λ x. times_alpha_power (8 * ((8 + j) / 8)) (block old x)) column

pub extended-none : (old : List ℕ) → length old ≡ 512 → IsWrittenTo 16 (extended old) old old 8
extended-none old long = record {
  front = sym (joined-same (extended old) (block old) 8 (λ j h.
      let row : 8 * (j / 8) ≡ 0 = omega (arith, h) in
      let column : j % 8 ≡ j = omega (arith, h) in
      ap (λ n. times_alpha_power n (block old (j % 8))) row ∙ ap (block old) column) ∙ joined-block old 8 (omega (arith, long)));
  rest = refl;
}

pub extended-all : (old now : List ℕ) (m : ℕ) → length old ≡ 512 → m ≡ 32 → IsWrittenTo 16 (extended old) old now m → now ≡ joined (extended old) 32
extended-all old now m long all written =
    let none = ap length written.rest in
    sym (take_all (16 * m) now (omega (arith, none, length-drop (16 * m) now, length-drop (16 * m) old, long, all))) ∙ written.front ∙ ap (joined (extended old)) all

module _ (first old now : List ℕ) (long : length first ≡ 16) (made : now ≡ joined (λ j. times_alpha_power (8 * (j / 8)) (block old (j % 8))) 32) where
  -- all masks, where the first eight are those of part i
  pub HoldMasks-made : (i : ℕ) → ((j : ℕ) → j < 8 → block old j ≡ times_alpha_power (32 * i + j) first) → HoldMasks first i now
  HoldMasks-made i eight j h =
      let tweaks = λ (j : ℕ). times_alpha_power (32 * i + j) first in
      let same = λ (j : ℕ) (h : j < 32).
      ap (times_alpha_power (8 * (j / 8))) (eight (j % 8) (omega arith)) ∙ times_alpha_power-add (32 * i + j % 8) (8 * (j / 8)) first
      ∙ ap (λ n. times_alpha_power n first) (let e : 32 * i + j % 8 + 8 * (j / 8) ≡ 32 * i + j = omega arith in e) in
      ap (λ ms. block ms j) (made ∙ joined-same (λ j. times_alpha_power (8 * (j / 8)) (block old (j % 8))) tweaks 32 same)
      ∙ block-joined tweaks 32 j (λ j h. length-times_alpha_power (32 * i + j) first long) h

  pub HoldMasks-first : (i : ℕ) → i ≡ 0 → ((j : ℕ) → j < 8 → block old j ≡ times_alpha_power j first) → HoldMasks first i now
  HoldMasks-first i none eight = HoldMasks-made i (λ j h. eight j h ∙ ap (λ n. times_alpha_power n first) (omega (arith, none)))

  -- from the masks of the part before
  pub HoldMasks-step : (before : List ℕ) (i : ℕ) → i ≢ 0 → HoldMasks first (i - 1) before → ((j : ℕ) → j < 8 → block old j ≡ times_alpha_power 8 (block before (24 + j))) → HoldMasks first i now
  HoldMasks-step before i some hold eight =
      HoldMasks-made i (λ j h.
      eight j h ∙ ap (times_alpha_power 8) (hold (24 + j) (omega (arith, h))) ∙ times_alpha_power-add (32 * (i - 1) + (24 + j)) 8 first
      ∙ ap (λ n. times_alpha_power n first) (let e : 32 * (i - 1) + (24 + j) + 8 ≡ 32 * i + j = omega (arith, some) in e))

pub HoldMasks-next : (first masks : List ℕ) (i : ℕ) → HoldMasks first i masks → HoldMasks first (i + 1 - 1) masks
HoldMasks-next first masks i hold = let same : i + 1 - 1 ≡ i = omega arith in rw same hold
