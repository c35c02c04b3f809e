-- Sectors that have bytes have 512, and the parts of a span.
use Rattle.std.proofs.Common.{◌≡◌, ℕ, zero, suc, ◌+◌, ◌*◌, ◌/◌, ◌%◌, ◌<◌, List, [], ◌++◌, length, get_or, All, take, drop, Option, Some, None, Ok, Err, refl, sym, ap, ◌∙◌, subst, arith, inl, inr}
use Rattle.std.proofs.lemmas.List.{get_or_past, length-append, length-drop, length-take-le, length-replicate, take_all, take-append-le}
use Rattle.std.proofs.Math.Seq.{drop-append-add}
use Rattle.std.proofs.lemmas.List.Elements.{All-get_or}
use Rattle.std.proofs.lemmas.Bool.{cases_lt, cases_Bool, cond-true, cond-false}
use Rattle.std.proofs.lemmas.Nat.{mod_below}
use Rattle.block_device.specs.Device.{IsSector}
use Rattle.dm_table.specs.declared.verity.Verity.{Verity}
use Rattle.tree_shape.specs.Shape.{ancestor}
use Rattle.stack_rules.specs.Trees.{block_sectors, tree_of, zero_block}
use Rattle.xts_sector.proofs.lemmas.UnitLemmas as xts
use Rattle.stack_meaning.specs.declared.units.CryptUnits.{CryptUnits}
use Rattle.stack_meaning.specs.Units.{per_unit, crypt_unit_number, decrypted_unit, unit_part, unit_first}
use Rattle.stack_meaning.specs.Beneath.{said_or}
use Rattle.stack_meaning.specs.Erasures.{covered_spare}
use Rattle.stack_meaning.specs.Spares.{BlockSources}
use Rattle.stack_meaning.specs.Blocks.{hash_block_at, next_digest, checked, checked_span, is_ignored, data_block_at, block_below}
use Rattle.stack_meaning.specs.Said.{Said, none_said, leaf_said}
use Rattle.stack_meaning.specs.targets.Crypt.{crypt_said}
use Rattle.stack_meaning.specs.Outcomes.{Images, Outcome, changed_outcome, joint_outcome, span, zero_sector, AreWhole}
use Rattle.stack_meaning.proofs.lemmas.CheckedLemmas.{checked-is, then-parts}
use Rattle.stack_meaning.proofs.lemmas.MeaningLaws.{IsSized}
use Rattle.stack_meaning.proofs.lemmas.ErasureLemmas.{spare-length}
use Rattle.stack_meaning.proofs.lemmas.SpareLemmas.{healed-from}
use Rattle.stack_meaning.proofs.lemmas.SpanLemmas.{span-add}
use Rattle.stack_meaning.proofs.lemmas.UnitSizeLemmas.{per_unit-some}

-- ---- spans

-- what has bytes has 512
abbrev pub AreSized : (ℕ → Outcome) → Type 0
AreSized at = (s : ℕ) (b : List ℕ) → at s ≡ Ok b → IsSector b

pub joint-parts : (a b : Outcome) (bytes : List ℕ) → joint_outcome a b ≡ Ok bytes → (x : List ℕ) × (y : List ℕ) × (a ≡ Ok x) × (b ≡ Ok y) × (bytes ≡ x ++ y)
joint-parts (Ok x) (Ok y) bytes e = let same : x ++ y ≡ bytes = cc in (x, y, refl, refl, sym same)
joint-parts (Ok x) (Err f) bytes e = cc
joint-parts (Err f) b bytes e = cc

pub span-length : (at : ℕ → Outcome) → AreSized at → (first n : ℕ) (bytes : List ℕ) → span at first n ≡ Ok bytes → length bytes ≡ 512 * n
span-length at sized first zero bytes e = let same : [] ≡ bytes = cc in ap length (sym same) ∙ (let none : 0 ≡ 512 * 0 = omega arith in none)
span-length at sized first (suc n) bytes e =
    let both = joint-parts (at first) (span at (suc first) n) bytes e in
    let one : length both.0 ≡ 512 = sized first both.0 both.2 in
    let more = span-length at sized (suc first) n both.1 both.3 in
    omega (arith, ap (λ (l : List ℕ). length l) both.4, length-append both.0 both.1, one, more)

-- the bytes between two others
between : (x y z : List ℕ) (a n : ℕ) → length x ≡ a → length y ≡ n → take n (drop a (x ++ (y ++ z))) ≡ y
between x y z a n ex ey =
    let at : a ≡ length x + 0 = omega (arith, ex) in
    ap (λ (k : ℕ). take n (drop k (x ++ (y ++ z)))) at ∙ ap (take n) (drop-append-add x (y ++ z) 0) ∙ take-append-le n y z (omega (arith, ey)) ∙ take_all n y (omega (arith, ey))

-- a part of a span
pub span-part : (at : ℕ → Outcome) → AreSized at → (first a n m : ℕ) (bytes : List ℕ) → span at first (a + (n + m)) ≡ Ok bytes → span at (first + a) n ≡ Ok (take (512 * n) (drop (512 * a) bytes))
span-part at sized first a n m bytes e =
    let outer = joint-parts (span at first a) (span at (first + a) (n + m)) bytes (sym (span-add at first a (n + m)) ∙ e) in
    let inner = joint-parts (span at (first + a) n) (span at (first + a + n) m) outer.1 (sym (span-add at (first + a) n m) ∙ outer.3) in
    let whole : bytes ≡ outer.0 ++ (inner.0 ++ inner.1) = outer.4 ∙ ap (λ (l : List ℕ). outer.0 ++ l) inner.4 in
    inner.2
    ∙ ap Ok (sym (ap (λ (l : List ℕ). take (512 * n) (drop (512 * a) l)) whole
    ∙ between outer.0 inner.0 inner.1 (512 * a) (512 * n) (span-length at sized first a outer.0 outer.2) (span-length at sized (first + a) n inner.0 inner.2)))

-- ---- blocks that are checked

data-length : (v : Verity) (below : BlockSources) → 512 * block_sectors v ≡ v.data_block → AreSized below.on_data → (i : ℕ) (expected bytes : List ℕ) → data_block_at v below i expected ≡ Ok bytes → length bytes ≡ 512 * block_sectors v
data-length v below whole sized i expected bytes e = elim (cases_Bool (is_ignored v expected)) [
  | inl zeros ↦
      let both : Ok (zero_block v) ≡ Ok bytes = sym (cond-true _ _ _ zeros) ∙ e in
      let same : zero_block v ≡ bytes = cc in
      ap length (sym same) ∙ length-replicate {A = ℕ} v.data_block 0 ∙ sym whole
  | inr other ↦
      let first : ℕ = block_sectors v * i in
      elim (healed-from (checked_span below.on_data first (block_sectors v) v.salt expected) (covered_spare v below v.parity i expected) bytes (sym (cond-false _ _ _ other) ∙ e)) [
        | inl own ↦
            let read = then-parts (span below.on_data first (block_sectors v)) (checked v.salt expected) bytes own in
            ap length (sym (checked-is v.salt expected read.0 bytes read.2)) ∙ span-length below.on_data sized first (block_sectors v) read.0 read.1
        | inr spare ↦ spare-length v below v.parity i expected bytes spare ∙ sym whole
      ]
]

pub block-length : (v : Verity) (below : BlockSources) → 512 * block_sectors v ≡ v.data_block → AreSized below.on_data → (i l : ℕ) (expected bytes : List ℕ) → block_below v below i l expected ≡ Ok bytes → length bytes ≡ 512 * block_sectors v
block-length v below whole sized i zero expected bytes e = data-length v below whole sized i expected bytes e
block-length v below whole sized i (suc l) expected bytes e =
    let read = then-parts (hash_block_at v below l (ancestor (tree_of v) (l + 1) i) expected) (λ block. block_below v below i l (next_digest v l i block)) bytes e in
    block-length v below whole sized i l (next_digest v l i read.0) bytes read.2

-- ---- sectors

pub zero-size : IsSector zero_sector
unfolding zero_sector
zero-size = length-replicate {A = ℕ} 512 0

image-size : (image : List (List ℕ)) (s : ℕ) → All IsSector image → IsSector (get_or image s zero_sector)
image-size image s all = elim (cases_lt s (length image)) [
  | inl low ↦ All-get_or IsSector image s zero_sector low all
  | inr high ↦ subst IsSector (sym (get_or_past image s zero_sector high)) zero-size
]

pub leaf-size : (images : Images) → AreWhole images → (i s : ℕ) → IsSized images (leaf_said i s)
leaf-size images whole i s b e =
    let image : List (List ℕ) = get_or images i [] in
    let sized : All IsSector image = elim (cases_lt i (length images)) [
      | inl low ↦ All-get_or (λ (image : List (List ℕ)). All IsSector image) images i [] low whole
      | inr high ↦ subst (λ (l : List (List ℕ)). All IsSector l) (sym (get_or_past images i [] high)) (λ k d below. absurd (omega (arith, below)))
    ] in
    let same : get_or image s zero_sector ≡ b = cc in
    subst IsSector same (image-size image s sized)

pub or-size : (images : Images) (at : List ℕ → ℕ → Said) → ((name : List ℕ) (s : ℕ) → IsSized images (at name s)) → (o : Option (List ℕ × ℕ)) → IsSized images (said_or none_said at o)
or-size images at all None b e = cc
or-size images at all (Some p) b e = all p.0 p.1 b e

changed-parts : (f : List ℕ → List ℕ) (o : Outcome) (bytes : List ℕ) → changed_outcome f o ≡ Ok bytes → (x : List ℕ) × (o ≡ Ok x) × (bytes ≡ f x)
changed-parts f (Ok x) bytes e = let same : f x ≡ bytes = cc in (x, refl, sym same)
changed-parts f (Err x) bytes e = cc

-- a sector of a unit
pub unit_part-size : (units : CryptUnits) (key : List ℕ) (s : ℕ) (bytes : List ℕ) → length bytes ≡ 512 * per_unit units → IsSector (unit_part units key s bytes)
unit_part-size units key s bytes len =
    let u : ℕ = per_unit units in
    let out = decrypted_unit units key (s / u) bytes in
    let long : length out ≡ 512 * u = xts.length-decrypted key (crypt_unit_number units (s / u)) bytes (omega (arith, len)) ∙ len in
    let low : s % u < u = mod_below s u (omega (arith, per_unit-some units)) in
    length-take-le 512 (drop (512 * (s % u)) out) (omega (arith, long, low, length-drop (512 * (s % u)) out))

pub crypt-size : (images : Images) (lower : ℕ → Said) → ((t : ℕ) → IsSized images (lower t)) → (units : CryptUnits) (key : List ℕ) (s : ℕ) → IsSized images (crypt_said lower units key s)
crypt-size images lower all units key s b e =
    let f : ℕ → Outcome = λ t. (lower t).means images in
    let read = changed-parts (unit_part units key s) (span f (unit_first units s) (per_unit units)) b e in
    subst IsSector (sym read.2) (unit_part-size units key s read.0 (span-length f all (unit_first units s) (per_unit units) read.0 read.1))
