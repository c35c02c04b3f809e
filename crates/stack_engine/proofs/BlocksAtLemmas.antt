-- What is known of whole data blocks of a verity line that are read at once.
use Rattle.std.proofs.Common.{◌≡◌, ℕ, zero, suc, ◌+◌, ◌*◌, ◌/◌, ◌%◌, ◌<◌, ◌≤◌, Bool, List, length, Some, Ok, inl, inr, sym, ◌∙◌, arith}
use Rattle.std.proofs.lemmas.Bool.{cases_lt}
use Rattle.std.proofs.lemmas.Nat.{div-add-mod'}
use Rattle.std.proofs.Math.Nat.{add-mul, mul-le-mul_right}
use Rattle.tree_shape.specs.Digests.{digest}
use Rattle.tree_shape.specs.Shape.{levels}
use Rattle.block_device.specs.Device.{Device}
use Rattle.dm_table.specs.declared.verity.Verity.{Verity}
use Rattle.stack_rules.specs.Records.{Configuration}
use Rattle.stack_rules.specs.Names.{mapped, named, size as lower_size}
use Rattle.stack_rules.specs.Descend.{read_cost}
use Rattle.stack_rules.specs.Rules.{IsLoaded}
use Rattle.stack_rules.specs.Trees.{tree_of, block_sectors}
use Rattle.stack_lines.specs.declared.source.VerityPart.{VerityPart}
use Rattle.stack_lines.specs.declared.source.Source.TheVariants.{Blocks}
use Rattle.stack_meaning.specs.Outcomes.{Images, span}
use Rattle.stack_meaning.specs.Found.{FoundRecord}
use Rattle.stack_meaning.specs.Places.{Place, place_of}
use Rattle.stack_meaning.specs.Agreement.{AgreesOn}
use Rattle.stack_meaning.specs.Leaves.{steady_images, AreSteady, AreRead}
use Rattle.stack_lines.specs.AtOnce.{AreBefore, GoAtOnce}
use Rattle.stack_lines.specs.Clear.{IsClear}
use Rattle.stack_lines.specs.Caches.{StackCache}
use Rattle.stack_lines.specs.Sources.{AreWholeBlocks, source_said}
use Rattle.stack_lines.specs.Touches.{leaves_of}
use Rattle.stack_lines.specs.Walks.{HasVerity, block_in, settled_cost, way_cost}
use Rattle.stack_meaning.proofs.lemmas.LeafListLemmas.{AreSteady-kept, images-kept}
use Rattle.stack_lines.proofs.lemmas.VerityLineLemmas.{IsWholeSectors, data-whole, blocks-below}
use Rattle.stack_engine.specs.Premises.{CanRead}

-- the leaves beneath the device of a part agree with what parity restores on them
abbrev pub part_agrees : Configuration → VerityPart → Images → Type 0
part_agrees c p = AgreesOn c (leaves_of c (mapped p.device.0))

-- n sectors of a part, where so much is read for each as for all together at most
abbrev pub blocks_place : Configuration → VerityPart → ℕ → Place
blocks_place c p n = record { said = source_said c (Blocks p); cost = n * read_cost c (mapped p.device.0); leaves = leaves_of c (mapped p.device.0); agrees = part_agrees c p }

-- what the way to a block costs
abbrev pub path_cost : Configuration → Verity → ℕ
path_cost c v = levels (tree_of v) * way_cost (block_in c v 0)

-- what n sectors, so many ways to blocks, and so many data blocks that are settled cost
abbrev pub read_cost_so_far : Configuration → Verity → ℕ → ℕ → ℕ → ℕ
read_cost_so_far c v n ways spares = n * (block_in c v 0).on_data.cost + ways * path_cost c v + spares * settled_cost (block_in c v 0)

-- leaves that were read twice have the same images
pub same-images : {old a b : List Device} {q r : ℕ} → AreRead old q a → AreRead old r b → {these : ℕ → Bool} → AreSteady these b → AreSteady these a × (steady_images b ≡ steady_images a)
same-images {old = old} {a = a} {b = b} x y {these = these} steady =
    let before : AreSteady these old = AreSteady-kept b old (sym y.moved.fixed) steady in
    (AreSteady-kept old a x.moved.fixed before, images-kept y ∙ sym (images-kept x))

-- data block k of a part was read from the device beneath, since when no image changed, and its digest was made
pub record IsRead (c : Configuration) (p : VerityPart) (old : List Device) (k : ℕ) (block made : List ℕ) : Type 0 where
  pub from : List Device
  pub ways : ℕ
  pub first : AreRead old ways from
  pub means : AreSteady (leaves_of c p.data) from → AgreesOn c (leaves_of c p.data) (steady_images from) → span (λ s. ((place_of c p.data).said s).means (steady_images from)) (p.first + k * block_sectors p.verity.now) (block_sectors p.verity.now) ≡ Ok block
  pub made_is : made ≡ digest p.verity.now.salt block

-- what is known of whole data blocks that are read at once
pub record BlocksAt (c : Configuration) (p : VerityPart) (n : ℕ) (found : List FoundRecord) : Type 0 where
  pub loaded : IsLoaded c
  pub line : HasVerity c p.device.0 p.line p.verity.now
  pub is : named c p.verity.now.data ≡ Some p.data
  pub aligned : p.first % block_sectors p.verity.now ≡ 0
  pub size : IsWholeSectors p.verity.now.data_block
  pub count : n / block_sectors p.verity.now * block_sectors p.verity.now ≡ n
  pub some : 0 < n / block_sectors p.verity.now
  pub few : n ≤ 2048
  pub clear : IsClear c p.data
  pub before : AreBefore p.device.0 p.line (p.first / block_sectors p.verity.now) found
  pub below : p.first + n ≤ lower_size c p.data
  pub there : (j : ℕ) → j < n / block_sectors p.verity.now → p.first / block_sectors p.verity.now + j < p.verity.now.blocks

pub blocks-at : {c : Configuration} {p : VerityPart} {leaves : List Device} {cache : StackCache} {found : List FoundRecord} {out : List ℕ} → CanRead c leaves cache found (Blocks p) out → BlocksAt c p (length out / 512) found
blocks-at {c = c} {p = p} {found = found} {out = out} can =
    let n : ℕ = length out / 512 in
    let v : Verity = p.verity.now in
    let loaded = can.stack.sound.loaded in
    let blocks : AreWholeBlocks c p n = can.fits.holds in
    let go : GoAtOnce c p n found = can.can_go in
    let some : 0 < n = omega (arith, can.fits.sectors.some, can.fits.sectors.whole) in
    let size = data-whole c p.device.0 p.line v loaded blocks.of.is in
    let count : n / block_sectors v * block_sectors v ≡ n = omega (arith, div-add-mod' n (block_sectors v), blocks.whole) in
    record {
      loaded = loaded;
      line = blocks.of.is;
      is = blocks.of.on_data;
      aligned = blocks.aligned;
      size = size;
      count = count;
      some = quotient-some (n / block_sectors v) (block_sectors v) n count some;
      few = go.few;
      clear = go.clear;
      before = go.before;
      below = blocks-below c p n loaded blocks;
      there = λ j inside.
          let all : p.first / block_sectors v * block_sectors v ≡ p.first = omega (arith, div-add-mod' p.first (block_sectors v), blocks.aligned) in
          let next : (j + 1) * block_sectors v ≤ n / block_sectors v * block_sectors v = mul-le-mul_right (block_sectors v) (omega (arith, inside)) in
          let fits : (p.first / block_sectors v + j + 1) * block_sectors v ≤ v.blocks * block_sectors v = omega (arith, blocks.inside, all, next, count, add-mul (p.first / block_sectors v) (j + 1) (block_sectors v)) in
          no-more (p.first / block_sectors v + j) v.blocks (block_sectors v) size.some fits;
    }
  where
    quotient-some : (q u n : ℕ) → q * u ≡ n → 0 < n → 0 < q
    quotient-some zero u n e some = let none : 0 * u ≡ 0 = omega arith in absurd (omega (arith, e, some, none))
    quotient-some (suc q) u n e some = omega arith

    no-more : (a b u : ℕ) → 1 ≤ u → (a + 1) * u ≤ b * u → a < b
    no-more a b u some fits = elim (cases_lt a b) [
      | inl low ↦ low
      | inr high ↦ let more : (b + 1) * u ≤ (a + 1) * u = mul-le-mul_right u (omega (arith, high)) in absurd (omega (arith, more, fits, some, add-mul b 1 u))
    ]
