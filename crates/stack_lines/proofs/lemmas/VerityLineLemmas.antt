-- What a loaded configuration gives of a verity line and its blocks.
use Rattle.stack_meaning.specs.LeavesBeneath.{name_stands_on, stands_on}
use Rattle.std.proofs.Common.{◌≡◌, ℕ, ◌+◌, ◌-◌, ◌*◌, ◌/◌, ◌<◌, ◌≤◌, Bool, false, cond, List, ◌∷◌, Option, Some, None, refl, sym, ap, ◌∙◌, subst, arith, inl, inr}
use Rattle.std.specs.Prelude.{option_and_then, option_map, slice_get}
use Rattle.std.specs.Option.{option_map_or}
use Rattle.std.proofs.Math.Nat.{mul_comm}
use Rattle.std.proofs.lemmas.Bool.{cases_lt, le-ltb, lt-ltb}
use Rattle.std.proofs.lemmas.Nat.{div_below}
use Rattle.tree_shape.specs.Shape.{area_end}
use Rattle.dm_table.specs.declared.parity.Parity.{Parity}
use Rattle.dm_table.specs.declared.verity.Verity.{Verity}
use Rattle.dm_table.specs.declared.table.Line.{Line}
use Rattle.dm_table.specs.declared.table.Target.TheVariants.{Verity as verity_target}
use Rattle.stack_rules.specs.declared.lower.Lower.{Lower}
use Rattle.stack_rules.specs.Records.{Configuration}
use Rattle.stack_rules.specs.Names.{mapped, named, size, may_write}
use Rattle.stack_rules.specs.Descend.{by_name, depth, known, read_cost}
use Rattle.stack_rules.specs.Rules.{IsLoaded}
use Rattle.stack_rules.specs.Trees.{tree_of, line_data_sectors, block_sectors, round_count}
use Rattle.stack_rules.specs.targets.Verity.{parity_bases}
use Rattle.stack_config.proofs.lemmas.ParityLineLemmas.{IsParityLine, parity-line, covered_hash-inside, round_parity-inside}
use Rattle.stack_config.proofs.lemmas.VerityLineLemmas.{IsVerityLine, verity-line, data_block-inside, hash_block-inside}
use Rattle.stack_lines.specs.declared.source.VerityPart.{VerityPart}
use Rattle.stack_lines.specs.declared.tree.Tree.{Tree}
use Rattle.stack_meaning.specs.Agreement.{AgreesOn}
use Rattle.stack_meaning.specs.Blocks.{hash_sectors}
use Rattle.stack_meaning.specs.Meaning.{Said, none_said, said_at, said_by_name}
use Rattle.stack_meaning.specs.Beneath.{said_or}
use Rattle.stack_meaning.specs.Spares.{covered_start, parity_start}
use Rattle.stack_meaning.specs.Places.{Place, place_of}
pub use Rattle.stack_meaning.proofs.lemmas.BlockSizeLemmas.{IsWholeSectors, whole-sectors}
use Rattle.stack_lines.specs.Covered.{HasParity, covered_lower}
use Rattle.stack_lines.specs.Sources.{HasTarget, LieInBlock, AreWholeBlocks, parity_lower}
use Rattle.stack_lines.specs.Walks.{HasVerity, IsTreeOf, parity_place, place_named}

-- ---- lines

module _ (c : Configuration) (d l : ℕ) (v : Verity) (loaded : IsLoaded c) (has : HasVerity c d l v) where
  pub line-facts : (below : Lower) × (hash : Lower) × IsVerityLine c d has.line v below hash
  line-facts = verity-line c d l has.line v loaded has.is has.has

-- the arguments of one line
pub same-verity : (c : Configuration) (d l m n : ℕ) (v w : Verity) → HasTarget c d l (verity_target v) m → HasTarget c d l (verity_target w) n → v ≡ w
same-verity c d l m n v w a b =
    let both : Some a.line ≡ Some b.line = sym a.is ∙ b.is in
    let lines : a.line ≡ b.line = cc in
    let targets : verity_target v ≡ verity_target w = sym a.has ∙ ap (λ (x : Line). x.target) lines ∙ b.has in
    cc

-- ---- trees

-- what a name means is the place of what it names
pub place-named : (c : Configuration) (name : List ℕ) (lower : Lower) → named c name ≡ Some lower → place_named c name ≡ place_of c lower
place-named c name lower is = ap {B = Place} (λ (o : Option Lower). record { said = known {A = ℕ → Said} (λ t. none_said) (said_at c) o; cost = known 0 (read_cost c) o; leaves = λ i. known false (stands_on c i) o; agrees = AgreesOn c (λ i. known false (stands_on c i) o) }) is

module _ (c : Configuration) (v : Verity) (tree : Tree) (loaded : IsLoaded c) (is : IsTreeOf c v tree) where
  facts : IsVerityLine c tree.device.0 is.is.line v tree.data tree.hash
  facts =
      let all = line-facts c tree.device.0 tree.line v loaded is.is in
      let below : Some all.0 ≡ Some tree.data = sym all.2.below_named ∙ is.on_data in
      let hash : Some all.1 ≡ Some tree.hash = sym all.2.hash_named ∙ is.on_hash in
      let a : all.0 ≡ tree.data = cc in
      let b : all.1 ≡ tree.hash = cc in
      subst (λ (x : Lower). IsVerityLine c tree.device.0 is.is.line v x tree.hash) a (subst (λ (y : Lower). IsVerityLine c tree.device.0 is.is.line v all.0 y) b all.2)

  pub data-depth : depth c tree.data < depth c (mapped tree.device.0)
  data-depth = facts.below_shallower

  pub hash-depth : depth c tree.hash < depth c (mapped tree.device.0)
  hash-depth = facts.hash_shallower

  pub data-inside : (i : ℕ) → i < v.blocks → block_sectors v * i + block_sectors v ≤ size c tree.data
  data-inside i low = let room = data_block-inside c tree.device.0 is.is.line v tree.data tree.hash facts i low in omega (arith, room, mul_comm i (block_sectors v))

  pub hash-inside : (k : ℕ) → k < area_end (tree_of v) → hash_sectors v * k + hash_sectors v ≤ size c tree.hash
  hash-inside k low = let room = hash_block-inside c tree.device.0 is.is.line v tree.data tree.hash facts k low in omega (arith, room, mul_comm k (hash_sectors v))

-- ---- parity

-- the parity of a line, and the device that it is stored on
pub record IsParityNamed (c : Configuration) (v : Verity) (lower : Lower) : Type 0 where
  pub parity : Parity
  pub has : v.parity ≡ Some parity
  pub named : named c parity.device ≡ Some lower

parity-given : (c : Configuration) (v : Verity) (lower : Lower) → parity_lower c v ≡ Some lower → IsParityNamed c v lower
parity-given c v lower is = go v.parity refl is
  where
    go : (o : Option Parity) → v.parity ≡ o → option_and_then (λ p. named c p.device) o ≡ Some lower → IsParityNamed c v lower
    go None has h = let clash : None ≡ Some lower = h in cc
    go (Some p) has h = record { parity = p; has = has; named = h }

-- its place is that of the device
parity-placed : (c : Configuration) (v : Verity) (lower : Lower) → parity_lower c v ≡ Some lower → parity_place c v ≡ place_of c lower
parity-placed c v lower is =
    let p = parity-given c v lower is in
    let at : Option Parity → Place = λ o. record {
      said = λ t. said_or none_said (said_by_name c) (option_map (λ base. (base.device, t)) (slice_get (record { device = v.data; offset = 0 } ∷ record { device = v.hash; offset = 0 } ∷ parity_bases o) 2));
      cost = option_map_or (λ p. by_name c 0 (read_cost c) p.device) o 0;
      leaves = λ i. option_map_or (λ p. name_stands_on c i p.device) o false;
      agrees = AgreesOn c (λ i. option_map_or (λ p. name_stands_on c i p.device) o false);
    } in
    ap at p.has ∙ place-named c p.parity.device lower p.named

module _ (c : Configuration) (v : Verity) (tree : Tree) (is : IsTreeOf c v tree) where
  pub parity-named : (lower : Lower) → tree.parity ≡ Some lower → IsParityNamed c v lower
  parity-named lower there = parity-given c v lower (is.on_parity ∙ there)

  pub parity-place : (lower : Lower) → tree.parity ≡ Some lower → parity_place c v ≡ place_of c lower
  parity-place lower there = parity-placed c v lower (is.on_parity ∙ there)

module _ (c : Configuration) (v : Verity) (p : Parity) (tree : Tree) (loaded : IsLoaded c) (line : HasParity c v p tree) where
  parity-facts : (parity : Lower) × IsParityLine c tree.device.0 v p tree.hash parity
  parity-facts = parity-line c tree.device.0 tree.line line.lies.is.line v p loaded line.lies.is.is line.lies.is.has line.has tree.hash line.lies.on_hash

  -- the device of the parity
  pub parity-there : (lower : Lower) × (tree.parity ≡ Some lower) × IsParityLine c tree.device.0 v p tree.hash lower
  parity-there =
      let it = parity-facts in
      (it.0, sym line.lies.on_parity ∙ ap (option_and_then (λ (p : Parity). named c p.device)) line.has ∙ it.1.parity_named, it.1)

  -- each covered block lies inside its device
  pub covered-inside : (j : ℕ) → j < p.blocks → covered_start v j + block_sectors v ≤ size c (covered_lower v tree j)
  covered-inside j low = elim (cases_lt j v.blocks) [
    | inl within ↦
        subst (λ (b : Bool). cond b (block_sectors v * j) (block_sectors v * (v.start + (j - v.blocks))) + block_sectors v ≤ size c (cond b tree.data tree.hash)) (sym (lt-ltb j v.blocks within))
        (data-inside c v tree loaded line.lies j within)
    | inr past ↦
        let room = covered_hash-inside c tree.device.0 v p tree.hash parity-facts.0 parity-facts.1 j low past in
        subst (λ (b : Bool). cond b (block_sectors v * j) (block_sectors v * (v.start + (j - v.blocks))) + block_sectors v ≤ size c (cond b tree.data tree.hash)) (sym (le-ltb j v.blocks past)) room
  ]

  -- so does the parity of each round
  pub round-inside : (lower : Lower) → tree.parity ≡ Some lower → (n : ℕ) → n < round_count p → parity_start v p n + block_sectors v * p.roots ≤ size c lower
  round-inside lower there n low =
      let it = parity-there in
      let both : Some it.0 ≡ Some lower = sym it.1 ∙ there in
      let same : it.0 ≡ lower = cc in
      subst (λ (x : Lower). parity_start v p n + block_sectors v * p.roots ≤ size c x) same (round_parity-inside c tree.device.0 v p tree.hash it.0 it.2 n low)

-- the device of the parity is less deep
pub parity-depth : (c : Configuration) (v : Verity) (tree : Tree) → IsLoaded c → IsTreeOf c v tree → (lower : Lower) → tree.parity ≡ Some lower → depth c lower < depth c (mapped tree.device.0)
parity-depth c v tree loaded is lower there =
    let p = parity-named c v tree is lower there in
    let it = parity-there c v p.parity tree loaded (record { lies = is; has = p.has }) in
    let both : Some it.0 ≡ Some lower = sym it.1 ∙ there in
    let same : it.0 ≡ lower = cc in
    subst (λ (x : Lower). depth c x < depth c (mapped tree.device.0)) same it.2.shallower

-- ---- parts of blocks

-- a verity line's device isn't written
pub line-read_only : (c : Configuration) (d l n : ℕ) (v : Verity) → IsLoaded c → HasTarget c d l (verity_target v) n → may_write c (mapped d) ≡ false
line-read_only c d l n v loaded has = (verity-line c d l has.line v loaded has.is has.has).2.read_only

module _ (c : Configuration) (d l : ℕ) (v : Verity) (loaded : IsLoaded c) (has : HasVerity c d l v) where
  pub data-whole : IsWholeSectors v.data_block
  data-whole = whole-sectors v.data_block (line-facts c d l v loaded has).2.shape.data_size

  pub hash-whole : IsWholeSectors v.hash_block
  hash-whole = whole-sectors v.hash_block (line-facts c d l v loaded has).2.shape.hash_size

-- sectors of a line are those of its data blocks
pub line-inside : (c : Configuration) (d l : ℕ) (v : Verity) (n : ℕ) → IsLoaded c → HasTarget c d l (verity_target v) n → n ≤ line_data_sectors v
line-inside c d l v n loaded has = let covers = (verity-line c d l has.line v loaded has.is has.has).2.covers in omega (arith, covers, has.fits)

-- the block of a part is one of the line's
pub part-index : (c : Configuration) (x : VerityPart) (n : ℕ) → IsLoaded c → LieInBlock c x n → 0 < n → x.first / block_sectors x.verity.now < x.verity.now.blocks
part-index c x n loaded lies some =
    div_below x.first (block_sectors x.verity.now) x.verity.now.blocks (data-whole c x.device.0 x.line x.verity.now loaded lies.of.is).some (omega (arith, some, lies.inside))

-- whole blocks lie inside the data device
pub blocks-below : (c : Configuration) (x : VerityPart) (n : ℕ) → IsLoaded c → AreWholeBlocks c x n → x.first + n ≤ size c x.data
blocks-below c x n loaded blocks =
    let line = line-facts c x.device.0 x.line x.verity.now loaded blocks.of.is in
    let both : Some line.0 ≡ Some x.data = sym line.2.below_named ∙ blocks.of.on_data in
    let lowers : line.0 ≡ x.data = cc in
    let room : line_data_sectors x.verity.now ≤ size c x.data = subst (λ (y : Lower). line_data_sectors x.verity.now ≤ size c y) lowers line.2.below_inside in
    omega (arith, blocks.inside, room)
