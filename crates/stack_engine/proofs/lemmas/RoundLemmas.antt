-- The blocks of a round and its parity, as a line with parity reads them.
use Rattle.std.proofs.Common.{◌≡◌, ℕ, ◌-◌, ◌*◌, ◌/◌, ◌%◌, ◌<◌, ◌≤◌, Bool, IsTrue, ◌||◌, true, false, cond, nat_eq, nat_lt, List, length, Option, Some, None, Ok, Err, refl, sym, ap, ◌∙◌, subst, arith, inl, inr}
use Rattle.std.specs.Prelude.{option_map}
use Rattle.std.proofs.lemmas.Bool.{cases_lt}
use Rattle.std.proofs.lemmas.Grind.{div_ceil_times}
use Rattle.std.proofs.lemmas.Nat.{div_below}
use Rattle.std.proofs.Math.Nat.{mul-le-mul_left, mul_comm, mul-mod_left, mul-div_cancel}
use Rattle.block_device.specs.Device.{Device}
use Rattle.dm_table.specs.declared.parity.Parity.{Parity}
use Rattle.dm_table.specs.declared.verity.Verity.{Verity}
use Rattle.stack_rules.specs.declared.lower.Lower.{Lower}
use Rattle.stack_rules.specs.Descend.{depth, read_cost}
use Rattle.stack_rules.specs.Names.{mapped}
use Rattle.stack_rules.specs.Records.{Configuration}
use Rattle.stack_rules.specs.Rules.{IsLoaded}
use Rattle.stack_rules.specs.Trees.{block_sectors, round_count, zero_block}
use Rattle.stack_meaning.specs.declared.fault.IoFault.{IoFault}
use Rattle.stack_meaning.specs.Leaves.{steady_images}
use Rattle.stack_meaning.specs.Outcomes.{Images, Outcome, span, then_outcome}
use Rattle.stack_meaning.specs.Places.{Place, place_of, run_expected}
use Rattle.stack_meaning.specs.Reading.{Gets}
use Rattle.stack_meaning.specs.Spares.{added_block, covered_block, covered_start, parity_start, place_number, round_block, verified_blocks, with_parity}
use Rattle.stack_meaning.proofs.lemmas.LeafListLemmas.{AreRead-none, AreRead-more}
use Rattle.stack_meaning.proofs.lemmas.RunLemmas.{certain-for, fault_passes}
use Rattle.stack_lines.specs.declared.tree.Extent.{Extent}
use Rattle.stack_lines.specs.declared.tree.Tree.{Tree}
use Rattle.stack_lines.specs.Touches.{leaves_of}
use Rattle.stack_meaning.specs.Agreement.{AgreesOn}
use Rattle.stack_lines.specs.Walks.{AgreesAt, DataBlock, IsTreeOf, block_in, block_leaves, sources_of}
use Rattle.stack_lines.proofs.lemmas.StandingLemmas.{or-true}
use Rattle.stack_lines.proofs.lemmas.TouchLemmas.{AreWithin, data-within, hash-within, parity-within}
use Rattle.stack_lines.proofs.lemmas.VerityLineLemmas.{data-depth, hash-depth, parity-depth, parity-place, parity-there, place-named}
use Rattle.stack_engine.specs.Bytes.{GetsBytes}
use Rattle.stack_engine.specs.SectorCalls.{DataPlace, covered_at, other_at, other_by, place_in}
use Rattle.stack_engine.specs.Spares.{IsStoredAt, other_wanted, sector_cost, stored_wanted}
use Rattle.stack_engine.specs.declared.spare.Stored.{Stored}
use Rattle.stack_engine.proofs.SumLemmas.{added-zeros}

-- ---- a block of a line with parity

-- what is added is another block of a round of parity
pub other-given : (p : DataPlace) (o : Option Parity) (i : ℕ) (e : Extent) → other_by p o i ≡ Some e → (q : Parity) × (o ≡ Some q) × (other_at p q i ≡ Some e)
other-given p None i e h = let clash : None ≡ Some e = h in absurd cc
other-given p (Some q) i e h = (q, refl, h)

-- the parity of a round has so many bytes for each of a block
pub stored-count : (sectors roots size len : ℕ) → 512 * sectors ≡ size → 0 < size → len ≡ sectors * roots * 512 → (len % size ≡ 0) × (len / size ≡ roots)
stored-count sectors roots size len whole some is =
    let swap : sectors * roots * 512 ≡ roots * (512 * sectors) = grind arith in
    let all : len ≡ roots * size = is ∙ swap ∙ ap (λ (k : ℕ). roots * k) whole in
    (ap (λ (k : ℕ). k % size) all ∙ mul-mod_left roots size, ap (λ (k : ℕ). k / size) all ∙ mul-div_cancel roots some)

-- a covered block has a position in its round
round-low : (q : Parity) (j : ℕ) → q.roots ≤ 24 → j < q.blocks → j / round_count q < 255 - q.roots
round-low q j few inside =
    let room : q.blocks ≤ round_count q * (255 - q.roots) = (div_ceil_times q.blocks (255 - q.roots) (omega (arith, few))).0 in
    let swap : round_count q * (255 - q.roots) ≡ (255 - q.roots) * round_count q = mul_comm (round_count q) (255 - q.roots) in
    elim (cases_lt 0 (round_count q)) [
      | inl some ↦ div_below j (round_count q) (255 - q.roots) some (omega (arith, room, swap, inside))
      | inr none ↦
          let no_rounds : round_count q ≡ 0 = omega (arith, none) in
          let nothing : round_count q * (255 - q.roots) ≡ 0 * (255 - q.roots) = ap (λ (n : ℕ). n * (255 - q.roots)) no_rounds in
          absurd (omega (arith, nothing, room, inside))
    ]

-- a position of the round of the parity that the line has
pub mend-inside : (o : Option Parity) (p q : Parity) (i : ℕ) → o ≡ Some p → o ≡ Some q → i < 255 - p.roots → i < 255 - q.roots
mend-inside o p q i one two inside =
    let both : Some p ≡ Some q = sym one ∙ two in
    let same : p ≡ q = cc in
    subst (λ (x : Parity). i < 255 - x.roots) same inside

-- so many bytes of parity for a codeword, too
pub same-roots : (o : Option Parity) (p q : Parity) → o ≡ Some p → o ≡ Some q → p.roots ≡ q.roots
same-roots o p q one two =
    let both : Some p ≡ Some q = sym one ∙ two in
    let same : p ≡ q = cc in
    ap (λ (x : Parity). x.roots) same

pub many-lost : (o : Option Parity) (p q : Parity) (n : ℕ) → o ≡ Some p → o ≡ Some q → p.roots < n → q.roots < n
many-lost o p q n one two more = omega (arith, more, same-roots o p q one two)

pub few-lost : (o : Option Parity) (p q : Parity) (n : ℕ) → o ≡ Some p → o ≡ Some q → n ≤ p.roots → n ≤ q.roots
few-lost o p q n one two most = omega (arith, most, same-roots o p q one two)

-- what the sums need of the parity of a loaded line
pub record IsRound (q : Parity) (index : ℕ) : Type 0 where
  pub some : 2 ≤ q.roots
  pub few : q.roots ≤ 24
  pub low : index / round_count q < 255 - q.roots

pub is-round : (c : Configuration) (v : Verity) (tree : Tree) (loaded : IsLoaded c) → IsTreeOf c v tree → (index : ℕ) → index < verified_blocks v → (q : Parity) → v.parity ≡ Some q → IsRound q index
is-round c v tree loaded is index there q has =
    let line = (parity-there c v q tree loaded (record { lies = is; has = has })).2 in
    record {
      some = line.grammar.some_roots;
      few = line.grammar.most_roots;
      low = round-low q index line.grammar.most_roots (omega (arith, there, line.covers));
    }

-- what is read of an extent, or zeros
abbrev pub extent_means : Configuration → Verity → Option Extent → Images → Outcome
extent_means c v None images = Ok (zero_block v)
extent_means c v (Some e) images = span (λ s. ((place_of c e.lower).said s).means images) e.first e.sectors

-- an extent of one of the three devices of a line
pub record IsOfLine (c : Configuration) (tree : Tree) (b : DataBlock) (lower : Lower) : Type 0 where
  pub cost : read_cost c lower ≤ sector_cost b
  pub leaves : (i : ℕ) → IsTrue (leaves_of c lower i) → IsTrue (block_leaves b i)
  pub within : AreWithin (leaves_of c lower) (leaves_of c (mapped tree.device.0))
  pub deep : depth c lower < depth c (mapped tree.device.0)
  pub agrees : (images : Images) → AgreesAt b images → AgreesOn c (leaves_of c lower) images

or-left : (x y : Bool) → IsTrue x → IsTrue (x || y)
or-left x y is = ap (λ (b : Bool). b || y) is

or-right : (x y : Bool) → IsTrue y → IsTrue (x || y)
or-right x y is = ap (λ (b : Bool). x || b) is ∙ or-true x

module _ (c : Configuration) (v : Verity) (tree : Tree) (loaded : IsLoaded c) (is : IsTreeOf c v tree) (index : ℕ) where
  abbrev pub b : DataBlock
  b = block_in c v index

  data-same : b.on_data ≡ place_of c tree.data
  data-same = place-named c v.data tree.data is.on_data

  hash-same : b.on_hash ≡ place_of c tree.hash
  hash-same = place-named c v.hash tree.hash is.on_hash

  data-of : IsOfLine c tree b tree.data
  data-of = record {
    cost = let same : b.on_data.cost ≡ read_cost c tree.data = ap (λ (p : Place). p.cost) data-same in omega (arith, same);
    leaves = λ i on. or-left (b.on_data.leaves i) (b.on_hash.leaves i || b.on_parity.leaves i) (ap (λ (p : Place). p.leaves i) data-same ∙ on);
    within = data-within c v tree loaded is;
    deep = data-depth c v tree loaded is;
    agrees = λ images all. subst (λ (p : Place). p.agrees images) data-same all.on_data;
  }

  hash-of : IsOfLine c tree b tree.hash
  hash-of = record {
    cost = let same : b.on_hash.cost ≡ read_cost c tree.hash = ap (λ (p : Place). p.cost) hash-same in omega (arith, same);
    leaves = λ i on. or-right (b.on_data.leaves i) (b.on_hash.leaves i || b.on_parity.leaves i) (or-left (b.on_hash.leaves i) (b.on_parity.leaves i) (ap (λ (p : Place). p.leaves i) hash-same ∙ on));
    within = hash-within c v tree loaded is;
    deep = hash-depth c v tree loaded is;
    agrees = λ images all. subst (λ (p : Place). p.agrees images) hash-same all.on_hash;
  }

  pub parity-of : (lower : Lower) → tree.parity ≡ Some lower → IsOfLine c tree b lower
  parity-of lower there =
      let same : b.on_parity ≡ place_of c lower = parity-place c v tree is lower there in
      record {
        cost = let cost : b.on_parity.cost ≡ read_cost c lower = ap (λ (p : Place). p.cost) same in omega (arith, cost);
        leaves = λ i on. or-right (b.on_data.leaves i) (b.on_hash.leaves i || b.on_parity.leaves i) (or-right (b.on_hash.leaves i) (b.on_parity.leaves i) (ap (λ (p : Place). p.leaves i) same ∙ on));
        within = parity-within c v tree loaded is lower there;
        deep = parity-depth c v tree loaded is lower there;
        agrees = λ images all. subst (λ (p : Place). p.agrees images) same all.on_parity;
      }

  -- a covered block is read where it is stored
  pub covered-means : (images : Images) (k : ℕ)
      → covered_block v (sources_of b images) k ≡ span (λ s. ((place_of c (covered_at (place_in v tree index) k).lower).said s).means images) (covered_start v k) (block_sectors v)
  covered-means images k = go (nat_lt k v.blocks)
    where
      go : (t : Bool) → span (cond t (sources_of b images).on_data (sources_of b images).on_hash) (covered_start v k) (block_sectors v)
          ≡ span (λ s. ((place_of c (cond t tree.data tree.hash)).said s).means images) (covered_start v k) (block_sectors v)
      go true = ap (λ (p : Place). span (λ s. (p.said s).means images) (covered_start v k) (block_sectors v)) data-same
      go false = ap (λ (p : Place). span (λ s. (p.said s).means images) (covered_start v k) (block_sectors v)) hash-same

  pub covered-of : (k : ℕ) → IsOfLine c tree b (covered_at (place_in v tree index) k).lower
  covered-of k = go (nat_lt k v.blocks)
    where
      go : (t : Bool) → IsOfLine c tree b (cond t tree.data tree.hash)
      go true = data-of
      go false = hash-of

  module _ (q : Parity) (i : ℕ) where
    pub other-means : (images : Images) → round_block v q (sources_of b images) (index % round_count q) (index / round_count q) i ≡ extent_means c v (other_at (place_in v tree index) q i) images
    other-means images = go (nat_eq i (index / round_count q)) (nat_lt (place_number q (index % round_count q) i) q.blocks)
      where
        k : ℕ
        k = place_number q (index % round_count q) i

        go : (t u : Bool) → cond t (Ok (zero_block v)) (cond u (covered_block v (sources_of b images) k) (Ok (zero_block v)))
            ≡ extent_means c v (option_map (covered_at (place_in v tree index)) (cond t None (cond u (Some k) None))) images
        go true u = refl
        go false true = covered-means images k
        go false false = refl

    -- the block that is added is another one, on a device of the line
    pub other-of : (e : Extent) → other_at (place_in v tree index) q i ≡ Some e → (nat_eq i (index / round_count q) ≡ false) × (e.sectors ≡ block_sectors v) × IsOfLine c tree b e.lower
    other-of e at = go (nat_eq i (index / round_count q)) (nat_lt k q.blocks) at
      where
        k : ℕ
        k = place_number q (index % round_count q) i

        go : (t u : Bool) → option_map (covered_at (place_in v tree index)) (cond t None (cond u (Some k) None)) ≡ Some e → (t ≡ false) × (e.sectors ≡ block_sectors v) × IsOfLine c tree b e.lower
        go true u h = let clash : None ≡ Some e = h in absurd cc
        go false true h =
            let is_at : Some (covered_at (place_in v tree index) k) ≡ Some e = h in
            let same : covered_at (place_in v tree index) k ≡ e = cc in
            (refl, ap (λ (x : Extent). x.sectors) (sym same), subst (λ (x : Extent). IsOfLine c tree b x.lower) same (covered-of k))
        go false false h = let clash : None ≡ Some e = h in absurd cc

    -- nothing is added
    pub other-none : (sums : List ℕ) (leaves : List Device) → other_at (place_in v tree index) q i ≡ None → length sums ≡ v.data_block → Gets (other_wanted b q i sums) leaves leaves (Ok sums)
    other-none sums leaves none len = record {
      moved = AreRead-none _ leaves;
      may = tt;
      exact = λ sure. ap (λ (x : Outcome). then_outcome x (λ block. Ok (added_block sums block))) (other-means (steady_images leaves) ∙ ap (λ (o : Option Extent). extent_means c v o (steady_images leaves)) none)
          ∙ ap Ok (added-zeros v.data_block sums len);
    }

    module _ (sums : List ℕ) (e : Extent) (at : other_at (place_in v tree index) q i ≡ Some e) (n : ℕ) (count : n ≡ e.sectors) where
      other-cost : n * read_cost c e.lower ≤ (other_wanted b q i sums).cost
      other-cost =
          let of = other-of e at in
          let apart : cond (nat_eq i (index / round_count q)) 0 (block_sectors v * sector_cost b) ≡ block_sectors v * sector_cost b = ap (λ (t : Bool). cond t 0 (block_sectors v * sector_cost b)) of.0 in
          let same : n ≡ block_sectors v = count ∙ of.1 in
          let less : n * read_cost c e.lower ≤ n * sector_cost b = mul-le-mul_left n of.2.cost in
          let more : n * sector_cost b ≡ block_sectors v * sector_cost b = ap (λ (k : ℕ). k * sector_cost b) same in
          omega (arith, apart, less, more)

      other-exact : (images : Images) (x : Outcome) → span (λ s. ((place_of c e.lower).said s).means images) e.first n ≡ x
          → (other_wanted b q i sums).means images ≡ then_outcome x (λ block. Ok (added_block sums block))
      other-exact images x got =
          ap (λ (y : Outcome). then_outcome y (λ block. Ok (added_block sums block)))
          (other-means images ∙ ap (λ (o : Option Extent). extent_means c v o images) at ∙ ap (λ (k : ℕ). span (λ s. ((place_of c e.lower).said s).means images) e.first k) (sym count) ∙ got)

      pub other-read : {old new : List Device} {block : List ℕ} → GetsBytes c e.lower e.first n old new (Ok block) → Gets (other_wanted b q i sums) old new (Ok (added_block sums block))
      other-read {old = old} {block = block} gets = record {
        moved = AreRead-more other-cost gets.got.moved;
        may = tt;
        exact = λ sure. other-exact (steady_images old) (Ok block)
            (gets.got.exact (certain-for (run_expected (place_of c e.lower) gets.chains e.first n) {wanted' = other_wanted b q i sums} (AreRead-none 0 old) (other-of e at).2.leaves (λ meets. tt) (other-of e at).2.agrees sure));
      }

      pub other-unread : {old new : List Device} (fault : IoFault) → GetsBytes c e.lower e.first n old new (Err fault) → Gets (other_wanted b q i sums) old new (Err fault)
      other-unread {old = old} fault gets =
          fault_passes {wanted = run_expected (place_of c e.lower) gets.chains e.first n} {wanted' = other_wanted b q i sums} fault gets.got (AreRead-none 0 old) (omega (arith, other-cost))
          (λ x meets. tt) (other-of e at).2.leaves (other-of e at).2.agrees (λ sure x is. other-exact (steady_images old) (Err x) is)

  -- the parity of the round
  module _ (q : Parity) (sums : List ℕ) (at : Stored) (stored : IsStoredAt c (place_in v tree index) q at) (n : ℕ) (count : n ≡ at.sectors) where
    stored-cost : n * read_cost c at.lower ≤ (stored_wanted b q sums).cost
    stored-cost =
        let same : n ≡ block_sectors v * q.roots = count ∙ stored.sectors in
        let less : n * read_cost c at.lower ≤ n * sector_cost b = mul-le-mul_left n (parity-of at.lower stored.on).cost in
        let more : n * sector_cost b ≡ block_sectors v * q.roots * sector_cost b = ap (λ (k : ℕ). k * sector_cost b) same in
        omega (arith, less, more)

    stored-exact : (images : Images) (x : Outcome) → span (λ s. ((place_of c at.lower).said s).means images) at.first n ≡ x
        → (stored_wanted b q sums).means images ≡ then_outcome x (λ parity. Ok (with_parity q.roots sums parity))
    stored-exact images x got =
        let same : b.on_parity ≡ place_of c at.lower = parity-place c v tree is at.lower stored.on in
        ap (λ (y : Outcome). then_outcome y (λ parity. Ok (with_parity q.roots sums parity)))
        (ap (λ (p : Place). span (λ s. (p.said s).means images) (parity_start v q (index % round_count q)) (block_sectors v * q.roots)) same
        ∙ ap (λ (k : ℕ). span (λ s. ((place_of c at.lower).said s).means images) k (block_sectors v * q.roots)) (sym stored.first)
        ∙ ap (λ (k : ℕ). span (λ s. ((place_of c at.lower).said s).means images) at.first k) (sym (count ∙ stored.sectors)) ∙ got)

    pub stored-read : {old new : List Device} {parity : List ℕ} → GetsBytes c at.lower at.first n old new (Ok parity) → Gets (stored_wanted b q sums) old new (Ok (with_parity q.roots sums parity))
    stored-read {old = old} {parity = parity} gets = record {
      moved = AreRead-more stored-cost gets.got.moved;
      may = tt;
      exact = λ sure. stored-exact (steady_images old) (Ok parity)
          (gets.got.exact (certain-for (run_expected (place_of c at.lower) gets.chains at.first n) {wanted' = stored_wanted b q sums} (AreRead-none 0 old) (parity-of at.lower stored.on).leaves (λ meets. tt) (parity-of at.lower stored.on).agrees sure));
    }

    pub stored-unread : {old new : List Device} (fault : IoFault) → GetsBytes c at.lower at.first n old new (Err fault) → Gets (stored_wanted b q sums) old new (Err fault)
    stored-unread {old = old} fault gets =
        fault_passes {wanted = run_expected (place_of c at.lower) gets.chains at.first n} {wanted' = stored_wanted b q sums} fault gets.got (AreRead-none 0 old) (omega (arith, stored-cost))
        (λ x meets. tt) (parity-of at.lower stored.on).leaves (parity-of at.lower stored.on).agrees (λ sure x is. stored-exact (steady_images old) (Err x) is)
