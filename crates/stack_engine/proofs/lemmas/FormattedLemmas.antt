-- A verity line over formatted devices.
use Rattle.std.proofs.Common.{◌≡◌, ℕ, zero, suc, ◌+◌, ◌-◌, ◌*◌, ◌/◌, ◌%◌, ◌<◌, ◌≤◌, cond, List, [], ◌∷◌, ◌++◌, length, get_or, All, map, take, drop, replicate, Ok, refl, sym, ap, ◌∙◌, subst, arith, inl, inr}
use Rattle.std.specs.Prelude.{slice_get}
use Rattle.std.specs.List.{concat}
use Rattle.std.proofs.lemmas.Bool.{cases_Bool, cond-true, cond-false}
use Rattle.std.proofs.lemmas.List.{length-drop, length-map, take-append-le, drop-append-le, drop-drop, take_all, take-replicate, drop-replicate}
use Rattle.std.proofs.Math.Seq.{drop-append-add}
use Rattle.std.proofs.Math.Nat.{mul_comm, mul_assoc, div-add-mod}
use Rattle.std.proofs.lemmas.List.Elements.{All-head, All-tail, All-get_or, All-map}
use Rattle.std.proofs.lemmas.Option.{get_or_from_slice_get, slice_get-get_or}
use Rattle.std.proofs.lemmas.Nat.{div_below, mod_below}
use Rattle.hash_tree.specs.Chain.{HangsFrom, path_to, formed}
use Rattle.tree_shape.specs.Digests.{digest}
use Rattle.hash_tree.specs.Laws.{AreBlocks, HasBlock, FormedChainsAreGood, StandsInShape}
use Rattle.tree_shape.specs.Shape.{ShapeRecord, IsShape, levels, blocks_above, position, ancestor, area_blocks}
use Rattle.hash_tree.specs.Tree.{root, area, level}
use Rattle.hash_tree.proofs.lemmas.LawLemmas.{stands-in_shape}
use Rattle.tree_shape.proofs.lemmas.ShapeFactLemmas.{ancestor-lt, above-lt}
use Rattle.hash_tree.proofs.lemmas.TreeLemmas.{length-digest}
use Rattle.dm_table.specs.declared.verity.Verity.{Verity}
use Rattle.dm_table.specs.declared.table.Line.{Line}
use Rattle.dm_table.specs.declared.table.Target.{Target}
use Rattle.dm_table.specs.declared.table.Target.TheVariants.{Verity as verity_target}
use Rattle.stack_rules.specs.declared.lower.Lower.{Lower}
use Rattle.stack_rules.specs.Names.{mapped}
use Rattle.stack_rules.specs.Records.{Configuration}
use Rattle.stack_rules.specs.Rules.{IsLoaded}
use Rattle.stack_rules.specs.Lines.{IsLine}
use Rattle.stack_rules.specs.Trees.{tree_of, line_data_sectors, block_sectors, zero_block}
use Rattle.stack_config.proofs.lemmas.VerityLineLemmas.{IsVerityLine, verity-line}
use Rattle.stack_engine.specs.DamagedData.{IsTreeOnHash, line_sources}
use Rattle.stack_engine.specs.Laws.{FormattedDataIsRead, LiesInVerity, formatted_sector, named_sector}
use Rattle.stack_meaning.specs.Meaning.{Said, line_said, said_by_name, sector}
use Rattle.stack_meaning.specs.Erasures.{covered_spare}
use Rattle.stack_meaning.specs.Spares.{BlockSources, healed_outcome}
use Rattle.stack_meaning.proofs.lemmas.BlockSizeLemmas.{IsWholeSectors, whole-sectors}
use Rattle.stack_meaning.proofs.lemmas.EachLineLemmas.{line_at-is, line_at-end}
use Rattle.stack_meaning.proofs.lemmas.LineLemmas.{line-start}
use Rattle.stack_meaning.proofs.lemmas.SectorLemmas.{said_at-line}
use Rattle.stack_meaning.specs.Blocks.{covered_hash, hash_sectors, hash_start, next_digest, checked, is_ignored, data_block_at, block_below, verified_block}
use Rattle.stack_meaning.specs.Outcomes.{AreWhole, Images, Outcome, span, then_outcome, part, zero_sector}
use Rattle.stack_lines.proofs.lemmas.SizeLemmas.{named-size}
use Rattle.stack_meaning.proofs.lemmas.SizedLemmas.{AreSized, span-part}
use Rattle.stack_meaning.proofs.lemmas.CheckedLemmas.{checked-same}

-- ---- joined blocks

-- what is from block i on
pub drop-concat : (size : ℕ) (blocks : List (List ℕ)) (i : ℕ) → All (λ b. length b ≡ size) blocks → i < length blocks → drop (size * i) (concat blocks) ≡ get_or blocks i [] ++ concat (drop (suc i) blocks)
drop-concat size [] i sized low = absurd (omega (arith, low))
drop-concat size (b ∷ blocks) zero sized low = let none : size * 0 ≡ 0 = omega arith in ap (λ (k : ℕ). drop k (b ++ concat blocks)) none
drop-concat size (b ∷ blocks) (suc i) sized low =
    let first : length b ≡ size = All-head (λ b. length b ≡ size) b blocks sized in
    let at : size * suc i ≡ length b + size * i = omega (arith, first) in
    ap (λ (k : ℕ). drop k (b ++ concat blocks)) at ∙ drop-append-add b (concat blocks) (size * i)
    ∙ drop-concat size blocks i (All-tail (λ b. length b ≡ size) b blocks sized) (omega (arith, low))

-- block i
pub block-concat : (size : ℕ) (blocks : List (List ℕ)) (i : ℕ) → All (λ b. length b ≡ size) blocks → i < length blocks → take size (drop (size * i) (concat blocks)) ≡ get_or blocks i []
block-concat size blocks i sized low =
    let len : length (get_or blocks i []) ≡ size = All-get_or (λ b. length b ≡ size) blocks i [] low sized in
    ap (take size) (drop-concat size blocks i sized low) ∙ take-append-le size (get_or blocks i []) (concat (drop (suc i) blocks)) (omega (arith, len)) ∙ take_all size (get_or blocks i []) (omega (arith, len))

-- sector w, which is in block w / n
pub part-concat : (n : ℕ) (blocks : List (List ℕ)) (w : ℕ) → All (λ b. length b ≡ 512 * n) blocks → 0 < n → w / n < length blocks → part (get_or blocks (w / n) []) (w % n) ≡ part (concat blocks) w
part-concat n blocks w sized some low =
    let block : List ℕ = get_or blocks (w / n) [] in
    let rest : List ℕ = concat (drop (suc (w / n)) blocks) in
    let len : length block ≡ 512 * n = All-get_or (λ b. length b ≡ 512 * n) blocks (w / n) [] low sized in
    let inside : w % n < n = mod_below w n some in
    let whole : n * (w / n) + w % n ≡ w = div-add-mod w n in
    let at : 512 * n * (w / n) + 512 * (w % n) ≡ 512 * w = omega (arith, whole) in
    sym (ap (λ (k : ℕ). take 512 (drop k (concat blocks))) (sym at)
    ∙ ap (take 512) (sym (drop-drop (512 * (w % n)) (512 * n * (w / n)) (concat blocks)))
    ∙ ap (λ (l : List ℕ). take 512 (drop (512 * (w % n)) l)) (drop-concat (512 * n) blocks (w / n) sized low)
    ∙ ap (take 512) (drop-append-le (512 * (w % n)) block rest (omega (arith, len, inside)))
    ∙ take-append-le 512 (drop (512 * (w % n)) block) rest (omega (arith, len, inside, length-drop (512 * (w % n)) block)))

-- ---- blocks that are ignored

-- a data block as a line reads it
abbrev pub shown_block : Verity → List ℕ → List ℕ
shown_block v block = cond (is_ignored v (digest v.salt block)) (zero_block v) block

pub data-shown : (v : Verity) (from : BlockSources) (i : ℕ) (expected block : List ℕ) → span from.on_data (block_sectors v * i) (block_sectors v) ≡ Ok block → digest v.salt block ≡ expected
    → data_block_at v from i expected ≡ Ok (shown_block v block)
data-shown v from i expected block read good = elim (cases_Bool (is_ignored v expected)) [
  | inl zeros ↦ cond-true _ _ _ zeros ∙ ap Ok (sym (cond-true (is_ignored v (digest v.salt block)) (zero_block v) block (ap (is_ignored v) good ∙ zeros)))
  | inr other ↦
      cond-false _ _ _ other
      ∙ ap (λ (x : Outcome). healed_outcome x (covered_spare v from v.parity i expected)) (ap (λ (x : Outcome). then_outcome x (checked v.salt expected)) read ∙ checked-same v.salt expected block good)
      ∙ ap Ok (sym (cond-false (is_ignored v (digest v.salt block)) (zero_block v) block (ap (is_ignored v) good ∙ other)))
]

part-zeros : (size k : ℕ) → 512 * k + 512 ≤ size → part (replicate size 0) k ≡ zero_sector
unfolding zero_sector
part-zeros size k h = ap (take 512) (drop-replicate (512 * k) size 0) ∙ take-replicate 512 (size - 512 * k) 0 (omega (arith, h))

-- sector w of blocks that a line shows
shown-part : (v : Verity) (blocks : List (List ℕ)) (w : ℕ) → 512 * block_sectors v ≡ v.data_block → All (λ b. length b ≡ 512 * block_sectors v) blocks → 0 < block_sectors v → w / block_sectors v < length blocks
    → part (shown_block v (get_or blocks (w / block_sectors v) [])) (w % block_sectors v) ≡ formatted_sector v blocks w
shown-part v blocks w whole sized some low =
    let block : List ℕ = get_or blocks (w / block_sectors v) [] in
    let inside : w % block_sectors v < block_sectors v = mod_below w (block_sectors v) some in
    elim (cases_Bool (is_ignored v (digest v.salt block))) [
      | inl zeros ↦
          ap (λ (b : List ℕ). part b (w % block_sectors v)) (cond-true _ (zero_block v) block zeros)
          ∙ part-zeros v.data_block (w % block_sectors v) (omega (arith, inside, whole))
          ∙ sym (cond-true _ zero_sector (part (concat blocks) w) zeros)
      | inr other ↦
          ap (λ (b : List ℕ). part b (w % block_sectors v)) (cond-false _ (zero_block v) block other)
          ∙ part-concat (block_sectors v) blocks w sized some low
          ∙ sym (cond-false _ zero_sector (part (concat blocks) w) other)
    ]

-- ---- the walk over formatted devices

pub length-path_to : (s : ShapeRecord) (salt : List ℕ) (ds : List (List ℕ)) (n i : ℕ) → length (path_to s salt ds n i) ≡ n
length-path_to s salt ds zero i = refl
length-path_to s salt ds (suc l) i = ap suc (length-path_to s salt ds l i)

-- A place reads block k of some that are stored from its block start on, if a block has n sectors.
span-block : (at : ℕ → Outcome) → AreSized at → (n size start count : ℕ) (blocks : List (List ℕ)) → 512 * n ≡ size → All (λ b. length b ≡ size) blocks → length blocks ≡ count
    → span at (n * start) (n * count) ≡ Ok (concat blocks) → (k : ℕ) → k < count → span at (n * (start + k)) n ≡ Ok (get_or blocks k [])
span-block at sized n size start count blocks whole even number read k low =
    let parts : count ≡ k + (1 + (count - (k + 1))) = omega (arith, low) in
    let spread : n * (k + (1 + (count - (k + 1)))) ≡ n * k + (n + n * (count - (k + 1))) = grind arith in
    let split : n * count ≡ n * k + (n + n * (count - (k + 1))) = ap (λ (m : ℕ). n * m) parts ∙ spread in
    let first : n * start + n * k ≡ n * (start + k) = grind arith in
    let off : 512 * (n * k) ≡ size * k = sym (mul_assoc 512 n k) ∙ ap (λ (m : ℕ). m * k) whole in
    ap (λ (f : ℕ). span at f n) (sym first)
    ∙ span-part at sized (n * start) (n * k) n (n * (count - (k + 1))) (concat blocks) (ap (span at (n * start)) (sym split) ∙ read)
    ∙ ap (λ (m : ℕ). Ok (take m (drop (512 * (n * k)) (concat blocks)))) whole
    ∙ ap (λ (m : ℕ). Ok (take size (drop m (concat blocks)))) off
    ∙ ap Ok (block-concat size blocks k even (omega (arith, low, number)))

-- a block's place, from the tree's begin on
place-is : (v : Verity) (l i : ℕ) → v.start + (blocks_above (tree_of v) l + i) ≡ position (tree_of v) l i
unfolding position
place-is v l i = omega arith

same-element : (xs ys : List (List ℕ)) (i j : ℕ) → i < length xs → slice_get xs i ≡ slice_get ys j → get_or xs i [] ≡ get_or ys j []
same-element xs ys i j low same = sym (get_or_from_slice_get ys j (get_or xs i []) [] (sym same ∙ slice_get-get_or xs i [] low))

module _ (v : Verity) (from : BlockSources) (hash_sized : AreSized from.on_hash) (blocks : List (List ℕ))
    (shape : IsShape (tree_of v)) (hash_whole : 512 * hash_sectors v ≡ v.hash_block) (even : AreBlocks v.blocks v.data_block blocks)
    (hash_read : span from.on_hash (hash_sectors v * v.start) (hash_sectors v * area_blocks (tree_of v)) ≡ Ok (concat (area v.hash_block v.salt (map (digest v.salt) blocks)))) where
  stands : StandsInShape (tree_of v) v.salt (map (digest v.salt) blocks)
  stands = stands-in_shape (tree_of v) shape v.salt (map (digest v.salt) blocks) (record {
    count = length-map blocks (digest v.salt) ∙ even.count;
    sized = All-map (λ d. length d ≡ 32) (digest v.salt) blocks (λ k d here. length-digest v.salt _);
  })

  -- the hash device reads each block of the tree on the way to a data block
  pub reads-hash : (l i : ℕ) → l < levels (tree_of v) → i < v.blocks
      → span from.on_hash (hash_start v l i) (hash_sectors v) ≡ Ok (get_or (level v.hash_block v.salt (map (digest v.salt) blocks) l) (ancestor (tree_of v) (l + 1) i) [])
  reads-hash l i low inside =
      let a : ℕ = ancestor (tree_of v) (l + 1) i in
      let has : HasBlock (tree_of v) l a = (low, ancestor-lt (tree_of v) shape l i inside) in
      let k : ℕ = blocks_above (tree_of v) l + a in
      let back : v.start + k ≡ position (tree_of v) l a = place-is v l a in
      let below : k < area_blocks (tree_of v) = above-lt (tree_of v) shape l a low has.1 in
      let off : position (tree_of v) l a - v.start ≡ k = omega (arith, back) in
      let slice : slice_get (area v.hash_block v.salt (map (digest v.salt) blocks)) k ≡ slice_get (level v.hash_block v.salt (map (digest v.salt) blocks) l) a =
      ap (slice_get (area v.hash_block v.salt (map (digest v.salt) blocks))) (sym off) ∙ stands.places l a has in
      let there : get_or (area v.hash_block v.salt (map (digest v.salt) blocks)) k [] ≡ get_or (level v.hash_block v.salt (map (digest v.salt) blocks) l) a [] =
      same-element (area v.hash_block v.salt (map (digest v.salt) blocks)) (level v.hash_block v.salt (map (digest v.salt) blocks) l) k a (omega (arith, below, stands.total)) slice in
      ap (λ (p : ℕ). span from.on_hash (hash_sectors v * p) (hash_sectors v)) (sym back)
      ∙ span-block from.on_hash hash_sized (hash_sectors v) v.hash_block v.start (area_blocks (tree_of v)) (area v.hash_block v.salt (map (digest v.salt) blocks)) hash_whole stands.sized stands.total hash_read k below
      ∙ ap Ok there

  walk-formatted : (i : ℕ) → i < v.blocks → (l : ℕ) → l ≤ levels (tree_of v) → (expected : List ℕ)
      → HangsFrom (tree_of v) v.salt i expected (path_to (tree_of v) v.salt (map (digest v.salt) blocks) l i) (get_or blocks i [])
      → block_below v from i l expected ≡ data_block_at v from i (digest v.salt (get_or blocks i []))
  walk-formatted i inside zero low expected hangs = ap (data_block_at v from i) (sym hangs.1)
  walk-formatted i inside (suc l) low expected hangs =
      let ds : List (List ℕ) = map (digest v.salt) blocks in
      let block : List ℕ = get_or (level v.hash_block v.salt ds l) (ancestor (tree_of v) (l + 1) i) [] in
      let at : next_digest v (length (path_to (tree_of v) v.salt ds l i)) i block ≡ next_digest v l i block = ap (λ (k : ℕ). next_digest v k i block) (length-path_to (tree_of v) v.salt ds l i) in
      let spare : Outcome = covered_spare v from v.parity (covered_hash v l (ancestor (tree_of v) (l + 1) i)) expected in
      ap (λ (x : Outcome). then_outcome (healed_outcome (then_outcome x (checked v.salt expected)) spare) (λ b. block_below v from i l (next_digest v l i b))) (reads-hash l i (omega (arith, low)) inside)
      ∙ ap (λ (x : Outcome). then_outcome (healed_outcome x spare) (λ b. block_below v from i l (next_digest v l i b))) (checked-same v.salt expected block hangs.1)
      ∙ walk-formatted i inside l (omega (arith, low)) (next_digest v l i block)
      (subst (λ (e : List ℕ). HangsFrom (tree_of v) v.salt i e (path_to (tree_of v) v.salt ds l i) (get_or blocks i [])) at hangs.2)

  -- each data block is read with its own digest
  pub block-walked : FormedChainsAreGood → v.root ≡ root v.hash_block v.salt (map (digest v.salt) blocks) → (i : ℕ) → i < v.blocks → verified_block v from i ≡ data_block_at v from i (digest v.salt (get_or blocks i []))
  unfolding formed
  block-walked law is i inside =
      let good = law (tree_of v) shape v.salt blocks even i inside in
      ap (block_below v from i (levels (tree_of v))) is
      ∙ walk-formatted i inside (levels (tree_of v)) (omega arith) (root v.hash_block v.salt (map (digest v.salt) blocks)) good.hangs

module _ (v : Verity) (from : BlockSources) (sized : AreSized from.on_data) (blocks : List (List ℕ)) (data_whole : 512 * block_sectors v ≡ v.data_block)
    (even : AreBlocks v.blocks v.data_block blocks) (data_read : span from.on_data 0 (line_data_sectors v) ≡ Ok (concat blocks)) where
  -- the data device reads each block
  reads-data : (i : ℕ) → i < v.blocks → span from.on_data (block_sectors v * i) (block_sectors v) ≡ Ok (get_or blocks i [])
  reads-data i low =
      let none : block_sectors v * 0 ≡ 0 = omega arith in
      let all : block_sectors v * v.blocks ≡ line_data_sectors v = mul_comm (block_sectors v) v.blocks in
      let at : 0 + i ≡ i = omega arith in
      ap (λ (k : ℕ). span from.on_data (block_sectors v * k) (block_sectors v)) (sym at)
      ∙ span-block from.on_data sized (block_sectors v) v.data_block 0 v.blocks blocks data_whole even.sized even.count
      (ap (λ (k : ℕ). span from.on_data k (block_sectors v * v.blocks)) none ∙ ap (span from.on_data 0) all ∙ data_read) i low

  -- each data block is the data's, or zeros
  data-formatted : (i : ℕ) → i < v.blocks → data_block_at v from i (digest v.salt (get_or blocks i [])) ≡ Ok (shown_block v (get_or blocks i []))
  data-formatted i inside = data-shown v from i (digest v.salt (get_or blocks i [])) (get_or blocks i []) (reads-data i inside) refl

-- ---- sectors

module _ (c : Configuration) (loaded : IsLoaded c) (images : Images) (whole : AreWhole images) (d s l : ℕ) (line : Line) (v : Verity) (lies : LiesInVerity c d s l line v) where
  pub line-is : IsLine c d l line
  line-is = line_at-is c d s (l, line) lies.found

  start : line.start ≤ s
  start = line-start c d s (l, line) loaded.valid lies.found

  pub facts : (data_lower : Lower) × (hash : Lower) × IsVerityLine c d line v data_lower hash
  facts = verity-line c d l line v loaded line-is lies.has

  abbrev w : ℕ
  w = s - line.start

  pub named-sized : (name : List ℕ) → AreSized (named_sector c images name)
  named-sized name t b e = named-size c images loaded whole name t b e

  data_sizes : IsWholeSectors v.data_block
  data_sizes = whole-sectors v.data_block facts.2.shape.data_size

  pub block-low : (s - line.start) / block_sectors v < v.blocks
  block-low = div_below w (block_sectors v) v.blocks data_sizes.some (omega (arith, start, line_at-end c d s (l, line) lies.found, facts.2.covers))

  -- each data block of a line with the tree of some blocks is read with its digest
  pub line-walked : FormedChainsAreGood → (blocks : List (List ℕ)) → IsTreeOnHash c images v blocks
      → verified_block v (line_sources c images v) ((s - line.start) / block_sectors v) ≡ data_block_at v (line_sources c images v) ((s - line.start) / block_sectors v) (digest v.salt (get_or blocks ((s - line.start) / block_sectors v) []))
  line-walked law blocks tree =
      block-walked v (line_sources c images v) (named-sized v.hash) blocks facts.2.shape (whole-sectors v.hash_block facts.2.shape.hash_size).whole tree.sized tree.on_hash law tree.root_is (w / block_sectors v) block-low

  -- so the sector is that of the block that is read there
  pub sector-shown : (blocks : List (List ℕ)) → AreBlocks v.blocks v.data_block blocks → verified_block v (line_sources c images v) ((s - line.start) / block_sectors v) ≡ Ok (shown_block v (get_or blocks ((s - line.start) / block_sectors v) []))
      → sector c images (mapped d) s ≡ Ok (formatted_sector v blocks (s - line.start))
  sector-shown blocks even block =
      let sized : All (λ b. length b ≡ 512 * block_sectors v) blocks = subst (λ (n : ℕ). All (λ b. length b ≡ n) blocks) (sym data_sizes.whole) even.sized in
      let at : s + 0 ≡ s = omega arith in
      let within : s - line.start + 0 ≡ w = omega arith in
      ap (sector c images (mapped d)) (sym at)
      ∙ ap (λ (x : Said). x.means images) (said_at-line c loaded.valid d s 0 l line lies.found start (omega (arith, line_at-end c d s (l, line) lies.found)))
      ∙ ap (λ (t : Target). (line_said (said_by_name c) d l t (s - line.start + 0)).means images) lies.has
      ∙ ap (λ (k : ℕ). (line_said (said_by_name c) d l (verity_target v) k).means images) within
      ∙ ap (λ (x : Outcome). then_outcome x (λ b. Ok (part b (w % block_sectors v)))) block
      ∙ ap Ok (shown-part v blocks w data_sizes.whole sized data_sizes.some (omega (arith, block-low, even.count)))

pub formatted-read : FormedChainsAreGood → FormattedDataIsRead
formatted-read law c loaded images whole d s l line v lies blocks formatted =
    let low = block-low c loaded images whole d s l line v lies in
    let data_whole = whole-sectors v.data_block (facts c loaded images whole d s l line v lies).2.shape.data_size in
    let tree : IsTreeOnHash c images v blocks = record { sized = formatted.sized; on_hash = formatted.on_hash; root_is = formatted.root_is } in
    sector-shown c loaded images whole d s l line v lies blocks formatted.sized
    (line-walked c loaded images whole d s l line v lies law blocks tree
    ∙ data-formatted v (line_sources c images v) (named-sized c loaded images whole d s l line v lies v.data) blocks data_whole.whole formatted.sized formatted.on_data ((s - line.start) / block_sectors v) low)
