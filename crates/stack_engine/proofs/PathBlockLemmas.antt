-- The blocks on the way to a data block of a verity line, read where its tree says.
use Rattle.std.proofs.Common.{◌≡◌, true, false, ◌<◌, ◌+◌, ◌*◌, ◌/◌, suc, List, [], ◌∷◌, ◌++◌, ℕ, Vec, Global, Option, Some, None, Result, Ok, Err, refl, sym, ap, subst}
use Rattle.tree_shape.specs.Shape.{ShapeRecord, ancestor, levels}
use Rattle.block_device.specs.Device.{Device}
use Rattle.dm_table.specs.declared.parity.Parity.{Parity}
use Rattle.dm_table.specs.declared.verity.Verity.{Verity}
use Rattle.stack_rules.specs.declared.lower.Lower.{Lower}
use Rattle.stack_rules.specs.Names.{named}
use Rattle.stack_rules.specs.Records.{Configuration}
use Rattle.stack_rules.specs.Rules.{IsLoaded}
use Rattle.verified_cache.specs.declared.key.Key.{Key}
use Rattle.stack_meaning.specs.declared.fault.IoFault.{IoFault}
use Rattle.stack_meaning.specs.declared.fault.IoFault.TheVariants as io
use Rattle.stack_lines.specs.declared.tree.Extent.{Extent}
use Rattle.stack_lines.specs.declared.tree.Tree.{Tree}
use Rattle.stack_meaning.specs.Blocks.{covered_hash, hash_sectors, hash_place, hash_start, is_ignored, next_digest}
use Rattle.stack_meaning.specs.Spares.{verified_blocks}
use Rattle.stack_meaning.proofs.lemmas.CoveredLemmas.{covered-hash, hash-verified}
use Rattle.stack_lines.specs.Caches.{IsCacheOf, IsPlaceOf, StackCache, data_stored, hash_stored}
use Rattle.stack_lines.specs.Extents.{LiesInsideLower, IsExtent}
use Rattle.stack_meaning.specs.Places.{Place, place_of}
use Rattle.stack_meaning.specs.Reading.{Gets}
use Rattle.stack_lines.specs.Walks.{checked_expected, data_expected, place_named, block_in, sources_of, spare_expected, way_expected, DataBlock, GetsChain, IsTreeOf, IsWalked}
use Rattle.stack_rules.specs.Trees.{block_sectors, tree_of}
use Rattle.stack_lines.proofs.lemmas.VerityLineLemmas.{line-facts, data-inside, data-whole, hash-whole, parity-there, place-named}
use Rattle.stack_engine.specs.Healing.{IsHealed, IsSettled, healed_result}
use Rattle.stack_engine.specs.ReadSteps.{IsKeptData}
use Rattle.stack_engine.specs.declared.path.WantedData.{WantedData}
use Rattle.stack_engine.proofs.CachedLemmas.{last-hit}
use Rattle.stack_engine.proofs.lemmas.HealedLemmas.{IsCoveredAt, block-answered, block-read, block-settled}
use Rattle.stack_engine.proofs.lemmas.WalkLemmas.{data_read, on-hash, walk_down, walk_stops, walk_ends, walk_fails}

abbrev pub bytes : Vec ℕ Global → List ℕ
bytes = λ v. v.items

-- what is healed is of a line with parity
heals-by : (o : Option Parity) (fault : IoFault) → IsHealed o fault → (q : Parity) × (o ≡ Some q)
heals-by (Some q) fault heals = (q, refl)
heals-by None (io.Stack fault) heals = let clash : false ≡ true = heals in absurd cc
heals-by None (io.Device i) heals = let clash : false ≡ true = heals in absurd cc
heals-by None io.NoMemory heals = let clash : false ≡ true = heals in absurd cc

-- a block that was read where it is stored, as one of the place that a name means
pub checked_as : {old new : List Device} (c : Configuration) (name : List ℕ) (lower : Lower) (first n : ℕ) (salt expected : List ℕ) (result : Result (Vec ℕ Global) IoFault) (e : Extent) → named c name ≡ Some lower
    → e ≡ record { lower = lower; first = first; sectors = n } → Gets (checked_expected bytes (place_of c e.lower) e.first e.sectors salt expected) old new result
    → Gets (checked_expected bytes (place_named c name) first n salt expected) old new result
checked_as {old = old} {new = new} c name lower first n salt expected result e is at q =
    subst (λ (x : Place). Gets (checked_expected bytes x first n salt expected) old new result) (sym (place-named c name lower is))
    (subst (λ (x : Extent). Gets (checked_expected bytes (place_of c x.lower) x.first x.sectors salt expected) old new result) at q)

-- the key of a hash block names its place
pub place_key : (c : Configuration) (v : Verity) (tree : Tree) (level index : ℕ) (key : Key) (e : Extent) → IsTreeOf c v tree
    → key ≡ record { device = tree.device.0; line = tree.line; level = level; block = ancestor tree.shape (level + 1) index }
    → IsExtent c tree.hash (hash_start v level index) (hash_sectors v) e → IsPlaceOf hash_stored c v.salt key e
place_key c v tree level index key e is named_so at =
    let own : Key = record { device = tree.device.0; line = tree.line; level = level; block = ancestor tree.shape (level + 1) index } in
    subst (λ (k : Key). IsPlaceOf hash_stored c v.salt k e) (sym named_so)
    (subst (IsPlaceOf hash_stored c v.salt own) (sym at.value)
    (record { verity = v; line = is.is; salt_is = refl; on = is.on_hash; first = ap (λ (s : ShapeRecord). hash_place v level (ancestor s (level + 1) index)) (sym is.shape_is); sectors = refl; lies = subst (LiesInsideLower c) at.value at.lies }))

-- the key of a data block names its place
pub data_key_place : (c : Configuration) (v : Verity) (tree : Tree) (index : ℕ) (key : Key) (e : Extent) → IsTreeOf c v tree → key ≡ record { device = tree.device.0; line = tree.line; level = 0; block = index }
    → IsExtent c tree.data (block_sectors v * index) (block_sectors v) e → IsPlaceOf data_stored c v.salt key e
data_key_place c v tree index key e is named_so at =
    let own : Key = record { device = tree.device.0; line = tree.line; level = 0; block = index } in
    subst (λ (k : Key). IsPlaceOf data_stored c v.salt k e) (sym named_so)
    (subst (IsPlaceOf data_stored c v.salt own) (sym at.value)
    (record { verity = v; line = is.is; salt_is = refl; on = is.on_data; first = refl; sectors = refl; lies = subst (LiesInsideLower c) at.value at.lies }))

-- the data block that is kept is what a read of it gives
pub kept-data-had : (c : Configuration) (v : Verity) (tree : Tree) (wanted : WantedData) → IsLoaded c → IsTreeOf c v tree → wanted.block < v.blocks → (leaves : List Device) (cache : StackCache) → IsCacheOf c leaves cache → is_ignored v wanted.digest ≡ false
    → (block : Vec ℕ Global) → IsKeptData tree wanted cache.last block.items → Gets (data_expected bytes (block_in c v wanted.block) wanted.digest) leaves leaves (Ok block)
kept-data-had c v tree wanted loaded is there leaves cache sound used block found =
    let size = data-whole c tree.device.0 tree.line v loaded is.is in
    let first : ℕ = block_sectors v * wanted.block in
    let e : Extent = record { lower = tree.data; first = first; sectors = block_sectors v } in
    let lies : IsExtent c tree.data first (block_sectors v) e = record { value = refl; lies = record { some = size.some; few = size.most; inside = data-inside c v tree loaded is wanted.block there } } in
    let key : Key = record { device = tree.device.0; line = tree.line; level = 0; block = wanted.block } in
    let at = data_key_place c v tree wanted.block key e is refl lies in
    data_read bytes (block_in c v wanted.block) wanted.digest block used
    (checked_as c v.data tree.data first (block_sectors v) v.salt wanted.digest (Ok block) e is.on_data refl (last-hit c at bytes block wanted.digest leaves cache sound found.kept))

-- ---- the walk

-- a hash block of a level was read, or restored
module _ (c : Configuration) (v : Verity) (tree : Tree) (index : ℕ) (loaded : IsLoaded c) (is : IsTreeOf c v tree) {expected : List ℕ} {path : List (List ℕ)} {old mid new : List Device} (n level : ℕ) (above : n ≡ suc level)
    (walked : IsWalked (block_in c v index) n expected path old mid) where
  pub hash_read : (block : Vec ℕ Global) → Gets (way_expected bytes (block_in c v index) level expected) mid new (Ok block)
      → IsWalked (block_in c v index) level (next_digest v level index block.items) (path ++ (block.items ∷ [])) old new
  hash_read block q =
      walk_down bytes (block_in c v index) level (hash-whole c tree.device.0 tree.line v loaded is.is).whole (subst (λ (k : ℕ). IsWalked (block_in c v index) k expected path old mid) above walked) block q

  pub hash_failed : (fault : IoFault) → Gets (way_expected bytes (block_in c v index) level expected) mid new (Err fault) → GetsChain (block_in c v index) old new (Err fault)
  hash_failed fault q =
      walk_stops bytes (block_in c v index) level (hash-whole c tree.device.0 tree.line v loaded is.is).whole (subst (λ (k : ℕ). IsWalked (block_in c v index) k expected path old mid) above walked) fault q

-- the hash block of a level on the way to a data block: where it is read, and which covered block it is
module _ (c : Configuration) (v : Verity) (tree : Tree) (level index : ℕ) (loaded : IsLoaded c) (is : IsTreeOf c v tree) (there : index < v.blocks) (low : level < levels (tree_of v)) where
  abbrev pub number : ℕ
  number = covered_hash v level (ancestor (tree_of v) (level + 1) index)

  pub way-verified : number < verified_blocks v
  way-verified = hash-verified v (line-facts c tree.device.0 tree.line v loaded is.is).2.shape level index low there

  one-size : (q : Parity) → v.parity ≡ Some q → v.data_block ≡ v.hash_block
  one-size q has = (parity-there c v q tree loaded (record { lies = is; has = has })).2.one_size

  way-at : IsCoveredAt (block_in c v index) (place_named c v.hash) (hash_start v level index) (hash_sectors v) number
  way-at = record { verified = way-verified; covered = λ q has images. covered-hash v (sources_of (block_in c v index) images) level (ancestor (tree_of v) (level + 1) index) (one-size q has) }

  module _ (digest : List ℕ) (extent : Extent) (at : IsExtent c tree.hash (hash_start v level index) (hash_sectors v) extent) where
    abbrev b : DataBlock
    b = block_in c v index

    abbrev own_read : List Device → List Device → Result (Vec ℕ Global) IoFault → Type 0
    own_read from to result = Gets (checked_expected bytes (place_of c extent.lower) extent.first extent.sectors v.salt digest) from to result

    named_read : {from to : List Device} (result : Result (Vec ℕ Global) IoFault) → own_read from to result → Gets (checked_expected bytes (place_named c v.hash) (hash_start v level index) (hash_sectors v) v.salt digest) from to result
    named_read result q = checked_as c v.hash tree.hash (hash_start v level index) (hash_sectors v) v.salt digest result extent is.on_hash at.value q

    -- it is read
    pub way-read : {old mid : List Device} (block : Vec ℕ Global) → own_read old mid (Ok block) → Gets (way_expected bytes b level digest) old mid (Ok block)
    way-read block q = block-read bytes b (place_named c v.hash) (hash_start v level index) (hash_sectors v) number digest (on-hash b) block (named_read (Ok block) q)

    -- or its fault stays
    pub way-settled : {old mid : List Device} (fault : IoFault) → IsSettled v.parity fault → own_read old mid (Err fault) → Gets (way_expected bytes b level digest) old mid (Err fault)
    way-settled fault settled q = block-settled bytes b (place_named c v.hash) (hash_start v level index) (hash_sectors v) number digest (on-hash b) fault settled (named_read (Err fault) q)

    -- or it is healed
    pub way-answered : {old mid new : List Device} (own : IoFault) (spare : Result (Vec ℕ Global) IoFault) → IsHealed v.parity own → own_read old mid (Err own) → Gets (spare_expected bytes (block_in c v number) digest) mid new spare
        → Gets (way_expected bytes b level digest) old new (healed_result own spare)
    way-answered own spare heals q got =
        let has = heals-by v.parity own heals in
        let wide : hash_sectors v ≡ block_sectors v = ap (λ (k : ℕ). k / 512) (sym (one-size has.0 has.1)) in
        block-answered bytes b (place_named c v.hash) (hash_start v level index) (hash_sectors v) number digest (on-hash b) wide way-at own spare heals (named_read (Err own) q) got

-- the data block was read, where no level is left
module _ (c : Configuration) (v : Verity) (tree : Tree) (index : ℕ) (loaded : IsLoaded c) (is : IsTreeOf c v tree) {expected : List ℕ} {path : List (List ℕ)} {old mid new : List Device} (n : ℕ) (none : n ≡ 0)
    (walked : IsWalked (block_in c v index) n expected path old mid) where
  pub data_had : (block : Vec ℕ Global) → index < v.blocks → Gets (data_expected bytes (block_in c v index) expected) mid new (Ok block)
      → GetsChain (block_in c v index) old new (Ok (record { index = index; content = block.items; path = path }))
  data_had block there q =
      walk_ends bytes (block_in c v index) (data-whole c tree.device.0 tree.line v loaded is.is).whole (subst (λ (k : ℕ). IsWalked (block_in c v index) k expected path old mid) none walked) block there q

  pub data_failed : (fault : IoFault) → Gets (data_expected bytes (block_in c v index) expected) mid new (Err fault) → GetsChain (block_in c v index) old new (Err fault)
  data_failed fault q =
      walk_fails bytes (block_in c v index) (data-whole c tree.device.0 tree.line v loaded is.is).whole (subst (λ (k : ℕ). IsWalked (block_in c v index) k expected path old mid) none walked) fault q
