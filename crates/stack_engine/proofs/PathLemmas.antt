-- The hash blocks on the way to the block before.
use Rattle.std.proofs.Common.{◌≡◌, ◌<◌, ◌≤◌, ◌+◌, ◌*◌, ℕ, suc, length, map, refl, List, [], ◌∷◌, ◌++◌, get_or, take, All, Vec, Global, Some, Result, Ok, Err, inl, sym, ap, ◌∙◌, subst, arith}
use Rattle.std.proofs.lemmas.List.{length-map, length-take}
use Rattle.std.proofs.lemmas.List.Elements.{All-push, All-take}
use Rattle.std.proofs.Math.Nat.{add-mul, mul-le-mul_right}
use Rattle.tree_shape.specs.Shape.{ShapeRecord, ancestor, levels}
use Rattle.stack_rules.specs.Trees.{tree_of}
use Rattle.stack_meaning.proofs.lemmas.LeafListLemmas.{AreRead-more, AreRead-none, AreRead-then, AreSteady-kept, images-kept}
use Rattle.block_device.specs.Device.{Device}
use Rattle.stack_rules.specs.Records.{Configuration}
use Rattle.verified_cache.specs.Cache.{CachedBlock}
use Rattle.verified_cache.specs.declared.key.Key.{Key}
use Rattle.stack_lines.specs.declared.tree.Extent.{Extent}
use Rattle.dm_table.specs.declared.verity.Verity.{Verity}
use Rattle.stack_rules.specs.Names.{named}
use Rattle.stack_rules.specs.Rules.{IsLoaded}
use Rattle.stack_rules.specs.declared.lower.Lower.{Lower}
use Rattle.stack_lines.specs.declared.tree.Tree.{Tree}
use Rattle.stack_lines.specs.Walks.{checked_expected, place_named, AgreesAt, DataBlock, HasVerity, IsBlockOfDigest, block_in, block_leaves, sources_of, way_cost, way_expected, GetsChain, IsTreeOf, IsWalked}
use Rattle.stack_meaning.specs.declared.fault.IoFault.{IoFault}
use Rattle.stack_meaning.specs.declared.fault.IoFault.TheVariants as io
use Rattle.stack_meaning.specs.Blocks.{hash_block_at, hash_sectors, next_digest}
use Rattle.stack_meaning.specs.Memory.{largest_allocation}
use Rattle.stack_meaning.specs.Outcomes.{Images}
use Rattle.stack_meaning.specs.Leaves.{steady_images, AreRead, AreSteady}
use Rattle.stack_meaning.specs.Places.{Place, place_of}
use Rattle.stack_meaning.specs.Reading.{Gets, IsCertain}
use Rattle.stack_lines.proofs.lemmas.VerityLineLemmas.{hash-whole, place-named, same-verity}
use Rattle.stack_engine.proofs.lemmas.WalkLemmas.{walk_down, walk_stops}
use Rattle.stack_engine.specs.Held.{IsHeld}
use Rattle.stack_engine.proofs.lemmas.HealedLemmas.{at-number}

-- reads change none of them
pub path-read : (c : Configuration) {old new : List Device} {n : ℕ} (path : List CachedBlock) → AreRead old n new → All (IsHeld c old) path → All (IsHeld c new) path
path-read c {old = old} {new = new} path a all k x h =
    let one = all k x h in
    let b = block_in c one.verity 0 in
    record {
      verity = one.verity;
      line = one.line;
      block = one.block;
      exact = λ steady agrees.
          ap (λ (m : Images). hash_block_at one.verity (sources_of b m) (get_or path k x).key.level (get_or path k x).key.block (get_or path k x).digest) (images-kept a)
          ∙ one.exact (AreSteady-kept new old (sym a.moved.fixed) steady) (subst (AgreesAt b) (images-kept a) agrees);
    }

-- none is larger than a hash block of its line
pub held-small : (c : Configuration) → IsLoaded c → (leaves : List Device) (blocks : List CachedBlock) → All (IsHeld c leaves) blocks → All (λ b. length b.bytes ≤ largest_allocation) blocks
held-small c loaded leaves blocks all i d h =
    let one = all i d h in
    let size = hash-whole c (get_or blocks i d).key.device (get_or blocks i d).key.line one.verity loaded one.line in
    omega (arith, one.block.0, size.most)

-- the key of the hash block of a level on the way to a data block
abbrev pub way_key : Verity → Tree → ℕ → ℕ → Key
way_key v tree level index = record { device = tree.device.0; line = tree.line; level = level; block = ancestor (tree_of v) (level + 1) index }

pub way-key : (c : Configuration) (v : Verity) (tree : Tree) (level index : ℕ) (key : Key) → IsTreeOf c v tree → key ≡ record { device = tree.device.0; line = tree.line; level = level; block = ancestor tree.shape (level + 1) index } → key ≡ way_key v tree level index
way-key c v tree level index key is named_so = named_so ∙ ap (λ (s : ShapeRecord). record { device = tree.device.0; line = tree.line; level = level; block = ancestor s (level + 1) index }) is.shape_is

module _ (c : Configuration) (v : Verity) (tree : Tree) (level index : ℕ) (is : IsTreeOf c v tree) (expected : List ℕ) where
  abbrev b : DataBlock
  b = block_in c v index

  -- the block on the path is what a read of its place gives
  held-hit : (leaves : List Device) (x : CachedBlock) → IsHeld c leaves x → x.key ≡ way_key v tree level index → x.digest ≡ expected → Gets (way_expected (λ (block : List ℕ). block) b level expected) leaves leaves (Ok x.bytes)
  held-hit leaves x one key digest_is =
      let line : HasVerity c tree.device.0 tree.line one.verity = subst (λ (k : Key). HasVerity c k.device k.line one.verity) key one.line in
      let same : one.verity ≡ v = same-verity c tree.device.0 tree.line 0 0 one.verity v line is.is in
      let Meant : Verity → Key → List ℕ → Type 0 = λ w k d. AreSteady (block_leaves (block_in c w 0)) leaves → AgreesAt (block_in c w 0) (steady_images leaves) → hash_block_at w (sources_of (block_in c w 0) (steady_images leaves)) k.level k.block d ≡ Ok x.bytes in
      let meant : Meant v (way_key v tree level index) expected = subst (λ (w : Verity). Meant w (way_key v tree level index) expected) same (subst (λ (k : Key). Meant one.verity k expected) key (subst (λ (d : List ℕ). Meant one.verity x.key d) digest_is one.exact)) in
      record {
        moved = AreRead-none _ leaves;
        may = subst (λ (w : Verity). IsBlockOfDigest (hash_sectors w) w.salt expected x.bytes) same (subst (λ (d : List ℕ). IsBlockOfDigest (hash_sectors one.verity) one.verity.salt d x.bytes) digest_is one.block);
        exact = λ sure. meant sure.steady (at-number b 0 (steady_images leaves) (sure.agrees (inl refl)));
      }

  pub path-hit : (leaves : List Device) (path : List CachedBlock) (k : ℕ) (x : CachedBlock) → All (IsHeld c leaves) path → k < length path → (get_or path k x).key ≡ way_key v tree level index → (get_or path k x).digest ≡ expected
      → Gets (way_expected (λ (block : List ℕ). block) b level expected) leaves leaves (Ok ((get_or path k x).bytes))
  path-hit leaves path k x all there key digest_is = held-hit leaves (get_or path k x) (all k x there) key digest_is

  -- one that was fetched is held
  held-one : {A : Type 0} (bytes_of : A → List ℕ) (block : A) {old new : List Device} (key : Key) → key ≡ way_key v tree level index → Gets (way_expected bytes_of b level expected) old new (Ok block)
      → IsHeld c new (record { key = key; digest = expected; bytes = bytes_of block })
  held-one bytes_of block {old = old} {new = new} key named_so got =
      subst (λ (k : Key). IsHeld c new (record { key = k; digest = expected; bytes = bytes_of block })) (sym named_so) (record {
        verity = v;
        line = is.is;
        block = got.may;
        exact = λ steady agrees.
            ap (λ (m : Images). hash_block_at v (sources_of b m) level (ancestor (tree_of v) (level + 1) index) expected) (images-kept got.moved)
            ∙ got.exact (record { steady = AreSteady-kept new old (sym got.moved.moved.fixed) steady; agrees = λ meets. subst (AgreesAt b) (images-kept got.moved) (at-number (block_in c v 0) index (steady_images new) agrees) });
      })

  -- what the path has after it
  pub path-put : {A : Type 0} (bytes_of : A → List ℕ) (block : A) {old new : List Device} (key : Key) → key ≡ way_key v tree level index → (path : List CachedBlock) (k : ℕ) → All (IsHeld c old) path → Gets (way_expected bytes_of b level expected) old new (Ok block)
      → All (IsHeld c new) (take k path ++ (record { key = key; digest = expected; bytes = bytes_of block } ∷ []))
  path-put bytes_of block key named_so path k all got =
      All-push (IsHeld c _) (take k path) _ (All-take (IsHeld c _) k path (path-read c path got.moved all)) (held-one bytes_of block key named_so got)

  -- in another form
  way-sure : {leaves : List Device} → IsCertain (way_expected (λ (block : List ℕ). block) b level expected) leaves → IsCertain (way_expected (λ (block : Vec ℕ Global). block.items) b level expected) leaves
  way-sure sure = record { steady = sure.steady; agrees = sure.agrees }

  pub way-fault : {old new : List Device} (fault : IoFault) → Gets (way_expected (λ (block : Vec ℕ Global). block.items) b level expected) old new (Err fault) → Gets (way_expected (λ (block : List ℕ). block) b level expected) old new (Err fault)
  way-fault (io.Stack fault) got = record { moved = got.moved; may = got.may; exact = λ sure. got.exact (way-sure sure) }
  way-fault (io.Device i) got = record { moved = got.moved; may = got.may; exact = λ sure. tt }
  way-fault io.NoMemory got = record { moved = got.moved; may = got.may; exact = λ sure. tt }

  pub way-bytes : {old new : List Device} (block : Vec ℕ Global) → Gets (way_expected (λ (block : Vec ℕ Global). block.items) b level expected) old new (Ok block) → Gets (way_expected (λ (block : List ℕ). block) b level expected) old new (Ok block.items)
  way-bytes block got = record { moved = got.moved; may = got.may; exact = λ sure. got.exact (way-sure sure) }

-- a hash block as one of the place that the line's name means
pub checked-at : (c : Configuration) (name : List ℕ) (lower : Lower) (first n : ℕ) (salt expected : List ℕ) {old new : List Device} (result : Result (List ℕ) IoFault) (e : Extent) → named c name ≡ Some lower → e ≡ record { lower = lower; first = first; sectors = n }
    → Gets (checked_expected (λ (block : List ℕ). block) (place_of c e.lower) e.first e.sectors salt expected) old new result → Gets (checked_expected (λ (block : List ℕ). block) (place_named c name) first n salt expected) old new result
checked-at c name lower first n salt expected {old = old} {new = new} result e is at q =
    subst (λ (x : Place). Gets (checked_expected (λ (block : List ℕ). block) x first n salt expected) old new result) (sym (place-named c name lower is))
    (subst (λ (x : Extent). Gets (checked_expected (λ (block : List ℕ). block) (place_of c x.lower) x.first x.sectors salt expected) old new result) at q)

module _ (c : Configuration) (v : Verity) (tree : Tree) (index : ℕ) (loaded : IsLoaded c) (is : IsTreeOf c v tree) {expected : List ℕ} {path : List (List ℕ)} {old mid new : List Device} (n level : ℕ) (above : n ≡ suc level)
    (walked : IsWalked (block_in c v index) n expected path old mid) where
  -- a hash block of a level is on the path
  pub path-down : (block : List ℕ) → Gets (way_expected (λ (block : List ℕ). block) (block_in c v index) level expected) mid new (Ok block)
      → IsWalked (block_in c v index) level (next_digest v level index block) (path ++ (block ∷ [])) old new
  path-down block q =
      walk_down (λ (block : List ℕ). block) (block_in c v index) level (hash-whole c tree.device.0 tree.line v loaded is.is).whole (subst (λ (k : ℕ). IsWalked (block_in c v index) k expected path old mid) above walked) block q

  -- what was read up to a fault in its place
  pub path-stopped : (fault : IoFault) → Gets (way_expected (λ (block : List ℕ). block) (block_in c v index) level expected) mid new (Err fault) → AreRead old (levels (tree_of v) * way_cost (block_in c v index)) new
  path-stopped fault q =
      let cost : ℕ = way_cost (block_in c v index) in
      let most : (length path + 1) * cost ≤ levels (tree_of v) * cost = mul-le-mul_right cost (omega (arith, walked.count, above)) in
      AreRead-more (omega (arith, most, add-mul (length path) 1 cost)) (AreRead-then walked.moved q.moved)

  -- or a fault in its place
  pub path-failed : (fault : IoFault) → Gets (way_expected (λ (block : List ℕ). block) (block_in c v index) level expected) mid new (Err fault) → GetsChain (block_in c v index) old new (Err fault)
  path-failed fault q =
      walk_stops (λ (block : List ℕ). block) (block_in c v index) level (hash-whole c tree.device.0 tree.line v loaded is.is).whole (subst (λ (k : ℕ). IsWalked (block_in c v index) k expected path old mid) above walked) fault q

-- a block of no line
pub no_block : CachedBlock
no_block = record { key = record { device = 0; line = 0; level = 0; block = 0 }; digest = []; bytes = [] }

-- a way of which nothing was walked
pub walk-begins : (b : DataBlock) {l : ℕ} {path : List (List ℕ)} {old : List Device} → levels (tree_of b.verity) ≡ l → [] ≡ path → IsWalked b l b.verity.root path old old
walk-begins b {path = path} {old = old} all none =
    subst (λ (k : ℕ). IsWalked b k b.verity.root path old old) all
    (subst (λ (p : List (List ℕ)). IsWalked b (levels (tree_of b.verity)) b.verity.root p old old) none (record { count = omega arith; moved = AreRead-none _ old; hangs = λ rest content len h. h; exact = λ sure. refl }))

-- a way that was walked, wherever it ends
pub path-ended : (b : DataBlock) (l : ℕ) {expected : List ℕ} {path : List (List ℕ)} {old new : List Device} → IsWalked b l expected path old new → AreRead old (levels (tree_of b.verity) * way_cost b) new
path-ended b l {path = path} walked = AreRead-more (mul-le-mul_right (way_cost b) (omega (arith, walked.count))) walked.moved

-- all of it
pub path-whole : (b : DataBlock) (l : ℕ) → l ≡ 0 → (k : ℕ) (path : List CachedBlock) → k ≤ length path → {expected : List ℕ} {old new : List Device} → IsWalked b l expected (map (λ (x : CachedBlock). x.bytes) (take k path)) old new
    → IsWalked b 0 expected (map (λ (x : CachedBlock). x.bytes) (take (levels (tree_of b.verity)) path)) old new
path-whole b l none k path within {expected = expected} {old = old} {new = new} walked =
    let all : k ≡ levels (tree_of b.verity) = omega (arith, walked.count, none, within, length-map (take k path) (λ (x : CachedBlock). x.bytes), length-take k path) in
    subst (λ (j : ℕ). IsWalked b 0 expected (map (λ (x : CachedBlock). x.bytes) (take j path)) old new) all
    (subst (λ (m : ℕ). IsWalked b m expected (map (λ (x : CachedBlock). x.bytes) (take k path)) old new) none walked)
