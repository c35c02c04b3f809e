-- What the cache keeps stays true.
use Rattle.std.proofs.lemmas.List.Elements.{All-nil}
use Rattle.stack_engine.specs.KeptBlocks.{AreChecked}
use Rattle.stack_engine.specs.Pieces.{stack_with}
use Rattle.std.proofs.Common.{◌≡◌, ℕ, ◌*◌, ◌<◌, ◌≤◌, IsTrue, Bool, ◌||◌, not, true, false, cond, inl, List, length, get_or, All, Option, Some, None, Result, Ok, Err, refl, sym, ap, ◌∙◌, subst, arith}
use Rattle.std.specs.Prelude.{option_map, if◌then◌else◌, IfSome, OnOk, OnErr}
use Rattle.std.proofs.lemmas.Option.{IfSome_then}
use Rattle.std.specs.Option.{option_map_or}
use Rattle.std.specs.declared.alloc.AllocError.{AllocError}
use Rattle.std.specs.Str.{bytes_eq}
use Rattle.tree_shape.specs.Digests.{digest}
use Rattle.block_device.specs.Device.{Device}
use Rattle.dm_table.specs.declared.verity.Verity.{Verity}
use Rattle.stack_rules.specs.declared.lower.Lower.TheVariants.{Leaf as leaf}
use Rattle.stack_rules.specs.Rules.{IsLoaded, most_leaves}
use Rattle.stack_rules.specs.Records.{Configuration}
use Rattle.verified_cache.specs.Cache.{CachedBlock, CacheRecord, IsCache, block_under, blocks_with, cache_after_find, cache_after_keep}
use Rattle.verified_cache.specs.declared.key.Key.{Key}
use Rattle.verified_cache.proofs.lemmas.CacheLemmas.{IsCache-after_find, IsCache-after_keep, IsCache-filter, IsCache-empty}
use Rattle.verified_cache.proofs.lemmas.AnswerLemmas.{block_under-is, All-block_under, All-after_find, All-after_keep}
use Rattle.stack_lines.specs.declared.tree.Extent.{Extent}
use Rattle.stack_meaning.specs.Outcomes.{Outcome, Images, mismatch, span, then_outcome}
use Rattle.stack_meaning.specs.Blocks.{checked}
use Rattle.stack_lines.specs.Caches.{StackCache, Capacity, IsCached, IsCachedData, IsCacheOf, IsFreshCache, IsKept, IsLastBlock, KeepsCache, IsPlaceOf, NamedExtent, capacity_of, data_stored, hash_stored, last_after_keep}
use Rattle.stack_meaning.specs.Changes.{reached, AreWritten}
use Rattle.stack_lines.specs.Standing.{has_leaf, stands_on, name_stands_on, key_stands_on, cache_without_leaf, AreLeafSets, CoversBlocks}
use Rattle.stack_meaning.specs.Leaves.{steady_images, AreSteady, AreRead}
use Rattle.stack_meaning.specs.Memory.{largest_allocation}
use Rattle.stack_meaning.specs.Meaning.{said_at, said_by_name}
use Rattle.stack_meaning.specs.Places.{Place, place_of}
use Rattle.stack_meaning.specs.Agreement.{AgreesOn}
use Rattle.stack_meaning.proofs.lemmas.AgreementLemmas.{agrees-within}
use Rattle.stack_meaning.specs.Reading.{Gets, IsCertain}
use Rattle.stack_lines.specs.Walks.{HasVerity, checked_expected}
use Rattle.stack_meaning.proofs.lemmas.LeafListLemmas.{AreRead-none, AreSteady-kept, AreSteady-within, images-kept}
use Rattle.stack_meaning.proofs.lemmas.CheckedLemmas.{checked-same}
use Rattle.stack_lines.proofs.lemmas.StandingLemmas.{or-true, name-stands, verity-stands}
use Rattle.stack_lines.proofs.lemmas.ForgetLemmas.{kept-written, others-alone}
use Rattle.stack_lines.proofs.lemmas.StoredLemmas.{stored-read}
use Rattle.stack_lines.proofs.lemmas.VerityLineLemmas.{data-whole, hash-whole, same-verity, place-named}

-- a kept block is no larger than a hash block of its line
pub cached-small : (c : Configuration) → IsLoaded c → (leaves : List Device) (blocks : List CachedBlock) → All (IsCached c leaves) blocks → All (λ b. length b.bytes ≤ largest_allocation) blocks
cached-small c loaded leaves blocks all i d h =
    let one = all i d h in
    let size = hash-whole c (get_or blocks i d).key.device (get_or blocks i d).key.line one.verity loaded one.line in
    omega (arith, one.block.0, size.most)

-- nor is the data block larger than one of its line
pub last-small : (c : Configuration) → IsLoaded c → (leaves : List Device) (last : Option CachedBlock) → IfSome last (IsCachedData c leaves) → IfSome last (λ b. length b.bytes ≤ largest_allocation)
last-small c loaded leaves last kept =
    IfSome_then last {P = IsCachedData c leaves} {Q = λ b. length b.bytes ≤ largest_allocation} kept
    (λ b one. let size = data-whole c b.key.device b.key.line one.verity loaded one.line in omega (arith, one.block.0, size.most))

-- what passed the check is what was read
chosen : (b : Bool) (x y : List ℕ) → cond b (Ok x) (Err mismatch) ≡ Ok y → x ≡ y
chosen true x y h = cc
chosen false x y h = cc

passed : (salt expected : List ℕ) (s : Outcome) (y : List ℕ) → then_outcome s (checked salt expected) ≡ Ok y → s ≡ Ok y
passed salt expected (Ok x) y h = ap Ok (chosen (bytes_eq (digest salt x) expected) x y h)
passed salt expected (Err fault) y h = cc

found_capacity : (cache : CacheRecord) (o : Option CachedBlock) → (option_map_or (λ b. record cache { blocks = blocks_with b cache.blocks }) o cache).capacity ≡ cache.capacity
found_capacity cache None = refl
found_capacity cache (Some b) = refl

-- what is kept of a data block, if one is
last-some : (P : CachedBlock → Type 0) (keeps : Bool) (b : CachedBlock) (o : Option CachedBlock) → P b → IfSome o P → IfSome (last_after_keep keeps b o) P
last-some P keeps b o one all = go keeps
  where
    go : (t : Bool) → IfSome (if t then Some b else o) P
    go true = one
    go false = all

module _ (c : Configuration) where
  pub kept-read : {old new : List Device} {n : ℕ} (cache : CacheRecord) → AreRead old n new → All (IsCached c old) cache.blocks → All (IsCached c new) cache.blocks
  kept-read cache a all i d h = stored-read a (all i d h)

  -- reads change no image of a steady leaf
  pub cached-read : {old new : List Device} {n : ℕ} (cache : StackCache) → AreRead old n new → IsCacheOf c old cache → IsCacheOf c new cache
  cached-read {old = old} {new = new} cache a all = record {
    sets = all.sets;
    covers = all.covers;
    valid = all.valid;
    kept = kept-read cache.blocks a all.kept;
    last = IfSome_then cache.last {P = IsCachedData c old} {Q = IsCachedData c new} all.last (λ b. stored-read a);
    room = all.room;
  }

  -- what a name means, and what it names
  module _ {stored : Verity → Key → NamedExtent} {salt : List ℕ} {key : Key} {extent : Extent} (at : IsPlaceOf stored c salt key extent) where
    abbrev stored_at : NamedExtent
    stored_at = stored at.verity key

    spans : (images : Images) → span (λ s. (said_by_name c stored_at.name s).means images) stored_at.first stored_at.sectors
        ≡ span (λ s. ((place_of c extent.lower).said s).means images) extent.first extent.sectors
    spans images =
        ap (λ (p : Place). span (λ s. (p.said s).means images) stored_at.first stored_at.sectors) (place-named c stored_at.name extent.lower at.on)
        ∙ ap (λ (k : ℕ). span (λ s. ((place_of c extent.lower).said s).means images) k stored_at.sectors) (sym at.first)
        ∙ ap (λ (k : ℕ). span (λ s. ((place_of c extent.lower).said s).means images) extent.first k) (sym at.sectors)

    -- a block that is kept answers a read of its place
    pub hit : {A : Type 0} (bytes_of : A → List ℕ) (x : A) (expected : List ℕ) (leaves : List Device) (b : CachedBlock) → b.key ≡ key → b.digest ≡ expected → bytes_of x ≡ b.bytes → IsKept stored c leaves b
        → Gets (checked_expected bytes_of (place_of c extent.lower) extent.first extent.sectors salt expected) leaves leaves (Ok x)
    hit bytes_of x expected leaves b same_key same_digest is one =
        let line : HasVerity c key.device key.line one.verity = subst (λ (k : Key). HasVerity c k.device k.line one.verity) same_key one.line in
        let same : one.verity ≡ at.verity = same-verity c key.device key.line 0 0 one.verity at.verity line at.line in
        let there : stored one.verity b.key ≡ stored_at = ap (λ (k : Key). stored one.verity k) same_key ∙ ap (λ (v : Verity). stored v key) same in
        let block : length b.bytes ≡ 512 * stored_at.sectors = one.block.0 ∙ ap (λ (e : NamedExtent). 512 * e.sectors) there in
        let good : digest salt b.bytes ≡ expected = ap (λ (s : List ℕ). digest s b.bytes) (sym at.salt_is) ∙ ap (λ (v : Verity). digest v.salt b.bytes) (sym same) ∙ one.block.1 ∙ same_digest in
        record {
          moved = AreRead-none _ leaves;
          may = (ap (λ (l : List ℕ). length l) is ∙ block ∙ ap (λ (k : ℕ). 512 * k) (sym at.sectors), ap (digest salt) is ∙ good);
          exact = λ sure.
              let beneath : (i : ℕ) → IsTrue (name_stands_on c i (stored one.verity b.key).name) → IsTrue ((place_of c extent.lower).leaves i) =
              λ i is. subst IsTrue (ap (λ (e : NamedExtent). name_stands_on c i e.name) there ∙ name-stands c i stored_at.name extent.lower at.on) is in
              let steady : AreSteady (λ j. name_stands_on c j (stored one.verity b.key).name) leaves = AreSteady-within leaves beneath sure.steady in
              let agreed : AgreesOn c (λ j. name_stands_on c j (stored one.verity b.key).name) (steady_images leaves) = agrees-within c (steady_images leaves) beneath (sure.agrees (inl refl)) in
              let had : span (λ s. (said_by_name c stored_at.name s).means (steady_images leaves)) stored_at.first stored_at.sectors ≡ Ok b.bytes =
              subst (λ (e : NamedExtent). span (λ s. (said_by_name c e.name s).means (steady_images leaves)) e.first e.sectors ≡ Ok b.bytes) there (one.exact steady agreed) in
              ap (λ (s : Outcome). then_outcome s (checked salt expected)) (sym (spans (steady_images leaves)) ∙ had) ∙ checked-same salt expected b.bytes good ∙ ap Ok (sym is);
        }

    -- a block that was read and checked
    pub cached-one : {A : Type 0} (bytes_of : A → List ℕ) (x : A) (expected : List ℕ) {old new : List Device}
        → Gets (checked_expected bytes_of (place_of c extent.lower) extent.first extent.sectors salt expected) old new (Ok x) → IsKept stored c new (record { key = key; digest = expected; bytes = bytes_of x })
    cached-one bytes_of x expected {old = old} {new = new} got = record {
      verity = at.verity;
      line = at.line;
      block = (got.may.0 ∙ ap (λ (k : ℕ). 512 * k) at.sectors, ap (λ (s : List ℕ). digest s (bytes_of x)) at.salt_is ∙ got.may.1);
      exact = λ steady agrees.
          let beneath : (i : ℕ) → IsTrue ((place_of c extent.lower).leaves i) → IsTrue (name_stands_on c i stored_at.name) = λ i is. subst IsTrue (sym (name-stands c i stored_at.name extent.lower at.on)) is in
          let before : IsCertain (checked_expected bytes_of (place_of c extent.lower) extent.first extent.sectors salt expected) old = record {
            steady = AreSteady-kept new old (sym got.moved.moved.fixed) (AreSteady-within new beneath steady);
            agrees = λ meets. agrees-within c (steady_images old) beneath (subst (AgreesOn c (λ j. name_stands_on c j stored_at.name)) (images-kept got.moved) agrees);
          } in
          spans (steady_images new)
          ∙ ap (λ (m : Images). span (λ s. ((place_of c extent.lower).said s).means m) extent.first extent.sectors) (images-kept got.moved)
          ∙ passed salt expected (span (λ s. ((place_of c extent.lower).said s).means (steady_images old)) extent.first extent.sectors) (bytes_of x) (got.exact before);
    }

  -- ---- a data block

  module _ {salt : List ℕ} {key : Key} {extent : Extent} (at : IsPlaceOf data_stored c salt key extent) where
    -- the data block that is kept answers a read of its place
    pub last-hit : {A : Type 0} (bytes_of : A → List ℕ) (x : A) (expected : List ℕ) (leaves : List Device) (cache : StackCache) → IsCacheOf c leaves cache → IsLastBlock cache.last key expected (bytes_of x)
        → Gets (checked_expected bytes_of (place_of c extent.lower) extent.first extent.sectors salt expected) leaves leaves (Ok x)
    last-hit bytes_of x expected leaves cache all found =
        hit at bytes_of x expected leaves found.kept found.key_is found.digest_is found.bytes_are (subst (λ (o : Option CachedBlock). IfSome o (IsCachedData c leaves)) found.is all.last)

    -- one that was read and checked may be kept
    pub keeps-last : {A : Type 0} (bytes_of : A → List ℕ) (x : A) (expected : List ℕ) {old new : List Device} (before cache after : StackCache)
        → Gets (checked_expected bytes_of (place_of c extent.lower) extent.first extent.sectors salt expected) old new (Ok x) → KeepsCache c new before cache
        → (r : Result Unit AllocError) (bytes : List ℕ) → bytes ≡ bytes_of x → OnOk r (after ≡ record cache { last = last_after_keep cache.keeps_last (record { key = key; digest = expected; bytes = bytes }) cache.last }) → OnErr r (after ≡ cache)
        → KeepsCache c new before after
    keeps-last bytes_of x expected {new = new} before cache after got kept (Ok u) bytes same ok err =
        let one : CachedBlock = record { key = key; digest = expected; bytes = bytes_of x } in
        record {
          capacity = ap capacity_of ok ∙ kept.capacity;
          sound = subst (IsCacheOf c new) (sym (ok ∙ ap (λ (b : List ℕ). record cache { last = last_after_keep cache.keeps_last (record { key = key; digest = expected; bytes = b }) cache.last }) same))
              (record {
                sets = kept.sound.sets;
                covers = kept.sound.covers;
                valid = kept.sound.valid;
                kept = kept.sound.kept;
                last = last-some (IsCachedData c new) cache.keeps_last one cache.last (cached-one at bytes_of x expected got) kept.sound.last;
                room = λ none. ap (λ (t : Bool). last_after_keep t one cache.last) none ∙ kept.sound.room none;
              });
        }
    keeps-last bytes_of x expected {new = new} before cache after got kept (Err e) bytes same ok err = record {
      capacity = ap capacity_of err ∙ kept.capacity;
      sound = subst (IsCacheOf c new) (sym err) kept.sound;
    }

  -- ---- a hash block

  module _ {salt : List ℕ} {key : Key} {extent : Extent} (at : IsPlaceOf hash_stored c salt key extent) where
    hit_of : {A : Type 0} (bytes_of : A → List ℕ) (x : A) (expected : List ℕ) (leaves : List Device) (cache : CacheRecord) → All (IsCached c leaves) cache.blocks
        → (o : Option CachedBlock) → block_under key expected cache ≡ o → Some (bytes_of x) ≡ option_map (λ b. b.bytes) o
        → Gets (checked_expected bytes_of (place_of c extent.lower) extent.first extent.sectors salt expected) leaves leaves (Ok x)
    hit_of bytes_of x expected leaves cache all None found is = absurd cc
    hit_of bytes_of x expected leaves cache all (Some b) found is =
        let under = block_under-is key expected cache b found in
        let same : bytes_of x ≡ b.bytes = cc in
        hit at bytes_of x expected leaves b under.0 under.1 same (All-block_under (IsCached c leaves) key expected cache b all found)

    pub cached-hit : {A : Type 0} (bytes_of : A → List ℕ) (x : A) (expected : List ℕ) (leaves : List Device) (cache : StackCache) → IsCacheOf c leaves cache
        → Some (bytes_of x) ≡ option_map (λ b. b.bytes) (block_under key expected cache.blocks)
        → Gets (checked_expected bytes_of (place_of c extent.lower) extent.first extent.sectors salt expected) leaves leaves (Ok x)
    cached-hit bytes_of x expected leaves cache all is = hit_of bytes_of x expected leaves cache.blocks all.kept (block_under key expected cache.blocks) refl is

    -- one that was read and checked may be kept
    cached-kept : {A : Type 0} (bytes_of : A → List ℕ) (x : A) (expected : List ℕ) {old new : List Device} (cache : CacheRecord)
        → Gets (checked_expected bytes_of (place_of c extent.lower) extent.first extent.sectors salt expected) old new (Ok x) → All (IsCached c new) cache.blocks
        → All (IsCached c new) (cache_after_keep (record { key = key; digest = expected; bytes = bytes_of x }) cache).blocks
    cached-kept bytes_of x expected {old = old} {new = new} cache got all =
        All-after_keep (IsCached c new) (record { key = key; digest = expected; bytes = bytes_of x }) cache
        (cached-one at bytes_of x expected got) all

    -- that leaves are noted for its line
    noted : (cache after : StackCache) → ((i : ℕ) → has_leaf after.covered i ≡ (has_leaf cache.covered i || stands_on c i extent.lower)) → CoversBlocks c cache.covered cache.blocks.blocks
        → CoversBlocks c after.covered cache.blocks.blocks
    noted cache after is covers k d h i small stands = is i ∙ ap (λ (b : Bool). b || stands_on c i extent.lower) (covers k d h i small stands)

    pub noted_key : (cache after : StackCache) → ((i : ℕ) → has_leaf after.covered i ≡ (has_leaf cache.covered i || stands_on c i extent.lower)) → (i : ℕ) → key_stands_on c i key ≡ true → has_leaf after.covered i ≡ true
    noted_key cache after is i stands =
        let by_name : key_stands_on c i key ≡ name_stands_on c i at.verity.hash = verity-stands c i key.device key.line at.line.line at.verity at.line.is at.line.has in
        let on : stands_on c i extent.lower ≡ true = sym (name-stands c i at.verity.hash extent.lower at.on) ∙ sym by_name ∙ stands in
        is i ∙ ap (λ (b : Bool). has_leaf cache.covered i || b) on ∙ or-true (has_leaf cache.covered i)

    pub keeps-noted : (leaves : List Device) (before cache after : StackCache) → after ≡ record cache { covered = after.covered }
        → ((i : ℕ) → has_leaf after.covered i ≡ (has_leaf cache.covered i || stands_on c i extent.lower)) → KeepsCache c leaves before cache → KeepsCache c leaves before after
    keeps-noted leaves before cache after same is kept = record {
      capacity = ap capacity_of same ∙ kept.capacity;
      sound = subst (IsCacheOf c leaves) (sym same) (record { sets = kept.sound.sets; covers = noted cache after is kept.sound.covers; valid = kept.sound.valid; kept = kept.sound.kept; last = kept.sound.last; room = kept.sound.room });
    }

    pub keeps-kept : {A : Type 0} (bytes_of : A → List ℕ) (x : A) (expected : List ℕ) {old new : List Device} (before cache after : StackCache)
        → Gets (checked_expected bytes_of (place_of c extent.lower) extent.first extent.sectors salt expected) old new (Ok x) → ((i : ℕ) → key_stands_on c i key ≡ true → has_leaf cache.covered i ≡ true) → KeepsCache c new before cache
        → (r : Result Unit AllocError) (bytes : List ℕ) → bytes ≡ bytes_of x → OnOk r (after ≡ record cache { blocks = cache_after_keep (record { key = key; digest = expected; bytes = bytes }) cache.blocks }) → OnErr r (after ≡ cache)
        → KeepsCache c new before after
    keeps-kept bytes_of x expected {new = new} before cache after got covers kept (Ok u) bytes same ok err =
        let one : CachedBlock = record { key = key; digest = expected; bytes = bytes_of x } in
        record {
          capacity = ap capacity_of ok ∙ kept.capacity;
          sound = subst (IsCacheOf c new) (sym (ok ∙ ap (λ (b : List ℕ). record cache { blocks = cache_after_keep (record { key = key; digest = expected; bytes = b }) cache.blocks }) same))
              (record {
                sets = kept.sound.sets;
                covers = All-after_keep (λ b. (i : ℕ) → i < most_leaves → key_stands_on c i b.key ≡ true → has_leaf cache.covered i ≡ true) one cache.blocks (λ i small. covers i) kept.sound.covers;
                valid = IsCache-after_keep one cache.blocks kept.sound.valid;
                kept = cached-kept bytes_of x expected cache.blocks got kept.sound.kept;
                last = kept.sound.last;
                room = kept.sound.room;
              });
        }
    keeps-kept bytes_of x expected {new = new} before cache after got covers kept (Err e) bytes same ok err = record {
      capacity = ap capacity_of err ∙ kept.capacity;
      sound = subst (IsCacheOf c new) (sym err) kept.sound;
    }

  -- of a cache that holds no block
  pub cached-fresh : {capacity : Capacity} (leaves : List Device) {cache : StackCache} → IsFreshCache c capacity cache → IsCacheOf c leaves cache
  cached-fresh {capacity = capacity} leaves {cache = cache} fresh = record {
    sets = fresh.sets;
    covers = subst (λ (k : CacheRecord). CoversBlocks c cache.covered k.blocks) (sym fresh.empty) (All-nil _);
    valid = subst IsCache (sym fresh.empty) (IsCache-empty capacity.blocks);
    kept = subst (λ (k : CacheRecord). All (IsCached c leaves) k.blocks) (sym fresh.empty) (All-nil _);
    last = subst (λ (o : Option CachedBlock). IfSome o (IsCachedData c leaves)) (sym fresh.none) tt;
    room = λ none. fresh.none;
  }

  -- as callers see it
  pub cached-checked : {leaves : List Device} {cache : StackCache} {restored : ℕ} → IsCacheOf c leaves cache → AreChecked (stack_with c leaves cache restored)
  cached-checked all = record { few = all.valid.within; distinct = all.valid.distinct; each = all.kept; last = all.last; room = all.room }

  -- what a find leaves: it changes the order alone
  pub keeps-found : (leaves : List Device) (key : Key) (expected : List ℕ) (cache after : StackCache) → after ≡ record cache { blocks = cache_after_find key expected cache.blocks } → IsCacheOf c leaves cache → KeepsCache c leaves cache after
  keeps-found leaves key expected cache after is all = record {
    capacity = ap capacity_of is ∙ ap (λ (n : ℕ). record { blocks = n; last = cache.keeps_last }) (found_capacity cache.blocks (block_under key expected cache.blocks));
    sound = subst (IsCacheOf c leaves) (sym is) (record {
      sets = all.sets;
      covers = All-after_find (λ b. (i : ℕ) → i < most_leaves → key_stands_on c i b.key ≡ true → has_leaf cache.covered i ≡ true) key expected cache.blocks all.covers;
      valid = IsCache-after_find key expected cache.blocks all.valid;
      kept = All-after_find (IsCached c leaves) key expected cache.blocks all.kept;
      last = all.last;
      room = all.room;
    });
  }

  -- what a write to a leaf leaves, after the lines whose hash device is on it were forgotten
  pub keeps-written : (i first n most : ℕ) (old new : List Device) (before cache : StackCache) → AreWritten (reached (λ s. (said_at c (leaf i) s).reaches) first n) old most new → IsCacheOf c old before
      → cache.blocks ≡ cache_without_leaf c i before.blocks → cache ≡ record before { blocks = cache.blocks; last = None; covered = cache.covered } → CoversBlocks c cache.covered cache.blocks.blocks → KeepsCache c new before cache
  keeps-written i first n most old new before cache written all is rest covers = record {
    capacity = ap capacity_of rest ∙ ap (λ (k : CacheRecord). record { blocks = k.capacity; last = before.keeps_last }) is;
    sound = record {
      sets = subst (AreLeafSets c) (sym (ap (λ (k : StackCache). k.beneath) rest)) all.sets;
      covers = covers;
      valid = subst IsCache (sym is) (IsCache-filter (λ b. not (key_stands_on c i b.key)) before.blocks all.valid);
      kept = subst (λ (k : CacheRecord). All (IsCached c new) k.blocks) (sym is) (kept-written c i old new written.moved.fixed (others-alone c i first n old new written.others) before.blocks all.kept);
      last = subst (λ (o : Option CachedBlock). IfSome o (IsCachedData c new)) (sym (ap (λ (k : StackCache). k.last) rest)) tt;
      room = λ none. ap (λ (k : StackCache). k.last) rest;
    };
  }
