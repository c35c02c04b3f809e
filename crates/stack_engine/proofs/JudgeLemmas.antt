-- A block of a round that is judged: its own read, and that of its known digest.
use Rattle.std.proofs.Common.{◌≡◌, ℕ, zero, suc, ◌+◌, ◌-◌, ◌*◌, ◌/◌, ◌<◌, ◌≤◌, Bool, true, false, not, cond, IsTrue, List, Vec, Global, Option, Some, None, Result, Ok, Err, inl, refl, sym, ap, ◌∙◌, arith, subst}
use Rattle.std.specs.Prelude.{IfErr, IfOk, IfSome, is_some}
use Rattle.std.specs.Str.{bytes_eq}
use Rattle.std.proofs.Math.Nat.{add-mul, mul-le-mul_left, mul-le-mul_right, mul_assoc}
use Rattle.allocation.specs.Refusal.{IsOutOfMemory}
use Rattle.block_device.specs.Device.{Device}
use Rattle.tree_shape.specs.Digests.{digest}
use Rattle.tree_shape.specs.Shape.{levels}
use Rattle.dm_table.specs.declared.parity.Parity.{Parity}
use Rattle.dm_table.specs.declared.verity.Verity.{Verity}
use Rattle.stack_rules.specs.Names.{mapped}
use Rattle.stack_rules.specs.Records.{Configuration}
use Rattle.stack_rules.specs.Rules.{IsLoaded}
use Rattle.stack_rules.specs.Trees.{block_sectors, path_blocks, tree_of}
use Rattle.stack_meaning.specs.declared.fault.Fault.{Fault}
use Rattle.stack_meaning.specs.declared.fault.IoFault.{IoFault}
use Rattle.stack_meaning.specs.declared.fault.IoFault.TheVariants as io
use Rattle.stack_meaning.specs.Blocks.{checked_span, hash_sectors, hash_start, next_digest}
use Rattle.stack_meaning.specs.Erasures.{PathEnd, digest_at, digest_beneath, is_lost, is_lost_by, known_digest, path_end}
use Rattle.stack_meaning.specs.Leaves.{steady_images, AreRead, LeafFailed}
use Rattle.stack_meaning.specs.Memory.{largest_allocation}
use Rattle.stack_meaning.specs.Outcomes.{Images, Outcome, changed_outcome, mismatch, then_outcome}
use Rattle.stack_meaning.specs.Places.{Expected, place_of}
use Rattle.stack_meaning.specs.Reading.{Gets, IsCertain}
use Rattle.stack_meaning.specs.Spares.{BlockSources, covered_block}
use Rattle.stack_meaning.proofs.lemmas.LeafListLemmas.{AreRead-none, AreRead-then, AreRead-more, failed_earlier, failed_later, images-kept}
use Rattle.stack_meaning.proofs.lemmas.RunLemmas.{certain-for, fault_passes}
use Rattle.stack_lines.specs.declared.tree.Extent.{Extent}
use Rattle.stack_lines.specs.declared.tree.Tree.{Tree}
use Rattle.stack_lines.specs.Extents.{IsExtent}
use Rattle.stack_lines.specs.Walks.{AgreesAt, DataBlock, IsTreeOf, block_in, block_leaves, checked_expected, place_named, sources_of}
use Rattle.stack_lines.proofs.lemmas.VerityLineLemmas.{parity-there}
use Rattle.stack_engine.specs.declared.losses.Judged.{Judged}
use Rattle.stack_engine.specs.declared.losses.Judged.TheVariants as is
use Rattle.stack_engine.specs.Erasures.{judge_by}
use Rattle.stack_engine.specs.Spares.{HasFailedLeaf, IsJudged, IsJudgedAs, IsSure, IsUnjudged, block_cost, block_wanted, digest_wanted, failed_of, judge_cost, known_digest_wanted, sector_cost, stored_digest_wanted}
use Rattle.stack_engine.proofs.PathBlockLemmas.{bytes, checked_as}
use Rattle.stack_engine.proofs.lemmas.HealedLemmas.{at-number}
use Rattle.stack_engine.proofs.lemmas.WalkLemmas.{hash-in}

-- what makes a block certain makes each read of its line certain that asks no more
pub sure-for : {A : Type 0} (b : DataBlock) (wanted : Expected A) {old mid : List Device} {m : ℕ} → AreRead old m mid → ((i : ℕ) → IsTrue (wanted.leaves i) → IsTrue (block_leaves b i)) → ((images : Images) → AgreesAt b images → wanted.agrees images) → IsSure b old → IsCertain wanted mid
sure-for b wanted moved within agrees sure =
    certain-for wanted {wanted' = block_wanted b (λ bytes. Unit {0}) 0 (λ images. Err mismatch)} moved within (λ meets. tt) agrees (record { steady = sure.steady; agrees = λ meets. sure.agrees })

pub certain-sure : (b : DataBlock) (is : List ℕ → Type 0) (cost : ℕ) (means : Images → Outcome) {leaves : List Device} → IsCertain (block_wanted b is cost means) leaves → IsSure b leaves
certain-sure b is cost means sure = record { steady = sure.steady; agrees = sure.agrees tt }

-- ---- the hash blocks on the path

-- the first n of them have their digests, as they are stored
pub record IsDigestBeneath (b : DataBlock) (n : ℕ) (expected : List ℕ) (old new : List Device) : Type 0 where
  pub moved : AreRead old (n * (hash_sectors b.verity * b.on_hash.cost)) new
  pub exact : IsSure b old → digest_beneath b.verity (sources_of b (steady_images old)) b.index n ≡ Ok expected

pub beneath-begins : (b : DataBlock) (leaves : List Device) → IsDigestBeneath b 0 b.verity.root leaves leaves
unfolding digest_beneath
beneath-begins b leaves = record { moved = AreRead-none _ leaves; exact = λ sure. refl }

abbrev next_digests : DataBlock → Images → ℕ → Outcome → Outcome
next_digests b images n x =
    then_outcome x (λ expected. changed_outcome (next_digest b.verity (levels (tree_of b.verity) - suc n) b.index) (checked_span (sources_of b images).on_hash (hash_start b.verity (levels (tree_of b.verity) - suc n) b.index) (hash_sectors b.verity) b.verity.salt expected))

beneath-step : (b : DataBlock) (images : Images) (n : ℕ) → digest_beneath b.verity (sources_of b images) b.index (suc n) ≡ next_digests b images n (digest_beneath b.verity (sources_of b images) b.index n)
unfolding digest_beneath
beneath-step b images n = refl

-- after a fault there is none
beneath-failed : (b : DataBlock) (images : Images) (n d : ℕ) (fault : Fault) → digest_beneath b.verity (sources_of b images) b.index n ≡ Err fault → digest_beneath b.verity (sources_of b images) b.index (d + n) ≡ Err fault
beneath-failed b images n zero fault is = let same : 0 + n ≡ n = omega arith in ap (λ k. digest_beneath b.verity (sources_of b images) b.index k) same ∙ is
beneath-failed b images n (suc d) fault is =
    let same : suc d + n ≡ suc (d + n) = omega arith in
    ap (λ k. digest_beneath b.verity (sources_of b images) b.index k) same ∙ beneath-step b images (d + n) ∙ ap (next_digests b images (d + n)) (beneath-failed b images n d fault is)

module _ (b : DataBlock) (n : ℕ) where
  abbrev level : ℕ
  level = levels (tree_of b.verity) - suc n

  abbrev pub unit : ℕ
  unit = hash_sectors b.verity * b.on_hash.cost

  abbrev pub hash_read : List ℕ → Expected (Vec ℕ Global)
  hash_read expected = checked_expected bytes b.on_hash (hash_start b.verity level b.index) (hash_sectors b.verity) b.verity.salt expected

  means-next : {expected : List ℕ} {old mid : List Device} → IsDigestBeneath b n expected old mid → IsSure b old → (x : Outcome) → (hash_read expected).means (steady_images mid) ≡ x → digest_beneath b.verity (sources_of b (steady_images old)) b.index (suc n) ≡ changed_outcome (next_digest b.verity level b.index) x
  means-next {expected = expected} {old = old} {mid = mid} so_far sure x is =
      beneath-step b (steady_images old) n
      ∙ ap (next_digests b (steady_images old) n) (so_far.exact sure)
      ∙ ap (λ (i : Images). changed_outcome (next_digest b.verity level b.index) ((hash_read expected).means i)) (sym (images-kept so_far.moved))
      ∙ ap (λ (o : Outcome). changed_outcome (next_digest b.verity level b.index) o) is

module _ (b : DataBlock) (n : ℕ) {expected : List ℕ} {old mid new : List Device} (so_far : IsDigestBeneath b n expected old mid) where
  -- the next one has its digest
  pub beneath-next : (block : Vec ℕ Global) → Gets (hash_read b n expected) mid new (Ok block) → IsDigestBeneath b (suc n) (next_digest b.verity (levels (tree_of b.verity) - suc n) b.index block.items) old new
  beneath-next block got =
      let u : ℕ = unit b n in
      let all : (n + 1) * u ≡ n * u + 1 * u = add-mul n 1 u in
      let more : suc n ≡ n + 1 = omega arith in
      record {
        moved = AreRead-more (omega (arith, all, ap (λ k. k * u) more)) (AreRead-then so_far.moved got.moved);
        exact = λ sure. means-next b n so_far sure (Ok block.items) (got.exact (sure-for b (hash_read b n expected) so_far.moved (hash-in b) (λ images all. all.on_hash) sure));
      }

  -- or its read ends in a fault
  pub beneath-stops : (most : ℕ) (fault : IoFault) → n < most → Gets (hash_read b n expected) mid new (Err fault)
      → Gets (block_wanted b (λ bytes. Unit {0}) (most * (hash_sectors b.verity * b.on_hash.cost)) (λ images. digest_beneath b.verity (sources_of b images) b.index most)) old new (Err fault)
  beneath-stops most fault low got =
      let u : ℕ = unit b n in
      let up : (n + 1) * u ≤ most * u = mul-le-mul_right u (omega (arith, low)) in
      let all : (n + 1) * u ≡ n * u + 1 * u = add-mul n 1 u in
      let rest : most - suc n + suc n ≡ most = omega (arith, low) in
      fault_passes {wanted = hash_read b n expected} {wanted' = block_wanted b (λ bytes. Unit {0}) (most * u) (λ images. digest_beneath b.verity (sources_of b images) b.index most)} fault got so_far.moved (omega (arith, up, all))
      (λ x meets. tt) (hash-in b) (λ images all. all.on_hash)
      (λ sure x is.
      ap (λ k. digest_beneath b.verity (sources_of b (steady_images old)) b.index k) (sym rest)
      ∙ beneath-failed b (steady_images old) (suc n) (most - suc n) x (means-next b n so_far (certain-sure b (λ bytes. Unit {0}) (most * u) (λ images. digest_beneath b.verity (sources_of b images) b.index most) sure) (Err x) is))

-- all of them
pub beneath-ends : (b : DataBlock) (n most : ℕ) {expected : List ℕ} {old new : List Device} → n ≡ most → IsDigestBeneath b n expected old new
    → Gets (block_wanted b (λ bytes. Unit {0}) (most * (hash_sectors b.verity * b.on_hash.cost)) (λ images. digest_beneath b.verity (sources_of b images) b.index most)) old new (Ok expected)
beneath-ends b n most {expected = expected} {old = old} {new = new} all h =
    let it = subst (λ k. IsDigestBeneath b k expected old new) all h in
    record {
      moved = it.moved;
      may = tt;
      exact = λ sure. it.exact (certain-sure b (λ bytes. Unit {0}) (most * (hash_sectors b.verity * b.on_hash.cost)) (λ images. digest_beneath b.verity (sources_of b images) b.index most) sure);
    }

-- ---- the known digest

module _ (c : Configuration) (v : Verity) (k : ℕ) where
  pub known-none : (leaves : List Device) → path_end v k ≡ None → Gets (known_digest_wanted c v k) leaves leaves (Err (io.Stack mismatch))
  known-none leaves none = record {
    moved = AreRead-none _ leaves;
    may = tt;
    exact = λ sure. ap (λ (o : Option PathEnd). digest_at v (sources_of (block_in c v k) (steady_images leaves)) o) none;
  }

  -- what makes it certain makes the digest beneath its path certain
  beneath-sure : (end : PathEnd) {leaves : List Device} → IsCertain (known_digest_wanted c v k) leaves → IsCertain (digest_wanted c v end.index end.above) leaves
  beneath-sure end sure = record { steady = sure.steady; agrees = λ meets. at-number (block_in c v k) end.index _ (sure.agrees tt) }

  pub known-beneath : (end : PathEnd) → path_end v k ≡ Some end → end.above ≤ levels (tree_of v) → {old new : List Device} (result : Result (List ℕ) IoFault) → Gets (digest_wanted c v end.index end.above) old new result → Gets (known_digest_wanted c v k) old new result
  known-beneath end at low {old = old} {new = new} result got = go result got
    where
      cost : end.above * (hash_sectors v * (block_in c v k).on_hash.cost) ≤ levels (tree_of v) * (hash_sectors v * (block_in c v k).on_hash.cost)
      cost = mul-le-mul_right (hash_sectors v * (block_in c v k).on_hash.cost) low

      means : digest_at v (sources_of (block_in c v k) (steady_images old)) (path_end v k) ≡ digest_beneath v (sources_of (block_in c v k) (steady_images old)) end.index end.above
      means = ap (λ (o : Option PathEnd). digest_at v (sources_of (block_in c v k) (steady_images old)) o) at

      go : (result : Result (List ℕ) IoFault) → Gets (digest_wanted c v end.index end.above) old new result → Gets (known_digest_wanted c v k) old new result
      go (Ok x) q = record { moved = AreRead-more cost q.moved; may = tt; exact = λ sure. means ∙ q.exact (beneath-sure end sure) }
      go (Err (io.Stack fault)) q = record { moved = AreRead-more cost q.moved; may = tt; exact = λ sure. means ∙ q.exact (beneath-sure end sure) }
      go (Err (io.Device i)) q = record { moved = AreRead-more cost q.moved; may = q.may; exact = λ sure. tt }
      go (Err io.NoMemory) q = record { moved = AreRead-more cost q.moved; may = q.may; exact = λ sure. tt }

-- ---- judging

-- what is meant of a digest
changed-ok : (f : List ℕ → List ℕ) (x : Outcome) (made : List ℕ) → changed_outcome f x ≡ Ok made → (block : List ℕ) × (x ≡ Ok block) × (f block ≡ made)
changed-ok f (Ok block) made e = let same : f block ≡ made = cc in (block, refl, same)
changed-ok f (Err fault) made e = let clash : Err fault ≡ Ok made = e in cc

changed-err : (f : List ℕ → List ℕ) (x : Outcome) (fault : Fault) → changed_outcome f x ≡ Err fault → x ≡ Err fault
changed-err f (Ok block) fault e = let clash : Ok (f block) ≡ Err fault = e in cc
changed-err f (Err other) fault e = e

module _ (c : Configuration) (v : Verity) (k : ℕ) where
  abbrev b : DataBlock
  b = block_in c v k

  abbrev from : List Device → BlockSources
  from old = sources_of b (steady_images old)

  lost-by : (old : List Device) (x y : Outcome) → covered_block v (from old) k ≡ x → known_digest v (from old) k ≡ y → is_lost v (from old) k ≡ is_lost_by v.salt x y
  lost-by old x y own known = ap (λ (o : Outcome). is_lost_by v.salt o (known_digest v (from old) k)) own ∙ ap (λ (o : Outcome). is_lost_by v.salt x o) known

  -- a line beneath refuses it
  pub judged-refused : {old new : List Device} (fault : Fault) → block_cost b ≤ judge_cost b → Gets (stored_digest_wanted c v k) old new (Err (io.Stack fault)) → IsJudged c v k old new is.Lost
  judged-refused {old = old} fault less got = record {
    moved = AreRead-more less got.moved;
    failed = tt;
    exact = λ sure. ap (λ (o : Outcome). is_lost_by v.salt o (known_digest v (from old) k)) (changed-err (digest v.salt) (covered_block v (from old) k) fault (got.exact (record { steady = sure.steady; agrees = λ meets. sure.agrees })));
  }

  pub judged-short : {old new : List Device} → block_cost b ≤ judge_cost b → Gets (stored_digest_wanted c v k) old new (Err io.NoMemory) → IsUnjudged b (judge_cost b) old new io.NoMemory
  judged-short less got = record { moved = AreRead-more less got.moved; may = got.may }

  own-certain : {old : List Device} → IsSure b old → IsCertain (stored_digest_wanted c v k) old
  own-certain sure = record { steady = sure.steady; agrees = λ meets. sure.agrees }

  known-certain : {n : ℕ} {old mid : List Device} → AreRead old n mid → IsSure b old → IsCertain (known_digest_wanted c v k) mid
  known-certain moved = sure-for b (known_digest_wanted c v k) moved (λ i on. on) (λ images all. all)

  module _ {old mid : List Device} (made : List ℕ) (own : Gets (stored_digest_wanted c v k) old mid (Ok made)) where
    as-known : (sure : IsSure b old) (x : Outcome) → known_digest v (from mid) k ≡ x → is_lost v (from old) k ≡ is_lost_by v.salt (Ok (changed-ok (digest v.salt) (covered_block v (from old) k) made (own.exact (own-certain sure))).0) x
    as-known sure x e =
        let block = changed-ok (digest v.salt) (covered_block v (from old) k) made (own.exact (own-certain sure)) in
        lost-by old (Ok block.0) x block.1 (ap (λ (i : Images). known_digest v (sources_of b i) k) (sym (images-kept own.moved)) ∙ e)

  module _ {old mid new : List Device} (fits : block_cost b + levels (tree_of v) * (hash_sectors v * b.on_hash.cost) ≤ judge_cost b) where
    -- it was read
    module _ (made : List ℕ) (own : Gets (stored_digest_wanted c v k) old mid (Ok made)) where
      pub judged-read : (known : Result (List ℕ) IoFault) → Gets (known_digest_wanted c v k) mid new known → IfOk (judge_by (Ok made) known) (IsJudged c v k old new)
      judged-read (Ok known) got = go (bytes_eq made known) refl
        where
          moved : AreRead old (judge_cost b) new
          moved = AreRead-more fits (AreRead-then own.moved got.moved)

          exact : (t : Bool) → bytes_eq made known ≡ t → IsSure b old → is_lost v (from old) k ≡ not t
          exact t e sure =
              let block = changed-ok (digest v.salt) (covered_block v (from old) k) made (own.exact (own-certain sure)) in
              as-known made own sure (Ok known) (got.exact (known-certain own.moved sure)) ∙ ap (λ (d : List ℕ). not (bytes_eq d known)) block.2 ∙ ap not e

          go : (t : Bool) → bytes_eq made known ≡ t → IsJudged c v k old new (cond t is.Kept is.Lost)
          go true e = record { moved = moved; failed = tt; exact = exact true e }
          go false e = record { moved = moved; failed = tt; exact = exact false e }
      judged-read (Err (io.Stack other)) got = record {
        moved = AreRead-more fits (AreRead-then own.moved got.moved);
        failed = tt;
        exact = λ sure. as-known made own sure (Err other) (got.exact (known-certain own.moved sure));
      }
      judged-read (Err (io.Device i)) got = tt
      judged-read (Err io.NoMemory) got = tt

      pub unjudged-read : (known : Result (List ℕ) IoFault) → Gets (known_digest_wanted c v k) mid new known → IfErr (judge_by (Ok made) known) (IsUnjudged b (judge_cost b) old new)
      unjudged-read (Ok digest) got = go (bytes_eq made digest)
        where
          go : (t : Bool) → IfErr {E = IoFault} (Ok (cond t is.Kept is.Lost)) (IsUnjudged b (judge_cost b) old new)
          go true = tt
          go false = tt
      unjudged-read (Err (io.Stack other)) got = tt
      unjudged-read (Err (io.Device i)) got = record { moved = AreRead-more fits (AreRead-then own.moved got.moved); may = (got.may.0, failed_later own.moved.moved got.moved.moved got.may.1) }
      unjudged-read (Err io.NoMemory) got = record { moved = AreRead-more fits (AreRead-then own.moved got.moved); may = got.may }

    -- its leaf failed
    module _ (leaf : ℕ) (own : Gets (stored_digest_wanted c v k) old mid (Err (io.Device leaf))) where
      pub judged-unread : (known : Result (List ℕ) IoFault) → Gets (known_digest_wanted c v k) mid new known → IfOk (judge_by (Err leaf) known) (IsJudged c v k old new)
      judged-unread (Ok digest) got = record {
        moved = AreRead-more fits (AreRead-then own.moved got.moved);
        failed = (own.may.0, failed_earlier got.moved.moved own.may.1);
        exact = λ sure. ap (λ (i : Images). known_digest v (sources_of b i) k) (sym (images-kept own.moved)) ∙ got.exact (known-certain own.moved sure);
      }
      judged-unread (Err (io.Stack other)) got = tt
      judged-unread (Err (io.Device i)) got = tt
      judged-unread (Err io.NoMemory) got = tt

      pub unjudged-unread : (known : Result (List ℕ) IoFault) → Gets (known_digest_wanted c v k) mid new known → IfErr (judge_by (Err leaf) known) (IsUnjudged b (judge_cost b) old new)
      unjudged-unread (Ok digest) got = tt
      unjudged-unread (Err (io.Stack other)) got = record { moved = AreRead-more fits (AreRead-then own.moved got.moved); may = (own.may.0, failed_earlier got.moved.moved own.may.1) }
      unjudged-unread (Err (io.Device i)) got = record { moved = AreRead-more fits (AreRead-then own.moved got.moved); may = (got.may.0, failed_later own.moved.moved got.moved.moved got.may.1) }
      unjudged-unread (Err io.NoMemory) got = record { moved = AreRead-more fits (AreRead-then own.moved got.moved); may = got.may }

-- what they cost of a line with parity, whose hash blocks have the size of its data blocks
pub judge-fits : (c : Configuration) (v : Verity) (tree : Tree) (q : Parity) (k : ℕ) → IsLoaded c → IsTreeOf c v tree → v.parity ≡ Some q
    → block_cost (block_in c v k) + levels (tree_of v) * (hash_sectors v * (block_in c v k).on_hash.cost) ≤ judge_cost (block_in c v k)
judge-fits c v tree q k loaded lies has =
    let b : DataBlock = block_in c v k in
    let l : ℕ = levels (tree_of v) in
    let line = (parity-there c v q tree loaded (record { lies = lies; has = has })).2 in
    let same : hash_sectors v ≡ block_sectors v = ap (λ n. n / 512) (sym line.one_size) in
    let less : block_sectors v * b.on_hash.cost ≤ block_cost b = mul-le-mul_left (block_sectors v) (hash-most b) in
    let one : hash_sectors v * b.on_hash.cost ≤ block_cost b = omega (arith, less, ap (λ n. n * b.on_hash.cost) same) in
    let all : l * (hash_sectors v * b.on_hash.cost) ≤ l * block_cost b = mul-le-mul_left l one in
    omega (arith, all, add-mul l 1 (block_cost b))
  where
    hash-most : (b : DataBlock) → b.on_hash.cost ≤ sector_cost b
    hash-most b = omega arith

pub judge-most : (b : DataBlock) → block_cost b ≤ judge_cost b
judge-most b = omega (arith, add-mul (levels (tree_of b.verity)) 1 (block_cost b))

-- ---- the hash block of a level, counted from the bottom

same-level : (n height : ℕ) → 0 < height → height ≤ n → n - suc (n - height) ≡ height - 1
same-level n height low most = omega (arith, low, most)

next-count : (n height : ℕ) → 0 < height → height ≤ n → suc (n - height) ≡ n - (height - 1)
next-count n height low most = omega (arith, low, most)

module _ (c : Configuration) (v : Verity) (tree : Tree) (index : ℕ) (lies : IsTreeOf c v tree) (height : ℕ) (low : 0 < height) (most : height ≤ levels (tree_of v)) (extent : Extent) (at : IsExtent c tree.hash (hash_start v (height - 1) index) (hash_sectors v) extent)
    {expected : List ℕ} {old mid new : List Device} (so_far : IsDigestBeneath (block_in c v index) (levels (tree_of v) - height) expected old mid) where
  stored-read : (result : Result (Vec ℕ Global) IoFault) → Gets (checked_expected bytes (place_of c extent.lower) extent.first extent.sectors v.salt expected) mid new result
      → Gets (hash_read (block_in c v index) (levels (tree_of v) - height) expected) mid new result
  stored-read result got =
      subst (λ (l : ℕ). Gets (checked_expected bytes (place_named c v.hash) (hash_start v l index) (hash_sectors v) v.salt expected) mid new result) (sym (same-level (levels (tree_of v)) height low most))
      (checked_as c v.hash tree.hash (hash_start v (height - 1) index) (hash_sectors v) v.salt expected result extent lies.on_hash at.value got)

  pub beneath-down : (block : Vec ℕ Global) → Gets (checked_expected bytes (place_of c extent.lower) extent.first extent.sectors v.salt expected) mid new (Ok block)
      → IsDigestBeneath (block_in c v index) (levels (tree_of v) - (height - 1)) (next_digest v (height - 1) index block.items) old new
  beneath-down block got =
      subst (λ (n : ℕ). IsDigestBeneath (block_in c v index) n (next_digest v (height - 1) index block.items) old new) (next-count (levels (tree_of v)) height low most)
      (subst (λ (l : ℕ). IsDigestBeneath (block_in c v index) (suc (levels (tree_of v) - height)) (next_digest v l index block.items) old new) (same-level (levels (tree_of v)) height low most)
      (beneath-next (block_in c v index) (levels (tree_of v) - height) so_far block (stored-read (Ok block) got)))

  pub beneath-fails : (above : ℕ) (fault : IoFault) → levels (tree_of v) - height < above → Gets (checked_expected bytes (place_of c extent.lower) extent.first extent.sectors v.salt expected) mid new (Err fault) → Gets (digest_wanted c v index above) old new (Err fault)
  beneath-fails above fault less got = beneath-stops (block_in c v index) (levels (tree_of v) - height) so_far above fault less (stored-read (Err fault) got)
