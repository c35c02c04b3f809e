-- The walk to a data block of a verity line.
use Rattle.std.proofs.Common.{◌≡◌, ℕ, suc, ◌+◌, ◌*◌, ◌<◌, ◌≤◌, Bool, IsTrue, ◌||◌, true, false, List, [], ◌∷◌, ◌++◌, length, Option, None, Some, Result, Ok, Err, refl, sym, ap, ◌∙◌, subst, arith, inl, inr, lit≤}
use Rattle.std.specs.Prelude.{is_some}
use Rattle.std.proofs.lemmas.Bool.{and_parts, cond-true, cond-false}
use Rattle.std.proofs.lemmas.Slice.Eq.{bytes_eq-Decides}
use Rattle.std.proofs.lemmas.List.{append_assoc, append-nil, length-append, length-replicate}
use Rattle.std.proofs.Math.Nat.{add-mul, le-max_left, mul-add, mul-le-mul_left, mul-le-mul_right, mul_assoc}
use Rattle.hash_tree.specs.Chain.{HangsFrom}
use Rattle.tree_shape.specs.Digests.{digest}
use Rattle.tree_shape.specs.Shape.{ancestor, levels}
use Rattle.block_device.specs.Device.{Device}
use Rattle.dm_table.specs.declared.parity.Parity.{Parity}
use Rattle.dm_table.specs.declared.verity.Verity.{Verity}
use Rattle.stack_rules.specs.TargetRules.{greatest}
use Rattle.stack_rules.specs.targets.Verity.{mend_cost}
use Rattle.stack_rules.specs.Trees.{tree_of, block_sectors, spare_blocks, zero_block}
use Rattle.stack_meaning.specs.declared.fault.Fault.{Fault}
use Rattle.stack_meaning.specs.declared.fault.IoFault.{IoFault}
use Rattle.stack_meaning.specs.declared.fault.IoFault.TheVariants as io
use Rattle.stack_meaning.specs.Outcomes.{Outcome, Images, mismatch, then_outcome}
use Rattle.stack_meaning.specs.Found.{FoundRecord}
use Rattle.stack_meaning.specs.Blocks.{hash_block_at, hash_sectors, next_digest, checked, is_ignored, data_block_at}
use Rattle.stack_meaning.specs.Leaves.{steady_images, AreRead}
use Rattle.stack_meaning.specs.Places.{Place, Expected, run_expected}
use Rattle.stack_meaning.specs.Reading.{Answers, Gets, IsCertain}
use Rattle.stack_engine.specs.Healing.{IsHealed, IsSettled, healed_result}
use Rattle.stack_engine.proofs.HealLemmas.{checked-other}
use Rattle.stack_lines.specs.Walks.{at_number, checked_expected, DataBlock, block_leaves, healed_expected, means_below, data_expected, chain_expected, sources_of, settled_cost, spare_cost, spare_cost_by, spare_expected, way_cost, way_expected, GetsChain, IsWalked}
use Rattle.stack_meaning.proofs.lemmas.CoveredLemmas.{covered-data}
use Rattle.stack_meaning.proofs.lemmas.CheckedLemmas.{checked-same}
use Rattle.stack_meaning.proofs.lemmas.LeafListLemmas.{AreRead-none, AreRead-then, AreRead-more, images-kept}
use Rattle.stack_lines.proofs.lemmas.StandingLemmas.{or-true}
use Rattle.stack_meaning.proofs.lemmas.RunLemmas.{certain-for, fault_passes}
use Rattle.stack_engine.proofs.lemmas.HealedLemmas.{IsCoveredAt, IsOnLine, block-answered, block-healed, block-read, block-settled}
use Rattle.allocation.specs.Refusal.{IsOutOfMemory}
use Rattle.stack_meaning.specs.Memory.{largest_allocation}

-- ---- one block that is checked

module _ {A : Type 0} (bytes_of : A → List ℕ) (place : Place) (first n : ℕ) (salt expected : List ℕ) {old new : List Device} (chains : List FoundRecord) where
  pub checked_ok : (x : A) {bytes : List ℕ} → bytes_of x ≡ bytes → digest salt bytes ≡ expected → Gets (run_expected place chains first n) old new (Ok bytes)
      → Gets (checked_expected bytes_of place first n salt expected) old new (Ok x)
  checked_ok x {bytes = bytes} is good p = record {
    moved = p.moved;
    may = (ap length is ∙ p.may.len, ap (digest salt) is ∙ good);
    exact = λ sure. ap (λ (s : Outcome). then_outcome s (checked salt expected)) (p.exact (record { steady = sure.steady; agrees = λ meets. sure.agrees (inl refl) })) ∙ checked-same salt expected bytes good ∙ ap Ok (sym is);
  }

  -- a read that a fault ended
  pub checked_err : (fault : IoFault) → Gets (run_expected place chains first n) old new (Err fault) → Gets (checked_expected bytes_of place first n salt expected) old new (Err fault)
  checked_err fault p =
      fault_passes {wanted = run_expected place chains first n} {wanted' = checked_expected bytes_of place first n salt expected} fault p (AreRead-none 0 old) (omega arith)
      (λ x meets. inr meets) (λ i is. is) (λ images agrees. agrees) (λ sure x is. ap (λ (s : Outcome). then_outcome s (checked salt expected)) is)

  -- a block of another digest
  pub checked_differs : {bytes : List ℕ} → (digest salt bytes ≡ expected → ⊥) → Gets (run_expected place chains first n) old new (Ok bytes) → Gets (checked_expected bytes_of place first n salt expected) old new (Err (io.Stack mismatch))
  checked_differs {bytes = bytes} other p = record {
    moved = p.moved;
    may = inl refl;
    exact = λ sure. ap (λ (s : Outcome). then_outcome s (checked salt expected)) (p.exact (record { steady = sure.steady; agrees = λ meets. sure.agrees (inl refl) })) ∙ checked-other salt expected bytes other;
  }

-- ---- the data block

-- the digest of a block of zeros
pub ignored-digest : (v : Verity) (expected : List ℕ) → is_ignored v expected ≡ true → digest v.salt (zero_block v) ≡ expected
ignored-digest v expected e = (bytes_eq-Decides (digest v.salt (zero_block v)) expected).0 (and_parts v.ignore_zero_blocks _ e).1

-- the leaves beneath one of the devices are some of those beneath all
pub hash-in : (b : DataBlock) (i : ℕ) → IsTrue (b.on_hash.leaves i) → IsTrue (block_leaves b i)
hash-in b i is = ap (λ (x : Bool). b.on_data.leaves i || (x || b.on_parity.leaves i)) is ∙ or-true (b.on_data.leaves i)

data-in : (b : DataBlock) (i : ℕ) → IsTrue (b.on_data.leaves i) → IsTrue (block_leaves b i)
data-in b i is = ap (λ (x : Bool). x || (b.on_hash.leaves i || b.on_parity.leaves i)) is

-- the devices of a line
on-data : (b : DataBlock) → IsOnLine b b.on_data
on-data b = record { within = data-in b; agrees = λ images agrees. agrees.on_data }

pub on-hash : (b : DataBlock) → IsOnLine b b.on_hash
on-hash b = record { within = hash-in b; agrees = λ images agrees. agrees.on_hash }

-- a data block is the covered block of its number
data-at : (b : DataBlock) → b.index < b.verity.blocks → IsCoveredAt b b.on_data (block_sectors b.verity * b.index) (block_sectors b.verity) b.index
data-at b there = record { verified = omega (arith, there); covered = λ p has images. covered-data b.verity (sources_of b images) b.index there }

module _ {A : Type 0} (bytes_of : A → List ℕ) (b : DataBlock) (expected : List ℕ) where
  -- one that is ignored
  pub data_zeros : (leaves : List Device) (x : A) → 512 * block_sectors b.verity ≡ b.verity.data_block → is_ignored b.verity expected ≡ true → bytes_of x ≡ zero_block b.verity
      → Gets (data_expected bytes_of b expected) leaves leaves (Ok x)
  data_zeros leaves x whole zeros is = record {
    moved = AreRead-none _ leaves;
    may = (ap length is ∙ length-replicate {A = ℕ} b.verity.data_block 0 ∙ sym whole, ap (digest b.verity.salt) is ∙ ignored-digest b.verity expected zeros);
    exact = λ sure. cond-true _ _ _ zeros ∙ ap Ok (sym is);
  }

  abbrev used_wanted : Expected A
  used_wanted = healed_expected bytes_of b b.on_data (block_sectors b.verity * b.index) (block_sectors b.verity) b.index expected

  abbrev own_read : List Device → List Device → Result A IoFault → Type 0
  own_read old new result = Gets (checked_expected bytes_of b.on_data (block_sectors b.verity * b.index) (block_sectors b.verity) b.verity.salt expected) old new result

  -- one that isn't
  data-used : {old new : List Device} (result : Result A IoFault) → is_ignored b.verity expected ≡ false → Gets used_wanted old new result → Gets (data_expected bytes_of b expected) old new result
  data-used {old = old} result other q = record {
    moved = q.moved;
    may = q.may;
    exact = λ sure.
        let unlike : (data_expected bytes_of b expected).means (steady_images old) ≡ used_wanted.means (steady_images old) = cond-false _ _ _ other in
        subst (λ (o : Outcome). Answers bytes_of o result) (sym unlike) (q.exact (record { steady = sure.steady; agrees = sure.agrees }));
  }

  spare-as : {old new : List Device} (spare : Result A IoFault) → Gets (spare_expected bytes_of b expected) old new spare → Gets (spare_expected bytes_of (at_number b b.index) expected) old new spare
  spare-as spare q = record {
    moved = q.moved;
    may = q.may;
    exact = λ sure. q.exact (record {
      steady = sure.steady;
      agrees = λ meets. let all = sure.agrees meets in record { on_data = all.on_data; on_hash = all.on_hash; on_parity = all.on_parity; line = all.line };
    });
  }

  -- one that is read
  pub data_read : {old new : List Device} (x : A) → is_ignored b.verity expected ≡ false → own_read old new (Ok x) → Gets (data_expected bytes_of b expected) old new (Ok x)
  data_read x other q = data-used (Ok x) other (block-read bytes_of b b.on_data (block_sectors b.verity * b.index) (block_sectors b.verity) b.index expected (on-data b) x q)

  -- one whose fault stays
  pub data_settled : {old new : List Device} (fault : IoFault) → IsSettled b.verity.parity fault → is_ignored b.verity expected ≡ false → own_read old new (Err fault) → Gets (data_expected bytes_of b expected) old new (Err fault)
  data_settled fault settled other q = data-used (Err fault) other (block-settled bytes_of b b.on_data (block_sectors b.verity * b.index) (block_sectors b.verity) b.index expected (on-data b) fault settled q)

  -- or by its spare
  pub data_healed : {old mid new : List Device} (fault : Fault) → is_ignored b.verity expected ≡ false → own_read old mid (Err (io.Stack fault)) → (spare : Result A IoFault) → Gets (spare_expected bytes_of b expected) mid new spare
      → Gets (data_expected bytes_of b expected) old new (healed_result (io.Stack fault) spare)
  data_healed fault other own spare q =
      data-used (healed_result (io.Stack fault) spare) other
      (block-healed bytes_of b b.on_data (block_sectors b.verity * b.index) (block_sectors b.verity) b.index expected (on-data b) refl fault own spare (spare-as spare q))

  -- whichever fault its own read ended in
  pub data_answered : {old mid new : List Device} (own : IoFault) (spare : Result A IoFault) → IsHealed b.verity.parity own → b.index < b.verity.blocks → is_ignored b.verity expected ≡ false → own_read old mid (Err own) → Gets (spare_expected bytes_of b expected) mid new spare
      → Gets (data_expected bytes_of b expected) old new (healed_result own spare)
  data_answered own spare heals there other read q =
      data-used (healed_result own spare) other
      (block-answered bytes_of b b.on_data (block_sectors b.verity * b.index) (block_sectors b.verity) b.index expected (on-data b) refl (data-at b there) own spare heals read (spare-as spare q))

-- ---- the walk

-- a spare of a line, by what is read for a sector of each device
spare-below : (v : Verity) (o : Option Parity) (costs : List ℕ) → spare_cost_by v o costs ≤ mend_cost v o costs
spare-below v None costs = omega arith
spare-below v (Some q) costs =
    let few : spare_blocks v * block_sectors v ≤ (spare_blocks v + 1) * block_sectors v = mul-le-mul_right (block_sectors v) (omega arith) in
    mul-le-mul_right (greatest costs) few

alone-below : (v : Verity) (o : Option Parity) (own : ℕ) (rest : List ℕ) → IsTrue (is_some o) → block_sectors v * own + spare_cost_by v o (own ∷ rest) ≤ mend_cost v o (own ∷ rest)
alone-below v None own rest some = let clash : false ≡ true = some in absurd cc
alone-below v (Some q) own rest some =
    let g : ℕ = greatest (own ∷ rest) in
    let one : block_sectors v * own ≤ block_sectors v * g = mul-le-mul_left (block_sectors v) (le-max_left own (greatest rest)) in
    let split : (spare_blocks v * block_sectors v + block_sectors v) * g ≡ spare_blocks v * block_sectors v * g + block_sectors v * g = add-mul (spare_blocks v * block_sectors v) (block_sectors v) g in
    let all : spare_blocks v * block_sectors v + block_sectors v ≡ (spare_blocks v + 1) * block_sectors v = grind arith in
    omega (arith, one, split, ap (λ (k : ℕ). k * g) all)

-- the cost of some hash blocks on the way, of a data block, and of as many spares
module _ (b : DataBlock) where
  abbrev all_levels : ℕ
  all_levels = levels (tree_of b.verity)

  -- a spare costs less than to settle a block, by at least the block itself if there is parity
  pub spare-low : spare_cost b ≤ settled_cost b
  spare-low = spare-below b.verity b.verity.parity (b.on_data.cost ∷ b.on_hash.cost ∷ b.on_parity.cost ∷ [])

  pub alone-low : IsTrue (is_some b.verity.parity) → block_sectors b.verity * b.on_data.cost + spare_cost b ≤ settled_cost b
  alone-low some = alone-below b.verity b.verity.parity b.on_data.cost (b.on_hash.cost ∷ b.on_parity.cost ∷ []) some

  pub chain-spent : all_levels * way_cost b + (block_sectors b.verity * b.on_data.cost + settled_cost b) ≤ (chain_expected b).cost
  chain-spent =
      let settled : (all_levels + 1) * settled_cost b ≡ all_levels * settled_cost b + 1 * settled_cost b = add-mul all_levels 1 (settled_cost b) in
      let each : all_levels * spare_cost b ≤ all_levels * settled_cost b = mul-le-mul_left all_levels spare-low in
      let hashes : all_levels * hash_sectors b.verity * b.on_hash.cost ≡ all_levels * (hash_sectors b.verity * b.on_hash.cost) = mul_assoc all_levels (hash_sectors b.verity) b.on_hash.cost in
      let apart : all_levels * way_cost b ≡ all_levels * (hash_sectors b.verity * b.on_hash.cost) + all_levels * spare_cost b = mul-add all_levels (hash_sectors b.verity * b.on_hash.cost) (spare_cost b) in
      omega (arith, hashes, apart, settled, each)

  levels_cost : (m n : ℕ) → m + n ≤ all_levels → m * way_cost b + n * way_cost b ≤ all_levels * way_cost b
  levels_cost m n h =
      let most : (m + n) * way_cost b ≤ all_levels * way_cost b = mul-le-mul_right (way_cost b) h in
      omega (arith, most, add-mul m n (way_cost b))

  -- up to the data block
  way-spent : (m n : ℕ) → m + n ≤ all_levels → m * way_cost b + n * way_cost b ≤ (chain_expected b).cost
  way-spent m n h = omega (arith, levels_cost m n h, chain-spent)

-- the meaning goes on with what the next hash block means
means-step : {A : Type 0} (bytes_of : A → List ℕ) (b : DataBlock) (l : ℕ) {expected : List ℕ} {path : List (List ℕ)} {old mid : List Device} → IsWalked b (suc l) expected path old mid → IsCertain (chain_expected b) old
    → (x : Outcome) → (way_expected bytes_of b l expected).means (steady_images mid) ≡ x
    → (chain_expected b).means (steady_images old) ≡ then_outcome x (λ block. means_below b (steady_images old) l (next_digest b.verity l b.index block))
means-step bytes_of b l {expected = expected} {old = old} {mid = mid} p sure x is =
    let images : steady_images mid ≡ steady_images old = images-kept p.moved in
    p.exact sure
    ∙ ap (λ (y : Outcome). then_outcome y (λ block. means_below b (steady_images old) l (next_digest b.verity l b.index block)))
    (ap (λ (m : Images). hash_block_at b.verity (sources_of b m) l (ancestor (tree_of b.verity) (l + 1) b.index) expected) (sym images) ∙ is)

-- and with what the data block means
means-end : {A : Type 0} (bytes_of : A → List ℕ) (b : DataBlock) {expected : List ℕ} {path : List (List ℕ)} {old mid : List Device} → IsWalked b 0 expected path old mid → IsCertain (chain_expected b) old
    → (x : Outcome) → (data_expected bytes_of b expected).means (steady_images mid) ≡ x → (chain_expected b).means (steady_images old) ≡ x
means-end bytes_of b {expected = expected} {old = old} {mid = mid} p sure x is =
    let images : steady_images mid ≡ steady_images old = images-kept p.moved in
    p.exact sure
    ∙ ap (λ (m : Images). data_block_at b.verity (sources_of b m) b.index expected) (sym images)
    ∙ is

path_cost : (b : DataBlock) {expected : List ℕ} {path : List (List ℕ)} {old mid : List Device} → IsWalked b 0 expected path old mid
    → length path * way_cost b + (block_sectors b.verity * b.on_data.cost + spare_cost b) ≤ (chain_expected b).cost
path_cost b {path = path} p = omega (arith, levels_cost b (length path) 0 (omega (arith, p.count)), chain-spent b, spare-low b)

module _ {A : Type 0} (bytes_of : A → List ℕ) (b : DataBlock) (l : ℕ) {expected : List ℕ} {path : List (List ℕ)} {old mid new : List Device} (whole : 512 * hash_sectors b.verity ≡ b.verity.hash_block) (p : IsWalked b (suc l) expected path old mid) where
  -- a step down
  pub walk_down : (x : A) → Gets (way_expected bytes_of b l expected) mid new (Ok x)
      → IsWalked b l (next_digest b.verity l b.index (bytes_of x)) (path ++ (bytes_of x ∷ [])) old new
  walk_down x q =
      let block : List ℕ = bytes_of x in
      let len : length (path ++ (block ∷ [])) ≡ length path + 1 = length-append path (block ∷ []) in
      record {
        count = omega (arith, p.count, len);
        moved = subst (λ (k : ℕ). AreRead old (k * way_cost b) new) (sym len) (AreRead-more (omega (arith, add-mul (length path) 1 (way_cost b))) (AreRead-then p.moved q.moved));
        hangs = λ rest content h hangs.
            let at : next_digest b.verity l b.index block ≡ next_digest b.verity (length rest) b.index block = ap (λ (k : ℕ). next_digest b.verity k b.index block) (sym h) in
            let size : length block ≡ b.verity.hash_block = q.may.0 ∙ whole in
            subst (λ (y : List (List ℕ)). HangsFrom (tree_of b.verity) b.verity.salt b.index b.verity.root y content) (sym (append_assoc path (block ∷ []) rest))
            (p.hangs (block ∷ rest) content (omega (arith, h)) (size, q.may.1, subst (λ (e : List ℕ). HangsFrom (tree_of b.verity) b.verity.salt b.index e rest content) at hangs));
        exact = λ sure. means-step bytes_of b l p sure (Ok block) (q.exact (certain-for (way_expected bytes_of b l expected) p.moved (λ i on. on) (λ meets. inl refl) (λ images agrees. agrees) sure));
      }

  -- a fault on the way down
  pub walk_stops : (fault : IoFault) → Gets (way_expected bytes_of b l expected) mid new (Err fault)
      → GetsChain b old new (Err fault)
  walk_stops fault q =
      fault_passes {wanted = way_expected bytes_of b l expected} {wanted' = chain_expected b} fault q p.moved
      (omega (arith, way-spent b (length path) 1 (omega (arith, p.count))))
      (λ x meets. elim meets [ inl differs ↦ inl differs | inr some ↦ inr (inr (l, omega (arith, p.count), some)) ])
      (λ i on. on)
      (λ images agrees. agrees)
      (λ sure x is. means-step bytes_of b l p sure (Err x) is)

module _ {A : Type 0} (bytes_of : A → List ℕ) (b : DataBlock) {expected : List ℕ} {path : List (List ℕ)} {old mid new : List Device} (whole : 512 * block_sectors b.verity ≡ b.verity.data_block) (p : IsWalked b 0 expected path old mid) where
  -- the data block at last
  pub walk_ends : (x : A) → b.index < b.verity.blocks → Gets (data_expected bytes_of b expected) mid new (Ok x)
      → GetsChain b old new (Ok (record { index = b.index; content = bytes_of x; path = path }))
  walk_ends x h q =
      let size : length (bytes_of x) ≡ b.verity.data_block = q.may.0 ∙ whole in
      record {
        moved = AreRead-more (path_cost b p) (AreRead-then p.moved q.moved);
        may = (refl, record { index = h; path = omega (arith, p.count); hangs = subst (λ (y : List (List ℕ)). HangsFrom (tree_of b.verity) b.verity.salt b.index b.verity.root y (bytes_of x)) (append-nil path) (p.hangs [] (bytes_of x) refl (size, q.may.1)) });
        exact = λ sure. means-end bytes_of b p sure (Ok (bytes_of x)) (q.exact (certain-for (data_expected bytes_of b expected) p.moved (λ i on. on) (λ meets. inl refl) (λ images agrees. agrees) sure));
      }

  pub walk_fails : (fault : IoFault) → Gets (data_expected bytes_of b expected) mid new (Err fault)
      → GetsChain b old new (Err fault)
  walk_fails fault q =
      fault_passes {wanted = data_expected bytes_of b expected} {wanted' = chain_expected b} fault q p.moved (path_cost b p)
      (λ x meets. elim meets [ inl differs ↦ inl differs | inr some ↦ inr (inl some) ])
      (λ i on. on)
      (λ images agrees. agrees)
      (λ sure x is. means-end bytes_of b p sure (Err x) is)

-- no memory for the path
pub walk_full : (b : DataBlock) (l : ℕ) → IsOutOfMemory largest_allocation → {expected : List ℕ} {path : List (List ℕ)} {old new : List Device} → IsWalked b l expected path old new → GetsChain b old new (Err io.NoMemory)
walk_full b l refused {path = path} p = record {
  moved = AreRead-more (omega (arith, way-spent b (length path) 0 (omega (arith, p.count)))) p.moved;
  may = refused;
  exact = λ sure. tt;
}
