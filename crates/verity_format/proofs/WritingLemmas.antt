-- Hash blocks written one after another.
use Rattle.std.proofs.Common.{◌≡◌, ◌≢◌, ◌≤◌, ◌<◌, ◌+◌, ◌-◌, ◌*◌, ◌/◌, ◌^◌, ◌==◌, ℕ, suc, Bool, true, List, [], ◌∷◌, ◌++◌, All, IsTrue, length, take, drop, get_or, refl, sym, ap, ◌∙◌, subst, arith, inl, inr, eqb-true}
use Rattle.std.specs.List.{concat}
use Rattle.std.proofs.Math.Nat.{zero-mul, mul-le-mul_right}
use Rattle.std.proofs.lemmas.Bool.{eqb-false, cases_Bool, cases_lt}
use Rattle.std.proofs.lemmas.List.{append-nil, append_assoc, drop-drop, drop-take, drop_at, ext_get_or, length-append, length-drop, length-take-le, take-append-drop, take-take, take_all, take_at}
use Rattle.std.proofs.lemmas.List.Elements.{All-drop, All-take}
use Rattle.std.proofs.lemmas.List.FromFn.{get_or-map-range_with_len, length-map-range_with_len}
use Rattle.block_device.specs.Device.{Device, IsSameDevice, IsSector, IsWhole, IsWritten, capped, spliced, sectors_of as cut_into, run_of}
use Rattle.block_device.specs.Whole.{length-sectors_of}
use Rattle.block_device.proofs.lemmas.SectorLemmas.{concat-sectors_of, drop-spliced, sectors_of-concat, take-spliced}
use Rattle.tree_shape.specs.Shape.{ShapeRecord, IsShape, is_block_size, area_blocks, blocks_sectors}
use Rattle.hash_tree.specs.Tree.{area, root}
use Rattle.hash_tree.specs.Building.{BuilderRecord, PlacedRecord, IsAreaBlock, begun_builder, pushed, completed, last_completed, built_root}
use Rattle.hash_tree.specs.Placing.{put, written}
use Rattle.hash_tree.proofs.lemmas.AreaBlockLemmas.{completed-few}
use Rattle.hash_tree.proofs.lemmas.BuilderLemmas.{completed-none}
use Rattle.hash_tree.proofs.lemmas.BuildingLemmas.{builds-area}
use Rattle.hash_tree.proofs.lemmas.PlacingLemmas.{written-append, written-same, written-inside}
use Rattle.hash_tree.proofs.lemmas.LawLemmas.{stands-in_shape}
use Rattle.verity_format.specs.Blocks.{block_at, blocks_at}
use Rattle.verity_format.specs.Image.{area_over, area_sectors, tree_sectors, with_tree}
use Rattle.verity_format.specs.Growth.{IsRunTaken}
use Rattle.verity_format.specs.Writing.{MayStand, LiesBetween, IsPartWritten, AreBlocksWritten, IsPartOfTree, IsWriting, IsTreeWritten}
use Rattle.verity_format.proofs.lemmas.DeviceLemmas.{same-none, same-then, drop-same, steady-then}
use Rattle.verity_format.proofs.GrowthLemmas.{taken-none, taken-then, out-then, digests-all, read-all, over-all, length-all}
use Rattle.verity_format.proofs.lemmas.RunLemmas.{run-blocks}
use Rattle.verity_format.proofs.lemmas.SizeLemmas.{block-size, tree-end, tree-room}

-- a run in front of a splice
run-before : (image ss : List (List ℕ)) (f j k : ℕ) → f ≤ length image → j + k ≤ f → run_of (spliced image f ss) j k ≡ run_of image j k
run-before image ss f j k inside low =
    let split : f ≡ j + (f - j) = omega arith in
    let fits : k ≤ f - j = omega arith in
    let cut : (xs : List (List ℕ)) → run_of (take f xs) j k ≡ run_of xs j k = λ xs.
    ap (λ n. take k (drop j (take n xs))) split ∙ ap (take k) (drop-take j (f - j) xs) ∙ take-take k (f - j) (drop j xs) fits in
    sym (cut (spliced image f ss)) ∙ ap (λ xs. run_of xs j k) (take-spliced image ss f inside) ∙ cut image

-- a run after a splice
run-behind : (image ss : List (List ℕ)) (f j k : ℕ) → f ≤ length image → f + length ss ≤ j → run_of (spliced image f ss) j k ≡ run_of image j k
run-behind image ss f j k inside high = ap (take k) (drop-same (f + length ss) j (spliced image f ss) image high (drop-spliced image ss f (length ss) inside refl))

-- the run that was put in
run-at : (image ss : List (List ℕ)) (f k : ℕ) → f ≤ length image → length ss ≡ k → run_of (spliced image f ss) f k ≡ ss
run-at image ss f k inside long =
    let rest = drop (f + length ss) image in
    ap (λ xs. take k (drop f xs)) (append_assoc (take f image) ss rest)
    ∙ ap (take k) (drop_at (take f image) (ss ++ rest) f (length-take-le f image inside))
    ∙ take_at ss rest k long

-- a block written at its place, seen block by block
pub block-put : (image : List (List ℕ)) (size n : ℕ) (p : PlacedRecord) → IsTrue (is_block_size size) → length p.bytes ≡ size → n ≡ length p.bytes / 512 → p.block * (size / 512) ≤ length image
    → (i : ℕ) → block_at (spliced image (p.block * (size / 512)) (cut_into n p.bytes)) size i ≡ put (block_at image size) p i
unfolding block_at
block-put image size n p valid sized count inside i =
    let k = size / 512 in
    let f : ℕ = p.block * k in
    let b = block-size size valid in
    let ss = cut_into n p.bytes in
    let same : n ≡ k = count ∙ ap (λ m. m / 512) sized in
    let long : length ss ≡ k = length-sectors_of n p.bytes ∙ same in
    elim (cases_Bool (i == p.block)) [
      | inl here ↦
          let at : i * k ≡ f = ap (λ j. j * k) (eqb-true i p.block here) in
          rw here
          (ap (λ j. concat (run_of (spliced image f ss) j k)) at
          ∙ ap concat (run-at image ss f k inside long)
          ∙ concat-sectors_of n p.bytes
          ∙ take_all (512 * n) p.bytes (omega (arith, same, sized, b.sectors)))
      | inr other ↦
          let apart : i ≢ p.block = eqb-false i p.block other in
          rw other
          (elim (cases_lt i p.block) [
            | inl low ↦
                let room : suc i * k ≤ p.block * k = mul-le-mul_right k low in
                let next : suc i * k ≡ i * k + k = grind arith in
                ap concat (run-before image ss f (i * k) k inside (omega (arith, room, next)))
            | inr high ↦
                let above : suc p.block ≤ i = omega arith in
                let room : suc p.block * k ≤ i * k = mul-le-mul_right k above in
                let next : suc p.block * k ≡ p.block * k + k = grind arith in
                ap concat (run-behind image ss f (i * k) k inside (omega (arith, room, next, long)))
          ])
    ]

-- nothing written yet
pub part-none : (size first last : ℕ) (d : Device) → IsPartWritten size first last 0 d d
part-none size first last d = record { same = same-none d; reads = refl; writes = omega arith; before = λ h. refl; after = λ h. refl }

pub part-then : (size first last n m k : ℕ) (a b c : Device) → n + m ≤ k → IsPartWritten size first last n a b → IsPartWritten size first last m b c → IsPartWritten size first last k a c
part-then size first last n m k a b c sum p q =
    let most : (n + m) * (size / 512) ≤ k * (size / 512) = mul-le-mul_right (size / 512) sum in
    let split : (n + m) * (size / 512) ≡ n * (size / 512) + m * (size / 512) = grind arith in
    record {
      same = same-then p.same q.same;
      reads = q.reads ∙ p.reads;
      writes = omega (arith, p.writes, q.writes, most, split);
      before = λ h. q.before (steady-then p.same h) ∙ p.before h;
      after = λ h. q.after (steady-then p.same h) ∙ p.after h;
    }

pub part-more : (size first last n k : ℕ) (a b : Device) → n ≤ k → IsPartWritten size first last n a b → IsPartWritten size first last k a b
part-more size first last n k a b low p =
    let most : n * (size / 512) ≤ k * (size / 512) = mul-le-mul_right (size / 512) low in
    record { same = p.same; reads = p.reads; writes = omega (arith, p.writes, most); before = p.before; after = p.after }

-- no block of a tree
pub part-none-tree : (s : ShapeRecord) (d : Device) → IsPartOfTree s d d
part-none-tree s d = part-more s.hash_block s.start (tree_sectors s) 0 (area_blocks s) d d (omega arith) (part-none s.hash_block s.start (tree_sectors s) d)

-- what is equal up to a sector is equal up to an earlier one
take-same : (m n : ℕ) (xs ys : List (List ℕ)) → m ≤ n → take n xs ≡ take n ys → take m xs ≡ take m ys
take-same m n xs ys low same = sym (take-take m n xs low) ∙ ap (take m) same ∙ take-take m n ys low

-- one block, whether its write failed or not
pub part-one : (size first last n : ℕ) (p : PlacedRecord) (a b : Device) (ok : Bool) → LiesBetween size first last p → n ≡ size / 512 → IsWritten a (p.block * (size / 512)) n ok b → IsPartWritten size first last 1 a b
part-one size first last n p a b ok stands count w =
    let k = size / 512 in
    let low : first * k ≤ p.block * k = mul-le-mul_right k stands.0 in
    record {
      same = w.same;
      reads = w.reads;
      writes = omega (arith, w.writes, count);
      before = λ h. take-same (first * k) (p.block * k) b.image a.image low (w.before h);
      after = λ h. drop-same (p.block * k + n) last b.image a.image (omega (arith, stands.1, count)) (w.after h);
    }

pub written-none : (size : ℕ) (d : Device) → AreBlocksWritten size d [] d
unfolding written
written-none size d = record {
  writes = let none : 0 * (size / 512) ≡ 0 = zero-mul (size / 512) in omega (arith, none);
  failures = refl;
  blocks = λ h i. refl;
}

-- one block
pub written-one : (size n : ℕ) (p : PlacedRecord) (a b : Device) → IsTrue (is_block_size size) → length p.bytes ≡ size → n ≡ length p.bytes / 512 → p.block * (size / 512) ≤ length a.image
    → IsWritten a (p.block * (size / 512)) n true b → (IsTrue a.steady → b.image ≡ spliced a.image (p.block * (size / 512)) (cut_into n p.bytes)) → AreBlocksWritten size a (p ∷ []) b
unfolding written
written-one size n p a b valid sized count inside w image = record {
  writes = let one : 1 * (size / 512) ≡ n = omega (arith, count, ap (λ m. m / 512) sized) in omega (arith, w.writes, one);
  failures = w.failures;
  blocks = λ h i. ap (λ im. block_at im size i) (image h) ∙ block-put a.image size n p valid sized count inside i;
}

-- blocks after blocks
pub written-then : (size : ℕ) (ps qs : List PlacedRecord) (a b c : Device) → IsSameDevice a b → AreBlocksWritten size a ps b → AreBlocksWritten size b qs c → AreBlocksWritten size a (ps ++ qs) c
written-then size ps qs a b c same p q =
    let sum : length (ps ++ qs) * (size / 512) ≡ length ps * (size / 512) + length qs * (size / 512) =
    ap (λ n. n * (size / 512)) (length-append ps qs) ∙ (let e : (length ps + length qs) * (size / 512) ≡ length ps * (size / 512) + length qs * (size / 512) = grind arith in e) in
    record {
      writes = omega (arith, p.writes, q.writes, sum);
      failures = q.failures ∙ p.failures;
      blocks = λ h i.
          q.blocks (steady-then same h) i
          ∙ written-same qs (block_at b.image size) (written (block_at a.image size) ps) (p.blocks h) i
          ∙ ap (λ (f : ℕ → List ℕ). f i) (sym (written-append (block_at a.image size) ps qs));
    }

-- the tree's blocks may be written if the tree fits
pub may-stand : (s : ShapeRecord) → IsShape s → (device : Device) → tree_sectors s ≤ device.size → (size : ℕ) → size ≡ s.hash_block
    → (out ps : List PlacedRecord) → out ≡ ps → All (IsAreaBlock s) ps → All (MayStand device size) out × All (LiesBetween size s.start (tree_sectors s)) out
may-stand s valid device room size same out ps is all =
    let k = s.hash_block / 512 in
    let one : (p : PlacedRecord) → IsAreaBlock s p → MayStand device s.hash_block p × LiesBetween s.hash_block s.start (tree_sectors s) p = λ p here.
    let whole : p.block * k + k ≤ tree_sectors s = tree-room s valid (tree_sectors s) (omega arith) p.block here.from here.below in
    ((here.size, omega (arith, whole, valid.tree_fits, room)), (here.from, whole)) in
    subst (λ (n : ℕ). All (MayStand device n) out × All (LiesBetween n s.start (tree_sectors s)) out) (sym same)
    (subst (λ ps. All (MayStand device s.hash_block) ps × All (LiesBetween s.hash_block s.start (tree_sectors s)) ps) (sym is)
    ((λ i d inside. (one (get_or ps i d) (all i d inside)).0), (λ i d inside. (one (get_or ps i d) (all i d inside)).1)))

-- an image that is as it was before and after a tree's sectors, and holds the tree in them
image-with_tree : (s : ShapeRecord) (salt : List ℕ) (data_image old new : List (List ℕ)) → All IsSector new → tree_sectors s ≤ length new
    → blocks_at new s.hash_block s.start (area_blocks s) ≡ area_over s salt data_image
    → take (blocks_sectors s.start s.hash_block) new ≡ take (blocks_sectors s.start s.hash_block) old → drop (tree_sectors s) new ≡ drop (tree_sectors s) old → new ≡ with_tree s salt data_image old
unfolding cut_into
image-with_tree s salt data_image old new sectors fits tree front back =
    let f : ℕ = blocks_sectors s.start s.hash_block in
    let m : ℕ = area_sectors s in
    let area : List ℕ = concat (area_over s salt data_image) in
    let behind : length (cut_into m area) ≡ m = length-sectors_of m area in
    elim (tree-end s) [
      | inl end ↦
          let run : List (List ℕ) = run_of new f m in
          let long : length run ≡ m = length-take-le m (drop f new) (omega (arith, length-drop f new, fits, end)) in
          let bytes : concat run ≡ area = run-blocks new s.hash_block s.start (area_blocks s) ∙ ap concat tree in
          let is : run ≡ cut_into m area = sym (sectors_of-concat run (All-take IsSector m (drop f new) (All-drop IsSector f new sectors))).1 ∙ ap (λ i. cut_into i (concat run)) long ∙ ap (cut_into m) bytes in
          let rest : drop m (drop f new) ≡ drop (f + length (cut_into m area)) old =
          drop-drop m f new ∙ ap (λ i. drop i new) (sym end) ∙ back ∙ ap (λ i. drop i old) (end ∙ ap (λ i. f + i) (sym behind)) in
          sym (take-append-drop f new)
          ∙ ap (λ xs. take f new ++ xs) (sym (take-append-drop m (drop f new)))
          ∙ ap (λ xs. xs ++ (run ++ drop m (drop f new))) front
          ∙ ap (λ xs. take f old ++ (xs ++ drop m (drop f new))) is
          ∙ ap (λ xs. take f old ++ (cut_into m area ++ xs)) rest
          ∙ sym (append_assoc (take f old) (cut_into m area) (drop (f + length (cut_into m area)) old))
      | inr none ↦
          let zero : m ≡ 0 = ap (λ n. n * (s.hash_block / 512)) none.1 ∙ zero-mul (s.hash_block / 512) in
          let same : new ≡ old = ap (λ n. drop n new) (sym none.0) ∙ back ∙ ap (λ n. drop n old) none.0 in
          same
          ∙ sym (take-append-drop f old)
          ∙ ap (λ n. take f old ++ drop n old) (omega (arith, behind, zero))
          ∙ ap (λ xs. xs ++ drop (f + length (cut_into m area)) old) (sym (append-nil (take f old)) ∙ ap (λ n. take f old ++ cut_into n area) (sym zero))
    ]

module _ (s : ShapeRecord) (salt : List ℕ) where
  pub writing-none : (data_dev hash_dev : Device) → IsWriting s salt data_dev hash_dev data_dev hash_dev (begun_builder s salt)
  unfolding taken-none
  writing-none data_dev hash_dev =
      let none : [] ≡ completed (begun_builder s salt) [] = sym (completed-none (begun_builder s salt)) in
      record {
        taken = taken-none s salt data_dev;
        part = subst (λ ps. IsPartWritten s.hash_block s.start (tree_sectors s) (length ps) hash_dev hash_dev) none (part-none s.hash_block s.start (tree_sectors s) hash_dev);
        done = subst (λ ps. AreBlocksWritten s.hash_block hash_dev ps hash_dev) none (written-none s.hash_block hash_dev);
      }

  module _ (data_dev hash_dev data' hash' : Device) (x : BuilderRecord) (here : IsWriting s salt data_dev hash_dev data' hash' x) where
    -- no more than the tree's blocks
    pub part-taken : IsShape s → IsPartOfTree s hash_dev hash'
    part-taken valid = part-more s.hash_block s.start (tree_sectors s) _ (area_blocks s) hash_dev hash' (completed-few s valid salt here.taken.digests here.taken.sized here.taken.few) here.part

    module _ (hash'' : Device) (out : List PlacedRecord) (part : IsPartWritten s.hash_block s.start (tree_sectors s) (length out) hash' hash'') where
      -- the blocks of a run more, whether that failed or not
      pub part-run : IsShape s → (data'' : Device) (y : BuilderRecord) → IsRunTaken s salt data' data'' x y out → IsPartOfTree s hash_dev hash''
      unfolding taken-then
      part-run valid data'' y run =
          let t = here.taken in
          let next = taken-then s salt data_dev data' x t data'' y out run in
          let more : completed (begun_builder s salt) (t.digests ++ run.digests) ≡ completed (begun_builder s salt) t.digests ++ out = out-then s salt data_dev data' x t data'' y out run in
          let few : length (completed (begun_builder s salt) (t.digests ++ run.digests)) ≤ area_blocks s = completed-few s valid salt (t.digests ++ run.digests) next.sized next.few in
          part-then s.hash_block s.start (tree_sectors s) _ _ (area_blocks s) hash_dev hash' hash'' (omega (arith, few, ap length more, length-append (completed (begun_builder s salt) t.digests) out)) here.part part

      pub part-last : IsShape s → x.left ≡ 0 → out ≡ last_completed x → IsPartOfTree s hash_dev hash''
      part-last valid none is =
          part-then s.hash_block s.start (tree_sectors s) _ _ (area_blocks s) hash_dev hash' hash'' (omega (arith, ap length is, length-all s salt data_dev data' x here.taken valid none)) here.part part

      module _ (done : AreBlocksWritten s.hash_block hash' out hash'') where
        done-then : AreBlocksWritten s.hash_block hash_dev (completed (begun_builder s salt) here.taken.digests ++ out) hash''
        done-then = written-then s.hash_block (completed (begun_builder s salt) here.taken.digests) out hash_dev hash' hash'' here.part.same here.done done

        pub writing-then : (data'' : Device) (y : BuilderRecord) → IsRunTaken s salt data' data'' x y out → IsWriting s salt data_dev hash_dev data'' hash'' y
        unfolding taken-then
        writing-then data'' y run =
            let t = here.taken in
            let more : completed (begun_builder s salt) (t.digests ++ run.digests) ≡ completed (begun_builder s salt) t.digests ++ out = out-then s salt data_dev data' x t data'' y out run in
            record {
              taken = taken-then s salt data_dev data' x t data'' y out run;
              part = part-then s.hash_block s.start (tree_sectors s) _ _ _ hash_dev hash' hash'' (omega (arith, ap length more, length-append (completed (begun_builder s salt) t.digests) out)) here.part part;
              done = subst (λ ps. AreBlocksWritten s.hash_block hash_dev ps hash'') (sym more) done-then;
            }

        pub written-all : IsShape s → IsWhole hash'' → tree_sectors s ≤ hash_dev.size → x.left ≡ 0 → out ≡ last_completed x → (digest : List ℕ) → digest ≡ built_root x
            → IsTreeWritten s salt data_dev hash_dev data' hash'' digest
        written-all valid whole room none is digest root_is =
            let t = here.taken in
            let b0 = begun_builder s salt in
            let are = digests-all s salt data_dev data' x t valid none in
            let built = builds-area s valid salt t.digests are in
            let stands = stands-in_shape s valid salt t.digests are in
            let moved : IsPartOfTree s hash_dev hash'' = part-last valid none is in
            let count : length (completed b0 t.digests ++ out) ≡ area_blocks s = length-append (completed b0 t.digests) out ∙ ap (λ ps. length (completed b0 t.digests) + length ps) is ∙ length-all s salt data_dev data' x t valid none in
            record {
              read = read-all s salt data_dev data' x t valid none;
              writes = subst (λ (n : ℕ). capped hash''.writes ≡ capped (hash_dev.writes + n * (s.hash_block / 512))) count done-then.writes;
              failures = done-then.failures;
              root = λ steady. root_is ∙ ap built_root t.after ∙ built.root ∙ ap (root s.hash_block salt) (over-all s salt data_dev data' x t valid none steady);
              image = λ data_steady hash_steady.
                  let n = area_blocks s in
                  let size = s.hash_block in
                  let blocks = area size salt t.digests in
                  let all : List PlacedRecord = completed b0 t.digests ++ last_completed (pushed b0 t.digests) in
                  let same : completed b0 t.digests ++ out ≡ all = ap (λ ps. completed b0 t.digests ++ ps) (is ∙ ap last_completed t.after) in
                  let long : length (blocks_at hash''.image size s.start n) ≡ n = length-map-range_with_len (block_at hash''.image size) s.start n in
                  let tree : blocks_at hash''.image size s.start n ≡ area_over s salt data_dev.image =
                  ext_get_or [] (blocks_at hash''.image size s.start n) blocks (long ∙ sym stands.total)
                  (λ i inside.
                  let low : i < n = omega (arith, long) in
                  get_or-map-range_with_len (block_at hash''.image size) s.start n i (s.start + i) [] low refl
                  ∙ done-then.blocks hash_steady (s.start + i)
                  ∙ ap (λ ps. written (block_at hash_dev.image size) ps (s.start + i)) same
                  ∙ written-inside s.start blocks all built.area (block_at hash_dev.image size) i (omega (arith, low, stands.total)))
                  ∙ ap (area size salt) (over-all s salt data_dev data' x t valid none data_steady) in
                  image-with_tree s salt data_dev.image hash_dev.image hash''.image whole.sectors (omega (arith, room, moved.same.size, whole.length)) tree (moved.before hash_steady) (moved.after hash_steady);
            }
