-- Hash blocks compared one after another.
use Rattle.std.proofs.Common.{◌≡◌, ◌≢◌, ◌≤◌, ◌<◌, ◌+◌, ◌-◌, ◌*◌, ◌/◌, ◌^◌, ℕ, List, [], ◌++◌, All, IsTrue, length, take, get_or, min, refl, sym, ap, ◌∙◌, subst, arith, Option, None, Some, Bool, true, false, not}
use Rattle.std.proofs.Math.Nat.{zero-mul}
use Rattle.std.proofs.lemmas.List.{length-append, ext_get_or, length-take-le, get_or-take}
use Rattle.std.proofs.lemmas.List.Elements.{All-nil}
use Rattle.std.proofs.lemmas.List.FromFn.{get_or-map-range_with_len, length-map-range_with_len}
use Rattle.std.proofs.lemmas.List.Sorted.{IsPermutation-refl}
use Rattle.std.proofs.lemmas.Slice.Eq.{bytes_eq-Decides}
use Rattle.std.proofs.lemmas.Bool.Decides.{not_from_Decides}
use Rattle.std.specs.Str.{bytes_eq}
use Rattle.block_device.specs.Device.{Device}
use Rattle.hash_tree.specs.Difference.{FirstDiffer}
use Rattle.tree_shape.specs.Shape.{ShapeRecord, IsShape, area_blocks}
use Rattle.hash_tree.specs.Tree.{area, root}
use Rattle.hash_tree.specs.Building.{BuilderRecord, PlacedRecord, IsAreaBlock, begun_builder, pushed, completed, last_completed, built_root, numbered}
use Rattle.hash_tree.specs.Placing.{IsLeastDiffering}
use Rattle.hash_tree.proofs.lemmas.BuilderLemmas.{completed-none}
use Rattle.hash_tree.proofs.lemmas.BuildingLemmas.{builds-area}
use Rattle.hash_tree.proofs.lemmas.PlacingLemmas.{least-permutation, same-inside, least-inside, least-among}
use Rattle.verity_format.specs.Blocks.{IsFullRead, block_at, blocks_at}
use Rattle.verity_format.specs.Image.{tree_sectors, area_over}
use Rattle.verity_format.specs.Growth.{IsRunTaken}
use Rattle.verity_format.specs.Comparing.{LiesOn, IsLeastWith, IsComparing, IsTreeCompared}
use Rattle.verity_format.proofs.lemmas.DeviceLemmas.{full_read-none, full_read-then, steady-then}
use Rattle.verity_format.proofs.GrowthLemmas.{taken-none, taken-then, out-then, digests-all, read-all, over-all, length-all}
use Rattle.verity_format.proofs.lemmas.RunLemmas.{sectors-more}
use Rattle.verity_format.proofs.lemmas.SizeLemmas.{tree-room}

differ_at : (xs ys : List ℕ) (b : Bool) → bytes_eq xs ys ≡ b → true ≡ not b → xs ≢ ys
differ_at xs ys true is h = cc
differ_at xs ys false is h = not_from_Decides (bytes_eq xs ys) (bytes_eq-Decides xs ys) is

same_at : (xs ys : List ℕ) (b : Bool) → bytes_eq xs ys ≡ b → false ≡ not b → xs ≡ ys
same_at xs ys true is h = (bytes_eq-Decides xs ys).0 is
same_at xs ys false is h = cc

-- what `!=` says of two blocks
pub ne_differ : (xs ys : List ℕ) → true ≡ not (bytes_eq xs ys) → xs ≢ ys
ne_differ xs ys h = differ_at xs ys (bytes_eq xs ys) refl h

pub ne_same : (xs ys : List ℕ) → false ≡ not (bytes_eq xs ys) → xs ≡ ys
ne_same xs ys h = same_at xs ys (bytes_eq xs ys) refl h

-- the tree's blocks lie on a device that has room for the tree
pub lies-on : (s : ShapeRecord) → IsShape s → (device : Device) → tree_sectors s ≤ device.size → (size : ℕ) → size ≡ s.hash_block
    → (out ps : List PlacedRecord) → out ≡ ps → All (IsAreaBlock s) ps → All (LiesOn device size) out
lies-on s valid device room size same out ps is all =
    subst (λ ps. All (LiesOn device size) ps) (sym is)
    (λ i d inside.
    let p : PlacedRecord = get_or ps i d in
    let k = s.hash_block / 512 in
    let here = all i d inside in
    let whole : p.block * k + k ≤ device.size = tree-room s valid device.size room p.block here.from here.below in
    let small : p.block * k + k ≤ 2 ^ 54 = tree-room s valid (2 ^ 54) valid.tree_fits p.block here.from here.below in
    let fits : p.block * k + k ≤ min device.size (2 ^ 54) = omega (arith, whole, small) in
    rw same fits)

module _ (s : ShapeRecord) (salt : List ℕ) where
  -- no block yet
  pub comparing-none : (data_dev hash_dev : Device) → IsComparing s salt data_dev hash_dev data_dev hash_dev (begun_builder s salt) None
  unfolding taken-none
  comparing-none data_dev hash_dev =
      let b0 = begun_builder s salt in
      let none : 0 ≡ length (completed b0 []) * (s.hash_block / 512) = sym (ap (λ ps. length ps * (s.hash_block / 512)) (completed-none b0) ∙ zero-mul (s.hash_block / 512)) in
      record {
        taken = taken-none s salt data_dev;
        read = subst (λ (n : ℕ). IsFullRead hash_dev n hash_dev) none (full_read-none hash_dev);
        found = λ steady. rw (completed-none b0) (All-nil (λ p. block_at hash_dev.image s.hash_block p.block ≡ p.bytes));
      }

  module _ (data_dev hash_dev data' hash' : Device) (x : BuilderRecord) (least : Option ℕ) (here : IsComparing s salt data_dev hash_dev data' hash' x least)
      (hash'' : Device) (size : ℕ) (same : size ≡ s.hash_block) (out : List PlacedRecord) (next : Option ℕ)
      (read : IsFullRead hash' (length out * (size / 512)) hash'') (with : IsLeastWith hash' size out least next) where
    least-then : IsTrue hash_dev.steady → IsLeastDiffering (block_at hash_dev.image s.hash_block) (completed (begun_builder s salt) here.taken.digests ++ out) next
    least-then steady =
        let ps = completed (begun_builder s salt) here.taken.digests in
        let image : hash'.image ≡ hash_dev.image = here.read.read.image steady in
        let at : IsTrue hash'.steady → (ps : List PlacedRecord) → IsLeastDiffering (block_at hash'.image s.hash_block) ps least → IsLeastDiffering (block_at hash'.image s.hash_block) (ps ++ out) next =
        subst (λ (n : ℕ). IsLeastWith hash' n out least next) same with in
        subst (λ (i : List (List ℕ)). IsLeastDiffering (block_at i s.hash_block) (ps ++ out) next) image
        (at (steady-then here.read.read.same steady) ps (subst (λ (i : List (List ℕ)). IsLeastDiffering (block_at i s.hash_block) ps least) (sym image) (here.found steady)))

    read-then : (n : ℕ) → length (completed (begun_builder s salt) here.taken.digests) + length out ≡ n → IsFullRead hash_dev (n * (s.hash_block / 512)) hash''
    read-then n sum =
        let m = length (completed (begun_builder s salt) here.taken.digests) in
        full_read-then _ _ _ here.read (subst (λ (k : ℕ). IsFullRead hash' (length out * (k / 512)) hash'') same read) (sectors-more s.hash_block m (length out) n sum)

    -- the blocks of a run more
    pub comparing-then : (data'' : Device) (y : BuilderRecord) → IsRunTaken s salt data' data'' x y out → IsComparing s salt data_dev hash_dev data'' hash'' y next
    unfolding taken-then
    comparing-then data'' y run =
        let t = here.taken in
        let more : completed (begun_builder s salt) (t.digests ++ run.digests) ≡ completed (begun_builder s salt) t.digests ++ out = out-then s salt data_dev data' x t data'' y out run in
        record {
          taken = taken-then s salt data_dev data' x t data'' y out run;
          read = read-then (length (completed (begun_builder s salt) (t.digests ++ run.digests))) (sym (ap length more ∙ length-append (completed (begun_builder s salt) t.digests) out));
          found = λ steady. subst (λ ps. IsLeastDiffering (block_at hash_dev.image s.hash_block) ps next) (sym more) (least-then steady);
        }

    -- and the last ones
    pub compared-all : IsShape s → x.left ≡ 0 → out ≡ last_completed x → (digest : List ℕ) → digest ≡ built_root x → IsTreeCompared s salt data_dev hash_dev data' hash'' next digest
    compared-all valid none is digest root_is =
        let t = here.taken in
        let b0 = begun_builder s salt in
        let are = digests-all s salt data_dev data' x t valid none in
        let built = builds-area s valid salt t.digests are in
        record {
          valid = valid;
          data_read = read-all s salt data_dev data' x t valid none;
          hash_read = read-then (area_blocks s) (ap (λ ps. length (completed b0 t.digests) + length ps) is ∙ length-all s salt data_dev data' x t valid none);
          root = λ steady. root_is ∙ ap built_root t.after ∙ built.root ∙ ap (root s.hash_block salt) (over-all s salt data_dev data' x t valid none steady);
          found = λ data_steady hash_steady.
              let device = block_at hash_dev.image s.hash_block in
              let all : completed b0 t.digests ++ out ≡ completed b0 t.digests ++ last_completed (pushed b0 t.digests) = ap (λ ps. completed b0 t.digests ++ ps) (is ∙ ap last_completed t.after) in
              let least : IsLeastDiffering device (numbered s.start (area s.hash_block salt t.digests)) next =
              least-permutation device (completed b0 t.digests ++ last_completed (pushed b0 t.digests)) (numbered s.start (area s.hash_block salt t.digests)) built.area next
              (subst (λ ps. IsLeastDiffering device ps next) all (least-then hash_steady)) in
              subst (λ ds. IsLeastDiffering device (numbered s.start (area s.hash_block salt ds)) next) (over-all s salt data_dev data' x t valid none data_steady) least;
        }

-- what the least differing number says of the blocks as they are stored
module _ (image : List (List ℕ)) (size first n : ℕ) (blocks : List (List ℕ)) (count : length blocks ≡ n) where
  long : length (blocks_at image size first n) ≡ n
  long = length-map-range_with_len (block_at image size) first n

  at : (i : ℕ) → i < n → get_or (blocks_at image size first n) i [] ≡ block_at image size (first + i)
  at i inside = get_or-map-range_with_len (block_at image size) first n i (first + i) [] inside refl

  pub stands-none : IsLeastDiffering (block_at image size) (numbered first blocks) None → blocks_at image size first n ≡ blocks
  stands-none none =
      ext_get_or [] (blocks_at image size first n) blocks (long ∙ sym count)
      (λ i inside. let here : i < n = omega (arith, long) in at i here ∙ same-inside first blocks (numbered first blocks) (IsPermutation-refl (numbered first blocks)) (block_at image size) none i (omega (arith, count)))

  pub differs-least : (m : ℕ) → IsLeastDiffering (block_at image size) (numbered first blocks) (Some m) → (k : ℕ) × ((m ≡ first + k) × FirstDiffer (blocks_at image size first n) blocks k)
  differs-least m least =
      let all = IsPermutation-refl (numbered first blocks) in
      let among = least-among first blocks (numbered first blocks) all (block_at image size) m least in
      let k : ℕ = m - first in
      let is : m ≡ first + k = omega (arith, among.0) in
      let low : k < length blocks = omega (arith, among.0, among.1) in
      let found = least-inside first blocks (numbered first blocks) all (block_at image size) k (subst (λ (j : ℕ). IsLeastDiffering (block_at image size) (numbered first blocks) (Some j)) is least) low in
      let below : k < n = omega (arith, count, low) in (
        k,
        (
          is,
          record {
            inside = omega (arith, long, below);
            above =
                let front : length (take k (blocks_at image size first n)) ≡ k = length-take-le k (blocks_at image size first n) (omega (arith, long, below)) in
                let front2 : length (take k blocks) ≡ k = length-take-le k blocks (omega (arith, low)) in
                ext_get_or [] (take k (blocks_at image size first n)) (take k blocks) (front ∙ sym front2)
                (λ i inside.
                let less : i < k = omega (arith, front) in
                get_or-take k (blocks_at image size first n) i [] less ∙ at i (omega (arith, less, below)) ∙ found.1 i less ∙ sym (get_or-take k blocks i [] less));
            differ = λ equal. found.0 (sym (at k below) ∙ equal);
          },
        ),
      )
