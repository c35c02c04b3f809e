-- What is asked for the rows of a height, and for all heights.
use Rattle.std.proofs.Common.{◌≡◌, ◌≤◌, ◌<◌, ◌+◌, ◌-◌, ◌*◌, ◌/◌, ◌%◌, ◌^◌, ℕ, zero, suc, min, List, [], ◌∷◌, ◌++◌, map, refl, sym, ap, ◌∙◌, subst, arith, add-one}
use Rattle.std.proofs.Math.Nat.{mul-le-mul_left}
use Rattle.std.specs.Prelude.{sum_by}
use Rattle.std.specs.Int.{div_ceil}
use Rattle.std.specs.List.{range_with_len}
use Rattle.std.proofs.lemmas.List.FromFn.{map-range_with_len_more}
use Rattle.std.proofs.lemmas.List.Sums.{sum_by-append}
use Rattle.tree_shape.specs.Shape.{ShapeRecord, IsShape, ancestor, area_blocks, level_blocks, levels, per_block}
use Rattle.tree_repair.specs.declared.place.Row.{Row}
use Rattle.tree_repair.specs.AccessBudgets.{Bill, LeavesWorld, LeavesRow, LeavesChecked, data_over, hash_over, hash_up_to, height_over, left_of, nothing_due, pass_over, reading, rows_over, sectors_over, checks_over}
use Rattle.tree_repair.specs.Bounds.{area_block_sectors}
use Rattle.tree_repair.specs.Jobs.{IsRow}
use Rattle.tree_repair.specs.Worlds.{RepairWorld}
use Rattle.tree_repair.proofs.BillLemmas.{leaves-more, leaves-then}
use Rattle.tree_repair.proofs.OverLemmas.{block-fits, data-all, data-more, data-row, hash-more, left-at, left-next, sectors-more, up_to-higher, up_to-more, ways-next}
use Rattle.tree_repair.proofs.RowLemmas.{per_block-some}

-- ---- a row, block by block

-- a block that begins there
pub visit-at : (s : ShapeRecord) → IsShape s → (h i : ℕ) → i % per_block s ^ h ≡ 0 → (w x : RepairWorld) → LeavesChecked s h i w x → LeavesWorld (checks_over s h (s.blocks - i)) (checks_over s h (s.blocks - i - per_block s ^ h)) w x
visit-at s valid h i begins w x leaves =
    let here : left_of s h (ancestor s h i) ≡ s.blocks - i = left-at s valid h i begins in
    let behind : left_of s h (ancestor s h i + 1) ≡ s.blocks - i - per_block s ^ h = left-next s h (ancestor s h i) ∙ ap (λ (n : ℕ). n - per_block s ^ h) here in
    subst (λ (n : ℕ). LeavesWorld (checks_over s h (s.blocks - i)) (checks_over s h n) w x) behind (subst (λ (n : ℕ). LeavesWorld (checks_over s h n) (checks_over s h (left_of s h (ancestor s h i + 1))) w x) here leaves)

-- fewer are left
pub visits-fewer : {a : Bill} (s : ShapeRecord) → IsShape s → (h n m : ℕ) (w x : RepairWorld) → m ≤ n → LeavesWorld a (checks_over s h n) w x → LeavesWorld a (checks_over s h m) w x
visits-fewer {a} s valid h n m w x less leaves =
    leaves-more a (checks_over s h m) leaves
    (record {
      data_reads = omega (arith, sectors-more s valid 0 m n less, data-more s valid h m n less);
      hash_reads = omega (arith, up_to-more s valid h m n less, hash-more s valid h m n less);
      data_once = omega (arith, data-more s valid h m n less);
      hash_once = omega (arith, hash-more s valid h m n less);
    })

module _ (s : ShapeRecord) (valid : IsShape s) (row : Row) (is : IsRow s row) where
  abbrev n_here : ℕ
  n_here = s.blocks - row.first

  abbrev n_behind : ℕ
  n_behind = s.blocks - row.first - per_block s ^ (row.height + 1)

  -- a block of the row leaves what is due after the row
  pub row-left : (i : ℕ) → i % per_block s ^ row.height ≡ 0 → i < row.end → n_behind ≤ s.blocks - i - per_block s ^ row.height
  row-left i begins below = omega (arith, block-fits (per_block s) (per_block-some s valid) row.height row.first i is.begins begins (omega (arith, below, is.few)))

  -- the index of the next block
  pub next-left : (i : ℕ) → s.blocks - (i + row.step) ≡ s.blocks - i - per_block s ^ row.height
  next-left i = omega (arith, is.step_is)

  -- the row was seen to be good
  row-reading : (w x : RepairWorld) → LeavesWorld (reading (data_over s row.height (row.end - row.first)) 0) nothing_due w x
      → LeavesWorld (rows_over s row.height n_here) (record (checks_over s row.height n_here) { data_reads = sectors_over s 0 n_here + data_over s row.height n_here + data_over s row.height n_behind }) w x
  row-reading w x read =
      leaves-more (rows_over s row.height n_here) (record (checks_over s row.height n_here) { data_reads = sectors_over s 0 n_here + data_over s row.height n_here + data_over s row.height n_behind }) read
      (record {
        data_reads = omega (arith, data-row s valid row.height (row.end - row.first) n_here (per_block s ^ (row.height + 1)) (omega (arith, is.few)) (omega (arith, is.inside)));
        hash_reads = omega arith;
        data_once = omega arith;
        hash_once = omega arith;
      })

  pub row-visited : (w x y : RepairWorld) → LeavesWorld (reading (data_over s row.height (row.end - row.first)) 0) nothing_due w x → LeavesRow checks_over s row x y → LeavesRow rows_over s row w y
  row-visited w x y read visits =
      leaves-then (row-reading w x read)
      (leaves-more (record (checks_over s row.height n_here) { data_reads = sectors_over s 0 n_here + data_over s row.height n_here + data_over s row.height n_behind }) (rows_over s row.height n_behind) visits
      (record { data_reads = omega arith; hash_reads = omega arith; data_once = omega arith; hash_once = omega arith }))

  rows-fewer : n_behind ≤ n_here
  rows-fewer = omega arith

  pub row-seen : (w x : RepairWorld) → LeavesWorld (reading (data_over s row.height (row.end - row.first)) 0) nothing_due w x → LeavesRow rows_over s row w x
  row-seen w x read =
      leaves-more (rows_over s row.height n_here) (rows_over s row.height n_behind) (row-reading w x read)
      (record {
        data_reads = omega (arith, sectors-more s valid 0 n_behind n_here rows-fewer, data-more s valid row.height n_behind n_here rows-fewer);
        hash_reads = omega (arith, up_to-more s valid row.height n_behind n_here rows-fewer, hash-more s valid row.height n_behind n_here rows-fewer);
        data_once = omega (arith, data-more s valid row.height n_behind n_here rows-fewer);
        hash_once = omega (arith, hash-more s valid row.height n_behind n_here rows-fewer);
      })

  -- the way to it
  abbrev way_left : Bill
  way_left = record (rows_over s row.height n_here) { hash_reads = hash_up_to s row.height n_here + hash_over s row.height n_here + sectors_over s (suc row.height) n_behind * (levels s - row.height) }

  row-way : row.first < s.blocks → (w x : RepairWorld) → LeavesWorld (reading 0 ((levels s - row.height) * (s.hash_block / 512))) nothing_due w x → LeavesWorld (height_over s row.height n_here) way_left w x
  row-way some w x read =
      let same : n_here - per_block s ^ suc row.height ≡ n_behind = ap (λ (k : ℕ). n_here - per_block s ^ k) (sym (add-one row.height)) in
      let next = subst (λ (k : ℕ). sectors_over s (suc row.height) k * (levels s - row.height) + (levels s - row.height) * (s.hash_block / 512) ≤ sectors_over s (suc row.height) n_here * (levels s - row.height)) same
      (ways-next s valid row.height n_here (levels s - row.height) (omega (arith, some))) in
      leaves-more (height_over s row.height n_here) way_left read (record { data_reads = omega arith; hash_reads = omega (arith, next); data_once = omega arith; hash_once = omega arith })

  pub row-all : row.first < s.blocks → (w x y : RepairWorld) → LeavesWorld (reading 0 ((levels s - row.height) * (s.hash_block / 512))) nothing_due w x → LeavesRow rows_over s row x y → LeavesRow height_over s row w y
  row-all some w x y read rows =
      leaves-then (row-way some w x read)
      (leaves-more way_left (height_over s row.height n_behind) rows (record { data_reads = omega arith; hash_reads = omega arith; data_once = omega arith; hash_once = omega arith }))

  -- there is none
  pub row-cut : row.first < s.blocks → (w x : RepairWorld) → LeavesWorld (reading 0 ((levels s - row.height) * (s.hash_block / 512))) nothing_due w x → LeavesRow height_over s row w x
  row-cut some w x read =
      leaves-more (height_over s row.height n_here) (height_over s row.height n_behind) (row-way some w x read)
      (record {
        data_reads = omega (arith, sectors-more s valid 0 n_behind n_here rows-fewer, data-more s valid row.height n_behind n_here rows-fewer);
        hash_reads = omega (arith, up_to-more s valid row.height n_behind n_here rows-fewer, hash-more s valid row.height n_behind n_here rows-fewer);
        data_once = omega (arith, data-more s valid row.height n_behind n_here rows-fewer);
        hash_once = omega (arith, hash-more s valid row.height n_behind n_here rows-fewer);
      })

-- a row after another
pub rows-next : (blocks first width big end : ℕ) → width ≡ min big blocks → end ≡ min (first + width) blocks → blocks - end ≡ blocks - first - big
rows-next blocks first width big end width_is end_is = omega (arith, width_is, end_is)

-- ---- how many hash blocks there are

same-list : (l : List ℕ) → map (λ x. x) l ≡ l
same-list [] = refl
same-list (x ∷ more) = ap (λ (l : List ℕ). x ∷ l) (same-list more)

pub sum-next : (f : ℕ → ℕ) (k : ℕ) → sum_by f (range_with_len 0 (suc k)) ≡ sum_by f (range_with_len 0 k) + f k
sum-next f k =
    let range : range_with_len 0 (k + 1) ≡ range_with_len 0 k ++ (k ∷ []) =
    sym (same-list (range_with_len 0 (k + 1))) ∙ map-range_with_len_more (λ x. x) 0 k k (omega arith) ∙ ap (λ (l : List ℕ). l ++ (k ∷ [])) (same-list (range_with_len 0 k)) in
    let one : sum_by f (k ∷ []) ≡ f k = omega arith in
    ap (λ (n : ℕ). sum_by f (range_with_len 0 n)) (sym (add-one k)) ∙ ap (sum_by f) range ∙ sum_by-append f (range_with_len 0 k) (k ∷ []) ∙ ap (λ (n : ℕ). sum_by f (range_with_len 0 k) + n) one

pub level-is : (s : ShapeRecord) (l : ℕ) → level_blocks s l ≡ div_ceil s.blocks (per_block s ^ suc l)
unfolding level_blocks
level-is s l = ap (λ (n : ℕ). div_ceil s.blocks (per_block s ^ n)) (add-one l)

pub area-is : (s : ShapeRecord) → area_blocks s ≡ sum_by (level_blocks s) (range_with_len 0 (levels s))
unfolding area_blocks
area-is s = refl

up_to-is : (s : ShapeRecord) (h : ℕ) → hash_up_to s h s.blocks ≡ sum_by (level_blocks s) (range_with_len 0 h) * (s.hash_block / 512)
up_to-is s zero = omega arith
up_to-is s (suc h) =
    let k : ℕ = s.hash_block / 512 in
    let so_far : ℕ = sum_by (level_blocks s) (range_with_len 0 h) in
    let here : sectors_over s (suc h) s.blocks ≡ level_blocks s h * k = ap (λ (n : ℕ). n * k) (sym (level-is s h)) in
    let sum : (so_far + level_blocks s h) * k ≡ so_far * k + level_blocks s h * k = grind arith in
    let all : sum_by (level_blocks s) (range_with_len 0 (suc h)) * k ≡ (so_far + level_blocks s h) * k = ap (λ (n : ℕ). n * k) (sum-next (level_blocks s) h) in
    omega (arith, here, up_to-is s h, sum, all)

-- ---- all heights

-- what is due for all heights beneath one
abbrev pub heights_over : ShapeRecord → ℕ → Bill
heights_over s zero = nothing_due
heights_over s (suc h) = record {
  data_reads = sectors_over s 0 s.blocks + data_over s h s.blocks + data_over s h s.blocks + (heights_over s h).data_reads;
  hash_reads = hash_up_to s h s.blocks + hash_over s h s.blocks + sectors_over s (suc h) s.blocks * (levels s - h) + (heights_over s h).hash_reads;
  data_once = data_over s h s.blocks + (heights_over s h).data_once;
  hash_once = hash_over s h s.blocks + (heights_over s h).hash_once;
}

pub heights-next : {a : Bill} (s : ShapeRecord) (height h : ℕ) → height ≡ suc h → (w x y : RepairWorld) → LeavesWorld a (heights_over s height) w x → LeavesWorld (height_over s h s.blocks) nothing_due x y → LeavesWorld a (heights_over s h) w y
heights-next {a} s height h up w x y before here =
    leaves-then (subst (λ (n : ℕ). LeavesWorld a (heights_over s n) w x) up before)
    (leaves-more (heights_over s (suc h)) (heights_over s h) here (record { data_reads = omega arith; hash_reads = omega arith; data_once = omega arith; hash_once = omega arith }))

module _ (s : ShapeRecord) (valid : IsShape s) where
  abbrev whole_data : ℕ
  whole_data = s.blocks * (s.data_block / 512)

  abbrev whole_tree : ℕ
  whole_tree = hash_up_to s (levels s) s.blocks

  heights-data : (h : ℕ) → (heights_over s (suc h)).data_reads ≡ (h + 3) * whole_data
  heights-data zero = omega (arith, data-all s valid s.blocks)
  heights-data (suc h) =
      let next : (suc h + 3) * whole_data ≡ (h + 3) * whole_data + whole_data = grind arith in
      omega (arith, next, heights-data h, data-all s valid s.blocks)

  heights-data_once : (h : ℕ) → (heights_over s (suc h)).data_once ≡ whole_data
  heights-data_once zero = omega (arith, data-all s valid s.blocks)
  heights-data_once (suc h) = omega (arith, heights-data_once h)

  heights-hash_once : (h : ℕ) → (heights_over s (suc h)).hash_once ≡ hash_up_to s h s.blocks
  heights-hash_once zero = omega arith
  heights-hash_once (suc h) = omega (arith, heights-hash_once h)

  heights-hash : (h : ℕ) → h < levels s → (heights_over s (suc h)).hash_reads ≤ h * whole_tree + hash_up_to s h s.blocks + hash_up_to s (suc h) s.blocks * levels s
  heights-hash zero low =
      let at : hash_up_to s (suc zero) s.blocks ≡ sectors_over s (suc zero) s.blocks = omega arith in
      let same : sectors_over s (suc zero) s.blocks * (levels s - zero) ≡ sectors_over s (suc zero) s.blocks * levels s = ap (λ (n : ℕ). sectors_over s (suc zero) s.blocks * n) (let e : levels s - zero ≡ levels s = omega arith in e) in
      omega (arith, same, ap (λ (n : ℕ). n * levels s) at)
  heights-hash (suc h) low =
      let b : ℕ = sectors_over s (suc (suc h)) s.blocks in
      let u : ℕ = hash_up_to s (suc h) s.blocks in
      let before = heights-hash h (omega (arith, low)) in
      let here : u ≤ whole_tree = up_to-higher s valid (suc h) (levels s) s.blocks (omega (arith, low)) in
      let ways : b * (levels s - suc h) ≤ b * levels s = mul-le-mul_left b (omega arith) in
      let sum : (b + u) * levels s ≡ b * levels s + u * levels s = grind arith in
      let next : suc h * whole_tree ≡ h * whole_tree + whole_tree = grind arith in
      omega (arith, before, here, ways, sum, next)

  heights-all : (l : ℕ) → l ≡ levels s → (heights_over s (suc l)).hash_reads ≤ (2 * levels s + 1) * whole_tree
  heights-all zero e =
      let none : levels s - zero ≡ 0 = omega (arith, e) in
      let last : sectors_over s (suc zero) s.blocks * (levels s - zero) ≡ sectors_over s (suc zero) s.blocks * 0 = ap (λ (n : ℕ). sectors_over s (suc zero) s.blocks * n) none in
      omega (arith, last)
  heights-all (suc h) e =
      let none : levels s - suc h ≡ 0 = omega (arith, e) in
      let last : sectors_over s (suc (suc h)) s.blocks * (levels s - suc h) ≡ sectors_over s (suc (suc h)) s.blocks * 0 = ap (λ (n : ℕ). sectors_over s (suc (suc h)) s.blocks * n) none in
      let before = heights-hash h (omega (arith, e)) in
      let top : hash_up_to s (suc h) s.blocks ≡ whole_tree = ap (λ (n : ℕ). hash_up_to s n s.blocks) e in
      let all : hash_up_to s (suc h) s.blocks * levels s ≡ whole_tree * levels s = ap (λ (n : ℕ). n * levels s) top in
      let turned : whole_tree * levels s ≡ levels s * whole_tree = grind arith in
      let twice : (2 * levels s + 1) * whole_tree ≡ levels s * whole_tree + levels s * whole_tree + whole_tree = grind arith in
      let high : levels s * whole_tree ≡ suc h * whole_tree = ap (λ (n : ℕ). n * whole_tree) (sym e) in
      let next : suc h * whole_tree ≡ h * whole_tree + whole_tree = grind arith in
      omega (arith, last, before, top, all, turned, twice, high, next)

  -- as many hash blocks as the tree has
  tree-is : hash_up_to s (levels s) s.blocks ≡ area_block_sectors s
  tree-is = up_to-is s (levels s) ∙ ap (λ (n : ℕ). n * (s.hash_block / 512)) (sym (area-is s))

  pub heights-pass : {b : Bill} (w x : RepairWorld) → LeavesWorld (heights_over s (levels s + 1)) b w x → LeavesWorld (pass_over s) nothing_due w x
  heights-pass {b} w x leaves =
      leaves-more (pass_over s) nothing_due (subst (λ (n : ℕ). LeavesWorld (heights_over s n) b w x) (add-one (levels s)) leaves)
      (record {
        data_reads = omega (arith, heights-data (levels s));
        hash_reads = omega (arith, heights-all (levels s) refl, ap (λ (n : ℕ). (2 * levels s + 1) * n) tree-is);
        data_once = omega (arith, heights-data_once (levels s));
        hash_once = omega (arith, heights-hash_once (levels s), tree-is);
      })
