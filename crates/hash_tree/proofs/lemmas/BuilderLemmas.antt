-- What a builder's calls keep.
use Rattle.std.proofs.Common.{◌≡◌, ◌≤◌, ◌<◌, ◌+◌, ◌-◌, ◌^◌, ℕ, suc, refl, sym, ap, ◌∙◌, inl, inr, arith, List, [], ◌∷◌, ◌++◌, length, get_or, zero-add, append_assoc, false}
use Rattle.std.proofs.lemmas.Bool.{cases_lt}
use Rattle.std.proofs.lemmas.List.{append-nil, length-append}
use Rattle.std.proofs.lemmas.List.FromFn.{length-map-range_with_len, get_or-map-range_with_len}
use Rattle.std.proofs.lemmas.List.Elements.{All-head, All-tail, All-cons, All-nil, All-from_get_or}
use Rattle.tree_shape.specs.Digests.{digest}
use Rattle.tree_shape.specs.Shape.{ShapeRecord, IsShape, levels, level_blocks, position, area_end}
use Rattle.tree_shape.proofs.lemmas.ShapeFactLemmas.{position-lt, level_blocks-is}
use Rattle.tree_shape.proofs.lemmas.ShapeFaultLemmas.{blocks-le, area_end-le}
use Rattle.hash_tree.proofs.lemmas.GrowLemmas.{grow-none, grow-short, grow-full}
use Rattle.hash_tree.specs.Building.{LevelRecord, Grown, BuilderRecord, grow, grow_all, begun_levels, begun_builder, HaveRoom, then_, pushed, completed}

abbrev Below : ℕ → LevelRecord → Type 0
Below n l = l.next + n ≤ 2 ^ 60

HaveRoom-less : (n : ℕ) (levels : List LevelRecord) → HaveRoom (n + 1) levels → HaveRoom n levels
HaveRoom-less n levels room = λ k d inside. let one = room k d inside in omega (arith, one)

module _ (size : ℕ) (salt : List ℕ) where
  pub length-grow : (levels : List LevelRecord) (root d : List ℕ) → length (grow size salt levels root d).levels ≡ length levels
  length-grow [] root d = ap (λ (g : Grown). length g.levels) (grow-none size salt [] root d refl)
  length-grow (l ∷ above) root d =
      elim (cases_lt (length (l.bytes ++ d)) size) [
        | inl short ↦ ap (λ (g : Grown). length g.levels) (grow-short size salt l above root d short)
        | inr full ↦ ap (λ (g : Grown). length g.levels) (grow-full size salt l above root d full) ∙ ap suc (length-grow above root (digest salt (l.bytes ++ d)))
      ]

  -- a digest takes one number of a level at most
  pub HaveRoom-grow : (n : ℕ) (levels : List LevelRecord) (root d : List ℕ) → HaveRoom (n + 1) levels → HaveRoom n (grow size salt levels root d).levels
  HaveRoom-grow n [] root d room = rw (grow-none size salt [] root d refl) (All-nil (Below n))
  HaveRoom-grow n (l ∷ above) root d room =
      let first : l.next + (n + 1) ≤ 2 ^ 60 = All-head (Below (n + 1)) l above room in
      elim (cases_lt (length (l.bytes ++ d)) size) [
        | inl short ↦ rw (grow-short size salt l above root d short) (All-cons (Below n) _ above (omega (arith, first)) (HaveRoom-less n above (All-tail (Below (n + 1)) l above room)))
        | inr full ↦ rw (grow-full size salt l above root d full) (All-cons (Below n) _ _ (omega (arith, first)) (HaveRoom-grow n above root (digest salt (l.bytes ++ d)) (All-tail (Below (n + 1)) l above room)))
      ]

-- fewer numbers
pub HaveRoom-most : (m n : ℕ) (levels : List LevelRecord) → n ≤ m → HaveRoom m levels → HaveRoom n levels
HaveRoom-most m n levels le room = λ k d inside. let one = room k d inside in omega (arith, one, le)

-- the numbers of all levels lie within the area
pub HaveRoom-begun : (s : ShapeRecord) → IsShape s → HaveRoom s.blocks (begun_levels s 0 (levels s))
HaveRoom-begun s valid =
    All-from_get_or (Below s.blocks) (begun_levels s 0 (levels s)) (record { next = 0; bytes = [] }) (λ l inside.
    let f : ℕ → LevelRecord = λ l. record { next = position s l 0; bytes = [] } in
    let below : l < levels s = omega (arith, length-map-range_with_len f 0 (levels s), inside) in
    let is : (get_or (begun_levels s 0 (levels s)) l (record { next = 0; bytes = [] })).next ≡ position s l 0 = ap (λ (l : LevelRecord). l.next) (get_or-map-range_with_len f 0 (levels s) l l _ below (zero-add l)) in
    let some : 0 < level_blocks s l = omega (arith, level_blocks-is s valid l) in
    let low : position s l 0 < area_end s = position-lt s valid l 0 below some in
    omega (arith, is, low, (area_end-le s valid).0, (blocks-le s valid).0))

-- one digest
pub pushed-one : (b : BuilderRecord) (d : List ℕ) → pushed b (d ∷ []) ≡ record b { left = b.left - 1; levels = (grow b.hash_block b.salt b.levels b.root d).levels; root = (grow b.hash_block b.salt b.levels b.root d).root }
unfolding pushed grow_all
pushed-one b d = refl

pub completed-one : (b : BuilderRecord) (d : List ℕ) → completed b (d ∷ []) ≡ (grow b.hash_block b.salt b.levels b.root d).placed
unfolding completed grow_all
completed-one b d = append-nil (grow b.hash_block b.salt b.levels b.root d).placed

-- digests after digests
pub grow_all-append : (size : ℕ) (salt : List ℕ) (levels : List LevelRecord) (root : List ℕ) (xs ys : List (List ℕ))
    → grow_all size salt levels root (xs ++ ys)
    ≡ then_ (grow_all size salt levels root xs) (grow_all size salt (grow_all size salt levels root xs).levels (grow_all size salt levels root xs).root ys)
unfolding grow_all
grow_all-append size salt levels root [] ys = refl
grow_all-append size salt levels root (d ∷ xs) ys =
    let g = grow size salt levels root d in
    let h = grow_all size salt g.levels g.root xs in
    ap (then_ g) (grow_all-append size salt g.levels g.root xs ys)
    ∙ ap (λ ps. record (grow_all size salt h.levels h.root ys) { placed = ps }) (sym (append_assoc g.placed h.placed (grow_all size salt h.levels h.root ys).placed))

pub pushed-append : (b : BuilderRecord) (xs ys : List (List ℕ)) → pushed b (xs ++ ys) ≡ pushed (pushed b xs) ys
unfolding pushed
pushed-append b xs ys =
    let count : b.left - length (xs ++ ys) ≡ b.left - length xs - length ys = omega (arith, length-append xs ys) in
    ap (λ (g : Grown). record b { left = b.left - length (xs ++ ys); levels = g.levels; root = g.root }) (grow_all-append b.hash_block b.salt b.levels b.root xs ys)
    ∙ ap (λ n. record (pushed (pushed b xs) ys) { left = n }) count

pub completed-append : (b : BuilderRecord) (xs ys : List (List ℕ)) → completed b (xs ++ ys) ≡ completed b xs ++ completed (pushed b xs) ys
unfolding pushed completed
completed-append b xs ys = ap (λ (g : Grown). g.placed) (grow_all-append b.hash_block b.salt b.levels b.root xs ys)

pub pushed-none : (b : BuilderRecord) → pushed b [] ≡ b
unfolding pushed grow_all
pushed-none b = let none : b.left - 0 ≡ b.left = omega arith in ap (λ n. record b { left = n }) none

pub completed-none : (b : BuilderRecord) → completed b [] ≡ []
unfolding completed grow_all
completed-none b = refl

pub left-pushed : (b : BuilderRecord) (ds : List (List ℕ)) → (pushed b ds).left ≡ b.left - length ds
unfolding pushed
left-pushed b ds = refl

pub left-begun : (s : ShapeRecord) (salt : List ℕ) → (begun_builder s salt).left ≡ s.blocks
unfolding begun_builder
left-begun s salt = refl

pub failed-pushed : (b : BuilderRecord) (ds : List (List ℕ)) → (pushed b ds).failed ≡ b.failed
unfolding pushed
failed-pushed b ds = refl

pub failed-begun : (s : ShapeRecord) (salt : List ℕ) → (begun_builder s salt).failed ≡ false
unfolding begun_builder
failed-begun s salt = refl

pub size-begun : (s : ShapeRecord) (salt : List ℕ) → (begun_builder s salt).hash_block ≡ s.hash_block
unfolding begun_builder
size-begun s salt = refl
