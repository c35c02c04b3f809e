-- What a builder puts out over all digests is the area.
use Rattle.std.proofs.Common.{◌≡◌, ◌≤◌, ◌<◌, ◌/◌, ◌+◌, ◌-◌, ◌*◌, ℕ, zero, suc, refl, sym, ap, ◌∙◌, subst, inl, inr, arith, List, [], ◌∷◌, ◌++◌, length, map, take, drop, replicate, append_assoc, Option, Some, None, add-one}
use Rattle.std.proofs.Math.Nat.{add-div_left, div-eq_of_lt, div-lt_self, mul-zero}
use Rattle.std.proofs.Math.Seq.{drop-append-add}
use Rattle.std.proofs.lemmas.Bool.{cases_lt}
use Rattle.std.proofs.lemmas.List.{append-nil, length-append, take_all, take_at, nil_from_length}
use Rattle.std.proofs.lemmas.List.Elements.{All-head, All-tail}
use Rattle.std.proofs.lemmas.List.Sorted.{IsPermutation-refl, IsPermutation-trans, IsPermutation-append_comm, IsPermutation-append_left, IsPermutation-append_right}
use Rattle.std.specs.Int.{div_ceil}
use Rattle.std.specs.Option.{unwrap_or}
use Rattle.std.specs.List.{concat, range_with_len}
use Rattle.std.specs.List.Sorted.{IsPermutation}
use Rattle.tree_shape.specs.Digests.{digest}
use Rattle.tree_shape.specs.Shape.{ShapeRecord, IsShape, per_block, levels, position, area_blocks}
use Rattle.hash_tree.specs.Tree.{filled, cut, pack, digests_above, area, root}
use Rattle.hash_tree.specs.Building.{LevelRecord, PlacedRecord, Grown, Closed, grow, grow_all, then_, close, close_block, numbered, begun_levels, begun_builder, pushed, completed, last_completed, built_root, IsBuilt}
use Rattle.hash_tree.proofs.lemmas.GrowLemmas.{grow-short, grow-full, close-none}
use Rattle.tree_shape.proofs.lemmas.ShapeLemmas.{over, div_ceil-suc, levels-one, levels-up, blocks_above-first, blocks_above-up}
use Rattle.tree_shape.proofs.lemmas.ShapeFaultLemmas.{per_block-wide}
use Rattle.tree_shape.proofs.lemmas.ShapeFactLemmas.{two as two_of, over-same}
use Rattle.hash_tree.specs.Laws.{AreDigests}
use Rattle.hash_tree.proofs.lemmas.PackingLemmas.{AllOf, length-cut, div_ceil-whole}
use Rattle.hash_tree.proofs.lemmas.TreeLemmas.{length-digest, length-above, above-sized, length-area, root-one, root-up, area-one, area-up}

-- The blocks that bytes are cut into, from the first one on.
one_more : (n size : ℕ) → 0 < size → div_ceil (size + n) size ≡ suc (div_ceil n size)
one_more zero size some =
    let one : size + 0 ≡ size * 1 = omega arith in
    let none : size * 0 ≡ 0 = mul-zero size in
    ap (λ k. div_ceil k size) one ∙ div_ceil-whole size 1 some ∙ ap suc (sym (ap (λ k. div_ceil k size) (sym none) ∙ div_ceil-whole size 0 some))
one_more (suc n) size some =
    let more : size + suc n ≡ suc (size + n) = omega arith in
    ap (λ k. div_ceil k size) more
    ∙ div_ceil-suc (size + n) size some
    ∙ ap suc (add-div_left n some ∙ add-one (n / size) ∙ sym (div_ceil-suc n size some))

map-next : {X : Type 0} (f g : ℕ → X) (a n : ℕ) → ((i : ℕ) → f (i + 1) ≡ g i) → map f (range_with_len (a + 1) n) ≡ map g (range_with_len a n)
map-next f g a zero same = refl
map-next f g a (suc n) same = ap (λ x. x ∷ map f (range_with_len (a + 1 + 1) n)) (same a) ∙ ap (λ xs. g a ∷ xs) (map-next f g (a + 1) n same)

cut-nil : (size : ℕ) → 0 < size → cut size [] ≡ []
cut-nil size some =
    let none : size * 0 ≡ 0 = mul-zero size in
    nil_from_length (cut size []) (length-cut size [] ∙ ap (λ k. div_ceil k size) (sym none) ∙ div_ceil-whole size 0 some)

filled-full : (size : ℕ) (xs : List ℕ) → size ≤ length xs → filled size xs ≡ xs
filled-full size xs full =
    let none : size - length xs ≡ 0 = omega arith in
    ap (λ n. xs ++ replicate n 0) none ∙ append-nil xs

cut-short : (size : ℕ) (x : ℕ) (xs : List ℕ) → length (x ∷ xs) ≤ size → cut size (x ∷ xs) ≡ filled size (x ∷ xs) ∷ []
unfolding cut
cut-short size x xs short =
    let none : length xs / size ≡ 0 = div-eq_of_lt (omega arith) in
    let count : div_ceil (suc (length xs)) size ≡ 1 = div_ceil-suc (length xs) size (omega arith) ∙ ap suc none in
    ap (λ n. map (λ i. filled size (take size (drop (size * i) (x ∷ xs)))) (range_with_len 0 n)) count
    ∙ ap (λ n. filled size (take size (drop n (x ∷ xs))) ∷ []) (mul-zero size)
    ∙ ap (λ b. filled size b ∷ []) (take_all size (x ∷ xs) short)

cut-append : (size : ℕ) (xs ys : List ℕ) → 0 < size → length xs ≡ size → cut size (xs ++ ys) ≡ xs ∷ cut size ys
unfolding cut
cut-append size xs ys some full =
    let count : div_ceil (length (xs ++ ys)) size ≡ suc (div_ceil (length ys) size) =
    ap (λ n. div_ceil n size) (length-append xs ys ∙ ap (λ n. n + length ys) full) ∙ one_more (length ys) size some in
    let f : ℕ → List ℕ = λ i. filled size (take size (drop (size * i) (xs ++ ys))) in
    let g : ℕ → List ℕ = λ i. filled size (take size (drop (size * i) ys)) in
    let first : f 0 ≡ xs =
    ap (λ n. filled size (take size (drop n (xs ++ ys)))) (mul-zero size) ∙ ap (filled size) (take_at xs ys size full) ∙ filled-full size xs (omega (arith, full)) in
    let next : (i : ℕ) → f (i + 1) ≡ g i = λ i.
    let at : size * (i + 1) ≡ length xs + size * i = let more : size * (i + 1) ≡ size * i + size = grind arith in omega (arith, more, full) in
    ap (λ n. filled size (take size (drop n (xs ++ ys)))) at ∙ ap (λ b. filled size (take size b)) (drop-append-add xs ys (size * i)) in
    ap (λ n. map f (range_with_len 0 n)) count
    ∙ ap (λ b. b ∷ map f (range_with_len 1 (div_ceil (length ys) size))) first
    ∙ ap (λ bs. xs ∷ bs) (map-next f g 0 (div_ceil (length ys) size) next)

-- what comes out over these digests and at the end
abbrev pub ended : ℕ → List ℕ → Grown → Closed
ended size salt g = record {
  root = (close size salt g.levels g.root None).root;
  placed = g.placed ++ (close size salt g.levels g.root None).placed;
}

abbrev pub whole : ℕ → List ℕ → List LevelRecord → List ℕ → List (List ℕ) → Closed
whole size salt levels root ds = ended size salt (grow_all size salt levels root ds)

-- blocks that came out before
abbrev behind : List PlacedRecord → Closed → Closed
behind ps c = record c { placed = ps ++ c.placed }

-- the blocks of one level among those of the levels above
pub record LevelOut (next : ℕ) (blocks : List (List ℕ)) (out above : Closed) : Type 0 where
  pub root : out.root ≡ above.root
  pub placed : IsPermutation out.placed (numbered next blocks ++ above.placed)

-- blocks that come out between
between : (p : PlacedRecord) (gs xs ns bs : List PlacedRecord) → IsPermutation xs (ns ++ bs) → IsPermutation (p ∷ (gs ++ xs)) (p ∷ (ns ++ (gs ++ bs)))
between p gs xs ns bs same =
    let there : IsPermutation (gs ++ xs) (gs ++ (ns ++ bs)) = IsPermutation-append_right gs xs (ns ++ bs) same in
    let swapped : IsPermutation ((gs ++ ns) ++ bs) ((ns ++ gs) ++ bs) = IsPermutation-append_left bs (gs ++ ns) (ns ++ gs) (IsPermutation-append_comm gs ns) in
    let both : IsPermutation (gs ++ (ns ++ bs)) (ns ++ (gs ++ bs)) = rw (← append_assoc gs ns bs, ← append_assoc ns gs bs) swapped in
    IsPermutation-append_right (p ∷ []) (gs ++ xs) (ns ++ (gs ++ bs)) (IsPermutation-trans (gs ++ xs) (gs ++ (ns ++ bs)) (ns ++ (gs ++ bs)) there both)

LevelOut-same : (next : ℕ) (blocks : List (List ℕ)) (out above : Closed) → out ≡ behind (numbered next blocks) above → LevelOut next blocks out above
LevelOut-same next blocks out above same = record {
  root = ap (λ c. c.root) same;
  placed = subst (λ (ps : List PlacedRecord). IsPermutation ps (numbered next blocks ++ above.placed)) (sym (ap (λ c. c.placed) same)) (IsPermutation-refl _);
}

LevelOut-more : (next : ℕ) (block : List ℕ) (blocks : List (List ℕ)) (gs : List PlacedRecord) (out above : Closed)
    → LevelOut (next + 1) blocks out above → LevelOut next (block ∷ blocks) (behind (record { block = next; bytes = block } ∷ gs) out) (behind gs above)
LevelOut-more next block blocks gs out above rest = record {
  root = rest.root;
  placed = between (record { block = next; bytes = block }) gs out.placed (numbered (next + 1) blocks) above.placed rest.placed;
}

module _ (size : ℕ) (salt : List ℕ) where
  -- the first digest, and then the others
  whole-cons : (levels : List LevelRecord) (root d : List ℕ) (ds : List (List ℕ)) (g : Grown) → grow size salt levels root d ≡ g
      → whole size salt levels root (d ∷ ds) ≡ behind g.placed (whole size salt g.levels g.root ds)
  unfolding grow_all
  whole-cons levels root d ds g is =
      ap (λ (g : Grown). ended size salt (then_ g (grow_all size salt g.levels g.root ds))) is
      ∙ ap (λ p. record { root = (whole size salt g.levels g.root ds).root; placed = p }) (append_assoc g.placed _ _)

  whole-none : (levels : List LevelRecord) (root : List ℕ) → whole size salt levels root [] ≡ close size salt levels root None
  unfolding grow_all
  whole-none levels root = refl

  close_block-some : (next : ℕ) (bytes : List ℕ) (f : Option (List ℕ) → Closed) → 0 < length bytes
      → close_block size salt next bytes f ≡ behind (record { block = next; bytes = filled size bytes } ∷ []) (f (Some (digest salt (filled size bytes))))
  close_block-some next [] f some = absurd (omega (arith, some))
  close_block-some next (b ∷ bs) f some = refl

  close-level : (l : LevelRecord) (above : List LevelRecord) (root : List ℕ) (coming : Option (List ℕ))
      → close size salt (l ∷ above) root coming ≡ close_block size salt l.next (l.bytes ++ unwrap_or coming []) (close size salt above root)
  unfolding close
  close-level l above root coming = refl

  close-top : (root d : List ℕ) → close size salt [] d None ≡ close size salt [] root (Some d)
  unfolding close
  close-top root d = refl

  grow-top : (root d : List ℕ) → grow size salt [] root d ≡ record { levels = []; root = d; placed = [] }
  unfolding grow
  grow-top root d = refl

  -- a digest that comes at the end is pushed
  close-push : (levels : List LevelRecord) (root d : List ℕ) → 0 < length d → whole size salt levels root (d ∷ []) ≡ close size salt levels root (Some d)
  close-push [] root d some = whole-cons [] root d [] _ (grow-top root d) ∙ whole-none [] d ∙ close-top root d
  close-push (l ∷ above) root d some =
      let b : List ℕ = l.bytes ++ d in
      let more : 0 < length b = omega (arith, length-append l.bytes d, some) in
      elim (cases_lt (length b) size) [
        | inl short ↦
            whole-cons (l ∷ above) root d [] _ (grow-short size salt l above root d short)
            ∙ whole-none (record l { bytes = b } ∷ above) root
            ∙ close-level (record l { bytes = b }) above root None
            ∙ ap (λ b. close_block size salt l.next b (close size salt above root)) (append-nil b)
            ∙ sym (close-level l above root (Some d))
        | inr full ↦
            let next : List ℕ = digest salt b in
            let g : Grown = grow size salt above root next in
            let p : PlacedRecord = record { block = l.next; bytes = b } in
            let above_same : behind g.placed (close size salt g.levels g.root None) ≡ close size salt above root (Some next) =
            ap (behind g.placed) (sym (whole-none g.levels g.root)) ∙ sym (whole-cons above root next [] g refl) ∙ close-push above root next (omega (arith, length-digest salt b)) in
            whole-cons (l ∷ above) root d [] _ (grow-full size salt l above root d full)
            ∙ ap (behind (p ∷ g.placed)) (whole-none (record { next = l.next + 1; bytes = [] } ∷ g.levels) g.root ∙ close-level (record { next = l.next + 1; bytes = [] }) g.levels g.root None)
            ∙ ap (behind (p ∷ [])) above_same
            ∙ ap (λ b. behind (record { block = l.next; bytes = b } ∷ []) (close size salt above root (Some (digest salt b)))) (sym (filled-full size b full))
            ∙ sym (close_block-some l.next b (close size salt above root) more)
            ∙ sym (close-level l above root (Some d))
      ]

  module _ (k0 : ℕ) (parts : size ≡ 32 * suc k0) where
    -- all blocks of a level come out with their numbers, and their digests come to the level above
    level-out : (ds : List (List ℕ)) (k next : ℕ) (bytes : List ℕ) (above : List LevelRecord) (root : List ℕ) → AllOf 32 ds → length bytes + 32 * suc k ≡ size
        → LevelOut next (cut size (bytes ++ concat ds)) (whole size salt (record { next = next; bytes = bytes } ∷ above) root ds)
        (whole size salt above root (map (digest salt) (cut size (bytes ++ concat ds))))
    level-out [] k next [] above root all ready =
        let P : List (List ℕ) → Type 0 = λ bs. LevelOut next bs (whole size salt (record { next = next; bytes = [] } ∷ above) root []) (whole size salt above root (map (digest salt) bs)) in
        subst P (sym (cut-nil size (omega (arith, parts))))
        (LevelOut-same next [] _ _ (whole-none (record { next = next; bytes = [] } ∷ above) root ∙ close-level (record { next = next; bytes = [] }) above root None ∙ sym (whole-none above root)))
    level-out [] k next (b ∷ bs) above root all ready =
        let block : List ℕ = filled size (b ∷ bs) in
        let P : List (List ℕ) → Type 0 = λ bs'. LevelOut next bs' (whole size salt (record { next = next; bytes = b ∷ bs } ∷ above) root []) (whole size salt above root (map (digest salt) bs')) in
        subst P (sym (ap (cut size) (append-nil (b ∷ bs)) ∙ cut-short size b bs (omega (arith, ready))))
        (LevelOut-same next (block ∷ []) _ _
        (whole-none (record { next = next; bytes = b ∷ bs } ∷ above) root
        ∙ close-level (record { next = next; bytes = b ∷ bs }) above root None
        ∙ ap (λ x. close_block size salt next x (close size salt above root)) (append-nil (b ∷ bs))
        ∙ ap (behind (record { block = next; bytes = block } ∷ [])) (sym (close-push above root (digest salt block) (omega (arith, length-digest salt block))))))
    level-out (d ∷ ds) zero next bytes above root all ready =
        let size_d : length d ≡ 32 = All-head (λ x. length x ≡ 32) d ds all in
        let l : LevelRecord = record { next = next; bytes = bytes } in
        let b : List ℕ = bytes ++ d in
        let full : length b ≡ size = omega (arith, length-append bytes d, size_d, ready) in
        let g : Grown = grow size salt above root (digest salt b) in
        let rest = level-out ds k0 (next + 1) [] g.levels g.root (All-tail (λ x. length x ≡ 32) d ds all) (omega (arith, parts)) in
        let P : List (List ℕ) → Type 0 = λ bs. LevelOut next bs (whole size salt (l ∷ above) root (d ∷ ds)) (whole size salt above root (map (digest salt) bs)) in
        let here : whole size salt (l ∷ above) root (d ∷ ds) ≡ behind (record { block = next; bytes = b } ∷ g.placed) (whole size salt (record { next = next + 1; bytes = [] } ∷ g.levels) g.root ds) =
        whole-cons (l ∷ above) root d ds _ (grow-full size salt l above root d (omega (arith, full))) in
        let higher : whole size salt above root (digest salt b ∷ map (digest salt) (cut size (concat ds))) ≡ behind g.placed (whole size salt g.levels g.root (map (digest salt) (cut size (concat ds)))) =
        whole-cons above root (digest salt b) (map (digest salt) (cut size (concat ds))) g refl in
        let made : P (b ∷ cut size (concat ds)) =
        subst (λ w. LevelOut next (b ∷ cut size (concat ds)) w (whole size salt above root (digest salt b ∷ map (digest salt) (cut size (concat ds))))) (sym here)
        (subst (LevelOut next (b ∷ cut size (concat ds)) (behind (record { block = next; bytes = b } ∷ g.placed) (whole size salt (record { next = next + 1; bytes = [] } ∷ g.levels) g.root ds))) (sym higher)
        (LevelOut-more next b (cut size (concat ds)) g.placed _ _ rest)) in
        subst P (sym (cut-append size b (concat ds) (omega (arith, parts)) full) ∙ ap (cut size) (append_assoc bytes d (concat ds))) made
    level-out (d ∷ ds) (suc k) next bytes above root all ready =
        let size_d : length d ≡ 32 = All-head (λ x. length x ≡ 32) d ds all in
        let l : LevelRecord = record { next = next; bytes = bytes } in
        let b : List ℕ = bytes ++ d in
        let count : length b ≡ length bytes + 32 = length-append bytes d ∙ omega (arith, size_d) in
        let rest = level-out ds k next b above root (All-tail (λ x. length x ≡ 32) d ds all) (omega (arith, count, ready)) in
        let P : List (List ℕ) → Type 0 = λ bs. LevelOut next bs (whole size salt (l ∷ above) root (d ∷ ds)) (whole size salt above root (map (digest salt) bs)) in
        let here : whole size salt (l ∷ above) root (d ∷ ds) ≡ whole size salt (record { next = next; bytes = b } ∷ above) root ds =
        whole-cons (l ∷ above) root d ds _ (grow-short size salt l above root d (omega (arith, count, ready))) in
        let made : P (cut size (b ++ concat ds)) =
        subst (λ w. LevelOut next (cut size (b ++ concat ds)) w (whole size salt above root (map (digest salt) (cut size (b ++ concat ds))))) (sym here) rest in
        subst P (ap (cut size) (append_assoc bytes d (concat ds))) made

numbered-append : (n : ℕ) (xs ys : List (List ℕ)) → numbered n (xs ++ ys) ≡ numbered n xs ++ numbered (n + length xs) ys
numbered-append n [] ys = let none : n ≡ n + 0 = omega arith in ap (λ k. numbered k ys) none
numbered-append n (x ∷ xs) ys =
    let more : n + 1 + length xs ≡ n + suc (length xs) = omega arith in
    ap (λ ps. record { block = n; bytes = x } ∷ ps) (numbered-append (n + 1) xs ys ∙ ap (λ k. numbered (n + 1) xs ++ numbered k ys) more)

-- all that comes out over these digests is in the area from there on, and the root is theirs
pub record TreeOut (size start : ℕ) (salt : List ℕ) (ds : List (List ℕ)) (out : Closed) : Type 0 where
  pub root : out.root ≡ root size salt ds
  pub placed : IsPermutation out.placed (numbered start (area size salt ds))

module _ (s : ShapeRecord) (two : 2 ≤ per_block s) (whole_block : s.hash_block ≡ 32 * per_block s) (salt : List ℕ) where
  begun : ℕ → List LevelRecord
  begun n = begun_levels (over s n) 0 (levels (over s n))

  begun-one : begun 1 ≡ []
  unfolding begun
  begun-one = ap (begun_levels (over s 1) 0) (levels-one s two)

  -- level 0, and the levels over its blocks
  begun-up : (m : ℕ) → begun (suc (suc m)) ≡ record { next = s.start + area_blocks (over s (suc (suc m / per_block s))); bytes = [] } ∷ begun (suc (suc m / per_block s))
  unfolding begun position
  begun-up m =
      let q = suc m / per_block s in
      let f : ℕ → LevelRecord = λ l. record { next = position (over s (suc (suc m))) l 0; bytes = [] } in
      let g : ℕ → LevelRecord = λ l. record { next = position (over s (suc q)) l 0; bytes = [] } in
      let first : position (over s (suc (suc m))) 0 0 ≡ s.start + area_blocks (over s (suc q)) = omega (arith, blocks_above-first s two m) in
      let next : (l : ℕ) → f (l + 1) ≡ g l = λ l. rw add-one (ap (λ n. record { next = s.start + n + 0; bytes = [] }) (blocks_above-up s two m l)) in
      ap (begun_levels (over s (suc (suc m))) 0) (levels-up s two m)
      ∙ ap (λ (n : ℕ). (record { next = n; bytes = [] }) ∷ map f (range_with_len 1 (levels (over s (suc q))))) first
      ∙ ap (λ ls. record { next = s.start + area_blocks (over s (suc q)); bytes = [] } ∷ ls) (map-next f g 0 (levels (over s (suc q))) next)

  -- one digest is the root
  tree-one : (before d : List ℕ) → length d ≡ 32 → TreeOut s.hash_block s.start salt (d ∷ []) (whole s.hash_block salt [] before (d ∷ []))
  tree-one before d sized =
      let out : whole s.hash_block salt [] before (d ∷ []) ≡ record { root = d; placed = [] } =
      close-push s.hash_block salt [] before d (omega (arith, sized)) ∙ close-none s.hash_block salt [] before (Some d) refl in
      subst (TreeOut s.hash_block s.start salt (d ∷ [])) (sym out) (record {
        root = sym (root-one s two whole_block salt (d ∷ []) refl);
        placed = rw (area-one s two whole_block salt (d ∷ []) refl) (IsPermutation-refl []);
      })

  tree-out : (f m : ℕ) (before : List ℕ) (ds : List (List ℕ)) → m ≤ f → AllOf 32 ds → length ds ≡ suc m → TreeOut s.hash_block s.start salt ds (whole s.hash_block salt (begun (suc m)) before ds)
  tree-out f zero before [] room all count = absurd (omega (arith, count))
  tree-out f zero before (d ∷ []) room all count =
      subst (λ ls. TreeOut s.hash_block s.start salt (d ∷ []) (whole s.hash_block salt ls before (d ∷ []))) (sym begun-one) (tree-one before d (All-head (λ x. length x ≡ 32) d [] all))
  tree-out f zero before (d ∷ e ∷ ds) room all count = absurd (omega (arith, count))
  tree-out zero (suc m) before ds room all count = absurd (omega (arith, room))
  tree-out (suc f) (suc m) before ds room all count =
      let size = s.hash_block in
      let q = suc m / per_block s in
      let next = s.start + area_blocks (over s (suc q)) in
      let above : List (List ℕ) = digests_above size salt ds in
      let less : q < suc m = div-lt_self (omega arith) (omega (arith, two)) in
      let higher : TreeOut size s.start salt above (whole size salt (begun (suc q)) before above) =
      tree-out f q before above (omega (arith, less, room)) (above-sized s two whole_block salt ds) (length-above s two whole_block salt (suc m) ds all count) in
      let slots : size ≡ 32 * suc (per_block s - 1) = omega (arith, whole_block, two) in
      let here : LevelOut next (pack size ds) (whole size salt (record { next = next; bytes = [] } ∷ begun (suc q)) before ds) (whole size salt (begun (suc q)) before above) =
      level-out size salt (per_block s - 1) slots ds (per_block s - 1) next [] (begun (suc q)) before all (omega (arith, slots)) in
      let front : length (area size salt above) ≡ area_blocks (over s (suc q)) =
      length-area s two whole_block salt q above (above-sized s two whole_block salt ds) (length-above s two whole_block salt (suc m) ds all count) in
      let order : numbered s.start (area size salt ds) ≡ numbered s.start (area size salt above) ++ numbered next (pack size ds) =
      ap (numbered s.start) (area-up s two whole_block salt m ds all count)
      ∙ numbered-append s.start (area size salt above) (pack size ds)
      ∙ ap (λ n. numbered s.start (area size salt above) ++ numbered (s.start + n) (pack size ds)) front in
      subst (λ ls. TreeOut size s.start salt ds (whole size salt ls before ds)) (sym (begun-up m)) (record {
        root = here.root ∙ higher.root ∙ sym (root-up s two whole_block salt m ds all count);
        placed = subst (IsPermutation (whole size salt (record { next = next; bytes = [] } ∷ begun (suc q)) before ds).placed) (sym order)
            (IsPermutation-trans _ _ _ here.placed
            (IsPermutation-trans _ _ _
            (IsPermutation-append_right (numbered next (pack size ds)) _ _ higher.placed)
            (IsPermutation-append_comm (numbered next (pack size ds)) (numbered s.start (area size salt above)))));
      })

-- over as many digests as the shape has data blocks
pub builds-area : (s : ShapeRecord) → IsShape s → (salt : List ℕ) (ds : List (List ℕ)) → AreDigests s.blocks ds → IsBuilt s salt ds
unfolding begun_builder pushed completed last_completed built_root begun
builds-area s valid salt ds are =
    let P : ShapeRecord → Type 0 = λ t. TreeOut s.hash_block s.start salt ds (whole s.hash_block salt (begun_levels t 0 (levels t)) (replicate 32 0) ds) in
    let out : P s = subst P (over-same s valid.some)
    (tree-out s (two_of s valid) (per_block-wide s valid).1 salt (s.blocks - 1) (s.blocks - 1) (replicate 32 0) ds (omega arith) are.sized (omega (arith, are.count, valid.some))) in
    record { area = out.placed; root = out.root }
