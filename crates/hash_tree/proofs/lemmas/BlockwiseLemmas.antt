-- Whole blocks of digests that come to a builder at once.
use Rattle.std.proofs.Common.{◌≡◌, ◌≤◌, ◌<◌, ◌+◌, ◌-◌, ◌*◌, ◌/◌, ◌^◌, ℕ, zero, suc, refl, sym, ap, ◌∙◌, arith, eqb-true, subst, List, [], ◌∷◌, ◌++◌, length, take, drop, append_assoc, true}
use Rattle.std.proofs.Math.Nat.{mul-suc, mul-zero}
use Rattle.std.proofs.Math.Seq.{take-add, take-append-add, drop-append-add}
use Rattle.std.proofs.lemmas.List.{append-nil, length-append, nil_from_length, take-append-drop}
use Rattle.std.proofs.lemmas.List.Elements.{All-head, All-tail, All-cons, All-nil}
use Rattle.std.specs.List.{concat}
use Rattle.tree_shape.specs.Digests.{digest}
use Rattle.hash_tree.specs.Building.{LevelRecord, PlacedRecord, BuilderRecord, Grown, grow, grow_all, grow_block, grown, grown_block, done, then_, pushed, completed, pushed_block, completed_block, is_between, HaveRoom, HasSome, IsPushed}
use Rattle.hash_tree.proofs.lemmas.GrowLemmas.{grow-short, grow-full, HasSome-later}
use Rattle.hash_tree.proofs.lemmas.PackingLemmas.{AllOf, length-concat}
use Rattle.hash_tree.proofs.lemmas.BuilderLemmas.{length-grow, HaveRoom-grow, pushed-none, completed-none, pushed-append, completed-append}

module _ (size : ℕ) (salt : List ℕ) where
  -- digests up to the end of the lowest level's block
  block_full : (next : ℕ) (bytes : List ℕ) (above : List LevelRecord) (root d : List ℕ) (ds : List (List ℕ)) → AllOf 32 (d ∷ ds) → length (bytes ++ concat (d ∷ ds)) ≡ size
      → grow_all size salt (record { next = next; bytes = bytes } ∷ above) root (d ∷ ds)
      ≡ done (record { next = next; bytes = bytes }) (bytes ++ concat (d ∷ ds)) (grow size salt above root (digest salt (bytes ++ concat (d ∷ ds))))
  unfolding grow_all
  block_full next bytes above root d [] all long =
      let l : LevelRecord = record { next = next; bytes = bytes } in
      let g : Grown = grow size salt (l ∷ above) root d in
      let same : bytes ++ concat (d ∷ []) ≡ bytes ++ d = ap (λ x. bytes ++ x) (append-nil d) in
      let count : length (bytes ++ concat (d ∷ [])) ≡ length (bytes ++ d) = ap length same in
      ap (λ ps. record g { placed = ps }) (append-nil g.placed)
      ∙ grow-full size salt l above root d (omega (arith, long, count))
      ∙ ap (λ b. done l b (grow size salt above root (digest salt b))) (sym same)
  block_full next bytes above root d (e ∷ ds) all long =
      let l : LevelRecord = record { next = next; bytes = bytes } in
      let same : (bytes ++ d) ++ concat (e ∷ ds) ≡ bytes ++ concat (d ∷ e ∷ ds) = append_assoc bytes d (concat (e ∷ ds)) in
      let whole : length ((bytes ++ d) ++ concat (e ∷ ds)) ≡ size = ap length same ∙ long in
      let rest = All-tail (λ x. length x ≡ 32) d (e ∷ ds) all in
      let one : length e ≡ 32 = All-head (λ x. length x ≡ 32) e ds rest in
      let short : length (bytes ++ d) < size = omega (arith, whole, one, length-append (bytes ++ d) (concat (e ∷ ds)), length-append e (concat ds)) in
      ap (λ (g : Grown). then_ g (grow_all size salt g.levels g.root (e ∷ ds))) (grow-short size salt l above root d short)
      ∙ block_full next (bytes ++ d) above root e ds rest whole
      ∙ ap (λ b. done l b (grow size salt above root (digest salt b))) same

  -- digests that fill a block, where none is begun
  grow_all-block : (levels : List LevelRecord) (root : List ℕ) (ds : List (List ℕ)) (d : List ℕ) → is_between levels ≡ true → AllOf 32 ds → length (concat ds) ≡ size → 0 < size
      → d ≡ digest salt (concat ds) → grow_all size salt levels root ds ≡ grow_block size salt levels root (concat ds) d
  unfolding grow_block
  grow_all-block [] root ds d between all long some is = cc
  grow_all-block (l ∷ above) root [] d between all long some is = absurd (omega (arith, long, some))
  grow_all-block (l ∷ above) root (e ∷ ds) d between all long some is =
      let block = concat (e ∷ ds) in
      let empty : l.bytes ≡ [] = nil_from_length l.bytes (eqb-true (length l.bytes) 0 between) in
      let made : List ℕ → List ℕ → List ℕ → Grown = λ kept b d. record {
        levels = record { next = l.next + 1; bytes = kept } ∷ (grow size salt above root d).levels;
        root = (grow size salt above root d).root;
        placed = record { block = l.next; bytes = b } ∷ (grow size salt above root d).placed;
      } in
      block_full l.next l.bytes above root e ds all (ap (λ b. length (b ++ block)) empty ∙ long)
      ∙ ap (λ b. made [] (b ++ block) (digest salt (b ++ block))) empty
      ∙ ap (λ d. made [] block d) (sym is)
      ∙ ap (λ kept. made kept block d) (sym empty)

  pub is_between-block : (levels : List LevelRecord) (root block d : List ℕ) → is_between (grow_block size salt levels root block d).levels ≡ is_between levels
  unfolding grow_block
  is_between-block [] root block d = refl
  is_between-block (l ∷ above) root block d = refl

  pub length-grow_block : (levels : List LevelRecord) (root block d : List ℕ) → length (grow_block size salt levels root block d).levels ≡ length levels
  unfolding grow_block
  length-grow_block [] root block d = refl
  length-grow_block (l ∷ above) root block d = ap suc (length-grow size salt above root d)

  -- a block takes one number of a level at most
  pub HaveRoom-block : (n : ℕ) (levels : List LevelRecord) (root block d : List ℕ) → HaveRoom (n + 1) levels → HaveRoom n (grow_block size salt levels root block d).levels
  unfolding grow_block
  HaveRoom-block n [] root block d room = All-nil (λ l. l.next + n ≤ 2 ^ 60)
  HaveRoom-block n (l ∷ above) root block d room =
      let first : l.next + (n + 1) ≤ 2 ^ 60 = All-head (λ l. l.next + (n + 1) ≤ 2 ^ 60) l above room in
      All-cons (λ l. l.next + n ≤ 2 ^ 60) _ _ (omega (arith, first)) (HaveRoom-grow size salt n above root d (All-tail (λ l. l.next + (n + 1) ≤ 2 ^ 60) l above room))

-- the levels of no block
pub grow_block-none : (size : ℕ) (salt : List ℕ) (levels : List LevelRecord) (root block d : List ℕ) → length levels ≡ 0 → grow_block size salt levels root block d ≡ record { levels = levels; root = root; placed = [] }
unfolding grow_block
grow_block-none size salt [] root block d none = refl
grow_block-none size salt (l ∷ above) root block d none = absurd (omega (arith, none))

pub grow_block-same : (size : ℕ) (salt : List ℕ) (levels : List LevelRecord) (l : LevelRecord) (above : List LevelRecord) (root block d : List ℕ) → levels ≡ l ∷ above → grow_block size salt levels root block d ≡ record {
  levels = record l { next = l.next + 1 } ∷ (grow size salt above root d).levels;
  root = (grow size salt above root d).root;
  placed = record { block = l.next; bytes = block } ∷ (grow size salt above root d).placed;
}
unfolding grow_block
grow_block-same size salt levels l above root block d is = ap (λ ls. grow_block size salt ls root block d) is

-- digests of a whole block, pushed one by one
module _ (b : BuilderRecord) (ds : List (List ℕ)) (d : List ℕ) (between : is_between b.levels ≡ true) (all : AllOf 32 ds)
    (count : length ds ≡ b.hash_block / 32) (whole : 32 * (b.hash_block / 32) ≡ b.hash_block) (some : 0 < b.hash_block) (is : d ≡ digest b.salt (concat ds)) where
  grown-block : grown b ds ≡ grown_block b (concat ds) d
  grown-block = grow_all-block b.hash_block b.salt b.levels b.root ds d between all (length-concat 32 ds all ∙ ap (λ n. 32 * n) count ∙ whole) some is

  pub pushed-block : pushed b ds ≡ pushed_block b (concat ds) d
  unfolding pushed pushed_block
  pushed-block = ap (λ (g : Grown). record b { left = b.left - length ds; levels = g.levels; root = g.root }) grown-block ∙ ap (λ n. record (pushed_block b (concat ds) d) { left = b.left - n }) count

  pub completed-block : completed b ds ≡ completed_block b (concat ds) d
  unfolding completed completed_block
  completed-block = ap (λ (g : Grown). g.placed) grown-block

pub size-pushed : (b : BuilderRecord) (ds : List (List ℕ)) → (pushed b ds).hash_block ≡ b.hash_block
unfolding pushed
size-pushed b ds = refl

pub salt-pushed : (b : BuilderRecord) (ds : List (List ℕ)) → (pushed b ds).salt ≡ b.salt
unfolding pushed
salt-pushed b ds = refl

pub pushed_block-is : (b : BuilderRecord) (block d : List ℕ) → pushed_block b block d ≡ record b { left = b.left - b.hash_block / 32; levels = (grown_block b block d).levels; root = (grown_block b block d).root }
unfolding pushed_block
pushed_block-is b block d = refl

pub completed_block-is : (b : BuilderRecord) (block d : List ℕ) → completed_block b block d ≡ (grown_block b block d).placed
unfolding completed_block
completed_block-is b block d = refl

pub between-pushed_block : (b : BuilderRecord) (block d : List ℕ) → is_between (pushed_block b block d).levels ≡ is_between b.levels
unfolding pushed_block
between-pushed_block b block d = is_between-block b.hash_block b.salt b.levels b.root block d

-- digests after digests
pub IsPushed-then : (a b c : BuilderRecord) (xs ys : List (List ℕ)) (before middle after : List PlacedRecord) → IsPushed a xs b before middle → IsPushed b ys c middle after → IsPushed a (xs ++ ys) c before after
IsPushed-then a b c xs ys before middle after p q = record {
  builder = q.builder ∙ ap (λ b. pushed b ys) p.builder ∙ sym (pushed-append a xs ys);
  out =
      q.out
      ∙ ap (λ o. o ++ completed b ys) p.out
      ∙ append_assoc before (completed a xs) (completed b ys)
      ∙ ap (λ b'. before ++ (completed a xs ++ completed b' ys)) p.builder
      ∙ ap (λ ps. before ++ ps) (sym (completed-append a xs ys));
}

pub IsPushed-none : (b : BuilderRecord) (before : List PlacedRecord) → IsPushed b [] b before before
IsPushed-none b before = record { builder = sym (pushed-none b); out = rw (completed-none b) (sym (append-nil before)) }

-- the first blocks of what comes of digests in the middle
pub HasSome-part : (a b : BuilderRecord) (xs ys zs : List (List ℕ)) (before middle after : List PlacedRecord) → IsPushed a xs b before middle → HasSome middle (completed b ys) after
    → HasSome before (completed a (xs ++ (ys ++ zs))) after
HasSome-part a b xs ys zs before middle after p some =
    let all : completed a (xs ++ (ys ++ zs)) ≡ completed a xs ++ (completed b ys ++ completed (pushed b ys) zs) =
    completed-append a xs (ys ++ zs) ∙ ap (λ b'. completed a xs ++ completed b' (ys ++ zs)) (sym p.builder) ∙ ap (λ ps. completed a xs ++ ps) (completed-append b ys zs) in
    subst (λ ps. HasSome before ps after) (sym all) (HasSome-later before middle after (completed a xs) (completed b ys) _ p.out some)

-- the first blocks of what comes of the first digests
pub HasSome-front : (b : BuilderRecord) (n : ℕ) (ds : List (List ℕ)) (before after : List PlacedRecord) → HasSome before (completed b (take n ds)) after → HasSome before (completed b ds) after
HasSome-front b n ds before after some =
    subst (λ xs. HasSome before (completed b xs) after) (take-append-drop n ds) (HasSome-part b b [] (take n ds) (drop n ds) before before after (IsPushed-none b before) some)

-- the first blocks of what comes of the digests that are left
pub HasSome-rest : (a b : BuilderRecord) (n : ℕ) (ds : List (List ℕ)) (before middle after : List PlacedRecord) → IsPushed a (take n ds) b before middle → HasSome middle (completed b (drop n ds)) after → HasSome before (completed a ds) after
HasSome-rest a b n ds before middle after p some =
    subst (λ xs. HasSome before (completed a xs) after) (ap (λ r. take n ds ++ r) (append-nil (drop n ds)) ∙ take-append-drop n ds)
    (HasSome-part a b (take n ds) (drop n ds) [] before middle after p some)

-- the first blocks of what comes of the next digests
pub HasSome-next : (a b : BuilderRecord) (m n : ℕ) (ds : List (List ℕ)) (before middle after : List PlacedRecord) → IsPushed a (take m ds) b before middle → HasSome middle (completed b (take n (drop m ds))) after → HasSome before (completed a ds) after
HasSome-next a b m n ds before middle after p some = HasSome-rest a b m ds before middle after p (HasSome-front b n (drop m ds) middle after some)

-- the next digests
pub IsPushed-next : (a b c : BuilderRecord) (m n : ℕ) (ds : List (List ℕ)) (before middle after : List PlacedRecord) → IsPushed a (take m ds) b before middle → IsPushed b (take n (drop m ds)) c middle after → IsPushed a (take (m + n) ds) c before after
IsPushed-next a b c m n ds before middle after p q =
    subst (λ xs. IsPushed a xs c before after) (sym (take-add m n ds)) (IsPushed-then a b c (take m ds) (take n (drop m ds)) before middle after p q)

take-none : (m : ℕ) → take {A = ℕ} m [] ≡ []
take-none zero = refl
take-none (suc m) = refl

drop-none : (m : ℕ) → drop {A = ℕ} m [] ≡ []
drop-none zero = refl
drop-none (suc m) = refl

-- digests of one length, joined
pub drop-concat : (n : ℕ) (xs : List (List ℕ)) (k : ℕ) → AllOf n xs → drop (n * k) (concat xs) ≡ concat (drop k xs)
drop-concat n xs zero all = ap (λ m. drop m (concat xs)) (mul-zero n)
drop-concat n [] (suc k) all = drop-none (n * suc k)
drop-concat n (x ∷ xs) (suc k) all =
    let first : length x ≡ n = All-head (λ x. length x ≡ n) x xs all in
    let at : n * suc k ≡ length x + n * k = omega (arith, mul-suc n k, first) in
    rw (at, drop-append-add x (concat xs) (n * k)) (drop-concat n xs k (All-tail (λ x. length x ≡ n) x xs all))

pub take-concat : (n : ℕ) (xs : List (List ℕ)) (k : ℕ) → AllOf n xs → take (n * k) (concat xs) ≡ concat (take k xs)
take-concat n xs zero all = ap (λ m. take m (concat xs)) (mul-zero n)
take-concat n [] (suc k) all = take-none (n * suc k)
take-concat n (x ∷ xs) (suc k) all =
    let first : length x ≡ n = All-head (λ x. length x ≡ n) x xs all in
    let at : n * suc k ≡ length x + n * k = omega (arith, mul-suc n k, first) in
    rw (at, take-append-add x (concat xs) (n * k)) (ap (λ ys. x ++ ys) (take-concat n xs k (All-tail (λ x. length x ≡ n) x xs all)))
