-- Hash blocks that are reconstructed, digest by digest.
use Rattle.std.proofs.Common.{◌≡◌, ◌≤◌, ◌<◌, ◌+◌, ◌-◌, ◌*◌, ◌^◌, ◌++◌, ◌∷◌, [], ℕ, zero, suc, min, List, length, map, take, drop, replicate, IsTrue, length-append, refl, sym, ap, ◌∙◌, arith, ◌⊎◌, subst, inl, inr}
use Rattle.std.specs.Int.{div_ceil}
use Rattle.std.specs.List.{concat, range_with_len}
use Rattle.std.proofs.Math.Nat.{div-le_self}
use Rattle.std.proofs.Math.Seq.{take-append_seam, drop-append-add}
use Rattle.std.proofs.lemmas.List.{append-nil, drop-replicate}
use Rattle.std.proofs.lemmas.List.Elements.{All-map}
use Rattle.std.proofs.lemmas.List.Folds.{concat-append}
use Rattle.std.proofs.lemmas.List.FromFn.{length-map-range_with_len, map-range_with_len_more}
use Rattle.std.proofs.lemmas.Bool.{cases_lt}
use Rattle.block_device.specs.Device.{Device, HasFailed}
use Rattle.fec_area.specs.Rounds.{HasOneFailed}
use Rattle.tree_shape.specs.Digests.{digest}
use Rattle.tree_shape.specs.Shape.{ShapeRecord, IsShape, ancestor, level_blocks, per_block}
use Rattle.tree_shape.proofs.lemmas.ShapeFactLemmas.{two}
use Rattle.tree_shape.proofs.lemmas.ShapeLemmas.{div_ceil-suc, pow_pos}
use Rattle.hash_tree.specs.Tree.{filled}
use Rattle.hash_tree.proofs.lemmas.PackingLemmas.{length-concat}
use Rattle.hash_tree.proofs.lemmas.TreeLemmas.{length-digest}
use Rattle.verity_format.specs.Blocks.{AreOnlyRead}
use Rattle.verity_format.proofs.lemmas.DeviceLemmas.{only_read-none, only_read-then, steady-then}
use Rattle.tree_path.specs.Unused.{digests_in}
use Rattle.tree_repair.specs.Remaking.{AreUnlikeFrom, HaveBlocks, HaveFailedTimes, IsNowhereBeneath, IsNowhereFrom, IsOver, IsUnlike, LostHash, StoredTree, ground, made, made_on, standing_block}
use Rattle.tree_repair.specs.StoredTrees.{HasOneFailedIn}
use Rattle.tree_repair.specs.Worlds.{AreBothRead, HasCountedNone, RepairWorld}

-- ---- how many blocks there are

div_ceil-few : (n m : ℕ) → 0 < m → div_ceil n m ≤ n
div_ceil-few zero m some = omega arith
div_ceil-few (suc n) m some = omega (arith, div_ceil-suc n m some, div-le_self n m)

pub level_blocks-few : (s : ShapeRecord) → IsShape s → (l : ℕ) → level_blocks s l ≤ s.blocks
unfolding level_blocks
level_blocks-few s valid l = div_ceil-few s.blocks (per_block s ^ (l + 1)) (pow_pos (per_block s) (l + 1) (omega (arith, two s valid)))

-- ---- a hash block with one digest more

-- the digests so far, and zeros after them
pub filled-next : (size slot : ℕ) (bytes d : List ℕ) → length bytes ≡ 32 * slot → length d ≡ 32
    → take (32 * slot) (filled size bytes) ++ d ++ drop (32 * slot + 32) (filled size bytes) ≡ filled size (bytes ++ d)
filled-next size slot bytes d at long =
    let front : take (32 * slot) (filled size bytes) ≡ bytes =
    ap (λ (n : ℕ). take n (filled size bytes)) (sym at) ∙ take-append_seam bytes (replicate (size - length bytes) 0) in
    let back : drop (32 * slot + 32) (filled size bytes) ≡ replicate (size - length bytes - 32) 0 =
    ap (λ (n : ℕ). drop (n + 32) (filled size bytes)) (sym at) ∙ drop-append-add bytes (replicate (size - length bytes) 0) 32 ∙ drop-replicate 32 (size - length bytes) 0 in
    let less : size - length bytes - 32 ≡ size - length (bytes ++ d) = omega (arith, long, length-append bytes d) in
    ap (λ (x : List ℕ). x ++ d ++ drop (32 * slot + 32) (filled size bytes)) front
    ∙ ap (λ (x : List ℕ). bytes ++ d ++ x) (back ∙ ap (λ (n : ℕ). replicate n 0) less)

module _ (g : StoredTree) (steps first : ℕ) where
  abbrev digest_of : ℕ → List ℕ
  digest_of i = digest g.salt (made g steps i)

  -- the digests of so many blocks from the first on
  abbrev pub digests : ℕ → List ℕ
  digests n = concat (map (λ i. digest g.salt (made g steps i)) (range_with_len first n))

  pub digests-long : (n : ℕ) → length (digests n) ≡ 32 * n
  digests-long n =
      length-concat 32 (map digest_of (range_with_len first n)) (All-map (λ (d : List ℕ). length d ≡ 32) digest_of (range_with_len first n) (λ k d inside. length-digest g.salt _))
      ∙ ap (λ (k : ℕ). 32 * k) (length-map-range_with_len digest_of first n)

  pub digests-next : (n next : ℕ) → first + n ≡ next → digests (n + 1) ≡ digests n ++ digest g.salt (made g steps next)
  digests-next n next at =
      ap concat (map-range_with_len_more digest_of first n next at)
      ∙ concat-append (map digest_of (range_with_len first n)) (digest_of next ∷ [])
      ∙ ap (λ (x : List ℕ). digests n ++ x) (append-nil (digest_of next))

  pub block-next : (size n next : ℕ) → first + n ≡ next
      → take (32 * n) (filled size (digests n)) ++ digest g.salt (made g steps next) ++ drop (32 * n + 32) (filled size (digests n)) ≡ filled size (digests (n + 1))
  block-next size n next at =
      filled-next size n (digests n) (digest g.salt (made g steps next)) (digests-long n) (length-digest g.salt (made g steps next))
      ∙ ap (filled size) (sym (digests-next n next at))

-- ---- devices that were read before

read-none : (d h : Device) → AreOnlyRead d h d h
read-none d h = record { data_read = only_read-none d; hash_read = only_read-none h }

read-then : (d h d1 h1 d2 h2 : Device) → AreOnlyRead d h d1 h1 → AreOnlyRead d1 h1 d2 h2 → AreOnlyRead d h d2 h2
read-then d h d1 h1 d2 h2 p q = record { data_read = only_read-then p.data_read q.data_read; hash_read = only_read-then p.hash_read q.hash_read }

pub both-none : (a : RepairWorld) → AreBothRead a a
both-none a = record { devices = read-none a.data_dev a.hash_dev; data_more = omega arith; hash_more = omega arith; data_copies_are = refl; hash_copies_are = refl }

pub both-then : (a b c : RepairWorld) → AreBothRead a b → AreBothRead b c → AreBothRead a c
both-then a b c p q = record {
  devices = read-then a.data_dev a.hash_dev b.data_dev b.hash_dev c.data_dev c.hash_dev p.devices q.devices;
  data_more = omega (arith, p.data_more, q.data_more);
  hash_more = omega (arith, p.hash_more, q.hash_more);
  data_copies_are = q.data_copies_are ∙ p.data_copies_are;
  hash_copies_are = q.hash_copies_are ∙ p.hash_copies_are;
}

pub have-then : (s : ShapeRecord) (d h d1 h1 : Device) → AreOnlyRead d h d1 h1 → HaveBlocks s d h → HaveBlocks s d1 h1
have-then s d h d1 h1 read have = record {
  valid = have.valid;
  data_fits = omega (arith, have.data_fits, read.data_read.same.size);
  tree_fits = omega (arith, have.tree_fits, read.hash_read.same.size);
}

module _ (s : ShapeRecord) (salt : List ℕ) (d h d1 h1 : Device) (read : AreOnlyRead d h d1 h1) where
  ground-before : (from : ℕ) → IsTrue d.steady → IsTrue h.steady → ground s salt d1 h1 from ≡ ground s salt d h from
  ground-before from steady steadily = rw (read.data_read.image steady, read.hash_read.image steadily) refl

  pub over-before : (from steps n : ℕ) (bytes : List ℕ) → IsOver d1 h1 (made (ground s salt d1 h1 from) steps n) bytes → IsOver d h (made (ground s salt d h from) steps n) bytes
  over-before from steps n bytes over steady steadily =
      over (steady-then read.data_read.same steady) (steady-then read.hash_read.same steadily)
      ∙ ap (λ (g : StoredTree). made g steps n) (ground-before from steady steadily)

  pub unlike-before : (from steps n : ℕ) (digest_is : List ℕ) → IsUnlike salt d1 h1 digest_is (made (ground s salt d1 h1 from) steps n) → IsUnlike salt d h digest_is (made (ground s salt d h from) steps n)
  unlike-before from steps n digest_is unlike steady steadily same =
      unlike (steady-then read.data_read.same steady) (steady-then read.hash_read.same steadily)
      (ap (λ (g : StoredTree). digest salt (made g steps n)) (ground-before from steady steadily) ∙ same)

-- ---- heights that weren't read

failed-since : (a b c : Device) → a.failures ≤ b.failures → b.failures ≤ c.failures → HasFailed b c → HasFailed a c
failed-since a b c more then (inl less) = inl (omega (arith, more, less))
failed-since a b c more then (inr most) = elim (cases_lt a.failures (2 ^ 64 - 1)) [
  | inl low ↦ inl (omega (arith, low, most, then))
  | inr high ↦ inr (omega (arith, high, most, more))
]

pub one-failed-since : (a b c : RepairWorld) → AreBothRead a b → AreBothRead b c → HasOneFailedIn b c → HasOneFailedIn a c
one-failed-since a b c p q (inl one) = inl (failed-since a.data_dev b.data_dev c.data_dev p.data_more q.data_more one)
one-failed-since a b c p q (inr two) = inr (failed-since a.hash_dev b.hash_dev c.hash_dev p.hash_more q.hash_more two)

times-more : (d h d1 h1 d2 h2 : Device) (n : ℕ) → d1.failures ≤ d2.failures → h1.failures ≤ h2.failures → HaveFailedTimes d h n d1 h1 → HaveFailedTimes d h n d2 h2
times-more d h d1 h1 d2 h2 n more then (inl few) = inl (omega (arith, few, more, then))
times-more d h d1 h1 d2 h2 n more then (inr (inl end)) = inr (inl (omega (arith, end, more)))
times-more d h d1 h1 d2 h2 n more then (inr (inr end)) = inr (inr (omega (arith, end, then)))

times-one : (d h d1 h1 d2 h2 : Device) (n : ℕ) → d1.failures ≤ d2.failures → h1.failures ≤ h2.failures → HaveFailedTimes d h n d1 h1 → HasOneFailed d1 h1 d2 h2 → HaveFailedTimes d h (suc n) d2 h2
times-one d h d1 h1 d2 h2 n more then (inl few) (inl (inl less)) = inl (omega (arith, few, less, then))
times-one d h d1 h1 d2 h2 n more then (inl few) (inl (inr most)) = inr (inl (omega (arith, most, more)))
times-one d h d1 h1 d2 h2 n more then (inl few) (inr (inl less)) = inl (omega (arith, few, less, more))
times-one d h d1 h1 d2 h2 n more then (inl few) (inr (inr most)) = inr (inr (omega (arith, most, then)))
times-one d h d1 h1 d2 h2 n more then (inr (inl end)) failed = inr (inl (omega (arith, end, more)))
times-one d h d1 h1 d2 h2 n more then (inr (inr end)) failed = inr (inr (omega (arith, end, then)))

times-before : (d h d1 h1 d2 h2 : Device) (n : ℕ) → d.failures ≤ d1.failures → h.failures ≤ h1.failures → HaveFailedTimes d1 h1 n d2 h2 → HaveFailedTimes d h n d2 h2
times-before d h d1 h1 d2 h2 n more then (inl few) = inl (omega (arith, few, more, then))
times-before d h d1 h1 d2 h2 n more then (inr end) = inr end

-- from no height
pub nowhere-none : (x : LostHash) (d h : Device) → IsNowhereFrom x (x.level + 1) d h d h
nowhere-none x d h = record {
  unread = 0;
  each = (let none : 0 ≡ x.level + 1 - (x.level + 1) = omega arith in subst (λ (n : ℕ). AreUnlikeFrom x d h (x.level + 1) n 0) none refl);
  counted = inl (omega arith);
}

-- from one height more
pub nowhere-next : (x : LostHash) (d h d1 h1 d2 h2 : Device) (k from : ℕ) → suc k ≡ from → k ≤ x.level → d1.failures ≤ d2.failures → h1.failures ≤ h2.failures → IsNowhereFrom x from d h d1 h1
    → HasOneFailed d1 h1 d2 h2 ⊎ IsUnlike x.salt d h x.digest_is (made_on (ground x.shape x.salt d h k) x.level x.index) → IsNowhereFrom x k d h d2 h2
nowhere-next x d h d1 h1 d2 h2 k from next few more then before here =
    let steps : suc (x.level + 1 - suc k) ≡ x.level + 1 - k = omega (arith, few) in
    let was : AreUnlikeFrom x d h (suc k) (x.level + 1 - suc k) before.unread = subst (λ (n : ℕ). AreUnlikeFrom x d h n (x.level + 1 - n) before.unread) (sym next) before.each in
    elim here [
      | inl failed ↦ record {
        unread = suc before.unread;
        each = subst (λ (n : ℕ). AreUnlikeFrom x d h k n (suc before.unread)) steps (inr (before.unread, (refl, was)));
        counted = times-one d h d1 h1 d2 h2 before.unread more then before.counted failed;
      }
      | inr unlike ↦ record {
        unread = before.unread;
        each = subst (λ (n : ℕ). AreUnlikeFrom x d h k n before.unread) steps (inl (unlike, was));
        counted = times-more d h d1 h1 d2 h2 before.unread more then before.counted;
      }
    ]

unlikes-before : (x : LostHash) (d h d1 h1 : Device) → AreOnlyRead d h d1 h1 → (first n unread : ℕ) → AreUnlikeFrom x d1 h1 first n unread → AreUnlikeFrom x d h first n unread
unlikes-before x d h d1 h1 read first zero unread each = each
unlikes-before x d h d1 h1 read first (suc n) unread (inl (unlike, more)) =
    inl (unlike-before x.shape x.salt d h d1 h1 read first (x.level + 1 - first) (ancestor x.shape (x.level + 1) x.index) x.digest_is unlike, unlikes-before x d h d1 h1 read (suc first) n unread more)
unlikes-before x d h d1 h1 read first (suc n) unread (inr (rest, (is, more))) = inr (rest, (is, unlikes-before x d h d1 h1 read (suc first) n rest more))

pub nowhere-before : (x : LostHash) (d h d1 h1 d2 h2 : Device) → AreOnlyRead d h d1 h1 → d.failures ≤ d1.failures → h.failures ≤ h1.failures → IsNowhereBeneath x d1 h1 d2 h2 → IsNowhereBeneath x d h d2 h2
nowhere-before x d h d1 h1 d2 h2 read more then none = record {
  unread = none.unread;
  each = unlikes-before x d h d1 h1 read 0 (x.level + 1 - 0) none.unread none.each;
  counted = times-before d h d1 h1 d2 h2 none.unread more then none.counted;
}

-- if no failure was counted, it was made from the data
none-unread : (d h d1 h1 : Device) (n : ℕ) → HasCountedNone d d1 → HasCountedNone h h1 → HaveFailedTimes d h n d1 h1 → n ≡ 0
none-unread d h d1 h1 n one two (inl few) = omega (arith, few, one.none, two.none)
none-unread d h d1 h1 n one two (inr (inl end)) = absurd (omega (arith, end, one.below))
none-unread d h d1 h1 n one two (inr (inr end)) = absurd (omega (arith, end, two.below))

first-unlike : (x : LostHash) (d h : Device) (n unread : ℕ) → unread ≡ 0 → AreUnlikeFrom x d h 0 (suc n) unread → IsUnlike x.salt d h x.digest_is (made_on (ground x.shape x.salt d h 0) x.level x.index)
first-unlike x d h n unread none (inl (unlike, more)) = unlike
first-unlike x d h n unread none (inr (rest, (is, more))) = absurd (omega (arith, none, is))

pub unlike-data : (x : LostHash) (d h d1 h1 : Device) → HasCountedNone d d1 → HasCountedNone h h1 → IsNowhereBeneath x d h d1 h1 → IsUnlike x.salt d h x.digest_is (made_on (ground x.shape x.salt d h 0) x.level x.index)
unlike-data x d h d1 h1 one two none =
    let all : x.level + 1 - 0 ≡ suc x.level = omega arith in
    first-unlike x d h x.level none.unread (none-unread d h d1 h1 none.unread one two none.counted) (subst (λ (n : ℕ). AreUnlikeFrom x d h 0 n none.unread) all none.each)

-- ---- the last digest was put

-- a step above the height
pub above : (from steps : ℕ) → 0 < steps → from + steps ≡ suc (from + (steps - 1))
above from steps some = omega (arith, some)

made-suc : (g : StoredTree) (steps n : ℕ)
    → made g (suc steps) n ≡ filled g.shape.hash_block (digests g steps (n * per_block g.shape) (min (per_block g.shape) (digests_in g.shape (g.height + steps) - n * per_block g.shape)))
unfolding made
made-suc g steps n = refl

pub made-all : (g : StoredTree) (steps n first count : ℕ) → 0 < steps → first ≡ n * per_block g.shape
    → count ≡ min (per_block g.shape) (digests_in g.shape (g.height + (steps - 1)) - n * per_block g.shape)
    → made g steps n ≡ filled g.shape.hash_block (digests g (steps - 1) first count)
made-all g steps n first count some from few =
    let up : steps ≡ suc (steps - 1) = omega (arith, some) in
    ap (λ (k : ℕ). made g k n) up ∙ made-suc g (steps - 1) n
    ∙ ap (λ (k : ℕ). filled g.shape.hash_block (digests g (steps - 1) (n * per_block g.shape) k)) (sym few)
    ∙ ap (λ (k : ℕ). filled g.shape.hash_block (digests g (steps - 1) k count)) (sym from)

-- none was put yet
pub none-yet : (g : StoredTree) (steps first size : ℕ) → filled size (digests g steps first 0) ≡ replicate size 0
none-yet g steps first size = let all : size - 0 ≡ size = omega arith in ap (λ (n : ℕ). replicate n 0) all

-- no step above the height
pub made-none : (g : StoredTree) (steps n : ℕ) → steps ≡ 0 → made g steps n ≡ standing_block g.shape g.data_image g.hash_image g.height n
unfolding made
made-none g steps n none = ap (λ (k : ℕ). made g k n) none
