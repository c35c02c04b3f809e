-- Whole data blocks that were read at once, gone through one after another.
use Rattle.std.proofs.Common.{◌≡◌, ℕ, ◌+◌, ◌-◌, ◌*◌, ◌/◌, ◌%◌, ◌<◌, ◌≤◌, ◌^◌, max, ◌⊎◌, All, Bool, false, true, IsTrue, List, [], ◌++◌, length, get_or, map, take, drop, Option, None, Some, Result, Ok, Err, inl, inr, refl, sym, ap, ◌∙◌, subst, arith, ltb-false, ltb-true}
use Rattle.std.specs.Prelude.{is_some, nat_lt}
use Rattle.std.proofs.lemmas.Bool.{cases_lt}
use Rattle.std.proofs.lemmas.List.{take_all, length-map, length-take, length-take-le, length-drop, drop-drop, drop-append-le, take-append-le, get_or-drop, get_or-map}
use Rattle.std.proofs.lemmas.List.Elements.{All-nil}
use Rattle.std.proofs.lemmas.Slice.{drop-put_mid, take-put_mid_below, between-put_mid}
use Rattle.std.proofs.Math.ListN.{get_or-append}
use Rattle.std.proofs.Math.Seq.{drop-append_seam}
use Rattle.std.proofs.Math.Nat.{add-mul, mul_comm, mul_assoc, mul-le-mul_left, mul-le-mul_right, mul-mod_left, mul-div_cancel}
use Rattle.std.proofs.lemmas.Nat.{div-add-mod'}
use borrow.Rule.Slice.PartMut.{put_mid, same_len_mid}
use Rattle.tree_shape.specs.Digests.{digest}
use Rattle.tree_shape.specs.Shape.{levels}
use Rattle.hash_tree.specs.Tree.{cut}
use Rattle.hash_tree.proofs.lemmas.PackingLemmas.{length-cut, div_ceil-exact, get_or-cut_whole}
use Rattle.block_device.specs.Device.{Device}
use Rattle.dm_table.specs.declared.parity.Parity.{Parity}
use Rattle.dm_table.specs.declared.verity.Verity.{Verity}
use Rattle.stack_rules.specs.declared.lower.Lower.{Lower}
use Rattle.stack_rules.specs.Records.{Configuration}
use Rattle.stack_rules.specs.Names.{mapped, size}
use Rattle.stack_rules.specs.Descend.{read_cost}
use Rattle.stack_rules.specs.Trees.{tree_of, block_sectors}
use Rattle.stack_meaning.specs.declared.fault.IoFault.{IoFault}
use Rattle.stack_engine.specs.Healing.{IsHealed, alone_after, row_answer}
use Rattle.stack_lines.specs.declared.source.VerityPart.{VerityPart}
use Rattle.stack_lines.specs.declared.source.Source.TheVariants.{Blocks}
use Rattle.stack_meaning.specs.Changes.{AllWhole}
use Rattle.stack_meaning.specs.Outcomes.{Outcome, span}
use Rattle.stack_meaning.specs.Found.{FoundRecord, AreDistinct}
use Rattle.stack_meaning.specs.Kept.{AllKept}
use Rattle.stack_meaning.specs.Leaves.{steady_images, AreRead}
use Rattle.stack_meaning.specs.Places.{Place, place_of, LeafRead}
use Rattle.stack_meaning.specs.Reading.{Finds}
use Rattle.stack_lines.specs.AtOnce.{AreBefore}
use Rattle.stack_lines.specs.declared.tree.Extent.{Extent}
use Rattle.stack_lines.specs.Budgets.{ReadsAtMost, part_budget}
use Rattle.stack_engine.specs.Held.{IsHeld}
use Rattle.stack_lines.specs.Extents.{IsExtent}
use Rattle.stack_lines.specs.Sources.{ReadsSource}
use Rattle.stack_lines.specs.Walks.{block_in, settled_cost, GetsChain, IsWalked}
use Rattle.verified_cache.specs.Cache.{CachedBlock}
use Rattle.stack_meaning.proofs.lemmas.LeafListLemmas.{AreRead-none, AreRead-more, AreRead-then}
use Rattle.stack_meaning.proofs.lemmas.LoadedLemmas.{size-small}
use Rattle.stack_meaning.proofs.lemmas.SizedLemmas.{AreSized, span-part}
use Rattle.stack_lines.proofs.lemmas.SizeLemmas.{sector-size}
use Rattle.stack_lines.proofs.lemmas.UnitReadLemmas.{images-whole}
use Rattle.stack_lines.proofs.lemmas.VerityLineLemmas.{place-named}
use Rattle.stack_engine.specs.declared.path.Chains.{Chains}
use Rattle.stack_engine.specs.Bytes.{GetsBytes}
use Rattle.stack_engine.specs.Keeping.{AreHandedOut, ReadsSourceAs}
use Rattle.stack_engine.proofs.HealLemmas.{heals-some}
use Rattle.stack_engine.proofs.KeepingLemmas.{finds-as, none-out}
use Rattle.stack_engine.proofs.BlocksAtLemmas.{blocks_place, path_cost, read_cost_so_far, BlocksAt, IsRead}
use Rattle.stack_engine.proofs.BlocksLemmas.{total-cost, none-read, blocks-stop, row-stops, blocks-read}
use Rattle.stack_engine.proofs.SpentLemmas.{way-spent, row-spent}

-- ---- digests of blocks that are one after another

-- the bytes cut into m blocks of u sectors
module _ (bytes : List ℕ) (u m : ℕ) (some : 0 < u) (len : length bytes ≡ 512 * (m * u)) where
  size-some : 0 < u * 512
  size-some = omega (arith, some)

  len-is : length bytes ≡ m * (u * 512)
  len-is = len ∙ mul_comm 512 (m * u) ∙ mul_assoc m u 512

  cut-whole : length bytes % (u * 512) ≡ 0
  cut-whole = ap (λ (k : ℕ). k % (u * 512)) len-is ∙ mul-mod_left m (u * 512)

  cut-count : length bytes / (u * 512) ≡ m
  cut-count = ap (λ (k : ℕ). k / (u * 512)) len-is ∙ mul-div_cancel m size-some

  cells : length (cut (u * 512) bytes) ≡ m
  cells = length-cut (u * 512) bytes ∙ div_ceil-exact (length bytes) (u * 512) size-some cut-whole ∙ cut-count

  cell : (j : ℕ) → j < m → get_or (cut (u * 512) bytes) j [] ≡ take (512 * u) (drop (512 * (j * u)) bytes)
  cell j inside =
      let there : j < length bytes / (u * 512) = omega (arith, inside, cut-count) in
      let place : u * 512 * j ≡ 512 * (j * u) = mul_comm (u * 512) j ∙ sym (mul_assoc j u 512) ∙ mul_comm (j * u) 512 in
      get_or-cut_whole (u * 512) j bytes size-some cut-whole there
      ∙ ap (λ (k : ℕ). take k (drop (u * 512 * j) bytes)) (mul_comm u 512)
      ∙ ap (λ (k : ℕ). take (512 * u) (drop k bytes)) place

  cell-count : (salt : List ℕ) → length (map (digest salt) (cut (u * 512) bytes)) ≡ m
  cell-count salt = length-map (cut (u * 512) bytes) (digest salt) ∙ cells

  -- the digest of one of them
  cell-digest : (salt : List ℕ) (j : ℕ) (x : List ℕ) → j < m → get_or (map (digest salt) (cut (u * 512) bytes)) j x ≡ digest salt (take (512 * u) (drop (512 * (j * u)) bytes))
  cell-digest salt j x inside =
      let there : j < length (cut (u * 512) bytes) = omega (arith, inside, cells) in
      get_or-map (digest salt) (cut (u * 512) bytes) j [] x there ∙ ap (digest salt) (cell j inside)

-- ---- how far the read is

-- the blocks before block j were had, where data were read as far as block r
pub record WereHad (c : Configuration) (p : VerityPart) (n r j : ℕ) (bytes : List ℕ) (did : LeafRead) : Type 0 where
  pub so_far : Finds (blocks_place c p n) c 0 (j * block_sectors p.verity.now) did (Ok (take (512 * (j * block_sectors p.verity.now)) bytes))
  pub moved : AreRead did.old (read_cost_so_far c p.verity.now (r * block_sectors p.verity.now) j j) did.new
  pub before : AreBefore p.device.0 p.line (p.first / block_sectors p.verity.now + j) did.after
  pub distinct : AreDistinct did.before → AreDistinct did.after

-- the blocks from block j on, as far as block r, are in the bytes as they were read, and their digests were made
abbrev pub AreReadAhead : Configuration → VerityPart → ℕ → ℕ → List ℕ → List (List ℕ) → List Device → Type 0
AreReadAhead c p j r bytes made old = (k : ℕ) → j ≤ k → k < r → (x : List ℕ)
    → IsRead c p old k (take (512 * block_sectors p.verity.now) (drop (512 * (k * block_sectors p.verity.now)) bytes)) (get_or made k x)

-- the same unless block j is read alone, as all as far as block a are, so none is read ahead of those; there is parity for it
pub record IsAhead (c : Configuration) (p : VerityPart) (r a j : ℕ) (bytes : List ℕ) (made : List (List ℕ)) (old : List Device) : Type 0 where
  pub ahead : a ≤ j → AreReadAhead c p j r bytes made old
  pub lone : j < a → r ≡ a
  pub heals : 0 < a → IsTrue (is_some p.verity.now.parity)

-- whether it is read alone
pub together-from : (j is to : ℕ) → is ≡ to → nat_lt j is ≡ false → to ≤ j
together-from j is to same e = omega (arith, same, ltb-false j is e)

pub lone-from : (j is to : ℕ) → is ≡ to → nat_lt j is ≡ true → j < to
lone-from j is to same e = omega (arith, same, ltb-true j is e)

-- there is parity, if some block is
pub heals-after : (parity : Option Parity) (lost : Option IoFault) (r a j : ℕ) → (0 < a → IsTrue (is_some parity)) → ((fault : IoFault) → lost ≡ Some fault → IsHealed parity fault) → j < alone_after lost r a → IsTrue (is_some parity)
heals-after parity None r a j before heals low = before (omega (arith, low))
heals-after parity (Some fault) r a j before heals low = heals-some parity fault (heals fault refl)

-- after block j
pub next-kept : {c : Configuration} {p : VerityPart} {r a j : ℕ} {bytes : List ℕ} {made : List (List ℕ)} {old : List Device} (written : List ℕ) → IsAhead c p r a j bytes made old → (AreReadAhead c p j r bytes made old → AreReadAhead c p (j + 1) r written made old) → IsAhead c p r a (j + 1) written made old
next-kept {r = r} {a = a} {j = j} written kept step = record {
  ahead = λ low. elim (cases_lt j a) [
    | inl alone ↦ λ k from below x. absurd (omega (arith, low, alone, kept.lone alone, from, below))
    | inr high ↦ step (kept.ahead high)
  ];
  lone = λ low. kept.lone (omega (arith, low));
  heals = kept.heals;
}

-- Block j is next: those before it were had, the way to it was walked, and data were read as far as block r, with so many spares.
pub record IsNext (c : Configuration) (p : VerityPart) (n r j spares : ℕ) (bytes expected : List ℕ) (path : List (List ℕ)) (did : LeafRead) : Type 0 where
  pub mid : List Device
  pub here : List Device
  pub ways : ℕ
  pub so_far : Finds (blocks_place c p n) c 0 (j * block_sectors p.verity.now) (record { old = did.old; new = mid; before = did.before; after = did.after }) (Ok (take (512 * (j * block_sectors p.verity.now)) bytes))
  pub walked : IsWalked (block_in c p.verity.now (p.first / block_sectors p.verity.now + j)) 0 expected path mid here
  pub later : AreRead did.old ways here
  pub moved : AreRead did.old (read_cost_so_far c p.verity.now (r * block_sectors p.verity.now) (j + 1) spares) did.new
  pub rest : AreRead mid (read_cost_so_far c p.verity.now (r * block_sectors p.verity.now) (j + 1) spares) did.new
  pub before : AreBefore p.device.0 p.line (p.first / block_sectors p.verity.now + j) did.after
  pub distinct : AreDistinct did.before → AreDistinct did.after

-- ---- costs

-- what a read of so many blocks more costs, after one way more
cost-row : (r many to u dc : ℕ) → r + many ≤ to → r * u * dc + many * u * dc ≤ to * u * dc
cost-row r many to u dc more =
    let sectors : (r + many) * u ≤ to * u = mul-le-mul_right u more in
    let all : (r + many) * u * dc ≤ to * u * dc = mul-le-mul_right dc sectors in
    let split : (r + many) * u * dc ≡ r * u * dc + many * u * dc = ap (λ (k : ℕ). k * dc) (add-mul r many u) ∙ add-mul (r * u) (many * u) dc in
    omega (arith, all, split)

sum-row : (a b x path j cost healed : ℕ) → a + b ≤ x → cost ≡ b → a + j * path + healed + (path + cost) ≤ x + (j + 1) * path + healed
sum-row a b x path j cost healed most same = omega (arith, most, same, add-mul j 1 path)

le-sum : (a b x : ℕ) → a + b ≤ x → b ≤ x
le-sum a b x h = omega (arith, h)

sum-way : (a path j healed : ℕ) → a + j * path + healed + path ≡ a + (j + 1) * path + healed
sum-way a path j healed = omega (arith, add-mul j 1 path)

pub sub-same : (a b : ℕ) → a + b - a ≡ b
sub-same a b = omega arith

-- ---- a part of a list that is written

module _ {X : Type 0} (a w : ℕ) (xs ys : List X) (fits : a ≤ length xs) where
  behind-put : drop a (put_mid a w xs ys) ≡ ys ++ drop (a + w) xs
  behind-put =
      let len : a ≡ length (take a xs) = sym (length-take-le a xs fits) in
      ap (λ (k : ℕ). drop k (put_mid a w xs ys)) len ∙ drop-append_seam (take a xs) (ys ++ drop w (drop a xs)) ∙ ap (λ (l : List X). ys ++ l) (drop-drop w a xs)

  -- it holds what was written
  part-put : (n m : ℕ) → n + m ≤ length ys → take m (drop (a + n) (put_mid a w xs ys)) ≡ take m (drop n ys)
  part-put n m inside =
      ap (take m) (sym (drop-drop n a (put_mid a w xs ys)) ∙ ap (drop n) behind-put ∙ drop-append-le n ys (drop (a + w) xs) (omega (arith, inside)))
      ∙ take-append-le m (drop n ys) (drop (a + w) xs) (omega (arith, inside, length-drop n ys))

  item-put : (n : ℕ) (d : X) → n < length ys → get_or (put_mid a w xs ys) (a + n) d ≡ get_or ys n d
  item-put n d inside = sym (get_or-drop a (put_mid a w xs ys) n d) ∙ ap (λ (l : List X). get_or l n d) behind-put ∙ get_or-append ys (drop (a + w) xs) d n inside

  -- what follows the written part stays
  pub rest-put : (n m : ℕ) → a + w ≤ n → length ys ≡ w → take m (drop n (put_mid a w xs ys)) ≡ take m (drop n xs)
  rest-put n m past same = ap (take m) (drop-put_mid a w xs ys n past fits same)

  item-rest : (n : ℕ) (d : X) → a + w ≤ n → length ys ≡ w → get_or (put_mid a w xs ys) n d ≡ get_or xs n d
  item-rest n d past same =
      let on : n + 0 ≡ n = omega arith in
      ap (λ (k : ℕ). get_or (put_mid a w xs ys) k d) (sym on) ∙ sym (get_or-drop n (put_mid a w xs ys) 0 d)
      ∙ ap (λ (l : List X). get_or l 0 d) (drop-put_mid a w xs ys n past fits same) ∙ get_or-drop n xs 0 d ∙ ap (λ (k : ℕ). get_or xs k d) on

-- the hash blocks of a way that was walked are in the path
pub way-whole : (c : Configuration) (v : Verity) (index : ℕ) {expected : List ℕ} (path : List CachedBlock) {old new : List Device} → IsWalked (block_in c v index) 0 expected (map (λ (b : CachedBlock). b.bytes) (take (levels (tree_of v)) path)) old new → levels (tree_of v) ≤ length path
way-whole c v index path walked =
    let most : levels (tree_of v) ≡ length (take (levels (tree_of v)) path) = omega (arith, walked.count, length-map (take (levels (tree_of v)) path) (λ (b : CachedBlock). b.bytes)) in
    omega (arith, most, length-take (levels (tree_of v)) path)

-- ---- how many bytes blocks have

module _ {c : Configuration} {p : VerityPart} {n : ℕ} {found : List FoundRecord} (b : BlocksAt c p n found) where
  abbrev m : ℕ
  m = n / block_sectors p.verity.now

  abbrev first : ℕ
  first = p.first / block_sectors p.verity.now

  -- how many they are
  few-blocks : m ≤ n
  few-blocks = let each : m * 1 ≤ m * block_sectors p.verity.now = mul-le-mul_left m b.size.some in omega (arith, each, b.count)

  pub block-size : block_sectors p.verity.now * 512 ≡ p.verity.now.data_block
  block-size = omega (arith, b.size.whole)

  pub digest-count : (bytes : List ℕ) → length bytes ≡ 512 * n → length bytes / p.verity.now.data_block ≡ n / block_sectors p.verity.now
  digest-count bytes len =
      ap (λ (k : ℕ). length bytes / k) (sym block-size) ∙ cut-count bytes (block_sectors p.verity.now) m (omega (arith, b.size.some)) (len ∙ ap (λ (k : ℕ). 512 * k) (sym b.count))

  -- block j begins there
  pub block-begin : (j : ℕ) → j * p.verity.now.data_block ≡ 512 * (j * block_sectors p.verity.now)
  block-begin j = ap (λ (k : ℕ). j * k) (sym block-size) ∙ sym (mul_assoc j (block_sectors p.verity.now) 512) ∙ mul_comm (j * block_sectors p.verity.now) 512

  -- so many blocks end within the bytes
  blocks-end : (bytes : List ℕ) (j : ℕ) → length bytes ≡ 512 * n → j ≤ m → j * p.verity.now.data_block ≤ length bytes
  blocks-end bytes j len most =
      let below : j * block_sectors p.verity.now ≤ m * block_sectors p.verity.now = mul-le-mul_right (block_sectors p.verity.now) most in
      omega (arith, below, block-begin j, b.count, len)

  small-index : (j : ℕ) → j < m → first + (j + 1) ≤ p.first + n
  small-index j inside =
      let part : first * 1 ≤ first * block_sectors p.verity.now = mul-le-mul_left first b.size.some in
      omega (arith, part, div-add-mod' p.first (block_sectors p.verity.now), inside, few-blocks)

  -- where block j begins on the device beneath, and that so many from there on lie inside it
  place : (j : ℕ) → block_sectors p.verity.now * (first + j) ≡ p.first + j * block_sectors p.verity.now
  place j = let all : first * block_sectors p.verity.now ≡ p.first = omega (arith, div-add-mod' p.first (block_sectors p.verity.now), b.aligned) in omega (arith, mul_comm (block_sectors p.verity.now) (first + j), add-mul first j (block_sectors p.verity.now), all)

  inner : (j many : ℕ) → j + many ≤ m → j * block_sectors p.verity.now + many * block_sectors p.verity.now ≤ n
  inner j many most =
      let below : (j + many) * block_sectors p.verity.now ≤ m * block_sectors p.verity.now = mul-le-mul_right (block_sectors p.verity.now) most in
      omega (arith, below, add-mul j many (block_sectors p.verity.now), b.count)

  row-inside : (j many : ℕ) → j + many ≤ m → block_sectors p.verity.now * (first + j) + many * block_sectors p.verity.now ≤ size c p.data
  row-inside j many most = omega (arith, place j, inner j many most, b.below)

  -- none of them yet
  none-had : {old : List Device} (bytes : List ℕ) → AllKept c old found → WereHad c p n 0 0 bytes (record { old = old; new = old; before = found; after = found })
  none-had {old = old} bytes kept =
      let nothing : 0 ≡ 512 * (0 * block_sectors p.verity.now) = omega arith in
      let front : [] ≡ take (512 * (0 * block_sectors p.verity.now)) bytes = ap (λ (k : ℕ). take k bytes) nothing in
      let start : first ≡ first + 0 = omega arith in
      record {
        so_far = subst (λ (l : List ℕ). Finds (blocks_place c p n) c 0 (0 * block_sectors p.verity.now) (record { old = old; new = old; before = found; after = found }) (Ok l)) front (none-read b found kept);
        moved = AreRead-none _ old;
        before = subst (λ (k : ℕ). AreBefore p.device.0 p.line k found) start b.before;
        distinct = λ d. d;
      }

  cost : (block_in c p.verity.now 0).on_data.cost ≡ read_cost c p.data
  cost = ap (λ (q : Place). q.cost) (place-named c p.verity.now.data p.data b.is)

-- a row covers block j, unless the line ignores it
pub row-covers : {ignored : Bool} {r j many : ℕ} → (ignored ≡ false → r ≤ j → 0 < many) → ignored ≡ false → j < max r (j + many)
row-covers {r = r} {j = j} some taken = elim (cases_lt j r) [ inl low ↦ omega (arith, low) | inr high ↦ omega (arith, some taken high) ]

-- ---- before a turn

-- The blocks before block j were had, data were read as far as block r, those as far as block a alone, and the bytes are as many as
-- those of the buffer `start`.
pub record AreChecked (c : Configuration) (p : VerityPart) (chains : Chains) (start : List ℕ) (r a j : ℕ) (bytes : List ℕ) (made : List (List ℕ)) (path : List CachedBlock) (old new : List Device) (before now : List FoundRecord) : Type 0 where
  pub size : length bytes ≡ length start
  pub room : length made ≡ 2048
  pub within : j ≤ length start / 512 / block_sectors p.verity.now
  pub most : r ≤ length start / 512 / block_sectors p.verity.now
  pub after : List FoundRecord
  pub out : AreHandedOut chains before after now
  pub held : All (IsHeld c new) path
  pub had : WereHad c p (length start / 512) r j bytes (record { old = old; new = new; before = before; after = after })
  pub ahead : IsAhead c p r a j bytes made old

pub checked-as : {c : Configuration} {p : VerityPart} {chains : Chains} {start : List ℕ} {r a to lone j : ℕ} {bytes : List ℕ} {made : List (List ℕ)} {path : List CachedBlock} {old new : List Device} {before now : List FoundRecord} → to ≡ r → lone ≡ a
    → AreChecked c p chains start r a j bytes made path old new before now → AreChecked c p chains start to lone j bytes made path old new before now
checked-as {c = c} {p = p} {chains = chains} {start = start} {a = a} {to = to} {j = j} {bytes = bytes} {made = made} {path = path} {old = old} {new = new} {before = before} {now = now} same also checked =
    subst (λ (k : ℕ). AreChecked c p chains start to k j bytes made path old new before now) (sym also)
    (subst (λ (k : ℕ). AreChecked c p chains start k a j bytes made path old new before now) (sym same) checked)

-- block j, whose number in the line is counted from the part's first sector by s sectors a block
pub record IsTurn (p : VerityPart) (start : List ℕ) (s r j : ℕ) (bytes : List ℕ) : Type 0 where
  pub inside : j < length start / 512 / block_sectors p.verity.now
  pub read : r ≤ length start / 512 / block_sectors p.verity.now
  pub few : length start / 512 / block_sectors p.verity.now ≤ 2048
  pub len : length bytes ≡ 512 * (length start / 512)
  pub count : length start / p.verity.now.data_block ≡ length start / 512 / block_sectors p.verity.now
  pub index : p.first / s + j ≡ p.first / block_sectors p.verity.now + j
  pub there : p.first / s + j < p.verity.now.blocks
  pub small : p.first / s + j < 2 ^ 64
  pub end : j * p.verity.now.data_block + p.verity.now.data_block ≤ length bytes

-- the row of `many` blocks from block j on
pub record IsRow (c : Configuration) (p : VerityPart) (start : List ℕ) (j many : ℕ) (bytes : List ℕ) : Type 0 where
  pub most : j + many ≤ length start / 512 / block_sectors p.verity.now
  pub few : j + many ≤ 2048
  pub end : j * p.verity.now.data_block + many * p.verity.now.data_block ≤ length bytes
  pub len : length (take (j * p.verity.now.data_block + many * p.verity.now.data_block - j * p.verity.now.data_block) (drop (j * p.verity.now.data_block) bytes)) ≡ many * p.verity.now.data_block
  pub sectors : length (take (j * p.verity.now.data_block + many * p.verity.now.data_block - j * p.verity.now.data_block) (drop (j * p.verity.now.data_block) bytes)) / 512 ≡ many * block_sectors p.verity.now
  pub whole : length (take (j * p.verity.now.data_block + many * p.verity.now.data_block - j * p.verity.now.data_block) (drop (j * p.verity.now.data_block) bytes)) % 512 ≡ 0
  pub inside : block_sectors p.verity.now * (p.first / block_sectors p.verity.now + j) + many * block_sectors p.verity.now ≤ size c p.data

-- the bytes, if the row is as it was read
pub record IsPut (p : VerityPart) (start : List ℕ) (j many : ℕ) (bytes row : List ℕ) : Type 0 where
  pub wide : length row ≡ many * p.verity.now.data_block
  pub len : length (put_mid (j * p.verity.now.data_block) (j * p.verity.now.data_block + many * p.verity.now.data_block - j * p.verity.now.data_block) bytes row) ≡ 512 * (length start / 512)
  pub row_is : take (j * p.verity.now.data_block + many * p.verity.now.data_block - j * p.verity.now.data_block) (drop (j * p.verity.now.data_block) (put_mid (j * p.verity.now.data_block) (j * p.verity.now.data_block + many * p.verity.now.data_block - j * p.verity.now.data_block) bytes row)) ≡ row
  pub end : j * p.verity.now.data_block + p.verity.now.data_block ≤ length (put_mid (j * p.verity.now.data_block) (j * p.verity.now.data_block + many * p.verity.now.data_block - j * p.verity.now.data_block) bytes row)
  pub front : (k : ℕ) → k ≤ j * p.verity.now.data_block → take k (put_mid (j * p.verity.now.data_block) (j * p.verity.now.data_block + many * p.verity.now.data_block - j * p.verity.now.data_block) bytes row) ≡ take k bytes
  pub row_even : length row % p.verity.now.data_block ≡ 0
  pub row_count : length row / p.verity.now.data_block ≡ many

-- the bytes are no more than the blocks that were had
pub blocks-long : {c : Configuration} {p : VerityPart} {found : List FoundRecord} (start bytes : List ℕ) (j : ℕ) → BlocksAt c p (length start / 512) found → length bytes ≡ length start → length start % 512 ≡ 0 → j ≡ length start / 512 / block_sectors p.verity.now → length bytes ≤ j * p.verity.now.data_block
blocks-long {p = p} start bytes j b same whole all =
    let count : j * block_sectors p.verity.now ≡ length start / 512 = ap (λ (k : ℕ). k * block_sectors p.verity.now) all ∙ b.count in
    omega (arith, same, whole, count, block-begin b j)

module _ {c : Configuration} {p : VerityPart} {found : List FoundRecord} {start : List ℕ} (b : BlocksAt c p (length start / 512) found) where
  -- none of them yet
  pub checked-none : (chains : Chains) {old : List Device} (made : List (List ℕ)) (path : List CachedBlock) → length made ≡ 2048 → path ≡ [] → AllKept c old found → AreChecked c p chains start 0 0 0 start made path old old found found
  checked-none chains {old = old} made path room none kept = record {
    size = refl;
    room = room;
    within = omega arith;
    most = omega arith;
    after = found;
    out = none-out chains found;
    held = subst (All (IsHeld c old)) (sym none) (All-nil (IsHeld c old));
    had = none-had b start kept;
    ahead = record { ahead = λ none k low below. absurd (omega (arith, below)); lone = λ low. absurd (omega (arith, low)); heals = λ low. absurd (omega (arith, low)) };
  }

  pub turn-at : {chains : Chains} {s r a j : ℕ} {bytes : List ℕ} {made : List (List ℕ)} {path : List CachedBlock} {old new : List Device} {before now : List FoundRecord} → AreChecked c p chains start r a j bytes made path old new before now
      → length start % 512 ≡ 0 → s ≡ block_sectors p.verity.now → j < length start / p.verity.now.data_block → IsTurn p start s r j bytes
  turn-at {s = s} {j = j} {bytes = bytes} inv whole from more =
      let count = digest-count b start (omega (arith, whole)) in
      let inside : j < (length start / 512) / block_sectors p.verity.now = omega (arith, more, count) in
      let len : length bytes ≡ 512 * (length start / 512) = omega (arith, inv.size, whole) in
      let index : p.first / s + j ≡ p.first / block_sectors p.verity.now + j = ap (λ (k : ℕ). p.first / k + j) from in
      record {
        inside = inside;
        read = inv.most;
        few = omega (arith, few-blocks b, b.few);
        len = len;
        count = count;
        index = index;
        there = omega (arith, index, b.there j inside);
        small = omega (arith, size-small c p.data b.loaded, small-index b j inside, b.below, index);
        end = omega (arith, blocks-end b bytes (j + 1) len (omega (arith, inside)), add-mul j 1 p.verity.now.data_block);
      }

  -- after the last one
  pub checked-all : {chains : Chains} {r a j : ℕ} {bytes : List ℕ} {made : List (List ℕ)} {path : List CachedBlock} {old new : List Device} {before now : List FoundRecord} → AreChecked c p chains start r a j bytes made path old new before now
      → length start % 512 ≡ 0 → (j < length start / p.verity.now.data_block → ⊥) → ReadsSourceAs chains c (Blocks p) (length start / 512) (record { old = old; new = new; before = before; after = now }) (Ok bytes)
  checked-all {chains = chains} {r = r} {j = j} {bytes = bytes} {old = old} {new = new} {before = before} inv whole last =
      let all : j ≡ (length start / 512) / block_sectors p.verity.now = omega (arith, last, inv.within, digest-count b start (omega (arith, whole))) in
      let count : j * block_sectors p.verity.now ≡ (length start / 512) = ap (λ (k : ℕ). k * block_sectors p.verity.now) all ∙ b.count in
      let front : take (512 * (j * block_sectors p.verity.now)) bytes ≡ bytes = take_all (512 * (j * block_sectors p.verity.now)) bytes (omega (arith, inv.size, whole, count)) in
      let did : LeafRead = record { old = old; new = new; before = before; after = inv.after } in
      finds-as chains (blocks-read b did (Ok bytes) r j j inv.most inv.within inv.within inv.had.moved
      (subst (λ (k : ℕ). Finds (blocks_place c p (length start / 512)) c 0 k did (Ok bytes)) count (subst (λ (l : List ℕ). Finds (blocks_place c p (length start / 512)) c 0 (j * block_sectors p.verity.now) did (Ok l)) front inv.had.so_far)))
      inv.out inv.had.distinct

  -- ---- a turn

  module _ {s r j : ℕ} {bytes : List ℕ} (turn : IsTurn p start s r j bytes) where
    pub row-at : (many : ℕ) → j + many ≤ length start / p.verity.now.data_block → IsRow c p start j many bytes
    row-at many h =
        let a : ℕ = j * p.verity.now.data_block in
        let most : j + many ≤ (length start / 512) / block_sectors p.verity.now = omega (arith, h, turn.count) in
        let end : a + many * p.verity.now.data_block ≤ length bytes = omega (arith, blocks-end b bytes (j + many) turn.len most, add-mul j many p.verity.now.data_block) in
        let len : length (take (a + many * p.verity.now.data_block - a) (drop a bytes)) ≡ many * p.verity.now.data_block = length-take-le (a + many * p.verity.now.data_block - a) (drop a bytes) (omega (arith, end, length-drop a bytes)) ∙ sub-same a (many * p.verity.now.data_block) in
        record {
          most = most;
          few = omega (arith, most, turn.few);
          end = end;
          len = len;
          sectors = omega (arith, len, block-begin b many);
          whole = omega (arith, len, block-begin b many);
          inside = row-inside b j many most;
        }

    -- it ended in a fault on the way to the block
    pub way-fails : {did : LeafRead} {new : List Device} (fault : IoFault) → WereHad c p (length start / 512) r j bytes did → AreRead did.new (path_cost c p.verity.now) new → GetsChain (block_in c p.verity.now (p.first / s + j)) did.new new (Err fault)
        → ReadsSource c (Blocks p) (length start / 512) (record { old = did.old; new = new; before = did.before; after = did.after }) (Err fault)
    way-fails {did = did} {new = new} fault had moved got =
        let next : j + 1 ≤ (length start / 512) / block_sectors p.verity.now = omega (arith, turn.inside) in
        let below : j ≤ (length start / 512) / block_sectors p.verity.now = omega (arith, turn.inside) in
        let healed : ℕ = j * settled_cost (block_in c p.verity.now 0) in
        let most = total-cost b r (j + 1) j turn.read next below in
        let way = sum-way (r * block_sectors p.verity.now * (block_in c p.verity.now 0).on_data.cost) (path_cost c p.verity.now) j healed in
        let few : path_cost c p.verity.now ≤ (length start / 512) * read_cost c (mapped p.device.0) =
        le-sum (r * block_sectors p.verity.now * (block_in c p.verity.now 0).on_data.cost + j * path_cost c p.verity.now + healed) (path_cost c p.verity.now) ((length start / 512) * read_cost c (mapped p.device.0)) (subst (λ (k : ℕ). k ≤ (length start / 512) * read_cost c (mapped p.device.0)) (sym way) most) in
        let both : AreRead did.old (read_cost_so_far c p.verity.now (r * block_sectors p.verity.now) (j + 1) j) new = subst (λ (k : ℕ). AreRead did.old k new) way (AreRead-then had.moved moved) in
        blocks-read b (record { old = did.old; new = new; before = did.before; after = did.after }) (Err fault) r (j + 1) j turn.read next below both
        (blocks-stop b j turn.inside had.so_far moved few fault (subst (λ (k : ℕ). GetsChain (block_in c p.verity.now k) did.new new (Err fault)) turn.index got))

    pub way-costs : {did : LeafRead} {new : List Device} → WereHad c p (length start / 512) r j bytes did → AreRead did.new (path_cost c p.verity.now) new → ReadsAtMost (part_budget c p (length start / 512)) did.old new
    way-costs had moved = way-spent b r j turn.read turn.inside had.moved moved

    module _ {many : ℕ} (row : IsRow c p start j many bytes) where
      pub put-at : (bytes_of : List ℕ) → length bytes_of ≡ length (take (j * p.verity.now.data_block + many * p.verity.now.data_block - j * p.verity.now.data_block) (drop (j * p.verity.now.data_block) bytes)) → IsPut p start j many bytes bytes_of
      put-at bytes_of same =
          let a : ℕ = j * p.verity.now.data_block in
          let w : ℕ = a + many * p.verity.now.data_block - a in
          let fits : a ≤ length bytes = omega (arith, turn.end) in
          let wide : length bytes_of ≡ many * p.verity.now.data_block = same ∙ row.len in
          let len : length (put_mid a w bytes bytes_of) ≡ 512 * (length start / 512) = same_len_mid a w bytes bytes_of same ∙ turn.len in
          let some : 0 < p.verity.now.data_block = omega (arith, block-size b, b.size.some) in
          record {
            wide = wide;
            len = len;
            row_is = between-put_mid a w bytes bytes_of (a + many * p.verity.now.data_block) fits (wide ∙ sym (sub-same a (many * p.verity.now.data_block)));
            end = omega (arith, blocks-end b (put_mid a w bytes bytes_of) (j + 1) len (omega (arith, turn.inside)), add-mul j 1 p.verity.now.data_block);
            front = λ k low. take-put_mid_below a w bytes bytes_of k low fits;
            row_even = ap (λ (k : ℕ). k % p.verity.now.data_block) wide ∙ mul-mod_left many p.verity.now.data_block;
            row_count = ap (λ (k : ℕ). k / p.verity.now.data_block) wide ∙ mul-div_cancel many some;
          }

      -- what was read beneath, by its place and number
      pub row-got : {on : Lower} {e : Extent} {at new : List Device} {answer : Result (List ℕ) IoFault} → on ≡ p.data → IsExtent c on (block_sectors p.verity.now * (p.first / s + j)) (block_sectors p.verity.now) e
          → GetsBytes c on e.first (length (take (j * p.verity.now.data_block + many * p.verity.now.data_block - j * p.verity.now.data_block) (drop (j * p.verity.now.data_block) bytes)) / 512) at new answer
          → GetsBytes c p.data (block_sectors p.verity.now * (p.first / block_sectors p.verity.now + j)) (many * block_sectors p.verity.now) at new answer
      row-got {e = e} {at = at} {new = new} {answer = answer} same extent gets =
          let begin : e.first ≡ block_sectors p.verity.now * (p.first / block_sectors p.verity.now + j) = ap (λ (x : Extent). x.first) extent.value ∙ ap (λ (k : ℕ). block_sectors p.verity.now * k) turn.index in
          subst (λ (k : ℕ). GetsBytes c p.data (block_sectors p.verity.now * (p.first / block_sectors p.verity.now + j)) k at new answer) row.sectors
          (subst (λ (k : ℕ). GetsBytes c p.data k (length (take (j * p.verity.now.data_block + many * p.verity.now.data_block - j * p.verity.now.data_block) (drop (j * p.verity.now.data_block) bytes)) / 512) at new answer) begin
          (subst (λ (y : Lower). GetsBytes c y e.first (length (take (j * p.verity.now.data_block + many * p.verity.now.data_block - j * p.verity.now.data_block) (drop (j * p.verity.now.data_block) bytes)) / 512) at new answer) same gets))

      -- the way to the block was walked
      module _ (fresh : (many ≡ 0) ⊎ (r ≤ j)) {expected : List ℕ} {way : List (List ℕ)} {did : LeafRead} {walk : List Device} (had : WereHad c p (length start / 512) r j bytes did) (moved : AreRead did.new (path_cost c p.verity.now) walk)
          (walked : IsWalked (block_in c p.verity.now (p.first / s + j)) 0 expected way did.new walk) {new : List Device} {answer : Result (List ℕ) IoFault}
          (gets : GetsBytes c p.data (block_sectors p.verity.now * (p.first / block_sectors p.verity.now + j)) (many * block_sectors p.verity.now) walk new answer) where
        abbrev next_read : ℕ
        next_read = max r (j + many)

        more : r + many ≤ next_read
        more = elim fresh [ inl none ↦ omega (arith, none) | inr old ↦ omega (arith, old) ]

        pub far : next_read ≤ (length start / 512) / block_sectors p.verity.now
        far = omega (arith, turn.read, row.most)

        both-cost : read_cost_so_far c p.verity.now (r * block_sectors p.verity.now) j j + (path_cost c p.verity.now + many * block_sectors p.verity.now * read_cost c p.data) ≤ read_cost_so_far c p.verity.now (next_read * block_sectors p.verity.now) (j + 1) j
        both-cost =
            sum-row (r * block_sectors p.verity.now * (block_in c p.verity.now 0).on_data.cost) (many * block_sectors p.verity.now * (block_in c p.verity.now 0).on_data.cost) (next_read * block_sectors p.verity.now * (block_in c p.verity.now 0).on_data.cost) (path_cost c p.verity.now) j (many * block_sectors p.verity.now * read_cost c p.data) (j * settled_cost (block_in c p.verity.now 0))
            (cost-row r many next_read (block_sectors p.verity.now) (block_in c p.verity.now 0).on_data.cost more) (ap (λ (k : ℕ). many * block_sectors p.verity.now * k) (sym (cost b)))

        rest-cost : path_cost c p.verity.now + many * block_sectors p.verity.now * read_cost c p.data ≤ read_cost_so_far c p.verity.now (next_read * block_sectors p.verity.now) (j + 1) j
        rest-cost = le-sum (read_cost_so_far c p.verity.now (r * block_sectors p.verity.now) j j) (path_cost c p.verity.now + many * block_sectors p.verity.now * read_cost c p.data) (read_cost_so_far c p.verity.now (next_read * block_sectors p.verity.now) (j + 1) j) both-cost

        all-moved : AreRead did.old (read_cost_so_far c p.verity.now (next_read * block_sectors p.verity.now) (j + 1) j) new
        all-moved = AreRead-more both-cost (AreRead-then had.moved (AreRead-then moved gets.got.moved))

        rest-moved : AreRead did.new (read_cost_so_far c p.verity.now (next_read * block_sectors p.verity.now) (j + 1) j) new
        rest-moved = AreRead-more rest-cost (AreRead-then moved gets.got.moved)

        pub row-costs : ReadsAtMost (part_budget c p (length start / 512)) did.old new
        row-costs = row-spent b r j many turn.read turn.inside row.most fresh had.moved moved gets.got.moved

        pub row-next : IsNext c p (length start / 512) next_read j j bytes expected way (record { old = did.old; new = new; before = did.before; after = did.after })
        row-next = record {
          mid = did.new;
          here = walk;
          ways = read_cost_so_far c p.verity.now (r * block_sectors p.verity.now) j j + path_cost c p.verity.now;
          so_far = had.so_far;
          walked = subst (λ (k : ℕ). IsWalked (block_in c p.verity.now k) 0 expected way did.new walk) turn.index walked;
          later = AreRead-then had.moved moved;
          moved = all-moved;
          rest = rest-moved;
          before = had.before;
          distinct = had.distinct;
        }

      -- and the read of the data after it failed
      pub row-fails : (fresh : (many ≡ 0) ⊎ (r ≤ j)) {expected : List ℕ} {way : List (List ℕ)} {did : LeafRead} {walk new : List Device} (fault : IoFault) (had : WereHad c p (length start / 512) r j bytes did) (moved : AreRead did.new (path_cost c p.verity.now) walk)
          (walked : IsWalked (block_in c p.verity.now (p.first / s + j)) 0 expected way did.new walk) → GetsBytes c p.data (block_sectors p.verity.now * (p.first / block_sectors p.verity.now + j)) (many * block_sectors p.verity.now) walk new (Err fault)
          → ReadsSource c (Blocks p) (length start / 512) (record { old = did.old; new = new; before = did.before; after = did.after }) (Err fault)
      row-fails fresh {did = did} {new = new} fault had moved walked gets =
          let to : ℕ = max r (j + many) in
          let next : j + 1 ≤ (length start / 512) / block_sectors p.verity.now = omega (arith, turn.inside) in
          let end = far fresh had moved walked gets in
          let below : j ≤ (length start / 512) / block_sectors p.verity.now = omega (arith, turn.inside) in
          blocks-read b (record { old = did.old; new = new; before = did.before; after = did.after }) (Err fault) to (j + 1) j end next below (all-moved fresh had moved walked gets)
          (row-stops b j turn.inside had.so_far (rest-moved fresh had moved walked gets) (total-cost b to (j + 1) j end next below) gets.chains fault moved gets.got)

      -- the blocks as far as that are stored there as they were read
      module _ (fresh : (many ≡ 0) ⊎ (r ≤ j)) {did : LeafRead} {walk new : List Device} {content_of : List ℕ} {digests : List (List ℕ)} (made : List (List ℕ)) (had : WereHad c p (length start / 512) r j bytes did) (moved : AreRead did.new (path_cost c p.verity.now) walk)
          (gets : GetsBytes c p.data (block_sectors p.verity.now * (p.first / block_sectors p.verity.now + j)) (many * block_sectors p.verity.now) walk new (Ok content_of)) (whole : AllWhole walk) (room : length made ≡ 2048) (ahead : AreReadAhead c p j r bytes made did.old)
          (put : IsPut p start j many bytes content_of) (are : digests ≡ map (digest p.verity.now.salt) (cut p.verity.now.data_block (take (j * p.verity.now.data_block + many * p.verity.now.data_block - j * p.verity.now.data_block) (drop (j * p.verity.now.data_block) (put_mid (j * p.verity.now.data_block) (j * p.verity.now.data_block + many * p.verity.now.data_block - j * p.verity.now.data_block) bytes content_of))))) where
        abbrev u : ℕ
        u = block_sectors p.verity.now

        abbrev a : ℕ
        a = j * p.verity.now.data_block

        abbrev w : ℕ
        w = j * p.verity.now.data_block + many * p.verity.now.data_block - j * p.verity.now.data_block

        row-some : 0 < block_sectors p.verity.now
        row-some = omega (arith, b.size.some)

        row-fits : j * p.verity.now.data_block ≤ length bytes
        row-fits = omega (arith, turn.end)

        wide : length content_of ≡ w
        wide = put.wide ∙ sym (sub-same (j * p.verity.now.data_block) (many * p.verity.now.data_block))

        digests-are : digests ≡ map (digest p.verity.now.salt) (cut p.verity.now.data_block content_of)
        digests-are = are ∙ ap (λ (l : List ℕ). map (digest p.verity.now.salt) (cut p.verity.now.data_block l)) put.row_is

        digests-count : length digests ≡ many
        digests-count = ap (λ (l : List (List ℕ)). length l) digests-are ∙ ap (λ (s : ℕ). length (map (digest p.verity.now.salt) (cut s content_of))) (sym (block-size b)) ∙ cell-count content_of (block_sectors p.verity.now) many row-some gets.got.may.len p.verity.now.salt

        of-row : (k : ℕ) → j ≤ k → k < j + many → (x : List ℕ) → IsRead c p did.old k (take (512 * block_sectors p.verity.now) (drop (512 * (k * block_sectors p.verity.now)) (put_mid a w bytes content_of))) (get_or (put_mid j (j + many - j) made digests) k x)
        of-row k low near x =
            let t : ℕ = k - j in
            let at_k : k ≡ j + t = omega (arith, low) in
            let here : t < many = omega (arith, near, low) in
            let up : (t + 1) * u ≤ many * u = mul-le-mul_right u (omega (arith, here)) in
            let room_in : t * u + u ≤ many * u = omega (arith, up, add-mul t 1 u) in
            let begin : 512 * (k * u) ≡ a + 512 * (t * u) = omega (arith, block-begin b j, ap (λ (i : ℕ). i * u) at_k, add-mul j t u) in
            let block : take (512 * u) (drop (512 * (k * u)) (put_mid a w bytes content_of)) ≡ take (512 * u) (drop (512 * (t * u)) content_of) =
            ap (λ (i : ℕ). take (512 * u) (drop i (put_mid a w bytes content_of))) begin ∙ part-put a w bytes content_of row-fits (512 * (t * u)) (512 * u) (omega (arith, room_in, gets.got.may.len)) in
            let made_k : get_or (put_mid j (j + many - j) made digests) k x ≡ digest p.verity.now.salt (take (512 * u) (drop (512 * (t * u)) content_of)) =
            ap (λ (i : ℕ). get_or (put_mid j (j + many - j) made digests) i x) at_k
            ∙ item-put j (j + many - j) made digests (omega (arith, room, row.few)) t x (omega (arith, here, digests-count))
            ∙ ap (λ (l : List (List ℕ)). get_or l t x) digests-are ∙ ap (λ (s : ℕ). get_or (map (digest p.verity.now.salt) (cut s content_of)) t x) (sym (block-size b)) ∙ cell-digest content_of u many row-some gets.got.may.len p.verity.now.salt t x here in
            let is_read : IsRead c p did.old k (take (512 * u) (drop (512 * (t * u)) content_of)) (get_or (put_mid j (j + many - j) made digests) k x) = record {
              from = walk;
              ways = _;
              first = AreRead-then had.moved moved;
              means = λ steady agrees.
                  let f : ℕ → Outcome = λ s. ((place_of c p.data).said s).means (steady_images walk) in
                  let sized : AreSized f = λ s. sector-size c (steady_images walk) b.loaded (images-whole walk whole) p.data s in
                  let all : t * u + (u + (many * u - (t * u + u))) ≡ many * u = omega (arith, room_in) in
                  let begins : block_sectors p.verity.now * (p.first / block_sectors p.verity.now + j) + t * u ≡ p.first + k * u = omega (arith, place b j, ap (λ (i : ℕ). i * u) at_k, add-mul j t u) in
                  ap (λ (i : ℕ). span f i u) (sym begins)
                  ∙ span-part f sized (block_sectors p.verity.now * (p.first / block_sectors p.verity.now + j)) (t * u) u (many * u - (t * u + u)) content_of (ap (span f (block_sectors p.verity.now * (p.first / block_sectors p.verity.now + j))) all ∙ gets.got.exact (record { steady = steady; agrees = λ meets. agrees }));
              made_is = made_k;
            } in
            subst (λ (l : List ℕ). IsRead c p did.old k l (get_or (put_mid j (j + many - j) made digests) k x)) (sym block) is_read

        of-before : (k : ℕ) → j + many ≤ k → k < max r (j + many) → (x : List ℕ) → IsRead c p did.old k (take (512 * block_sectors p.verity.now) (drop (512 * (k * block_sectors p.verity.now)) (put_mid a w bytes content_of))) (get_or (put_mid j (j + many - j) made digests) k x)
        of-before k high below x =
            let up : (j + many) * u ≤ k * u = mul-le-mul_right u high in
            let past : a + w ≤ 512 * (k * u) = omega (arith, block-begin b j, block-begin b many, up, add-mul j many u) in
            let block = rest-put a w bytes content_of row-fits (512 * (k * u)) (512 * u) past wide in
            let count : length digests ≡ j + many - j = digests-count ∙ sym (sub-same j many) in
            let same : get_or (put_mid j (j + many - j) made digests) k x ≡ get_or made k x = item-rest j (j + many - j) made digests (omega (arith, room, row.few)) k x (omega (arith, high)) count in
            subst (λ (l : List ℕ). IsRead c p did.old k l (get_or (put_mid j (j + many - j) made digests) k x)) (sym block)
            (subst (λ (y : List ℕ). IsRead c p did.old k (take (512 * u) (drop (512 * (k * u)) bytes)) y) (sym same) (ahead k (omega (arith, high)) (omega (arith, below, high)) x))

        pub row-ahead : AreReadAhead c p j (max r (j + many)) (put_mid a w bytes content_of) (put_mid j (j + many - j) made digests) did.old
        row-ahead k low below x = elim (cases_lt k (j + many)) [
          | inl near ↦ of-row k low near x
          | inr high ↦ of-before k high below x
        ]

      -- and stay so, unless the read of the row failed, and they are read alone
      pub row-kept : (fresh : (many ≡ 0) ⊎ (r ≤ j)) (lost : Option IoFault) {a : ℕ} {did : LeafRead} {walk new : List Device} {content_of : List ℕ} {digests : List (List ℕ)} (made : List (List ℕ)) → ((fault : IoFault) → lost ≡ Some fault → IsHealed p.verity.now.parity fault)
          → WereHad c p (length start / 512) r j bytes did → AreRead did.new (path_cost c p.verity.now) walk
          → GetsBytes c p.data (block_sectors p.verity.now * (p.first / block_sectors p.verity.now + j)) (many * block_sectors p.verity.now) walk new (row_answer (Ok lost) content_of) → AllWhole walk → length made ≡ 2048 → IsAhead c p r a j bytes made did.old
          → IsPut p start j many bytes content_of → digests ≡ map (digest p.verity.now.salt) (cut p.verity.now.data_block (take (j * p.verity.now.data_block + many * p.verity.now.data_block - j * p.verity.now.data_block) (drop (j * p.verity.now.data_block) (put_mid (j * p.verity.now.data_block) (j * p.verity.now.data_block + many * p.verity.now.data_block - j * p.verity.now.data_block) bytes content_of))))
          → IsAhead c p (max r (j + many)) (alone_after lost (max r (j + many)) a) j (put_mid (j * p.verity.now.data_block) (j * p.verity.now.data_block + many * p.verity.now.data_block - j * p.verity.now.data_block) bytes content_of) (put_mid j (j + many - j) made digests) did.old
      row-kept fresh None made heals had moved gets whole room kept put are = record {
        ahead = λ low. row-ahead fresh made had moved gets whole room (kept.ahead low) put are;
        lone = λ low. elim fresh [ inl none ↦ omega (arith, none, low, kept.lone low) | inr old ↦ absurd (omega (arith, old, low, kept.lone low)) ];
        heals = kept.heals;
      }
      row-kept fresh (Some fault) made heals had moved gets whole room kept put are = record {
        ahead = λ low k from below x. absurd (omega (arith, low, from, below));
        lone = λ low. refl;
        heals = λ some. heals-some p.verity.now.parity fault (heals fault refl);
      }
