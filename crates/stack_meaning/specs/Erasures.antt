-- Which blocks of a round are lost, by the digests that the hash blocks store; and what the Reed-Solomon code restores in their place,
-- if they are no more than a codeword has bytes of parity.
use Rattle.std.specs.Prelude.{◌≡◌, ◌≢◌, ◌⊎◌, ℕ, zero, suc, ◌+◌, ◌-◌, ◌*◌, ◌/◌, ◌%◌, ◌^◌, ◌<◌, ◌≤◌, ◌==◌, nat_lt, Bool, true, false, not, ◌&&◌, List, [], ◌∷◌, ◌++◌, map, length, slice_index, EachIndex, bit_xor, Option, Some, None, Ok, Err, if◌then◌else◌}
use Rattle.std.specs.List.{list_any, range_with_len}
use Rattle.std.specs.Str.{bytes_eq}
use Rattle.reed_solomon.specs.Code.{IsCodeword}
use Rattle.reed_solomon.specs.Factors.{erasure_factor}
use Rattle.reed_solomon.specs.Field.{field_product}
use Rattle.reed_solomon.specs.Laws.{AreDistinct, selected}
use Rattle.reed_solomon.specs.Sums.{part_combination}
use Rattle.tree_shape.specs.Shape.{ShapeRecord, level_blocks, levels, per_block}
use Rattle.tree_shape.specs.Digests.{digest}
use Rattle.dm_table.specs.declared.parity.Parity.{Parity}
use Rattle.dm_table.specs.declared.verity.Verity.{Verity}
use Rattle.stack_rules.specs.Trees.{round_count, tree_of, zero_block}
use Rattle.stack_meaning.specs.Outcomes.{Outcome, changed_outcome, mismatch, then_outcome}
use Rattle.stack_meaning.specs.Checked.{checked, checked_span}
use Rattle.stack_meaning.specs.Paths.{hash_sectors, hash_start, next_digest}
use Rattle.stack_meaning.specs.Spares.{BlockSources, covered_block, former_byte, healed_outcome, place_number, round_parity, spare_block, summed_blocks}

-- ---- the digest of a covered block

-- a verified block: it is on the path to that data block, beneath so many hash blocks
pub record PathEnd : Type 0 where
  pub index : ℕ
  pub above : ℕ

-- hash block m of the lowest n levels, counted from the top one of these on, as the tree is stored
unfoldable pub tree_block : ShapeRecord → ℕ → ℕ → Option PathEnd
tree_block s zero m = None
tree_block s (suc l) m =
    if nat_lt m (level_blocks s l) then Some (record { index = m * per_block s ^ (l + 1); above = levels s - (l + 1) })
    else tree_block s l (m - level_blocks s l)

-- covered block k; none if it is neither a data block nor one of the tree
abbrev pub path_end : Verity → ℕ → Option PathEnd
path_end v k =
    if nat_lt k v.blocks then Some (record { index = k; above = levels (tree_of v) })
    else tree_block (tree_of v) (levels (tree_of v)) (k - v.blocks)

-- the digest that is expected beneath the first n hash blocks on the path to data block i, if each of these has its own digest as it
-- is stored
unfoldable pub digest_beneath : Verity → BlockSources → ℕ → ℕ → Outcome
digest_beneath v below i zero = Ok v.root
digest_beneath v below i (suc n) =
    then_outcome (digest_beneath v below i n)
    (λ expected. changed_outcome (next_digest v (levels (tree_of v) - suc n) i) (checked_span below.on_hash (hash_start v (levels (tree_of v) - suc n) i) (hash_sectors v) v.salt expected))

abbrev pub digest_at : Verity → BlockSources → Option PathEnd → Outcome
digest_at v below None = Err mismatch
digest_at v below (Some end) = digest_beneath v below end.index end.above

-- the digest that is expected of covered block k, if it is known
abbrev pub known_digest : Verity → BlockSources → ℕ → Outcome
known_digest v below k = digest_at v below (path_end v k)

-- ---- lost blocks

-- a block is lost if it isn't readable, or has another digest than the known one
abbrev pub is_lost_by : List ℕ → Outcome → Outcome → Bool
is_lost_by salt (Err fault) known = true
is_lost_by salt (Ok block) (Err fault) = false
is_lost_by salt (Ok block) (Ok expected) = not (bytes_eq (digest salt block) expected)

-- covered block k, as it is stored
abbrev pub is_lost : Verity → BlockSources → ℕ → Bool
is_lost v below k = is_lost_by v.salt (covered_block v below k) (known_digest v below k)

-- position i of the round of covered block j has another block, and that one is lost
abbrev pub is_lost_beside : Verity → Parity → BlockSources → ℕ → ℕ → Bool
is_lost_beside v p below j i =
    not (i == j / round_count p) && (nat_lt (place_number p (j % round_count p) i) p.blocks && is_lost v below (place_number p (j % round_count p) i))

-- the position of covered block j, and those of the other lost blocks at the first m positions of its round
unfoldable pub lost_places : Verity → Parity → BlockSources → ℕ → ℕ → List ℕ
lost_places v p below j zero = j / round_count p ∷ []
lost_places v p below j (suc m) =
    if is_lost_beside v p below j m then lost_places v p below j m ++ (m ∷ []) else lost_places v p below j m

-- of all positions
abbrev pub round_losses : Verity → Parity → BlockSources → ℕ → List ℕ
round_losses v p below j = lost_places v p below j (255 - p.roots)

-- ---- what the code restores

abbrev pub is_among : List ℕ → ℕ → Bool
is_among places i = list_any (λ k. k == i) places

-- the block at position i of round n; zeros at lost positions, and after the last covered block
abbrev pub kept_block : Verity → Parity → BlockSources → ℕ → List ℕ → ℕ → Outcome
kept_block v p below n lost i =
    if is_among lost i then Ok (zero_block v)
    else if nat_lt (place_number p n i) p.blocks then covered_block v below (place_number p n i)
    else Ok (zero_block v)

-- each byte of a block times a factor
abbrev pub scaled_block : ℕ → List ℕ → List ℕ
scaled_block factor block = map (field_product factor) block

-- to byte c of the sum, the bytes of parity of codeword c were added, each times its factor
abbrev pub with_scaled_parity : (ℕ → ℕ) → ℕ → List ℕ → List ℕ → List ℕ
with_scaled_parity factor roots sums parity = map (λ c. bit_xor (slice_index sums c) (part_combination factor roots parity c)) (range_with_len 0 (length sums))

-- covered block j as the sum of the blocks of its round that aren't at lost positions and of the parity, each times the factor of its
-- position; or the fault of the first of them that has one
abbrev pub decoded_block : Verity → Parity → BlockSources → ℕ → List ℕ → Outcome
decoded_block v p below j lost =
    then_outcome (summed_blocks (zero_block v) (λ i. changed_outcome (scaled_block (erasure_factor lost (j / round_count p) i)) (kept_block v p below (j % round_count p) lost i)) (255 - p.roots))
    (λ sums. then_outcome (round_parity v p below (j % round_count p)) (λ parity. Ok (with_scaled_parity (λ k. erasure_factor lost (j / round_count p) (255 - p.roots + k)) p.roots sums parity)))

-- unless more blocks are lost than a codeword has bytes of parity
abbrev pub erasures_by : Verity → Parity → BlockSources → ℕ → List ℕ → Outcome
erasures_by v p below j lost = if nat_lt p.roots (length lost) then Err mismatch else decoded_block v p below j lost

-- covered block j by the lost blocks of its round as erasures, if it has the expected digest
abbrev pub erasure_spare : Verity → Parity → BlockSources → ℕ → List ℕ → Outcome
erasure_spare v p below j expected = then_outcome (erasures_by v p below j (round_losses v p below j)) (checked v.salt expected)

-- the spare of covered block j: by exclusive-or, as if it were the only lost block of its round, or else by erasures
abbrev pub round_spare : Verity → Parity → BlockSources → ℕ → List ℕ → Outcome
round_spare v p below j expected = healed_outcome (spare_block v p below j expected) (erasure_spare v p below j expected)

-- the spare of covered block j; without parity there is none
abbrev pub covered_spare : Verity → BlockSources → Option Parity → ℕ → List ℕ → Outcome
covered_spare v below None j expected = Err mismatch
covered_spare v below (Some p) j expected = round_spare v p below j expected

-- ---- laws

-- codeword c of round n: byte c of each former block, and the parity
abbrev pub former_word : Parity → (ℕ → List ℕ) → ℕ → List ℕ → ℕ → List ℕ
former_word p former n parity c =
    map (λ i. if nat_lt i (255 - p.roots) then former_byte p former n c i else slice_index parity (c * p.roots + (i - (255 - p.roots)))) (range_with_len 0 255)

-- the former blocks of a round have the size of a block, and with the parity of the round they are codewords
pub record IsFormerCode (v : Verity) (p : Parity) (former : ℕ → List ℕ) (n : ℕ) (parity : List ℕ) : Type 0 where
  pub sizes : (j : ℕ) → j < p.blocks → length (former j) ≡ v.data_block
  pub words : (c : ℕ) → c < v.data_block → IsCodeword p.roots (former_word p former n parity c)

-- of the round of covered block j, each block is at a lost position or the former one, and the parity is readable
pub record IsKeptElsewhere (v : Verity) (p : Parity) (below : BlockSources) (former : ℕ → List ℕ) (j : ℕ) (parity lost : List ℕ) : Type 0 where
  pub own : is_among lost (j / round_count p) ≡ true
  pub inside : (i : ℕ) → is_among lost i ≡ true → i < 255 - p.roots
  pub others : (k : ℕ) → k < p.blocks → k % round_count p ≡ j % round_count p → is_among lost (k / round_count p) ≡ false → covered_block v below k ≡ Ok (former k)
  pub stored : round_parity v p below (j % round_count p) ≡ Ok parity

-- if the lost positions are no more than a codeword has bytes of parity, the code restores the former block
abbrev pub ErasuresAreDecoded : Type 0
ErasuresAreDecoded =
    (v : Verity) → (p : Parity) → p.roots ≤ 24 → (below : BlockSources) → (former : ℕ → List ℕ) → (parity lost : List ℕ) → (j : ℕ) → j < p.blocks
    → length lost ≤ p.roots → IsFormerCode v p former (j % round_count p) parity → IsKeptElsewhere v p below former j parity lost
    → decoded_block v p below j lost ≡ Ok (former j)

-- Each other block of the round of covered block j has the known digest of the former one, or is the former one. At most as many
-- blocks of the round are lost as a codeword has bytes of parity, which are readable.
pub record IsKnownBeside (v : Verity) (p : Parity) (below : BlockSources) (former : ℕ → List ℕ) (j : ℕ) (parity : List ℕ) : Type 0 where
  pub others : (k : ℕ) → k < p.blocks → k % round_count p ≡ j % round_count p → k ≢ j → (known_digest v below k ≡ Ok (digest v.salt (former k))) ⊎ (covered_block v below k ≡ Ok (former k))
  pub few : length (round_losses v p below j) ≤ p.roots
  pub stored : round_parity v p below (j % round_count p) ≡ Ok parity

-- Blocks that the code restored at lost positions of round n, of which those that aren't kept as lost are stored so: at the others it
-- restores the same if these alone are lost.
abbrev pub FewerLossesRestoreTheSame : Type 0
FewerLossesRestoreTheSame =
    (v : Verity) → (p : Parity) → p.roots ≤ 24 → (below : BlockSources) → (n : ℕ) → n < round_count p → (lost : List ℕ) → (keep : ℕ → Bool) → (block : ℕ → List ℕ)
    → AreDistinct lost → EachIndex lost (λ k. slice_index lost k < 255 - p.roots)
    → EachIndex lost (λ k. decoded_block v p below (place_number p n (slice_index lost k)) lost ≡ Ok (block (slice_index lost k)))
    → EachIndex lost (λ k. keep (slice_index lost k) ≡ false → kept_block v p below n [] (slice_index lost k) ≡ Ok (block (slice_index lost k)))
    → EachIndex (selected keep lost (length lost)) (λ k. decoded_block v p below (place_number p n (slice_index (selected keep lost (length lost)) k)) (selected keep lost (length lost)) ≡ Ok (block (slice_index (selected keep lost (length lost)) k)))

-- another block has the digest of this one
pub record SharesDigest (salt block : List ℕ) : Type 0 where
  pub other : List ℕ
  pub differs : other ≢ block
  pub same : digest salt other ≡ digest salt block

-- then the spare is the former block, or another block has the digest of a former block of the round
abbrev pub LostBlocksAreRestored : Type 0
LostBlocksAreRestored =
    (v : Verity) → (p : Parity) → p.roots ≤ 24 → (below : BlockSources) → (former : ℕ → List ℕ) → (parity : List ℕ) → (j : ℕ) → j < p.blocks
    → IsFormerCode v p former (j % round_count p) parity → IsKnownBeside v p below former j parity
    → (round_spare v p below j (digest v.salt (former j)) ≡ Ok (former j)) ⊎ ((k : ℕ) × (k < p.blocks) × (k % round_count p ≡ j % round_count p) × SharesDigest v.salt (former k))

-- a block that is healed has the expected digest
abbrev pub HealedBlocksAreVerified : Type 0
HealedBlocksAreVerified =
    (v : Verity) → (p : Parity) → (below : BlockSources) → (at : ℕ → Outcome) → (first n j : ℕ) → (expected bytes : List ℕ)
    → healed_outcome (checked_span at first n v.salt expected) (round_spare v p below j expected) ≡ Ok bytes → digest v.salt bytes ≡ expected
