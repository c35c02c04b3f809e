-- What parity restores in place of a block of a `verity` line that isn't readable or fails verification: the sum, by
-- exclusive-or, of the other blocks of its round and of the round's parity.
use Rattle.std.specs.Prelude.{◌≡◌, ◌≢◌, ℕ, zero, suc, ◌+◌, ◌-◌, ◌*◌, ◌/◌, ◌%◌, ◌<◌, ◌≤◌, ◌==◌, nat_lt, List, map, length, slice_index, bit_xor, Ok, Err, if◌then◌else◌}
use Rattle.std.specs.List.{range_with_len}
use Rattle.reed_solomon.specs.Field.{total}
use Rattle.reed_solomon.specs.Sums.{part_sum}
use Rattle.tree_shape.specs.Shape.{area_blocks}
use Rattle.tree_shape.specs.Digests.{digest}
use Rattle.dm_table.specs.declared.parity.Parity.{Parity}
use Rattle.dm_table.specs.declared.verity.Verity.{Verity}
use Rattle.stack_rules.specs.Trees.{block_sectors, round_count, tree_of, zero_block}
use Rattle.stack_meaning.specs.declared.fault.Fault.{Fault}
use Rattle.stack_meaning.specs.Outcomes.{Outcome, span, then_outcome}
use Rattle.stack_meaning.specs.Checked.{checked}

-- the sectors of the three devices of a line
pub record BlockSources : Type 0 where
  pub on_data : ℕ → Outcome
  pub on_hash : ℕ → Outcome
  pub on_parity : ℕ → Outcome

-- a block, or its spare; if both fail, the fault is that of the block
abbrev pub healed_outcome : Outcome → Outcome → Outcome
healed_outcome (Ok block) spare = Ok block
healed_outcome (Err fault) (Ok block) = Ok block
healed_outcome (Err fault) (Err other) = Err fault

-- the first sector of covered block j on its device: the data blocks, then the blocks of the hash device from the
-- beginning of the tree on
abbrev pub covered_start : Verity → ℕ → ℕ
covered_start v j = if nat_lt j v.blocks then block_sectors v * j else block_sectors v * (v.start + (j - v.blocks))

-- how many blocks are verified: the data blocks and the hash blocks, which are covered in this order
abbrev pub verified_blocks : Verity → ℕ
verified_blocks v = v.blocks + area_blocks (tree_of v)

-- the sectors of the device of covered block j
abbrev pub covered_source : Verity → BlockSources → ℕ → ℕ → Outcome
covered_source v below j = if nat_lt j v.blocks then below.on_data else below.on_hash

abbrev pub covered_block : Verity → BlockSources → ℕ → Outcome
covered_block v below j = span (covered_source v below j) (covered_start v j) (block_sectors v)

-- the number of the covered block at position i of round n
abbrev pub place_number : Parity → ℕ → ℕ → ℕ
place_number p n i = i * round_count p + n

-- the block at position i of round n; zeros at the position of the lost block, and after the last covered block
abbrev pub round_block : Verity → Parity → BlockSources → ℕ → ℕ → ℕ → Outcome
round_block v p below n lost i =
    if i == lost then Ok (zero_block v)
    else if nat_lt (place_number p n i) p.blocks then covered_block v below (place_number p n i)
    else Ok (zero_block v)

-- two blocks of one size, added byte by byte
abbrev pub added_block : List ℕ → List ℕ → List ℕ
added_block sums block = map (λ c. bit_xor (slice_index sums c) (slice_index block c)) (range_with_len 0 (length sums))

-- the sum of a first block and the blocks at the first m positions, or the fault of the first of them that has one
unfoldable pub summed_blocks : List ℕ → (ℕ → Outcome) → ℕ → Outcome
summed_blocks first at zero = Ok first
summed_blocks first at (suc m) = then_outcome (summed_blocks first at m) (λ sums. then_outcome (at m) (λ block. Ok (added_block sums block)))

-- to byte c of the sum, the bytes of parity of codeword c were added
abbrev pub with_parity : ℕ → List ℕ → List ℕ → List ℕ
with_parity roots sums parity = map (λ c. bit_xor (slice_index sums c) (part_sum roots parity c)) (range_with_len 0 (length sums))

-- the first sector of the parity of round n on its device
abbrev pub parity_start : Verity → Parity → ℕ → ℕ
parity_start v p n = block_sectors v * (p.start + n * p.roots)

-- the stored parity of round n
abbrev pub round_parity : Verity → Parity → BlockSources → ℕ → Outcome
round_parity v p below n = span below.on_parity (parity_start v p n) (block_sectors v * p.roots)

-- covered block j by the other blocks of its round and then its parity, or the fault of the first of them that has one
abbrev pub restored_block : Verity → Parity → BlockSources → ℕ → Outcome
restored_block v p below j =
    then_outcome (summed_blocks (zero_block v) (round_block v p below (j % round_count p) (j / round_count p)) (255 - p.roots))
    (λ sums. then_outcome (round_parity v p below (j % round_count p)) (λ parity. Ok (with_parity p.roots sums parity)))

-- that block if it has the expected digest
abbrev pub spare_block : Verity → Parity → BlockSources → ℕ → List ℕ → Outcome
spare_block v p below j expected = then_outcome (restored_block v p below j) (checked v.salt expected)

-- ---- laws

-- byte c of the former block at position i of round n; 0 after the last covered block
abbrev pub former_byte : Parity → (ℕ → List ℕ) → ℕ → ℕ → ℕ → ℕ
former_byte p former n c i = if nat_lt (place_number p n i) p.blocks then slice_index (former (place_number p n i)) c else 0

-- the former blocks of a round have the size of a block, and with the parity of the round they sum to zeros
pub record IsFormerRound (v : Verity) (p : Parity) (former : ℕ → List ℕ) (n : ℕ) (parity : List ℕ) : Type 0 where
  pub sizes : (j : ℕ) → j < p.blocks → length (former j) ≡ v.data_block
  pub sums : (c : ℕ) → c < v.data_block → bit_xor (total (former_byte p former n c) (255 - p.roots)) (part_sum p.roots parity c) ≡ 0

-- of the round of covered block j, the other blocks are the former ones, and the parity is readable
pub record IsWholeBeside (v : Verity) (p : Parity) (below : BlockSources) (former : ℕ → List ℕ) (j : ℕ) (parity : List ℕ) : Type 0 where
  pub others : (k : ℕ) → k < p.blocks → k % round_count p ≡ j % round_count p → k ≢ j → covered_block v below k ≡ Ok (former k)
  pub stored : round_parity v p below (j % round_count p) ≡ Ok parity

-- if one block of a round is lost, its spare is the former block
abbrev pub OneLostBlockIsRestored : Type 0
OneLostBlockIsRestored =
    (v : Verity) → (p : Parity) → p.roots ≤ 24 → (below : BlockSources) → (former : ℕ → List ℕ) → (parity : List ℕ) → (j : ℕ) → j < p.blocks
    → IsFormerRound v p former (j % round_count p) parity → IsWholeBeside v p below former j parity
    → spare_block v p below j (digest v.salt (former j)) ≡ Ok (former j)

-- healing changes no block that is readable and verified, and if it fails, the fault is that of the block
pub record KeepsBlock (own spare : Outcome) : Type 0 where
  pub block : (bytes : List ℕ) → own ≡ Ok bytes → healed_outcome own spare ≡ Ok bytes
  pub fault : (why : Fault) → healed_outcome own spare ≡ Err why → own ≡ Err why

abbrev pub HealingKeepsBlocks : Type 0
HealingKeepsBlocks = (own spare : Outcome) → KeepsBlock own spare
