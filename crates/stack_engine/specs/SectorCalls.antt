-- Which calls on the devices of leaves a read and a write of sectors make, whatever the devices answer: which sectors of which
-- leaves, in which order, with which bytes, and none after the first that failed. A device is accessed by its longest runs,
-- and a leaf by one call for each run.
use Rattle.std.specs.Prelude.{◌≡◌, ◌⊎◌, ℕ, zero, suc, ◌+◌, ◌-◌, ◌*◌, ◌/◌, ◌%◌, ◌<◌, ◌≤◌, ◌==◌, nat_lt, Bool, true, false, if◌then◌else◌, List, [], ◌∷◌, ◌++◌, length, take, drop, replicate, Option, Some, None, option_map, Result, Ok, Err, IfErr}
use Rattle.hash_tree.specs.Chain.{ChainRecord, IsGood}
use Rattle.tree_shape.specs.Digests.{digest, digest_in}
use Rattle.tree_shape.specs.Shape.{levels, slot, ancestor}
use Rattle.block_device.specs.Call.{Call, Read, Write}
use Rattle.dm_table.specs.declared.parity.Parity.{Parity}
use Rattle.dm_table.specs.declared.verity.Verity.{Verity}
use Rattle.stack_rules.specs.declared.lower.Lower.{Lower}
use Rattle.stack_rules.specs.declared.lower.Lower.TheVariants.{Leaf}
use Rattle.stack_rules.specs.Names.{mapped}
use Rattle.stack_rules.specs.Records.{Configuration}
use Rattle.stack_rules.specs.Trees.{tree_of, block_sectors, round_count, zero_block}
use Rattle.stack_meaning.specs.Blocks.{covered_hash, hash_sectors, hash_start, next_digest, is_ignored}
use Rattle.stack_meaning.specs.declared.fault.Fault.{Fault}
use Rattle.stack_meaning.specs.declared.fault.Fault.TheVariants as why
use Rattle.stack_meaning.specs.Erasures.{PathEnd, is_among, path_end}
use Rattle.stack_meaning.specs.declared.fault.IoFault.{IoFault}
use Rattle.stack_meaning.specs.declared.fault.IoFault.TheVariants as io
use Rattle.stack_meaning.specs.Meaning.{said_at}
use Rattle.stack_meaning.specs.Spares.{added_block, covered_start, parity_start, place_number, with_parity}
use Rattle.stack_meaning.specs.Units.{per_unit, unit_first, encrypted_units, decrypted_units}
use Rattle.stack_lines.specs.declared.source.CryptPart.{CryptPart}
use Rattle.stack_lines.specs.declared.source.Run.{Run}
use Rattle.stack_lines.specs.declared.source.Source.{Source}
use Rattle.stack_lines.specs.declared.source.Source.TheVariants.{Below, Units, UnitPart, Zeros, Fails, Block, Blocks}
use Rattle.stack_lines.specs.declared.source.VerityPart.{VerityPart}
use Rattle.stack_lines.specs.declared.tree.Extent.{Extent}
use Rattle.stack_lines.specs.declared.tree.Tree.{Tree}
use Rattle.stack_lines.specs.Runs.{IsRunAt}
use Rattle.stack_lines.specs.Sources.{from_unit}
use Rattle.stack_lines.specs.Walks.{IsBlockOfDigest}
use Rattle.stack_lines.specs.Writing.{SomeEncrypt}
use Rattle.stack_engine.specs.Healing.{IsHealed, IsSettled, healed_result, unhealed}
use Rattle.stack_engine.specs.declared.losses.Judged.{Judged}
use Rattle.stack_engine.specs.declared.losses.Judged.TheVariants as is
use Rattle.stack_engine.specs.Erasures.{LossRecord, added_columns, added_parity, are_whole, column, judge_by, no_columns, noted, own_loss, vain_fault}
use Rattle.stack_engine.specs.LeafCalls.{LeafCall, MakesCalls}
use Rattle.stack_engine.specs.Restored.{Served, one_more, restored_after}
use Rattle.verified_cache.specs.Cache.{CachedBlock}

-- the units of a part, encrypted and decrypted
abbrev pub part_encrypted : CryptPart → List ℕ → List ℕ
part_encrypted u bytes = encrypted_units u.units u.key.now (u.first / per_unit u.units) bytes

abbrev pub part_decrypted : CryptPart → List ℕ → List ℕ
part_decrypted u bytes = decrypted_units u.units u.key.now (u.first / per_unit u.units) bytes

-- where in its unit a part begins, in bytes
abbrev pub begin_in_unit : CryptPart → ℕ
begin_in_unit u = 512 * (u.first % per_unit u.units)

-- n sectors of a part, of the bytes of its unit
abbrev pub unit_sectors : CryptPart → ℕ → List ℕ → List ℕ
unit_sectors u n unit = take (512 * n) (drop (begin_in_unit u) unit)

-- a unit with these bytes in the place of a part's own
abbrev pub unit_with : CryptPart → List ℕ → List ℕ → List ℕ
unit_with u bytes unit = take (begin_in_unit u) unit ++ bytes ++ drop (begin_in_unit u + length bytes) unit

-- ---- reads

-- what is answered after bytes that were read
abbrev pub bytes_before : List ℕ → Result (List ℕ) IoFault → Result (List ℕ) IoFault
bytes_before xs (Ok ys) = Ok (xs ++ ys)
bytes_before xs (Err fault) = Err fault

-- sectors of a leaf or device as one block, with the digest that is expected of it
pub record ExpectedBlock : Type 0 where
  pub extent : Extent
  pub salt : List ℕ
  pub digest : List ℕ

-- a block of a `verity` line, by its number among the covered blocks, which begin with the data blocks; and the devices of its data
-- blocks, hash blocks and parity
pub record DataPlace : Type 0 where
  pub verity : Verity
  pub on_data : Lower
  pub on_hash : Lower
  pub on_parity : Option Lower
  pub index : ℕ

abbrev pub place_in : Verity → Tree → ℕ → DataPlace
place_in v tree index = record { verity = v; on_data = tree.data; on_hash = tree.hash; on_parity = tree.parity; index = index }

abbrev pub place_at : VerityPart → ℕ → DataPlace
place_at x index = record { verity = x.verity.now; on_data = x.data; on_hash = x.hash; on_parity = x.parity; index = index }

abbrev pub at_place : DataPlace → ℕ → DataPlace
at_place p index = record p { index = index }

abbrev pub next_place : DataPlace → DataPlace
next_place p = record p { index = p.index + 1 }

-- the hash block of level l on the way to it, as a covered block of the line
abbrev pub hash_at : DataPlace → ℕ → DataPlace
hash_at p l = record p { index = covered_hash p.verity l (ancestor (tree_of p.verity) (l + 1) p.index) }

-- the hash block of level l on the way to it, and the data block
abbrev pub expected_hash : DataPlace → ℕ → List ℕ → ExpectedBlock
expected_hash p l expected = record { extent = record { lower = p.on_hash; first = hash_start p.verity l p.index; sectors = hash_sectors p.verity }; salt = p.verity.salt; digest = expected }

abbrev pub expected_data : DataPlace → List ℕ → ExpectedBlock
expected_data p expected = record { extent = record { lower = p.on_data; first = block_sectors p.verity * p.index; sectors = block_sectors p.verity }; salt = p.verity.salt; digest = expected }

-- where covered block k lies
abbrev pub covered_at : DataPlace → ℕ → Extent
covered_at p k = record { lower = if nat_lt k p.verity.blocks then p.on_data else p.on_hash; first = covered_start p.verity k; sectors = block_sectors p.verity }

-- the number of the covered block at position i of the round of covered block j, unless that is block j, or there is none
abbrev pub other_number : Parity → ℕ → ℕ → Option ℕ
other_number q j i =
    if i == j / round_count q then None
    else if nat_lt (place_number q (j % round_count q) i) q.blocks then Some (place_number q (j % round_count q) i)
    else None

-- without parity there is none
abbrev pub other_in : Option Parity → ℕ → ℕ → Option ℕ
other_in None j i = None
other_in (Some q) j i = other_number q j i

-- where it lies
abbrev pub other_at : DataPlace → Parity → ℕ → Option Extent
other_at p q i = option_map (covered_at p) (other_number q p.index i)

-- without parity nowhere
abbrev pub other_by : DataPlace → Option Parity → ℕ → Option Extent
other_by p None i = None
other_by p (Some q) i = other_at p q i

-- the first sector of the parity of its round
abbrev pub parity_first : DataPlace → Parity → ℕ
parity_first p q = parity_start p.verity q (p.index % round_count q)

-- n sectors of a part of a data block, of the bytes of the block
abbrev pub block_part : VerityPart → ℕ → List ℕ → List ℕ
block_part x n content = take (512 * n) (drop (512 * (x.first % block_sectors x.verity.now)) content)

-- what follows the hash blocks: the one data block; or a part of it alone; or so many data blocks, of which the first so many are read
-- alone, and those after them were read before, as far as these bytes go
pub data DataRead : Type 0 where
  one_block : DataRead
  part_block : DataRead
  blocks_left : ℕ → ℕ → List ℕ → DataRead

-- what is read of one data block: a part of it alone, or all of it
abbrev pub one_asked : Bool → DataRead
one_asked true = part_block
one_asked false = one_block

-- n sectors of one
abbrev pub asked_of : VerityPart → ℕ → DataRead
asked_of x n = one_asked (nat_lt n (block_sectors x.verity.now))

-- the last hash block of a path, if there is one
abbrev pub last_bytes : List CachedBlock → List ℕ
last_bytes [] = []
last_bytes (x ∷ []) = x.bytes
last_bytes (x ∷ (y ∷ more)) = last_bytes (y ∷ more)

-- the digest of the k-th data block after a place, in the last hash block on the way to it
abbrev pub digest_after : DataPlace → List ℕ → ℕ → List ℕ
digest_after p last k = digest_in last (slot (tree_of p.verity) (ancestor (tree_of p.verity) 0 p.index) + k)

-- `many` of the blocks that are left may be read by one call. If the line ignores blocks of zeros, the last hash block on the way to
-- the first one has the digest of each, and the line ignores none of them.
pub record AreReadTogether (p : DataPlace) (last : List ℕ) (left many : ℕ) : Type 0 where
  pub some : 0 < many
  pub most : many ≤ left
  pub known : (k : ℕ) → 0 < k → k < many → p.verity.ignore_zero_blocks ≡ true → 32 * (slot (tree_of p.verity) (ancestor (tree_of p.verity) 0 p.index) + k) + 32 ≤ length last
  pub used : (k : ℕ) → 0 < k → k < many → is_ignored p.verity (digest_after p last k) ≡ false

-- What is read: n sectors of a source; an expected block, or one that may be kept; the hash block of a level on the way to a data
-- block, of which a digest is expected; what is beneath so many levels of hash blocks, when a digest is expected of the next block,
-- after a hash block of those bytes; so many data blocks from a place on, of which the first so many are read alone, and those bytes
-- were read before; the spare of a block, of which a digest is expected, as the only lost block of its round or by erasures, or either;
-- what is added to sums for it, from a position of its round on; the lost blocks of its round, judged from a position on, and then it;
-- the known digest of a covered block; the digest of a verified block, beneath so many hash blocks, when a digest is expected of the next
-- one; a block by the lost blocks of its round; and what is added to the sums of these, from a position on.
pub data ReadOf : Type 0 where
  sectors_of : Source → ℕ → ReadOf
  block_of : ExpectedBlock → ReadOf
  hash_of : ExpectedBlock → ReadOf
  way_of : DataPlace → ℕ → List ℕ → ReadOf
  data_of : DataPlace → ℕ → List ℕ → List ℕ → DataRead → ReadOf
  blocks_of : DataPlace → ℕ → ℕ → List ℕ → ReadOf
  spare_of : DataPlace → List ℕ → ReadOf
  only_of : DataPlace → List ℕ → ReadOf
  sums_of : DataPlace → Parity → ℕ → List ℕ → ReadOf
  erased_of : DataPlace → List ℕ → ReadOf
  judged_of : DataPlace → Parity → ℕ → LossRecord → List ℕ → ReadOf
  known_of : DataPlace → ℕ → ReadOf
  digest_of : DataPlace → PathEnd → ℕ → List ℕ → ReadOf
  restored_of : DataPlace → Parity → LossRecord → List ℕ → ReadOf
  columns_of : DataPlace → Parity → List ℕ → ℕ → List ℕ → ReadOf

-- data from the root down
abbrev pub whole_data : DataPlace → DataRead → ReadOf
whole_data p next = data_of p (levels (tree_of p.verity)) p.verity.root [] next

-- covered block k
abbrev pub block_at : DataPlace → ℕ → ReadOf
block_at p k = sectors_of (Below (covered_at p k).lower (covered_at p k).first) (covered_at p k).sectors

-- a block that was read, or whose leaf failed, is judged so by what the read of its known digest ended in
abbrev pub IsJudgedBy : List ℕ → Result (List ℕ) IoFault → Result (List ℕ) IoFault → Result Judged IoFault → Type 0
IsJudgedBy salt (Ok block) known judged = judged ≡ judge_by (Ok (digest salt block)) known
IsJudgedBy salt (Err (io.Device leaf)) known judged = judged ≡ judge_by (Err leaf) known
IsJudgedBy salt (Err (io.Stack other)) known judged = ⊥
IsJudgedBy salt (Err io.NoMemory) known judged = ⊥

-- It is read by these calls, and this is answered: the bytes that the calls gave, or decrypted ones. A block of a `verity` line is
-- answered only if each block on the way to it has the digest that the block before it, as it was read or kept, has for it; nothing
-- is read after a block that differs, nor after memory ran out. The two numbers are how many blocks were restored before it and
-- after it: each spare that is answered counts one, and a block that has its digest none.
pub data ReadCalls (c : Configuration) : ReadOf → List LeafCall → ℕ → ℕ → Result (List ℕ) IoFault → Type 0 where
  -- of a leaf, by one call
  leaf_read : {from : ℕ} (i s : ℕ) (bytes : List ℕ) → ReadCalls c (sectors_of (Below (Leaf i) s) (length bytes / 512)) (record { leaf = i; call = Read s bytes true } ∷ []) from from (Ok bytes)
  leaf_unread : {from : ℕ} (i s : ℕ) (bytes : List ℕ) → ReadCalls c (sectors_of (Below (Leaf i) s) (length bytes / 512)) (record { leaf = i; call = Read s bytes false } ∷ []) from from (Err (io.Device (i + 1)))
  -- of a device: none; the longest run, and then the sectors after it; or that run alone, if it meets a fault
  none_read : {from : ℕ} (d s : ℕ) → ReadCalls c (sectors_of (Below (mapped d) s) 0) [] from from (Ok [])
  line_read : {from mid to : ℕ} {d s n : ℕ} {run : Run} {calls later : List LeafCall} {xs : List ℕ} {answer : Result (List ℕ) IoFault} → IsRunAt c d s (run.count + n) run → ReadCalls c (sectors_of run.source run.count) calls from mid (Ok xs) → ReadCalls c (sectors_of (Below (mapped d) (s + run.count)) n) later mid to answer
      → ReadCalls c (sectors_of (Below (mapped d) s) (run.count + n)) (calls ++ later) from to (bytes_before xs answer)
  line_unread : {from to : ℕ} {d s n : ℕ} {run : Run} {calls : List LeafCall} {fault : IoFault} → IsRunAt c d s n run → ReadCalls c (sectors_of run.source run.count) calls from to (Err fault) → ReadCalls c (sectors_of (Below (mapped d) s) n) calls from to (Err fault)
  -- of a `crypt` line: whole units, and sectors of one unit
  units_read : {from to : ℕ} {u : CryptPart} {n : ℕ} {calls : List LeafCall} {bytes : List ℕ} → ReadCalls c (sectors_of (Below u.lower (unit_first u.units u.first)) n) calls from to (Ok bytes) → ReadCalls c (sectors_of (Units u) n) calls from to (Ok (part_decrypted u bytes))
  units_unread : {from to : ℕ} {u : CryptPart} {n : ℕ} {calls : List LeafCall} {fault : IoFault} → ReadCalls c (sectors_of (Below u.lower (unit_first u.units u.first)) n) calls from to (Err fault) → ReadCalls c (sectors_of (Units u) n) calls from to (Err fault)
  part_read : {from to : ℕ} {u : CryptPart} {calls : List LeafCall} {unit : List ℕ} (n : ℕ) → ReadCalls c (sectors_of (Units (from_unit u)) (per_unit u.units)) calls from to (Ok unit) → ReadCalls c (sectors_of (UnitPart u) n) calls from to (Ok (unit_sectors u n unit))
  part_unread : {from to : ℕ} {u : CryptPart} {calls : List LeafCall} {fault : IoFault} (n : ℕ) → ReadCalls c (sectors_of (Units (from_unit u)) (per_unit u.units)) calls from to (Err fault) → ReadCalls c (sectors_of (UnitPart u) n) calls from to (Err fault)
  -- of a `zero` line and of an `error` line
  zeros_read : {from : ℕ} (n : ℕ) → ReadCalls c (sectors_of Zeros n) [] from from (Ok (replicate (512 * n) 0))
  fails_read : {from : ℕ} (n : ℕ) → ReadCalls c (sectors_of Fails n) [] from from (Err (io.Stack why.ErrorTarget))
  -- of a data block of a `verity` line: from its chain, which was found before; from the block, which is read; or none, if the read
  -- ends by a fault, or memory runs out for what it gave
  chain_found : {from : ℕ} {x : VerityPart} (n : ℕ) (chain : ChainRecord) → chain.index ≡ x.first / block_sectors x.verity.now → IsGood (tree_of x.verity.now) x.verity.now.salt x.verity.now.root chain → ReadCalls c (sectors_of (Block x) n) [] from from (Ok (block_part x n chain.content))
  data_read : {from to : ℕ} {x : VerityPart} {calls : List LeafCall} {content : List ℕ} (n : ℕ) → ReadCalls c (whole_data (place_at x (x.first / block_sectors x.verity.now)) (asked_of x n)) calls from to (Ok content) → ReadCalls c (sectors_of (Block x) n) calls from to (Ok (block_part x n content))
  data_unread : {from to : ℕ} {x : VerityPart} {calls : List LeafCall} {fault : IoFault} (n : ℕ) → ReadCalls c (whole_data (place_at x (x.first / block_sectors x.verity.now)) (asked_of x n)) calls from to (Err fault) → ReadCalls c (sectors_of (Block x) n) calls from to (Err fault)
  data_full : {from to : ℕ} {x : VerityPart} {calls : List LeafCall} {content : List ℕ} (n : ℕ) → ReadCalls c (whole_data (place_at x (x.first / block_sectors x.verity.now)) (asked_of x n)) calls from to (Ok content) → ReadCalls c (sectors_of (Block x) n) calls from to (Err io.NoMemory)
  -- of whole data blocks
  blocks_read : {from to : ℕ} {x : VerityPart} {n : ℕ} {calls : List LeafCall} {answer : Result (List ℕ) IoFault} → ReadCalls c (blocks_of (place_at x (x.first / block_sectors x.verity.now)) (n / block_sectors x.verity.now) 0 []) calls from to answer → ReadCalls c (sectors_of (Blocks x) n) calls from to answer
  -- an expected block: its sectors, which have the digest; or they have another one, or can't be read; or memory runs out before it
  block_checked : {from to : ℕ} {x : ExpectedBlock} {calls : List LeafCall} {bytes : List ℕ} → ReadCalls c (sectors_of (Below x.extent.lower x.extent.first) x.extent.sectors) calls from to (Ok bytes) → digest x.salt bytes ≡ x.digest → ReadCalls c (block_of x) calls from to (Ok bytes)
  block_differs : {from to : ℕ} {x : ExpectedBlock} {calls : List LeafCall} {bytes : List ℕ} → ReadCalls c (sectors_of (Below x.extent.lower x.extent.first) x.extent.sectors) calls from to (Ok bytes) → (digest x.salt bytes ≡ x.digest → ⊥) → ReadCalls c (block_of x) calls from to (Err (io.Stack why.Mismatch))
  block_unread : {from to : ℕ} {x : ExpectedBlock} {calls : List LeafCall} {fault : IoFault} → ReadCalls c (sectors_of (Below x.extent.lower x.extent.first) x.extent.sectors) calls from to (Err fault) → ReadCalls c (block_of x) calls from to (Err fault)
  block_full : {from : ℕ} (x : ExpectedBlock) → ReadCalls c (block_of x) [] from from (Err io.NoMemory)
  -- a hash block: one that is kept or on the path, which has the digest, or it is read; or memory runs out before it
  hash_kept : {from : ℕ} (x : ExpectedBlock) (bytes : List ℕ) → IsBlockOfDigest x.extent.sectors x.salt x.digest bytes → ReadCalls c (hash_of x) [] from from (Ok bytes)
  hash_full : {from : ℕ} (x : ExpectedBlock) → ReadCalls c (hash_of x) [] from from (Err io.NoMemory)
  hash_read : {from to : ℕ} {x : ExpectedBlock} {calls : List LeafCall} {answer : Result (List ℕ) IoFault} → ReadCalls c (block_of x) calls from to answer → ReadCalls c (hash_of x) calls from to answer
  -- a hash block on the way to data: it; and if that ends in a fault that is healed, its spare is read; or memory runs out after it
  way_had : {from to : ℕ} {p : DataPlace} {l : ℕ} {expected : List ℕ} {calls : List LeafCall} {answer : Result (List ℕ) IoFault} → IfErr answer (IsSettled p.verity.parity) → ReadCalls c (hash_of (expected_hash p l expected)) calls from to answer → ReadCalls c (way_of p l expected) calls from to answer
  way_healed : {from mid to : ℕ} {p : DataPlace} {l : ℕ} {expected : List ℕ} {calls later : List LeafCall} {fault : IoFault} {spare : Result (List ℕ) IoFault} → IsHealed p.verity.parity fault → ReadCalls c (hash_of (expected_hash p l expected)) calls from mid (Err fault) → ReadCalls c (spare_of (hash_at p l) expected) later mid to spare
      → ReadCalls c (way_of p l expected) (calls ++ later) from (restored_after spare to) (healed_result fault spare)
  way_lost : {from to : ℕ} {p : DataPlace} {l : ℕ} {expected : List ℕ} {calls : List LeafCall} {bytes : List ℕ} → ReadCalls c (way_of p l expected) calls from to (Ok bytes) → ReadCalls c (way_of p l expected) calls from to (Err io.NoMemory)
  -- the way to data: the next hash block, and then what is beneath it, by the digest in it
  way_down : {from mid to : ℕ} {p : DataPlace} {l : ℕ} {expected last block : List ℕ} {next : DataRead} {calls later : List LeafCall} {answer : Result (List ℕ) IoFault} → ReadCalls c (way_of p l expected) calls from mid (Ok block) → ReadCalls c (data_of p l (next_digest p.verity l p.index block) block next) later mid to answer
      → ReadCalls c (data_of p (suc l) expected last next) (calls ++ later) from to answer
  way_stops : {from to : ℕ} {p : DataPlace} {l : ℕ} {expected : List ℕ} (last : List ℕ) (next : DataRead) {calls : List LeafCall} {fault : IoFault} → ReadCalls c (way_of p l expected) calls from to (Err fault) → ReadCalls c (data_of p (suc l) expected last next) calls from to (Err fault)
  way_full : {from : ℕ} (p : DataPlace) (l : ℕ) (expected last : List ℕ) (next : DataRead) → ReadCalls c (data_of p l expected last next) [] from from (Err io.NoMemory)
  -- the one data block: zeros, if the line ignores it, or it is read; and if that ends in a fault that is healed, its spare is read
  one_ignored : {from : ℕ} (p : DataPlace) (expected last : List ℕ) → is_ignored p.verity expected ≡ true → ReadCalls c (data_of p zero expected last one_block) [] from from (Ok (zero_block p.verity))
  one_read : {from to : ℕ} {p : DataPlace} {expected : List ℕ} (last : List ℕ) {calls : List LeafCall} {answer : Result (List ℕ) IoFault} → is_ignored p.verity expected ≡ false → IfErr answer (IsSettled p.verity.parity) → ReadCalls c (block_of (expected_data p expected)) calls from to answer → ReadCalls c (data_of p zero expected last one_block) calls from to answer
  one_healed : {from mid to : ℕ} {p : DataPlace} {expected : List ℕ} (last : List ℕ) {calls later : List LeafCall} {fault : IoFault} {spare : Result (List ℕ) IoFault} → is_ignored p.verity expected ≡ false → IsHealed p.verity.parity fault → ReadCalls c (block_of (expected_data p expected)) calls from mid (Err fault) → ReadCalls c (spare_of p expected) later mid to spare
      → ReadCalls c (data_of p zero expected last one_block) (calls ++ later) from (restored_after spare to) (healed_result fault spare)
  -- a part of a data block: of the kept one, which has the digest and isn't ignored; or as of all of it
  one_kept : {from : ℕ} (p : DataPlace) {expected : List ℕ} (last bytes : List ℕ) → is_ignored p.verity expected ≡ false → IsBlockOfDigest (block_sectors p.verity) p.verity.salt expected bytes → ReadCalls c (data_of p zero expected last part_block) [] from from (Ok bytes)
  one_fetched : {from to : ℕ} {p : DataPlace} {expected last : List ℕ} {calls : List LeafCall} {answer : Result (List ℕ) IoFault} → ReadCalls c (data_of p zero expected last one_block) calls from to answer → ReadCalls c (data_of p zero expected last part_block) calls from to answer
  -- whole data blocks, the next of which was read before: it is ignored, or has the digest, or differs and its spare is read, and
  -- those after it are read; or it differs, and its spare can't be read
  next_ignored : {from to : ℕ} {p : DataPlace} {left : ℕ} {expected ahead : List ℕ} (last : List ℕ) {calls : List LeafCall} {answer : Result (List ℕ) IoFault} → is_ignored p.verity expected ≡ true → ReadCalls c (blocks_of (next_place p) left 0 (drop p.verity.data_block ahead)) calls from to answer
      → ReadCalls c (data_of p zero expected last (blocks_left (suc left) 0 ahead)) calls from to (bytes_before (zero_block p.verity) answer)
  next_checked : {from to : ℕ} {p : DataPlace} {left : ℕ} {expected ahead : List ℕ} (block last : List ℕ) {calls : List LeafCall} {answer : Result (List ℕ) IoFault} → is_ignored p.verity expected ≡ false → IsBlockOfDigest (block_sectors p.verity) p.verity.salt expected block → ReadCalls c (blocks_of (next_place p) left 0 ahead) calls from to answer
      → ReadCalls c (data_of p zero expected last (blocks_left (suc left) 0 (block ++ ahead))) calls from to (bytes_before block answer)
  next_healed : {from mid to : ℕ} {p : DataPlace} {left : ℕ} {expected ahead spare : List ℕ} (block last : List ℕ) {calls later : List LeafCall} {answer : Result (List ℕ) IoFault} → is_ignored p.verity expected ≡ false → length block ≡ 512 * block_sectors p.verity → (digest p.verity.salt block ≡ expected → ⊥) → ReadCalls c (spare_of p expected) calls from mid (Ok spare) → ReadCalls c (blocks_of (next_place p) left 0 ahead) later (one_more mid) to answer → ReadCalls c (data_of p zero expected last (blocks_left (suc left) 0 (block ++ ahead))) (calls ++ later) from to (bytes_before spare answer)
  next_differs : {from to : ℕ} {p : DataPlace} {expected : List ℕ} (left : ℕ) (block ahead last : List ℕ) {calls : List LeafCall} {vain : IoFault} → is_ignored p.verity expected ≡ false → length block ≡ 512 * block_sectors p.verity → (digest p.verity.salt block ≡ expected → ⊥) → ReadCalls c (spare_of p expected) calls from to (Err vain) → ReadCalls c (data_of p zero expected last (blocks_left left 0 (block ++ ahead))) calls from to (Err (unhealed (io.Stack why.Mismatch) vain))
  -- it is read alone, as the one data block is, and so are those after it; or it can't be read
  next_alone : {from mid to : ℕ} {p : DataPlace} {left alone : ℕ} {expected last block : List ℕ} {calls later : List LeafCall} {answer : Result (List ℕ) IoFault} → ReadCalls c (data_of p zero expected last one_block) calls from mid (Ok block) → ReadCalls c (blocks_of (next_place p) left alone []) later mid to answer
      → ReadCalls c (data_of p zero expected last (blocks_left (suc left) (suc alone) [])) (calls ++ later) from to (bytes_before block answer)
  next_unread : {from to : ℕ} {p : DataPlace} {expected last : List ℕ} (left alone : ℕ) {calls : List LeafCall} {fault : IoFault} → ReadCalls c (data_of p zero expected last one_block) calls from to (Err fault) → ReadCalls c (data_of p zero expected last (blocks_left left (suc alone) [])) calls from to (Err fault)
  -- it wasn't read before: it is read together with later ones; and if that ends in a fault that is healed, each of them is read alone
  together_read : {from mid to : ℕ} {p : DataPlace} {left many : ℕ} {expected last bytes : List ℕ} {calls later : List LeafCall} {answer : Result (List ℕ) IoFault} → is_ignored p.verity expected ≡ false → AreReadTogether p last left many → ReadCalls c (sectors_of (Below p.on_data (block_sectors p.verity * p.index)) (many * block_sectors p.verity)) calls from mid (Ok bytes)
      → ReadCalls c (data_of p zero expected last (blocks_left left 0 bytes)) later mid to answer → ReadCalls c (data_of p zero expected last (blocks_left left 0 [])) (calls ++ later) from to answer
  together_lost : {from mid to : ℕ} {p : DataPlace} {left many : ℕ} {expected last : List ℕ} {calls later : List LeafCall} {fault : IoFault} {answer : Result (List ℕ) IoFault} → is_ignored p.verity expected ≡ false → AreReadTogether p last left many → IsHealed p.verity.parity fault
      → ReadCalls c (sectors_of (Below p.on_data (block_sectors p.verity * p.index)) (many * block_sectors p.verity)) calls from mid (Err fault) → ReadCalls c (data_of p zero expected last (blocks_left left many [])) later mid to answer → ReadCalls c (data_of p zero expected last (blocks_left left 0 [])) (calls ++ later) from to answer
  together_unread : {from to : ℕ} {p : DataPlace} {left many : ℕ} {expected last : List ℕ} {calls : List LeafCall} {fault : IoFault} → is_ignored p.verity expected ≡ false → AreReadTogether p last left many → IsSettled p.verity.parity fault → ReadCalls c (sectors_of (Below p.on_data (block_sectors p.verity * p.index)) (many * block_sectors p.verity)) calls from to (Err fault)
      → ReadCalls c (data_of p zero expected last (blocks_left left 0 [])) calls from to (Err fault)
  -- no data blocks; or the way to the next one
  blocks_end : {from : ℕ} (p : DataPlace) (alone : ℕ) (ahead : List ℕ) → ReadCalls c (blocks_of p zero alone ahead) [] from from (Ok [])
  blocks_next : {from to : ℕ} {p : DataPlace} {left alone : ℕ} {ahead : List ℕ} {calls : List LeafCall} {answer : Result (List ℕ) IoFault} → ReadCalls c (whole_data p (blocks_left (suc left) alone ahead)) calls from to answer → ReadCalls c (blocks_of p (suc left) alone ahead) calls from to answer
  blocks_full : {from : ℕ} (p : DataPlace) (left alone : ℕ) (ahead : List ℕ) → ReadCalls c (blocks_of p left alone ahead) [] from from (Err io.NoMemory)
  -- the spare of a block: as the only lost one of its round; and if that ends in a fault that is healed, by erasures; or memory runs out
  spare_only : {from to : ℕ} {p : DataPlace} {expected : List ℕ} {calls : List LeafCall} {answer : Result (List ℕ) IoFault} → IfErr answer (IsSettled p.verity.parity) → ReadCalls c (only_of p expected) calls from to answer → ReadCalls c (spare_of p expected) calls from to answer
  spare_erased : {from mid to : ℕ} {p : DataPlace} {expected : List ℕ} {calls later : List LeafCall} {fault : IoFault} {answer : Result (List ℕ) IoFault} → IsHealed p.verity.parity fault → ReadCalls c (only_of p expected) calls from mid (Err fault) → ReadCalls c (erased_of p expected) later mid to answer
      → ReadCalls c (spare_of p expected) (calls ++ later) from to (healed_result fault answer)
  spare_full : {from : ℕ} (p : DataPlace) (expected : List ℕ) → ReadCalls c (spare_of p expected) [] from from (Err io.NoMemory)
  -- as the only lost one: none without parity, or if memory runs out before it; or the sum of the other blocks of its round and of their parity, if it is read and has the digest
  only_none : {from : ℕ} (p : DataPlace) (expected : List ℕ) → p.verity.parity ≡ None → ReadCalls c (only_of p expected) [] from from (Err (io.Stack why.Mismatch))
  only_full : {from : ℕ} (p : DataPlace) (expected : List ℕ) → ReadCalls c (only_of p expected) [] from from (Err io.NoMemory)
  only_checked : {from to : ℕ} {p : DataPlace} {q : Parity} {expected bytes : List ℕ} {calls : List LeafCall} → p.verity.parity ≡ Some q → ReadCalls c (sums_of p q 0 (zero_block p.verity)) calls from to (Ok bytes) → digest p.verity.salt bytes ≡ expected → ReadCalls c (only_of p expected) calls from to (Ok bytes)
  only_differs : {from to : ℕ} {p : DataPlace} {q : Parity} {expected bytes : List ℕ} {calls : List LeafCall} → p.verity.parity ≡ Some q → ReadCalls c (sums_of p q 0 (zero_block p.verity)) calls from to (Ok bytes) → (digest p.verity.salt bytes ≡ expected → ⊥) → ReadCalls c (only_of p expected) calls from to (Err (io.Stack why.Mismatch))
  only_unread : {from to : ℕ} {p : DataPlace} {q : Parity} {expected : List ℕ} {calls : List LeafCall} {fault : IoFault} → p.verity.parity ≡ Some q → ReadCalls c (sums_of p q 0 (zero_block p.verity)) calls from to (Err fault) → ReadCalls c (only_of p expected) calls from to (Err fault)
  -- the blocks at the positions of the round, in order: none, or one that is added; and then the parity
  sums_past : {from to : ℕ} {p : DataPlace} {q : Parity} {i : ℕ} {sums : List ℕ} {calls : List LeafCall} {answer : Result (List ℕ) IoFault} → i < 255 - q.roots → other_at p q i ≡ None → ReadCalls c (sums_of p q (suc i) sums) calls from to answer → ReadCalls c (sums_of p q i sums) calls from to answer
  sums_added : {from mid to : ℕ} {p : DataPlace} {q : Parity} {i : ℕ} {e : Extent} {sums block : List ℕ} {calls later : List LeafCall} {answer : Result (List ℕ) IoFault} → i < 255 - q.roots → other_at p q i ≡ Some e → ReadCalls c (sectors_of (Below e.lower e.first) e.sectors) calls from mid (Ok block)
      → ReadCalls c (sums_of p q (suc i) (added_block sums block)) later mid to answer → ReadCalls c (sums_of p q i sums) (calls ++ later) from to answer
  sums_unread : {from to : ℕ} {p : DataPlace} {q : Parity} {i : ℕ} {e : Extent} (sums : List ℕ) {calls : List LeafCall} {fault : IoFault} → i < 255 - q.roots → other_at p q i ≡ Some e → ReadCalls c (sectors_of (Below e.lower e.first) e.sectors) calls from to (Err fault) → ReadCalls c (sums_of p q i sums) calls from to (Err fault)
  parity_added : {from to : ℕ} {p : DataPlace} {q : Parity} {x : Lower} {parity : List ℕ} (sums : List ℕ) {calls : List LeafCall} → p.on_parity ≡ Some x → ReadCalls c (sectors_of (Below x (parity_first p q)) (block_sectors p.verity * q.roots)) calls from to (Ok parity)
      → ReadCalls c (sums_of p q (255 - q.roots) sums) calls from to (Ok (with_parity q.roots sums parity))
  parity_unread : {from to : ℕ} {p : DataPlace} {q : Parity} {x : Lower} (sums : List ℕ) {calls : List LeafCall} {fault : IoFault} → p.on_parity ≡ Some x → ReadCalls c (sectors_of (Below x (parity_first p q)) (block_sectors p.verity * q.roots)) calls from to (Err fault)
      → ReadCalls c (sums_of p q (255 - q.roots) sums) calls from to (Err fault)
  -- by erasures: none without parity, or if memory runs out before it; or after the lost blocks of the round were judged
  erased_none : {from : ℕ} (p : DataPlace) (expected : List ℕ) → p.verity.parity ≡ None → ReadCalls c (erased_of p expected) [] from from (Err (io.Stack why.Mismatch))
  erased_full : {from : ℕ} (p : DataPlace) (expected : List ℕ) → ReadCalls c (erased_of p expected) [] from from (Err io.NoMemory)
  erased_judged : {from to : ℕ} {p : DataPlace} {q : Parity} {expected : List ℕ} {calls : List LeafCall} {answer : Result (List ℕ) IoFault} → p.verity.parity ≡ Some q → ReadCalls c (judged_of p q 0 (own_loss (p.index / round_count q)) expected) calls from to answer → ReadCalls c (erased_of p expected) calls from to answer
  -- the positions of the round, in order: more blocks are lost than can be restored, or there is no other block
  judged_many : {from : ℕ} {q : Parity} {l : LossRecord} (p : DataPlace) (i : ℕ) (expected : List ℕ) → q.roots < length l.places → ReadCalls c (judged_of p q i l expected) [] from from (Err (vain_fault l.failed))
  judged_past : {from to : ℕ} {p : DataPlace} {q : Parity} {i : ℕ} {l : LossRecord} {expected : List ℕ} {calls : List LeafCall} {answer : Result (List ℕ) IoFault} → length l.places ≤ q.roots → i < 255 - q.roots → other_number q p.index i ≡ None → ReadCalls c (judged_of p q (suc i) l expected) calls from to answer → ReadCalls c (judged_of p q i l expected) calls from to answer
  -- a line beneath refuses it; or memory runs out as it is read; or it is read, or its leaf fails, and then its known digest is read, by
  -- which it is judged, or which can't be read
  judged_refused : {from mid to k : ℕ} {p : DataPlace} {q : Parity} {i : ℕ} {l : LossRecord} {expected : List ℕ} {calls later : List LeafCall} {other : Fault} {answer : Result (List ℕ) IoFault} → length l.places ≤ q.roots → i < 255 - q.roots → other_number q p.index i ≡ Some k → ReadCalls c (block_at p k) calls from mid (Err (io.Stack other))
      → ReadCalls c (judged_of p q (suc i) (noted l i is.Lost) expected) later mid to answer → ReadCalls c (judged_of p q i l expected) (calls ++ later) from to answer
  judged_short : {from to k : ℕ} {p : DataPlace} {q : Parity} {i : ℕ} {l : LossRecord} {expected : List ℕ} {calls : List LeafCall} → length l.places ≤ q.roots → i < 255 - q.roots → other_number q p.index i ≡ Some k → ReadCalls c (block_at p k) calls from to (Err io.NoMemory) → ReadCalls c (judged_of p q i l expected) calls from to (Err io.NoMemory)
  judged_next : {from mid next to k : ℕ} {p : DataPlace} {q : Parity} {i : ℕ} {l : LossRecord} {expected : List ℕ} {calls path later : List LeafCall} {own known answer : Result (List ℕ) IoFault} (judged : Judged) → length l.places ≤ q.roots → i < 255 - q.roots → other_number q p.index i ≡ Some k
      → ReadCalls c (block_at p k) calls from mid own → ReadCalls c (known_of p k) path mid next known → IsJudgedBy p.verity.salt own known (Ok judged)
      → ReadCalls c (judged_of p q (suc i) (noted l i judged) expected) later next to answer → ReadCalls c (judged_of p q i l expected) (calls ++ (path ++ later)) from to answer
  judged_stops : {from mid to k : ℕ} {p : DataPlace} {q : Parity} {i : ℕ} {l : LossRecord} {expected : List ℕ} {calls path : List LeafCall} {own known : Result (List ℕ) IoFault} {fault : IoFault} → length l.places ≤ q.roots → i < 255 - q.roots → other_number q p.index i ≡ Some k
      → ReadCalls c (block_at p k) calls from mid own → ReadCalls c (known_of p k) path mid to known → IsJudgedBy p.verity.salt own known (Err fault) → ReadCalls c (judged_of p q i l expected) (calls ++ path) from to (Err fault)
  judged_full : {from : ℕ} (p : DataPlace) (q : Parity) (i : ℕ) (l : LossRecord) (expected : List ℕ) → ReadCalls c (judged_of p q i l expected) [] from from (Err io.NoMemory)
  -- all were judged, and the block is restored, or the attempt is in vain
  judged_all : {from to : ℕ} {p : DataPlace} {q : Parity} {l : LossRecord} {expected : List ℕ} {calls : List LeafCall} {answer : Result (List ℕ) IoFault} → length l.places ≤ q.roots → ReadCalls c (restored_of p q l expected) calls from to answer
      → ReadCalls c (judged_of p q (255 - q.roots) l expected) calls from to (healed_result (vain_fault l.failed) answer)
  -- the sums of the lost blocks, which have their digests or not, or can't be read
  restored_whole : {from to : ℕ} {p : DataPlace} {q : Parity} {l : LossRecord} {expected sums : List ℕ} {calls : List LeafCall} → ReadCalls c (columns_of p q l.places 0 (no_columns p.verity.data_block l.places)) calls from to (Ok sums) → are_whole p.verity l expected sums ≡ true
      → ReadCalls c (restored_of p q l expected) calls from to (Ok (column p.verity.data_block sums 0))
  restored_differs : {from to : ℕ} {p : DataPlace} {q : Parity} {l : LossRecord} {expected sums : List ℕ} {calls : List LeafCall} → ReadCalls c (columns_of p q l.places 0 (no_columns p.verity.data_block l.places)) calls from to (Ok sums) → are_whole p.verity l expected sums ≡ false
      → ReadCalls c (restored_of p q l expected) calls from to (Err (io.Stack why.Mismatch))
  restored_unread : {from to : ℕ} {p : DataPlace} {q : Parity} {l : LossRecord} (expected : List ℕ) {calls : List LeafCall} {fault : IoFault} → ReadCalls c (columns_of p q l.places 0 (no_columns p.verity.data_block l.places)) calls from to (Err fault) → ReadCalls c (restored_of p q l expected) calls from to (Err fault)
  -- the known digest: none, if the block isn't verified; or that beneath the hash blocks on its path
  known_none : {from k : ℕ} {p : DataPlace} → path_end p.verity k ≡ None → ReadCalls c (known_of p k) [] from from (Err (io.Stack why.Mismatch))
  known_beneath : {from to k : ℕ} {p : DataPlace} {end : PathEnd} {calls : List LeafCall} {answer : Result (List ℕ) IoFault} → path_end p.verity k ≡ Some end → ReadCalls c (digest_of p end 0 p.verity.root) calls from to answer → ReadCalls c (known_of p k) calls from to answer
  -- the digest beneath all hash blocks on the path; or the next of these, which has its own, as it is stored or kept
  digest_found : {from : ℕ} {end : PathEnd} (p : DataPlace) (expected : List ℕ) → ReadCalls c (digest_of p end end.above expected) [] from from (Ok expected)
  digest_next : {from mid to n : ℕ} {p : DataPlace} {end : PathEnd} {expected block : List ℕ} {calls later : List LeafCall} {answer : Result (List ℕ) IoFault} → n < end.above → ReadCalls c (hash_of (expected_hash (at_place p end.index) (levels (tree_of p.verity) - suc n) expected)) calls from mid (Ok block)
      → ReadCalls c (digest_of p end (suc n) (next_digest p.verity (levels (tree_of p.verity) - suc n) end.index block)) later mid to answer → ReadCalls c (digest_of p end n expected) (calls ++ later) from to answer
  digest_stops : {from to n : ℕ} {p : DataPlace} {end : PathEnd} {expected : List ℕ} {calls : List LeafCall} {fault : IoFault} → n < end.above → ReadCalls c (hash_of (expected_hash (at_place p end.index) (levels (tree_of p.verity) - suc n) expected)) calls from to (Err fault) → ReadCalls c (digest_of p end n expected) calls from to (Err fault)
  -- the blocks at the positions that aren't lost, in order, and then the parity, which are added to the sums of the lost ones
  columns_past : {from to : ℕ} {p : DataPlace} {q : Parity} {places sums : List ℕ} {i : ℕ} {calls : List LeafCall} {answer : Result (List ℕ) IoFault} → i < 255 - q.roots → (is_among places i ≡ true) ⊎ (other_at p q i ≡ None) → ReadCalls c (columns_of p q places (suc i) sums) calls from to answer → ReadCalls c (columns_of p q places i sums) calls from to answer
  columns_added : {from mid to : ℕ} {p : DataPlace} {q : Parity} {places sums block : List ℕ} {i : ℕ} {e : Extent} {calls later : List LeafCall} {answer : Result (List ℕ) IoFault} → i < 255 - q.roots → is_among places i ≡ false → other_at p q i ≡ Some e → ReadCalls c (sectors_of (Below e.lower e.first) e.sectors) calls from mid (Ok block)
      → ReadCalls c (columns_of p q places (suc i) (added_columns p.verity.data_block places i block sums)) later mid to answer → ReadCalls c (columns_of p q places i sums) (calls ++ later) from to answer
  columns_unread : {from to : ℕ} {p : DataPlace} {q : Parity} {places : List ℕ} {i : ℕ} {e : Extent} (sums : List ℕ) {calls : List LeafCall} {fault : IoFault} → i < 255 - q.roots → is_among places i ≡ false → other_at p q i ≡ Some e → ReadCalls c (sectors_of (Below e.lower e.first) e.sectors) calls from to (Err fault) → ReadCalls c (columns_of p q places i sums) calls from to (Err fault)
  columns_ended : {from to : ℕ} {p : DataPlace} {q : Parity} {x : Lower} {parity : List ℕ} (places sums : List ℕ) {calls : List LeafCall} → p.on_parity ≡ Some x → ReadCalls c (sectors_of (Below x (parity_first p q)) (block_sectors p.verity * q.roots)) calls from to (Ok parity)
      → ReadCalls c (columns_of p q places (255 - q.roots) sums) calls from to (Ok (added_parity places q.roots p.verity.data_block parity sums))
  columns_stop : {from to : ℕ} {p : DataPlace} {q : Parity} {x : Lower} (places sums : List ℕ) {calls : List LeafCall} {fault : IoFault} → p.on_parity ≡ Some x → ReadCalls c (sectors_of (Below x (parity_first p q)) (block_sectors p.verity * q.roots)) calls from to (Err fault) → ReadCalls c (columns_of p q places (255 - q.roots) sums) calls from to (Err fault)

abbrev pub AreReadCalls : Configuration → Source → ℕ → List LeafCall → ℕ → ℕ → Result (List ℕ) IoFault → Type 0
AreReadCalls c source n = ReadCalls c (sectors_of source n)

-- the calls that read it lead from some devices to others, and from one count of restored blocks to another
pub record ReadsBy {D : Type 0} (does : D → Call → D → Type 0) (c : Configuration) (what : ReadOf) (old new : Served D) (answer : Result (List ℕ) IoFault) : Type 0 where
  pub made : MakesCalls does (λ calls. ReadCalls c what calls old.restored new.restored answer) old.devices new.devices

-- with the calls that read the rest, however they end, it is read
pub record LeadsTo {D : Type 0} (does : D → Call → D → Type 0) (c : Configuration) (what rest : ReadOf) (old mid : Served D) : Type 0 where
  pub later : (new : Served D) (answer : Result (List ℕ) IoFault) → ReadsBy does c rest mid new answer → ReadsBy does c what old new answer

-- ---- writes

-- where bytes are written: to a source at once, or to a leaf or device, from a sector on, so many sectors at a time
pub data WriteTo : Type 0 where
  at_once : Source → WriteTo
  in_steps : ℕ → Lower → ℕ → WriteTo

-- These bytes are written there by these calls, and this is answered: they are handed over as they are, or encrypted. No line on
-- the way is a `verity` line.
pub data WriteCalls (c : Configuration) : WriteTo → List ℕ → List LeafCall → Result Unit IoFault → Type 0 where
  -- to a leaf, by one call
  leaf_written : (i s : ℕ) (bytes : List ℕ) → WriteCalls c (at_once (Below (Leaf i) s)) bytes (record { leaf = i; call = Write s bytes true } ∷ []) (Ok tt)
  leaf_unwritten : (i s : ℕ) (bytes : List ℕ) → WriteCalls c (at_once (Below (Leaf i) s)) bytes (record { leaf = i; call = Write s bytes false } ∷ []) (Err (io.Device (i + 1)))
  -- to a device: none; the longest run, and then the sectors after it; or that run alone, if it ends by a fault
  none_written : (d s : ℕ) → WriteCalls c (at_once (Below (mapped d) s)) [] [] (Ok tt)
  line_written : {d s : ℕ} {run : Run} {bytes more : List ℕ} {calls later : List LeafCall} {result : Result Unit IoFault} → IsRunAt c d s (length (bytes ++ more) / 512) run → length bytes ≡ run.count * 512 → WriteCalls c (at_once run.source) bytes calls (Ok tt)
      → WriteCalls c (at_once (Below (mapped d) (s + run.count))) more later result → WriteCalls c (at_once (Below (mapped d) s)) (bytes ++ more) (calls ++ later) result
  line_unwritten : {d s : ℕ} {run : Run} {bytes : List ℕ} {calls : List LeafCall} {fault : IoFault} (more : List ℕ) → IsRunAt c d s (length (bytes ++ more) / 512) run → length bytes ≡ run.count * 512 → WriteCalls c (at_once run.source) bytes calls (Err fault)
      → WriteCalls c (at_once (Below (mapped d) s)) (bytes ++ more) calls (Err fault)
  -- to a `crypt` line: whole units, encrypted, at once; each by itself, only if a line beneath encrypts some of them once more;
  -- and sectors of one unit, which is read, changed and written whole
  units_written : {u : CryptPart} {bytes : List ℕ} {calls : List LeafCall} {result : Result Unit IoFault} → WriteCalls c (at_once (Below u.lower (unit_first u.units u.first))) (part_encrypted u bytes) calls result → WriteCalls c (at_once (Units u)) bytes calls result
  each_written : {u : CryptPart} {bytes : List ℕ} {calls : List LeafCall} {result : Result Unit IoFault} → SomeEncrypt (said_at c u.lower) (unit_first u.units u.first) (length bytes / 512) → WriteCalls c (in_steps (per_unit u.units) u.lower (unit_first u.units u.first)) (part_encrypted u bytes) calls result
      → WriteCalls c (at_once (Units u)) bytes calls result
  part_written : {from to : ℕ} {u : CryptPart} {bytes unit : List ℕ} {calls later : List LeafCall} {result : Result Unit IoFault} → AreReadCalls c (Units (from_unit u)) (per_unit u.units) calls from to (Ok unit) → WriteCalls c (at_once (Units (from_unit u))) (unit_with u bytes unit) later result
      → WriteCalls c (at_once (UnitPart u)) bytes (calls ++ later) result
  part_lost : {from to : ℕ} {u : CryptPart} {calls : List LeafCall} {fault : IoFault} (bytes : List ℕ) → AreReadCalls c (Units (from_unit u)) (per_unit u.units) calls from to (Err fault) → WriteCalls c (at_once (UnitPart u)) bytes calls (Err fault)
  -- k sectors, and then those after them; or these alone, if they end by a fault
  none_stepped : (k : ℕ) (x : Lower) (s : ℕ) → WriteCalls c (in_steps k x s) [] [] (Ok tt)
  step_written : {k s : ℕ} {x : Lower} {bytes more : List ℕ} {calls later : List LeafCall} {result : Result Unit IoFault} → length bytes ≡ k * 512 → WriteCalls c (at_once (Below x s)) bytes calls (Ok tt) → WriteCalls c (in_steps k x (s + k)) more later result
      → WriteCalls c (in_steps k x s) (bytes ++ more) (calls ++ later) result
  step_unwritten : {k s : ℕ} {x : Lower} {bytes : List ℕ} {calls : List LeafCall} {fault : IoFault} (more : List ℕ) → length bytes ≡ k * 512 → WriteCalls c (at_once (Below x s)) bytes calls (Err fault) → WriteCalls c (in_steps k x s) (bytes ++ more) calls (Err fault)
  -- to a `zero` line and to an `error` line
  zeros_written : (bytes : List ℕ) → WriteCalls c (at_once Zeros) bytes [] (Ok tt)
  fails_written : (bytes : List ℕ) → WriteCalls c (at_once Fails) bytes [] (Err (io.Stack why.ErrorTarget))

abbrev pub AreWriteCalls : Configuration → Source → List ℕ → List LeafCall → Result Unit IoFault → Type 0
AreWriteCalls c source = WriteCalls c (at_once source)

-- the calls that read n sectors of a source, and those that write these bytes there, lead from some devices to others
abbrev pub Gives : {D : Type 0} → (D → Call → D → Type 0) → Configuration → Source → ℕ → Served D → Served D → Result (List ℕ) IoFault → Type 0
Gives does c source n = ReadsBy does c (sectors_of source n)

abbrev pub Writes : {D : Type 0} → (D → Call → D → Type 0) → Configuration → WriteTo → List ℕ → List D → List D → Result Unit IoFault → Type 0
Writes does c to bytes old new result = MakesCalls does (λ calls. WriteCalls c to bytes calls result) old new

abbrev pub Hands : {D : Type 0} → (D → Call → D → Type 0) → Configuration → Source → List ℕ → List D → List D → Result Unit IoFault → Type 0
Hands does c source = Writes does c (at_once source)
