-- Laws of what a stack means and of what is answered.
use Rattle.std.specs.Prelude.{◌≡◌, ◌≢◌, ◌↔◌, ℕ, ◌+◌, ◌-◌, ◌<◌, ◌*◌, ◌/◌, false, IsTrue, if◌then◌else◌, List, [], ◌++◌, map, All, Contains, None, Some, Result, Ok}
use Rattle.std.specs.List.{slice_index_or, concat}
use Rattle.sha2.specs.Sha256.{sha256}
use Rattle.hash_tree.specs.declared.difference.Place.{Place}
use Rattle.hash_tree.specs.Chain.{ChainRecord, IsGood, formed}
use Rattle.hash_tree.specs.Difference.{IsTopmostDifference, chain_at as chain_block}
use Rattle.tree_shape.specs.Digests.{digest}
use Rattle.hash_tree.specs.Laws.{AreBlocks}
use Rattle.tree_shape.specs.Shape.{area_blocks}
use Rattle.hash_tree.specs.Tree.{root, area}
use Rattle.dm_table.specs.declared.table.Line.{Line}
use Rattle.dm_table.specs.declared.table.Target.{Target}
use Rattle.dm_table.specs.declared.table.Target.TheVariants.{Verity as verity_target}
use Rattle.dm_table.specs.declared.verity.CorruptionMode.TheVariants.{Fail}
use Rattle.dm_table.specs.declared.verity.Verity.{Verity}
use Rattle.stack_rules.specs.declared.lower.Lower.{Lower}
use Rattle.stack_meaning.specs.declared.fault.Fault.{Fault}
use Rattle.stack_meaning.specs.declared.fault.IoFault.{IoFault}
use Rattle.stack_rules.specs.Lines.{line_at}
use Rattle.stack_rules.specs.Names.{mapped}
use Rattle.stack_rules.specs.Records.{Configuration, DeviceRecord}
use Rattle.stack_rules.specs.Rules.{IsLoaded}
use Rattle.stack_rules.specs.RulesOf.{rules_of}
use Rattle.stack_rules.specs.Trees.{tree_of, line_data_sectors, block_sectors, zero_block}
use Rattle.stack_meaning.specs.Blocks.{hash_sectors, is_ignored}
use Rattle.stack_meaning.specs.Found.{FoundRecord}
use Rattle.stack_meaning.specs.Leaves.{steady_images}
use Rattle.stack_meaning.specs.LeavesBeneath.{leaves_beneath}
use Rattle.stack_meaning.specs.May.{MayBe}
use Rattle.stack_meaning.specs.Meaning.{content_part, line_said, sector, said_by_name}
use Rattle.stack_meaning.specs.Outcomes.{Images, AreWhole, Outcome, span, part, zero_sector}
use Rattle.stack_meaning.specs.Reading.{Answers}
use Rattle.stack_lines.specs.Walks.{HasVerity}
use Rattle.stack_engine.specs.Bytes.{MayBeBytes}
use Rattle.stack_engine.specs.KeptBlocks.{WriteKeeps}
use Rattle.stack_engine.specs.Pieces.{EachPiece, IsCertainPiece}
use Rattle.stack_engine.specs.WritePieces.{AnyWrite}
use Rattle.stack_engine.specs.Stacks.{StackRecord, AnswerRecord}

-- ---- a verity line over formatted devices

-- sector s of the device of that name
abbrev pub named_sector : Configuration → Images → List ℕ → ℕ → Outcome
named_sector c images name s = (said_by_name c name s).means images

abbrev pub verity_digests : Verity → List (List ℕ) → List (List ℕ)
verity_digests v blocks = map (digest v.salt) blocks

-- The data device of a verity line begins with the blocks, the hash device has their tree where the line says, and
-- the line has its root.
pub record AreFormatted (c : Configuration) (images : Images) (v : Verity) (blocks : List (List ℕ)) : Type 0 where
  pub sized : AreBlocks v.blocks v.data_block blocks
  pub on_data : span (named_sector c images v.data) 0 (line_data_sectors v) ≡ Ok (concat blocks)
  pub on_hash : span (named_sector c images v.hash) (hash_sectors v * v.start) (hash_sectors v * area_blocks (tree_of v)) ≡ Ok (concat (area v.hash_block v.salt (verity_digests v blocks)))
  pub root_is : v.root ≡ root v.hash_block v.salt (verity_digests v blocks)

-- sector s of a device lies in a verity line, the l-th
pub record LiesInVerity (c : Configuration) (d s l : ℕ) (line : Line) (v : Verity) : Type 0 where
  pub found : line_at c d s ≡ Some (l, line)
  pub has : line.target ≡ verity_target v

-- Sector w of a line over the blocks: the data's, or zeros where the line ignores blocks of zeros and the data block
-- has the digest of one.
abbrev pub formatted_sector : Verity → List (List ℕ) → ℕ → List ℕ
formatted_sector v blocks w =
    if is_ignored v (digest v.salt (slice_index_or blocks (w / block_sectors v) [])) then zero_sector
    else part (concat blocks) w

-- that is what each sector of a verity line over formatted devices means
abbrev pub FormattedDataIsRead : Type 0
FormattedDataIsRead = (c : Configuration) → IsLoaded c → (images : Images) → AreWhole images
    → (d s l : ℕ) (line : Line) (v : Verity) → LiesInVerity c d s l line v
    → (blocks : List (List ℕ)) → AreFormatted c images v blocks
    → sector c images (mapped d) s ≡ Ok (formatted_sector v blocks (s - line.start))

-- ---- the leaves beneath a device

-- a span depends on the images of the leaves beneath its device alone
abbrev pub SpansStandOnLeaves : Type 0
SpansStandOnLeaves = (c : Configuration) (lower : Lower) (images other : Images)
    → All (λ i. slice_index_or images i [] ≡ slice_index_or other i []) (leaves_beneath c lower)
    → (first n : ℕ) → span (sector c images lower) first n ≡ span (sector c other lower) first n

-- What a piece answers depends on the leaves beneath its device alone: if they are steady it is what the stack means over any
-- images that have theirs, whatever the other leaves are and hold.
abbrev pub OtherLeavesChangeNoAnswer : Type 0
OtherLeavesChangeNoAnswer = (w w' : StackRecord) (d first n : ℕ) (answer : Result AnswerRecord IoFault) → EachPiece w d first n answer w'
    → IsCertainPiece w d first n
    → (images : Images) → All (λ i. slice_index_or (steady_images w.leaves) i [] ≡ slice_index_or images i []) (leaves_beneath w.config (mapped d))
    → Answers (λ got. got.bytes) (span (sector w.config images (mapped d)) first n) answer

-- ---- answered chains

-- each chain of an answer is good for the line that it names
abbrev pub AnsweredChainsAreGood : Type 0
AnsweredChainsAreGood = (c : Configuration) (lower : Lower) (first n : ℕ) (bytes : List ℕ) (chains : List FoundRecord) → MayBe c lower first n bytes chains
    → (x : FoundRecord) → Contains chains x → (v : Verity) × HasVerity c x.device x.line v × IsGood (tree_of v) v.salt v.root x.chain

-- two different inputs of one SHA-256 digest
pub record IsSha256Collision (a b : List ℕ) : Type 0 where
  pub differ : a ≢ b
  pub same : sha256 a ≡ sha256 b

-- An answered chain whose content isn't the formatted block: at the topmost place where it differs from the chain
-- formed of the blocks are two different inputs of one digest.
abbrev pub ForgedAnswersCollide : Type 0
ForgedAnswersCollide = (c : Configuration) → IsLoaded c → (lower : Lower) (first n : ℕ) (bytes : List ℕ) (chains : List FoundRecord) → MayBe c lower first n bytes chains
    → (x : FoundRecord) → Contains chains x → (v : Verity) → HasVerity c x.device x.line v
    → (blocks : List (List ℕ)) → AreBlocks v.blocks v.data_block blocks → v.root ≡ root v.hash_block v.salt (verity_digests v blocks)
    → x.chain.content ≢ slice_index_or blocks x.chain.index []
    → (place : Place) × (IsTopmostDifference (formed (tree_of v) v.salt blocks x.chain.index) x.chain place
    × IsSha256Collision (v.salt ++ chain_block (formed (tree_of v) v.salt blocks x.chain.index) place) (v.salt ++ chain_block x.chain place))

-- A chain of a piece whose chains weren't handed out, with other content than the block under the root, gives a SHA-256 collision.
abbrev pub ForgedBytesCollide : Type 0
ForgedBytesCollide = (c : Configuration) → IsLoaded c → (lower : Lower) (first n : ℕ) (bytes : List ℕ) (may : MayBeBytes c lower first n bytes)
    → (x : FoundRecord) → Contains may.chains x → (v : Verity) → HasVerity c x.device x.line v
    → (blocks : List (List ℕ)) → AreBlocks v.blocks v.data_block blocks → v.root ≡ root v.hash_block v.salt (verity_digests v blocks)
    → x.chain.content ≢ slice_index_or blocks x.chain.index []
    → (place : Place) × (IsTopmostDifference (formed (tree_of v) v.salt blocks x.chain.index) x.chain place
    × IsSha256Collision (v.salt ++ chain_block (formed (tree_of v) v.salt blocks x.chain.index) place) (v.salt ++ chain_block x.chain place))

-- A chain that beside the one formed of the blocks shows two different inputs of one digest, at the topmost place where
-- the two differ.
pub record ChainCollides (v : Verity) (blocks : List (List ℕ)) (index : ℕ) : Type 0 where
  pub chain : ChainRecord
  pub number : chain.index ≡ index
  pub place : Place
  pub topmost : IsTopmostDifference (formed (tree_of v) v.salt blocks index) chain place
  pub collision : IsSha256Collision (v.salt ++ chain_block (formed (tree_of v) v.salt blocks index) place) (v.salt ++ chain_block chain place)

-- A sector of a piece, the j-th, that lies in a verity line and isn't the one of the formatted block: there is a chain
-- that holds it and shows a collision.
abbrev pub ForgedSectorsCollide : Type 0
ForgedSectorsCollide = (c : Configuration) → IsLoaded c → (d first n : ℕ) (bytes : List ℕ) → MayBeBytes c (mapped d) first n bytes
    → (j : ℕ) → j < n → (l : ℕ) (line : Line) (v : Verity) → LiesInVerity c d (first + j) l line v
    → (blocks : List (List ℕ)) → AreBlocks v.blocks v.data_block blocks → v.root ≡ root v.hash_block v.salt (verity_digests v blocks)
    → let w = first + j - line.start in let index = w / block_sectors v in
    part bytes j ≢ content_part v w (slice_index_or blocks index []) → ChainCollides v blocks index

-- ---- blocks that are ignored

-- A block that a line takes for one of zeros, and that isn't: it and the block of zeros are two different inputs of
-- one digest.
abbrev pub IgnoredBlocksCollide : Type 0
IgnoredBlocksCollide = (v : Verity) (block : List ℕ) → IsTrue (is_ignored v (digest v.salt block)) → block ≢ zero_block v
    → IsSha256Collision (v.salt ++ block) (v.salt ++ zero_block v)

-- ---- words for the kernel alone

-- the line without the words that say what the kernel does on corruption, where it verifies, and which key holds a signature
abbrev pub without_kernel_words : Verity → Verity
without_kernel_words v = record v { corruption = Fail; in_tasklet = false; signature_key = None }

abbrev pub target_without : Target → Target
target_without (verity_target v) = verity_target (without_kernel_words v)
target_without target = target

abbrev pub line_without : Line → Line
line_without line = record line { target = target_without line.target }

abbrev pub device_without : DeviceRecord → DeviceRecord
device_without x = record x { table = map line_without x.table }

-- the stack without these words
abbrev pub stack_without : Configuration → Configuration
stack_without c = record c { devices = map device_without c.devices }

-- each sector of a device means what it means in the stack without these words
abbrev pub KernelWordsChangeNoSector : Type 0
KernelWordsChangeNoSector = (c : Configuration) (images : Images) (lower : Lower) (s : ℕ) → sector (stack_without c) images lower s ≡ sector c images lower s

-- Sector s of line l of device d with either target: it means the same, whatever the leaves hold, and whatever they return it may
-- have the same bytes with the same chains, and the same faults.
pub record MeansTheSame (c : Configuration) (d l s : ℕ) (target other : Target) : Type 0 where
  pub means : (images : Images) → (line_said (said_by_name c) d l target s).means images ≡ (line_said (said_by_name c) d l other s).means images
  pub may : (chains : List FoundRecord) (bytes : List ℕ) → (line_said (said_by_name c) d l target s).may chains bytes ↔ (line_said (said_by_name c) d l other s).may chains bytes
  pub meets : (fault : Fault) → (line_said (said_by_name c) d l target s).meets fault ↔ (line_said (said_by_name c) d l other s).meets fault

-- A line has the rules and costs of the line without these words, and each of its sectors means what that line's does.
abbrev pub KernelWordsChangeNoLine : Type 0
KernelWordsChangeNoLine = (v : Verity) → (rules_of (verity_target (without_kernel_words v)) ≡ rules_of (verity_target v))
    × ((c : Configuration) (d l s : ℕ) → MeansTheSame c d l s (verity_target (without_kernel_words v)) (verity_target v))

-- ---- hash blocks that are kept

-- What a write says of the kept blocks (`forgets`), leaf by leaf: of a leaf that was written no block of a line on it is kept.
abbrev pub WrittenLeavesAreForgotten : Type 0
WrittenLeavesAreForgotten = (w w' : StackRecord) (d first : ℕ) (bytes : List ℕ) (result : Result Unit IoFault) → AnyWrite w d first bytes result w' → WriteKeeps w w'
