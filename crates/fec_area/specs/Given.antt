-- Covered blocks that were read, and the bytes that the devices returned for them, whatever these are.
use Rattle.std.specs.Prelude.{◌≡◌, ◌+◌, ◌-◌, ◌*◌, ◌/◌, ℕ, zero, suc, Bool, true, false, List, [], ◌∷◌, ◌++◌, length, nat_lt, if◌then◌else◌}
use Rattle.block_device.specs.Call.{Call, Calls, Read}
use Rattle.fec_area.specs.declared.code.Code.{Code}
use Rattle.fec_area.specs.declared.code.Gap.{Gap}
use Rattle.fec_area.specs.declared.layout.Layout.{Layout}
use Rattle.fec_area.specs.Asking.{is_among}
use Rattle.fec_area.specs.Layouts.{IsParityOf, covered, covered_blocks, code_rounds}
use Rattle.fec_area.specs.Rounds.{AreProductsAdded, AreRestored, IsPlaceAdded}

-- a covered block that was read, by its index, and the bytes that the device returned
pub record GivenBlock : Type 0 where
  pub index : ℕ
  pub bytes : List ℕ

abbrev pub indices_of : List GivenBlock → List ℕ
indices_of [] = []
indices_of (b ∷ more) = b.index ∷ indices_of more

-- the read of a covered block on the data device, and on the hash device: one of them is none
abbrev pub data_read : Layout → GivenBlock → Bool → List Call
data_read l b ok = if nat_lt b.index l.data_blocks then Read (b.index * (l.block / 512)) b.bytes ok ∷ [] else []

abbrev pub hash_read : Layout → GivenBlock → Bool → List Call
hash_read l b ok = if nat_lt b.index l.data_blocks then [] else Read ((l.hash_first + (b.index - l.data_blocks)) * (l.block / 512)) b.bytes ok ∷ []

-- the successful reads of these blocks, in order
abbrev pub data_reads : Layout → List GivenBlock → List Call
data_reads l [] = []
data_reads l (b ∷ more) = data_read l b true ++ data_reads l more

abbrev pub hash_reads : Layout → List GivenBlock → List Call
hash_reads l [] = []
hash_reads l (b ∷ more) = hash_read l b true ++ hash_reads l more

-- two images hold the bytes that were returned for these blocks
abbrev pub HoldGiven : Layout → List (List ℕ) → List (List ℕ) → List GivenBlock → Type 0
HoldGiven l data_image hash_image [] = Unit {0}
HoldGiven l data_image hash_image (b ∷ more) = (covered l data_image hash_image b.index ≡ b.bytes) × HoldGiven l data_image hash_image more

-- a fact of all images that hold the bytes that were returned
abbrev pub OfGiven : Layout → (List (List ℕ) → List (List ℕ) → Type 0) → List GivenBlock → Type 0
OfGiven l Fact blocks = (data_image hash_image : List (List ℕ)) → HoldGiven l data_image hash_image blocks → Fact data_image hash_image

-- the covered blocks of these indices were read in order, nothing else was called, and the fact is true of what the
-- reads returned
pub record GivesAll {D H : Type 0} (asks : D → Call → D → Type 0) (does : H → Call → H → Type 0) (l : Layout) (indices : List ℕ) (Fact : List (List ℕ) → List (List ℕ) → Type 0) (d : D) (h : H) (d' : D) (h' : H) : Type 0 where
  pub blocks : List GivenBlock
  pub are : indices_of blocks ≡ indices
  pub of_data : Calls asks d (data_reads l blocks) d'
  pub of_hash : Calls does h (hash_reads l blocks) h'
  pub fact : OfGiven l Fact blocks

-- the first covered blocks of these indices were read in order, then the read of the next failed, and nothing else was
-- called
pub record GivesFirst {D H : Type 0} (asks : D → Call → D → Type 0) (does : H → Call → H → Type 0) (l : Layout) (indices : List ℕ) (d : D) (h : H) (d' : D) (h' : H) : Type 0 where
  pub blocks : List GivenBlock
  pub last : GivenBlock
  pub rest : List ℕ
  pub are : indices ≡ indices_of blocks ++ last.index ∷ rest
  pub of_data : Calls asks d (data_reads l blocks ++ data_read l last false) d'
  pub of_hash : Calls does h (hash_reads l blocks ++ hash_read l last false) h'

abbrev pub Gives : {D H : Type 0} → (D → Call → D → Type 0) → (H → Call → H → Type 0) → Layout → List ℕ → (List (List ℕ) → List (List ℕ) → Type 0) → D → H → D → H → Bool → Type 0
Gives asks does l indices Fact d h d' h' true = GivesAll asks does l indices Fact d h d' h'
Gives asks does l indices Fact d h d' h' false = GivesFirst asks does l indices d h d' h'

-- ---- which blocks

-- the lists f 0, .., f (n - 1), one after another
unfoldable pub gathered : (ℕ → List ℕ) → ℕ → List ℕ
gathered f zero = []
gathered f (suc n) = gathered f n ++ f n

-- the index of the covered block at position i of a round, if there is one
abbrev pub index_at : Layout → ℕ → ℕ → List ℕ
index_at l round i = if nat_lt (i * code_rounds l + round) (covered_blocks l) then (i * code_rounds l + round) ∷ [] else []

-- none if the position is lost
abbrev pub kept_index_at : Layout → ℕ → List ℕ → ℕ → List ℕ
kept_index_at l round places i = if is_among places i then [] else index_at l round i

-- the indices of all covered blocks of a round
abbrev pub round_indices : Layout → ℕ → List ℕ
round_indices l round = gathered (index_at l round) (255 - l.roots)

-- the indices of all covered blocks of the first n rounds, round by round
abbrev pub first_rounds : Layout → ℕ → List ℕ
first_rounds l n = gathered (round_indices l) n

-- ---- parts of the calls

abbrev pub GivesBlock : {D H : Type 0} → (D → Call → D → Type 0) → (H → Call → H → Type 0) → Layout → ℕ → List ℕ → D → H → D → H → Bool → Type 0
GivesBlock asks does l index bytes d h d' h' ok =
    Calls asks d (data_read l (record { index = index; bytes = bytes }) ok) d' × Calls does h (hash_read l (record { index = index; bytes = bytes }) ok) h'

-- the products of the block that was read were added
abbrev pub GivesPlace : {D H : Type 0} → (D → Call → D → Type 0) → (H → Call → H → Type 0) → Code → ℕ → ℕ → List ℕ → List ℕ → D → H → D → H → Bool → Type 0
GivesPlace asks does code round place old new =
    Gives asks does code.layout.now (index_at code.layout.now round place) (λ d h. IsPlaceAdded code.layout.now d h code.count code.products.now round place old new)

abbrev pub GivesKept : {D H : Type 0} → (D → Call → D → Type 0) → (H → Call → H → Type 0) → Gap → ℕ → List ℕ → List ℕ → D → H → D → H → Bool → Type 0
GivesKept asks does gap place old new =
    Gives asks does gap.code.layout.now (kept_index_at gap.code.layout.now gap.round gap.places.now place) (λ d h. AreProductsAdded gap.code.layout.now d h (length gap.places.now) gap.code.products.now gap.round place old new)

-- the sums are the lost blocks, given the blocks that were read and the parity
abbrev pub GivesRestored : {D H : Type 0} → (D → Call → D → Type 0) → (H → Call → H → Type 0) → Gap → List ℕ → List ℕ → D → H → D → H → Bool → Type 0
GivesRestored asks does gap parity sums =
    Gives asks does gap.code.layout.now (gathered (kept_index_at gap.code.layout.now gap.round gap.places.now) (255 - gap.code.layout.now.roots)) (λ d h. AreRestored gap.code.layout.now d h gap.round parity gap.places.now sums)

-- the bytes are the round's parity, given the blocks that were read
abbrev pub GivesParity : {D H : Type 0} → (D → Call → D → Type 0) → (H → Call → H → Type 0) → Layout → ℕ → List ℕ → D → H → D → H → Bool → Type 0
GivesParity asks does l round parity = Gives asks does l (round_indices l round) (λ d h. IsParityOf l d h round parity)
