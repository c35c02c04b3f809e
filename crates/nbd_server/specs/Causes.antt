-- Why the session of a client ends early, by its phase and by the part of a message that was received.
use Rattle.std.specs.Prelude.{◌≡◌, ◌≢◌, ◌⊎◌, ◌<◌, ◌≤◌, ℕ, List, [], ◌++◌, length, take, codes, Option, None}
use Rattle.std.specs.Io.KnownBytes.{IsAtEnd}
use Rattle.nbd_protocol.specs.Numbers.{big_endian32}
use Rattle.nbd_protocol.specs.Exports.{ExportRecord, asked}
use Rattle.nbd_protocol.specs.Headers.{header_of, payload_len, request_magic}
use Rattle.nbd_protocol.specs.declared.fault.ServiceFault.{ServiceFault}
use Rattle.nbd_protocol.specs.declared.fault.ServiceFault.TheVariants.{Lost, Magic, Flags, NoSuchExport, TooManyOptions, ReadFault, WriteFault}
use Rattle.nbd_protocol.specs.declared.phase.Phase.{Phase}
use Rattle.nbd_protocol.specs.declared.phase.Phase.TheVariants.{Greeted, Haggling, Serving, Over}

-- ---- incomplete messages

-- the header of an option; `data_len` is the length of its data
pub record IsOptionHeader (header : List ℕ) : Type 0 where
  pub size : length header ≡ 16
  pub magic : take 8 header ≡ codes "IHAVEOPT"

abbrev pub data_len : List ℕ → ℕ
data_len header = big_endian32 header 12

-- the header of a request; its payload follows
pub record IsRequestHeader (header : List ℕ) : Type 0 where
  pub size : length header ≡ 28
  pub magic : big_endian32 header 0 ≡ request_magic

abbrev pub request_payload_len : List ℕ → ℕ
request_payload_len header = payload_len (header_of header)

-- some bytes were received, but fewer than `size`
abbrev pub IsCutWithin : ℕ → List ℕ → Type 0
IsCutWithin size rest = (0 < length rest) × (length rest < size)

-- a whole header was received, but not all that follows it
pub record IsCutBehind (IsHeader : List ℕ → Type 0) (count : List ℕ → ℕ) (rest : List ℕ) : Type 0 where
  pub header : List ℕ
  pub part : List ℕ
  pub rest_is : rest ≡ header ++ part
  pub is_header : IsHeader header
  pub few : length part < count header

-- the client's message is incomplete
abbrev pub IsMessageCut : Phase → List ℕ → Type 0
IsMessageCut Greeted rest = IsCutWithin 4 rest
IsMessageCut (Haggling terms) rest = IsCutWithin 16 rest ⊎ IsCutBehind IsOptionHeader data_len rest
IsMessageCut (Serving agreed) rest = IsCutWithin 28 rest ⊎ IsCutBehind IsRequestHeader request_payload_len rest
IsMessageCut Over rest = ⊥

-- ---- messages that end the session

-- a whole header with another magic number
abbrev pub HasOtherMagic : Phase → List ℕ → Type 0
HasOtherMagic Greeted rest = ⊥
HasOtherMagic (Haggling terms) rest = (length rest ≡ 16) × (take 8 rest ≢ codes "IHAVEOPT")
HasOtherMagic (Serving agreed) rest = (length rest ≡ 28) × (big_endian32 rest 0 ≢ request_magic)
HasOtherMagic Over rest = ⊥

-- a whole option follows the most options of one handshake
abbrev pub FollowsMostOptions : Phase → List ℕ → Type 0
FollowsMostOptions (Haggling terms) rest = IsOptionHeader rest × (terms.left ≡ 0)
FollowsMostOptions phase rest = ⊥

-- client flags besides the two that the service offers
abbrev pub HasOtherFlags : Phase → List ℕ → Type 0
HasOtherFlags Greeted rest = (length rest ≡ 4) × (4 ≤ big_endian32 rest 0)
HasOtherFlags phase rest = ⊥

-- the whole option EXPORT_NAME with that name
pub record IsNaming (rest name : List ℕ) : Type 0 where
  pub header : List ℕ
  pub rest_is : rest ≡ header ++ name
  pub is_header : IsOptionHeader header
  pub option : big_endian32 header 8 ≡ 1
  pub count : length name ≡ data_len header

-- the name is that of no export
abbrev pub NamesOther : List ExportRecord → Phase → List ℕ → Type 0
NamesOther es (Haggling terms) rest = (name : List ℕ) × IsNaming rest name × (asked es name ≡ None)
NamesOther es phase rest = ⊥

-- Why the session ends in that phase: `rest` was received of a message, and `input` is left. The cause of ReadFault is in
-- `HasRead`, and that of WriteFault in `HasWritten`.
abbrev pub Breaks : List ExportRecord → Phase → List ℕ → Option (List ℕ) → ServiceFault → Type 0
Breaks es phase rest input Lost = IsMessageCut phase rest × IsAtEnd input
Breaks es phase rest input Magic = HasOtherMagic phase rest
Breaks es phase rest input Flags = HasOtherFlags phase rest
Breaks es phase rest input NoSuchExport = NamesOther es phase rest
Breaks es phase rest input TooManyOptions = FollowsMostOptions phase rest
Breaks es phase rest input ReadFault = (rest ≡ []) ⊎ IsMessageCut phase rest
Breaks es phase rest input WriteFault = ⊥
