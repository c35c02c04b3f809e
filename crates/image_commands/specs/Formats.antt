-- What `format` makes and prints, and how it ends early.
use Rattle.std.specs.Prelude.{◌≡◌, ◌⊎◌, ℕ, Bool, true, false, IsTrue, List, ◌++◌, Ok, Err, Some, None}
use Rattle.block_device.specs.Call.{Call, DeviceDoes, Sync}
use Rattle.block_device.specs.Device.{Device, IsUnsynced, synced}
use Rattle.verity_format.specs.declared.formatting.FormatFault.{FormatFault}
use Rattle.verity_format.specs.declared.formatting.FormatFault.TheVariants.{Device as DeviceFailed}
use Rattle.verity_format.specs.declared.formatting.FormatOptions.{FormatOptions}
use Rattle.verity_format.specs.Formatting.{IsFormatting, format_refusal, given_blocks}
use Rattle.verity_format.specs.Handing.{HandsFormat}
use Rattle.verity_format.specs.Image.{formatted}
use Rattle.verity_format.specs.Options.{superblock_with}
use Rattle.verity_format.specs.Superblock.{SuperRecord}
use Rattle.image_commands.specs.declared.fault.ImageFault.{ImageFault}
use Rattle.image_commands.specs.declared.fault.ImageFault.TheVariants.{Format}
use Rattle.image_commands.specs.declared.format.MadeImage.{MadeImage}
use Rattle.image_commands.specs.Clearing.{HandsClearing, IsCleared, IsUncleared}
use Rattle.image_commands.specs.Places.{IsStateOf}
use Rattle.image_commands.specs.SuperblockTexts.{blocks_text, root_text, salt_text, uuid_text}

-- an image's root digest, salt, identifier and number of data blocks
unfoldable pub made_text : MadeImage → List ℕ
made_text made = root_text made.root ++ (salt_text made.salt ++ (uuid_text made.uuid ++ blocks_text made.blocks))

-- No refusal applied. A superblock that was stored on the hash device was cleared; that was formatted over the data device
-- and synced, and that is what was made. Over steady devices the image is the one that a format alone leaves. `Hash` is what holds of
-- the hash device that the calls of the clearing left.
pub record IsMade (Hash : Device → Type 0) (options : FormatOptions) (data_dev hash_dev data_dev' hash_dev' : Device) (made : MadeImage) : Type 0 where
  pub cleared : Device
  pub written : Device
  pub left : Hash cleared
  pub allowed : format_refusal (superblock_with options data_dev.size) data_dev hash_dev ≡ None
  pub clearing : IsCleared hash_dev cleared
  pub formatting : IsFormatting (superblock_with options data_dev.size) data_dev cleared data_dev' written (Ok made.root)
  pub image : IsTrue data_dev.steady → IsTrue hash_dev.steady → hash_dev'.image ≡ formatted (superblock_with options data_dev.size) data_dev.image hash_dev.image
  pub kept : hash_dev' ≡ synced written
  pub salt : made.salt ≡ options.salt
  pub uuid : made.uuid ≡ options.uuid
  pub blocks : made.blocks ≡ given_blocks options.blocks options.data_block data_dev.size

-- it was formatted, but what was written couldn't be put on the medium
pub record IsNotKept (Hash : Device → Type 0) (options : FormatOptions) (data_dev hash_dev data_dev' hash_dev' : Device) (fault : FormatFault) : Type 0 where
  pub root : List ℕ
  pub cleared : Device
  pub written : Device
  pub left : Hash cleared
  pub clearing : IsCleared hash_dev cleared
  pub formatting : IsFormatting (superblock_with options data_dev.size) data_dev cleared data_dev' written (Ok root)
  pub unsynced : IsUnsynced written hash_dev'
  pub is : fault ≡ DeviceFailed

-- a refusal applied, and neither device was asked
pub record IsRefusedUnread (options : FormatOptions) (data_dev hash_dev data_dev' hash_dev' : Device) (fault : FormatFault) : Type 0 where
  pub applies : format_refusal (superblock_with options data_dev.size) data_dev hash_dev ≡ Some fault
  pub same : (data_dev' ≡ data_dev) × (hash_dev' ≡ hash_dev)

-- an old superblock couldn't be looked for or cleared: no sector but the first one of the hash device changed
pub record IsNotCleared (data_dev hash_dev data_dev' hash_dev' : Device) (fault : FormatFault) : Type 0 where
  pub uncleared : IsUncleared hash_dev hash_dev'
  pub same : data_dev' ≡ data_dev
  pub is : fault ≡ DeviceFailed

-- it was cleared, and then the formatting wasn't finished
pub record IsNotFinished (Hash : Device → Type 0) (options : FormatOptions) (data_dev hash_dev data_dev' hash_dev' : Device) (fault : FormatFault) : Type 0 where
  pub cleared : Device
  pub left : Hash cleared
  pub clearing : IsCleared hash_dev cleared
  pub formatting : IsFormatting (superblock_with options data_dev.size) data_dev cleared data_dev' hash_dev' (Err fault)

-- it was refused, an old superblock couldn't be cleared, it wasn't finished, or not synced
abbrev pub IsFormatEnd : (Device → Type 0) → FormatOptions → Device → Device → Device → Device → ImageFault → Type 0
IsFormatEnd Hash options data_dev hash_dev data_dev' hash_dev' (Format fault) =
    IsRefusedUnread options data_dev hash_dev data_dev' hash_dev' fault ⊎ (IsNotCleared data_dev hash_dev data_dev' hash_dev' fault
    ⊎ (IsNotFinished Hash options data_dev hash_dev data_dev' hash_dev' fault ⊎ IsNotKept Hash options data_dev hash_dev data_dev' hash_dev' fault))
IsFormatEnd Hash options data_dev hash_dev data_dev' hash_dev' fault = ⊥

-- ---- as a call sees them: what a proof sees of two devices, and both before and after

abbrev pub MakesImage : {D H : Type 0} → (D → Device) → (H → Device) → D → H → D → H → FormatOptions → MadeImage → Type 0
MakesImage data_state hash_state data_dev hash_dev data_dev' hash_dev' options = IsMade (IsStateOf hash_state) options (data_state data_dev) (hash_state hash_dev) (data_state data_dev') (hash_state hash_dev')

abbrev pub IsUnmade : {D H : Type 0} → (D → Device) → (H → Device) → D → H → D → H → FormatOptions → FormatFault → Type 0
IsUnmade data_state hash_state data_dev hash_dev data_dev' hash_dev' options = λ fault. IsFormatEnd (IsStateOf hash_state) options (data_state data_dev) (hash_state hash_dev) (data_state data_dev') (hash_state hash_dev') (Format fault)

-- ---- all calls, whatever the devices do

-- an old superblock was cleared, which ends with a sync; then the hash device was formatted; and then it was synced. `ok` is
-- whether that ended well.
pub record HandsMade {D H : Type 0} (asks : D → Call → D → Type 0) (does : H → Call → H → Type 0) (s : SuperRecord) (d : D) (h : H) (d' : D) (h' : H) (root : List ℕ) (ok : Bool) : Type 0 where
  pub cleared : H
  pub written : H
  pub clearing : HandsClearing does h cleared true
  pub formatting : HandsFormat asks does s d cleared d' written (Ok root)
  pub last : does written (Sync ok) h'

-- an old superblock was cleared, and then the formatting wasn't finished
pub record HandsUnfinished {D H : Type 0} (asks : D → Call → D → Type 0) (does : H → Call → H → Type 0) (s : SuperRecord) (d : D) (h : H) (d' : D) (h' : H) : Type 0 where
  pub cleared : H
  pub fault : FormatFault
  pub clearing : HandsClearing does h cleared true
  pub formatting : HandsFormat asks does s d cleared d' h' (Err fault)

-- no device was called, the clearing failed, the formatting wasn't finished, or the last sync failed
abbrev pub StopsMaking : {D H : Type 0} → (D → Call → D → Type 0) → (H → Call → H → Type 0) → SuperRecord → D → H → D → H → Type 0
StopsMaking asks does s d h d' h' =
    ((d' ≡ d) × ((h' ≡ h) ⊎ HandsClearing does h h' false))
    ⊎ (HandsUnfinished asks does s d h d' h' ⊎ ((root : List ℕ) × HandsMade asks does s d h d' h' root false))

-- all calls of making an image with these options, by what each promises of the devices
abbrev pub HandsMakingOf : {D H : Type 0} → (D → Device) → (D → Call → D → Type 0) → (H → Device) → (H → Call → H → Type 0) → FormatOptions → D → H → D → H → MadeImage → Type 0
HandsMakingOf data_state asks hash_state does options d h d' h' =
    λ made. HandsMade (DeviceDoes data_state asks) (DeviceDoes hash_state does) (superblock_with options (data_state d).size) d h d' h' made.root true

abbrev pub StopsMakingOf : {D H : Type 0} → (D → Device) → (D → Call → D → Type 0) → (H → Device) → (H → Call → H → Type 0) → FormatOptions → D → H → D → H → Type 0
StopsMakingOf data_state asks hash_state does options d h d' h' =
    StopsMaking (DeviceDoes data_state asks) (DeviceDoes hash_state does) (superblock_with options (data_state d).size) d h d' h'
