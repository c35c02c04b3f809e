-- The streams of `cat` and `store`, and how they end early.
use Rattle.std.specs.Prelude.{◌≡◌, ◌⊎◌, ℕ, ◌+◌, ◌-◌, Bool, true, List, Option, Some, None}
use Rattle.std.specs.Io.KnownBytes.{Appends}
use Rattle.program_io.specs.Counted.{CountedRecord}
use Rattle.program_io.specs.Streams.{Streams, streams}
use Rattle.image_files.specs.Opener.{Calls}
use Rattle.stack_rules.specs.Names.{mapped, size}
use Rattle.stack_engine.specs.Stacks.{StackRecord}
use Rattle.transfer_commands.specs.declared.device_in.Target.{Target}
use Rattle.transfer_commands.specs.declared.device_out.Wanted.{Wanted}
use Rattle.transfer_commands.specs.declared.input.StorePlace.{StorePlace}
use Rattle.transfer_commands.specs.declared.output.SectorRange.{SectorRange}
use Rattle.transfer_commands.specs.Cats.{CatSide, IsCat, IsCatEnd, cat_side}
use Rattle.transfer_commands.specs.Filling.{IsBroken}
use Rattle.transfer_commands.specs.Stores.{IsStoreEnd, StoreSide, Stores, store_side}
use Rattle.transfer_commands.specs.declared.stream_fault.StoreCause.{StoreCause}
use Rattle.transfer_commands.specs.declared.stream_fault.StoreCause.TheVariants as cause
use Rattle.transfer_commands.specs.declared.stream_fault.StreamFault.{StreamFault}
use Rattle.transfer_commands.specs.declared.stream_fault.StreamFault.TheVariants.{Cat, Stack, Store, Write}
use Rattle.transfer_commands.specs.StreamTexts.{stored_text}
use Rattle.stack_files.specs.declared.stack_fault.StackFault.{StackFault}
use Rattle.stack_files.specs.Closings.{IsGivenBack}
use Rattle.stack_files.specs.NamedDevices.{DeviceWords, FailsToFindDevice, FindsDevice, DevicePlace, device_words}
use Rattle.stack_files.specs.declared.stack_file.StackFile.{StackFile}
use Rattle.stack_files.specs.OpenStacks.{stack_words}

-- relations of what a counted writer held before and holds afterwards; the second also of whether it failed, and of a fault
abbrev pub Printing : {T : Type 0} → (T → Option (List ℕ)) → CountedRecord T → CountedRecord T → (Option (List ℕ) → Option (List ℕ) → Type 0) → Type 0
Printing contents old new Prints = Prints (contents old.inner) (contents new.inner)

abbrev pub EndsPrinting : {T : Type 0} → (T → Option (List ℕ)) → CountedRecord T → CountedRecord T → (Option (List ℕ) → Option (List ℕ) → Bool → StreamFault → Type 0) → StreamFault → Type 0
EndsPrinting contents old new Ends fault = Ends (contents old.inner) (contents new.inner) new.failed fault

-- there is no such device
abbrev pub IsStackless : (StackFault → Type 0) → StreamFault → Type 0
IsStackless Fails (Stack fault) = Fails fault
IsStackless Fails fault = ⊥

-- a line can't be written: the writer failed
abbrev pub IsStreamUnwritten : Bool → StreamFault → Type 0
IsStreamUnwritten failed Write = failed ≡ true
IsStreamUnwritten failed fault = ⊥

-- ---- `cat`

-- how many sectors are wanted: without a count all from the first one on
abbrev pub count_from : Option ℕ → ℕ → ℕ → ℕ
count_from None first sectors = sectors - first
count_from (Some count) first sectors = count

-- the range of these sectors on a device
abbrev pub wanted_sectors : DevicePlace → ℕ → Option ℕ → SectorRange
wanted_sectors at first count = record { first = first; count = count_from count first (size at.stack.config (mapped at.d)) }

-- the bytes of these sectors were written, and nothing else
pub record PrintsBytes {S D : Type 0} (w : Calls S D) (words : DeviceWords) (first : ℕ) (count : Option ℕ) (old new : Option (List ℕ)) : Type 0 where
  pub at : DevicePlace
  pub left : StackRecord
  pub found : FindsDevice w words at
  pub written : IsCat at.d first (wanted_sectors at first count).count (first + (wanted_sectors at first count).count) (cat_side at.stack old) (cat_side left new)

-- not all of the sectors were written
abbrev pub IsCatFault : ℕ → SectorRange → CatSide → CatSide → Bool → StreamFault → Type 0
IsCatFault d range old new failed (Cat fault) = IsCatEnd d range old new failed fault
IsCatFault d range old new failed fault = ⊥

pub record FailsToCat {S D : Type 0} (w : Calls S D) (words : DeviceWords) (first : ℕ) (count : Option ℕ) (old new : Option (List ℕ)) (failed : Bool) (fault : StreamFault) : Type 0 where
  pub at : DevicePlace
  pub left : StackRecord
  pub found : FindsDevice w words at
  pub fails : IsCatFault at.d (wanted_sectors at first count) (cat_side at.stack old) (cat_side left new) failed fault

-- nothing is written if the stack isn't loaded or has no such device
abbrev pub IsBytesEnd : {S D : Type 0} → Calls S D → DeviceWords → ℕ → Option ℕ → Option (List ℕ) → Option (List ℕ) → Bool → StreamFault → Type 0
IsBytesEnd w words first count old new failed fault =
    ((new ≡ old) × IsStackless (FailsToFindDevice w words) fault) ⊎ FailsToCat w words first count old new failed fault

-- the sectors that are wanted, as the arguments name them
abbrev pub wanted_words : StackFile → Wanted → DeviceWords
wanted_words file wanted = device_words (stack_words file) wanted.name.now wanted.cache

abbrev pub PrintsWanted : {S D : Type 0} → Calls S D → StackFile → Wanted → Option (List ℕ) → Option (List ℕ) → Type 0
PrintsWanted w file wanted old new = PrintsBytes w (wanted_words file wanted) wanted.first wanted.count old new

abbrev pub IsWantedEnd : {S D : Type 0} → Calls S D → StackFile → Wanted → Option (List ℕ) → Option (List ℕ) → Bool → StreamFault → Type 0
IsWantedEnd w file wanted old new failed fault = IsBytesEnd w (wanted_words file wanted) wanted.first wanted.count old new failed fault

-- ---- `store`

-- from that sector on, any number of bytes
abbrev pub place_from : ℕ → StorePlace
place_from first = record { first = first; length = None }

-- All bytes of the input, n sectors, were written to the device and synced. Then the images were closed.
pub record StoresInput {S D : Type 0} (w : Calls S D) (words : DeviceWords) (first : ℕ) (old new : Streams) (n : ℕ) : Type 0 where
  pub at : DevicePlace
  pub left : StackRecord
  pub between : S
  pub found : FindsDevice (record w { new = between }) words at
  pub stored : Stores at.d first (store_side at.stack old.input) (store_side left new.input) n
  pub back : IsGivenBack (record w { old = between }) words.words.bindings left.leaves

pub record PrintsStored {S D : Type 0} (w : Calls S D) (words : DeviceWords) (first : ℕ) (old new : Streams) : Type 0 where
  pub n : ℕ
  pub stored : StoresInput w words first old new n
  pub printed : Appends old.output new.output (stored_text n)

-- not all bytes were stored
abbrev pub IsStoreFault : ℕ → StorePlace → StoreSide → StoreSide → StreamFault → Type 0
IsStoreFault d place old new (Store fault) = IsStoreEnd d place old new (Unit {0}) fault
IsStoreFault d place old new fault = ⊥

-- if the cause is the input, this holds of it
abbrev pub IfInputCause : Type 0 → StoreCause → Type 0
IfInputCause broken cause.Read = broken
IfInputCause broken other = Unit {0}

-- if a store ended because of its input, the reader is broken
abbrev pub BlamesReader : {R : Type 0} → CountedRecord R → StreamFault → Type 0
BlamesReader reader (Store fault) = IfInputCause (IsBroken reader) fault.cause
BlamesReader reader fault = Unit {0}

-- not all bytes were stored, and the images were closed
pub record FailsToStore {S D : Type 0} (w : Calls S D) (words : DeviceWords) (first : ℕ) (old new : Streams) (fault : StreamFault) : Type 0 where
  pub at : DevicePlace
  pub left : StackRecord
  pub between : S
  pub found : FindsDevice (record w { new = between }) words at
  pub fails : IsStoreFault at.d (place_from first) (store_side at.stack old.input) (store_side left new.input) fault
  pub quiet : new.output ≡ old.output
  pub back : IsGivenBack (record w { old = between }) words.words.bindings left.leaves

-- nothing is read or written if the stack isn't loaded or has no such device; or the line can't be written
abbrev pub IsStoringEnd : {S D : Type 0} → Calls S D → DeviceWords → ℕ → Streams → Streams → Bool → StreamFault → Type 0
IsStoringEnd w words first old new failed fault =
    ((new ≡ old) × IsStackless (FailsToFindDevice w words) fault)
    ⊎ (FailsToStore w words first old new fault ⊎ ((n : ℕ) × StoresInput w words first old new n × IsStreamUnwritten failed fault))

-- a counted reader and a counted writer, and their contents as a proof sees them
pub record StreamEnds (R W : Type 0) : Type 0 where
  pub reader : CountedRecord R
  pub writer : CountedRecord W

abbrev pub ends : {R W : Type 0} → CountedRecord R → CountedRecord W → StreamEnds R W
ends reader writer = record { reader = reader; writer = writer }

abbrev pub streams_of : {R W : Type 0} → (R → Option (List ℕ)) → (W → Option (List ℕ)) → StreamEnds R W → Streams
streams_of remaining contents e = streams (remaining e.reader.inner) (contents e.writer.inner)

-- the destination of the bytes, as the arguments name it
abbrev pub words_to : StackFile → Target → DeviceWords
words_to file target = device_words (stack_words file) target.name.now target.cache

abbrev pub StoresTarget : {S D R W : Type 0} → Calls S D → StackFile → Target → (R → Option (List ℕ)) → (W → Option (List ℕ)) → StreamEnds R W → StreamEnds R W → Type 0
StoresTarget w file target remaining contents old new = PrintsStored w (words_to file target) target.first (streams_of remaining contents old) (streams_of remaining contents new)

abbrev pub IsTargetEnd : {S D R W : Type 0} → Calls S D → StackFile → Target → (R → Option (List ℕ)) → (W → Option (List ℕ)) → StreamEnds R W → StreamEnds R W → StreamFault → Type 0
IsTargetEnd w file target remaining contents old new fault =
    IsStoringEnd w (words_to file target) target.first (streams_of remaining contents old) (streams_of remaining contents new) new.writer.failed fault
