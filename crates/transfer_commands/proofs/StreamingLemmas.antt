-- Bytes of a device, out and in.
use Rattle.std.proofs.Common.{◌≡◌, ◌+◌, ◌-◌, ◌/◌, ◌%◌, ℕ, Bool, true, false, List, Option, Some, None, subst, inl, inr}
use Rattle.std.specs.Prelude.{◌==◌, nat_lt, not, if◌then◌else◌}
use Rattle.image_files.specs.Opener.{Calls}
use Rattle.stack_rules.specs.Names.{mapped, may_write, size}
use Rattle.stack_rules.specs.Records.{Configuration}
use Rattle.stack_engine.specs.Stacks.{StackRecord}
use Rattle.transfer_commands.specs.declared.stream_fault.CatFault.{CatFault}
use Rattle.transfer_commands.specs.declared.stream_fault.StoreCause.{StoreCause}
use Rattle.transfer_commands.specs.declared.stream_fault.StoreCause.TheVariants as cause
use Rattle.transfer_commands.specs.declared.stream_fault.StoreFault.{StoreFault}
use Rattle.transfer_commands.specs.declared.input.StorePlace.{StorePlace}
use Rattle.transfer_commands.specs.Cats.{IsCat, IsCatEnd, cat_side}
use Rattle.transfer_commands.specs.Stores.{IsStoreEnd, IsStoreUnsynced, StopsStore, StoreSide, length_refusal, put_refusal, store_side}
use Rattle.transfer_commands.specs.declared.stream_fault.StreamFault.TheVariants.{Cat}
use Rattle.stack_files.specs.NamedDevices.{DeviceWords, FindsDevice, DevicePlace}
use Rattle.transfer_commands.specs.Streaming.{FailsToCat, IfInputCause, PrintsBytes, count_from}

module _ {S D : Type 0} (w : Calls S D) (words : DeviceWords) (at : DevicePlace) (found : FindsDevice w words at) (first n : ℕ) (count : Option ℕ)
    (is : n ≡ count_from count first (size at.stack.config (mapped at.d))) (old new : Option (List ℕ)) (left : StackRecord) where
  pub bytes-printed : IsCat at.d first n (first + n) (cat_side at.stack old) (cat_side left new) → PrintsBytes w words first count old new
  bytes-printed done = record {
    at = at;
    left = left;
    found = found;
    written = subst (λ (m : ℕ). IsCat at.d first m (first + m) (cat_side at.stack old) (cat_side left new)) is done;
  }

  pub cat-ends : (failed : Bool) (fault : CatFault) → IsCatEnd at.d (record { first = first; count = n }) (cat_side at.stack old) (cat_side left new) failed fault
      → FailsToCat w words first count old new failed (Cat fault)
  cat-ends failed fault ends = record {
    at = at;
    left = left;
    found = found;
    fails = subst (λ (m : ℕ). IsCatEnd at.d (record { first = first; count = m }) (cat_side at.stack old) (cat_side left new) failed fault) is ends;
  }

-- what ended it holds whether the reader is broken or not
stop-told : (d first n : ℕ) (old new : StoreSide) (broken : Type 0) (why : StoreCause) → StopsStore d first n old new broken why → StopsStore d first n old new (Unit {0}) why
stop-told d first n old new broken cause.ReadOnly ends = ends
stop-told d first n old new broken cause.Range ends = ends
stop-told d first n old new broken cause.Length ends = ends
stop-told d first n old new broken cause.TooLong ends = ends
stop-told d first n old new broken cause.PartSector ends = ends
stop-told d first n old new broken cause.Read ends = (ends.0, ends.1, tt)
stop-told d first n old new broken (cause.Write fault) ends = ends
stop-told d first n old new broken (cause.Sync fault) ends = ends

pub end-told : (d : ℕ) (place : StorePlace) (old new : StoreSide) (broken : Type 0) (fault : StoreFault) → IsStoreEnd d place old new broken fault → IsStoreEnd d place old new (Unit {0}) fault
end-told d place old new broken fault (inl refused) = inl refused
end-told d place old new broken fault (inr (inl stopped)) =
    inr (inl (record { left = stopped.left; stops = stop-told d place.first fault.written old (store_side stopped.left new.input) broken fault.cause stopped.stops; synced = stopped.synced }))
end-told d place old new broken fault (inr (inr unsynced)) = inr (inr unsynced)

-- ---- an end that names the input

-- if a refusal, if there is one, names the input, this holds of it
abbrev IfInputRefused : Type 0 → Option StoreCause → Type 0
IfInputRefused broken (Some why) = IfInputCause broken why
IfInputRefused broken None = Unit {0}

chosen-cause : (broken : Type 0) (b : Bool) (x y : Option StoreCause) → IfInputRefused broken x → IfInputRefused broken y → IfInputRefused broken (if b then x else y)
chosen-cause broken true x y p q = p
chosen-cause broken false x y p q = q

length-cause : (broken : Type 0) (sectors : ℕ) (wanted : Option ℕ) → IfInputRefused broken (length_refusal sectors wanted)
length-cause broken sectors None = tt
length-cause broken sectors (Some bytes) =
    chosen-cause broken (not (bytes % 512 == 0)) (Some cause.Length) (if nat_lt sectors (bytes / 512) then Some cause.Range else None) tt
    (chosen-cause broken (nat_lt sectors (bytes / 512)) (Some cause.Range) None tt tt)

-- no refusal before the first read names the input
refusal-cause : (broken : Type 0) (c : Configuration) (d : ℕ) (place : StorePlace) → IfInputRefused broken (put_refusal c d place)
refusal-cause broken c d place =
    chosen-cause broken (not (may_write c (mapped d))) (Some cause.ReadOnly)
    (if nat_lt (size c (mapped d)) place.first then Some cause.Range else length_refusal (size c (mapped d) - place.first) place.length) tt
    (chosen-cause broken (nat_lt (size c (mapped d)) place.first) (Some cause.Range) (length_refusal (size c (mapped d) - place.first) place.length) tt
    (length-cause broken (size c (mapped d) - place.first) place.length))

stop-cause : (d first n : ℕ) (old new : StoreSide) (broken : Type 0) (why : StoreCause) → StopsStore d first n old new broken why → IfInputCause broken why
stop-cause d first n old new broken cause.ReadOnly ends = tt
stop-cause d first n old new broken cause.Range ends = tt
stop-cause d first n old new broken cause.Length ends = tt
stop-cause d first n old new broken cause.TooLong ends = tt
stop-cause d first n old new broken cause.PartSector ends = tt
stop-cause d first n old new broken cause.Read ends = ends.2
stop-cause d first n old new broken (cause.Write fault) ends = tt
stop-cause d first n old new broken (cause.Sync fault) ends = tt

sync-cause : (old new : StackRecord) (broken : Type 0) (why : StoreCause) → IsStoreUnsynced why old new → IfInputCause broken why
sync-cause old new broken cause.ReadOnly ends = tt
sync-cause old new broken cause.Range ends = tt
sync-cause old new broken cause.Length ends = tt
sync-cause old new broken cause.TooLong ends = tt
sync-cause old new broken cause.PartSector ends = tt
sync-cause old new broken cause.Read ends = absurd ends
sync-cause old new broken (cause.Write fault) ends = tt
sync-cause old new broken (cause.Sync fault) ends = tt

pub end-cause : (d : ℕ) (place : StorePlace) (old new : StoreSide) (broken : Type 0) (fault : StoreFault) → IsStoreEnd d place old new broken fault → IfInputCause broken fault.cause
end-cause d place old new broken fault (inl refused) = subst (λ (why : Option StoreCause). IfInputRefused broken why) refused.why (refusal-cause broken old.stack.config d place)
end-cause d place old new broken fault (inr (inl stopped)) = stop-cause d place.first fault.written old (store_side stopped.left new.input) broken fault.cause stopped.stops
end-cause d place old new broken fault (inr (inr unsynced)) = sync-cause unsynced.left new.stack broken fault.cause unsynced.unsynced
