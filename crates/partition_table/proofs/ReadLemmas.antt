-- Reads of a device, one after another, and the header that one gave.
use Rattle.std.proofs.Common.{◌≡◌, ◌∙◌, ◌⊎◌, ◌+◌, ◌-◌, ◌^◌, ◌≤◌, ◌<◌, ℕ, Bool, true, false, IsTrue, List, None, arith, inl, inr, subst, sym, take}
use Rattle.block_device.specs.Call.{Call}
use Rattle.block_device.specs.Device.{Device, IsSameDevice}
use Rattle.partition_table.specs.declared.header.Header.{Header}
use Rattle.partition_table.specs.declared.read_fault.ReadFault.{ReadFault}
use Rattle.partition_table.specs.declared.read_fault.ReadFault.TheVariants.{Device as DeviceFailed, NoMemory, Table}
use Rattle.partition_table.specs.declared.sector_size.Disk.{Disk}
use Rattle.partition_table.specs.declared.table.Source.{Source}
use Rattle.partition_table.specs.Copies.{IsArrayCause, IsCopyCause, IsHeaderRead}
use Rattle.partition_table.specs.Headers.{array_bytes}
use Rattle.partition_table.specs.Reads.{IsReadAtMost, IsUnread}
use Rattle.partition_table.specs.TableCalls.{CallsCopies, CallsNoEntries, MissesAt, backup_fault, primary_fault, read_at}
use Rattle.partition_table.specs.Tables.{common_source}
use Rattle.partition_table.proofs.HeaderLemmas.{IsOnDisk, IsOnDisk-from_none}

same-then : {a b c : Device} → IsSameDevice a b → IsSameDevice b c → IsSameDevice a c
same-then p q = record {
  size = q.size ∙ p.size;
  may_write = q.may_write ∙ p.may_write;
  steady = q.steady ∙ p.steady;
  never_fails = λ h. q.never_fails (p.never_fails h);
}

pub only_read-then : {a b c : Device} (n m k : ℕ) → IsReadAtMost a n b → IsReadAtMost b m c → n + m ≤ k → IsReadAtMost a k c
only_read-then {a = a} {b = b} {c = c} n m k p q fits = record {
  same = same-then p.same q.same;
  reads = omega (arith, p.reads, q.reads);
  writes = q.writes ∙ p.writes;
  image = λ h. q.image (subst IsTrue (sym p.same.steady) h) ∙ p.image h;
  more = omega (arith, p.more, q.more);
  sure = λ never. q.sure (p.same.never_fails never) ∙ p.sure never;
}

-- the entries of a header that was read lie on the disk
pub on_disk : (device : Device) (disk : Disk) (sector : ℕ) (header : Header) → IsHeaderRead device disk sector header → IsOnDisk disk header
on_disk device disk sector header h = subst (IsOnDisk disk) (sym h.value) (IsOnDisk-from_none disk sector h.sector_bytes h.good)

-- why sectors of a copy were not read, after calls that didn't fail
pub unread-cause : (a b c : Device) (disk : Disk) (sector n : ℕ) (fault : ReadFault) → IsSameDevice a b → b.failures ≡ a.failures → n ≤ 2048 → IsUnread b c n fault → IsCopyCause a c disk sector fault
unread-cause a b c disk sector n DeviceFailed device same few h = (subst (λ (f : ℕ). (f < c.failures) ⊎ (f ≡ 2 ^ 64 - 1)) same h.0, λ never. h.1 (device.never_fails never))
unread-cause a b c disk sector n NoMemory device same few h = (h.0 ∙ same, (h.1.0, omega (arith, h.1.1, few), h.1.2))
unread-cause a b c disk sector n (Table fault) device same few h = absurd h

-- ---- calls

module _ {D : Type 0} (does : D → Call → D → Type 0) (disk : Disk) (old new : D) where
  -- entries that weren't read
  pub unread-entries : (header : Header) (fault : ReadFault) → MissesAt does disk header.entries_sector old new fault → CallsNoEntries does disk header old new fault
  unread-entries header DeviceFailed h = h
  unread-entries header NoMemory h = inl h
  unread-entries header (Table fault) h = absurd h

  -- entries that were read, and aren't used
  pub unused-entries : (header : Header) (array part : List ℕ) (fault : ReadFault) → part ≡ take (array_bytes header) array → does old (read_at disk header.entries_sector array true) new → IsArrayCause header part fault
      → CallsNoEntries does disk header old new fault
  unused-entries header array part DeviceFailed is made h = absurd h
  unused-entries header array part NoMemory is made h = inr (array, made)
  unused-entries header array part (Table fault) is made h = (array, made, subst (λ (l : List ℕ). IsArrayCause header l (Table fault)) is h)

  -- the faults of the copies are those of the source
  pub sourced : (s t : Source) → s ≡ t → CallsCopies does disk old new (primary_fault t) (backup_fault t) → CallsCopies does disk old new (primary_fault s) (backup_fault s)
  sourced s t is calls = subst (λ (u : Source). CallsCopies does disk old new (primary_fault u) (backup_fault u)) (sym is) calls

  -- both are valid
  pub both-sourced : (s : Source) (same : Bool) → s ≡ common_source same → CallsCopies does disk old new None None → CallsCopies does disk old new (primary_fault s) (backup_fault s)
  both-sourced s true is calls = sourced s _ is calls
  both-sourced s false is calls = sourced s _ is calls
