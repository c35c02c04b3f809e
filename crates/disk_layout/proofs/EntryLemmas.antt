-- The entries of a table that was written, read again.
use Rattle.std.proofs.Common.{◌≡◌, ◌∙◌, ◌≤◌, ℕ, List, ap, arith, length, refl, sym, take}
use Rattle.std.specs.Prelude.{slice_range}
use Rattle.std.proofs.Math.Seq.{take-length}
use Rattle.partition_table.specs.declared.partition.Partition.{Partition}
use Rattle.partition_table.specs.Partitions.{partition_of}
use Rattle.disk_layout.specs.Entries.{entry_bytes, label_fields, place_fields}
use Rattle.disk_layout.specs.Numbers.{bytes64, stored_uuid}
use Rattle.disk_layout.specs.Written.{AreBytes, IsStatable}
use Rattle.disk_layout.proofs.BytesLemmas.{byte-append, bytes64-bytes, number64-back, stored-bytes, uuid-back}

pub entry-is_bytes : (p : Partition) → IsStatable p → AreBytes (entry_bytes p)
unfolding entry_bytes place_fields label_fields
entry-is_bytes p ok =
    byte-append _ _ (byte-append _ _ (stored-bytes p.kind ok.kind) (byte-append _ _ (stored-bytes p.uuid ok.uuid) (byte-append _ _ (bytes64-bytes p.first) (bytes64-bytes p.last))))
    (byte-append _ _ (bytes64-bytes 0) ok.label.1)

pub length-entry : (p : Partition) → IsStatable p → length (entry_bytes p) ≡ 128
unfolding entry_bytes place_fields label_fields bytes64 stored_uuid
length-entry p ok = omega (arith, ok.label.0)

module _ (p : Partition) where
  kind-at : slice_range (entry_bytes p) 0 16 ≡ stored_uuid p.kind
  unfolding entry_bytes place_fields label_fields bytes64 stored_uuid
  kind-at = refl

  uuid-at : slice_range (entry_bytes p) 16 32 ≡ stored_uuid p.uuid
  unfolding entry_bytes place_fields label_fields bytes64 stored_uuid
  uuid-at = refl

  first-at : slice_range (entry_bytes p) 32 40 ≡ bytes64 p.first
  unfolding entry_bytes place_fields label_fields bytes64 stored_uuid
  first-at = refl

  last-at : slice_range (entry_bytes p) 40 48 ≡ bytes64 p.last
  unfolding entry_bytes place_fields label_fields bytes64 stored_uuid
  last-at = refl

  label-at : slice_range (entry_bytes p) 56 128 ≡ take 72 p.label
  unfolding entry_bytes place_fields label_fields bytes64 stored_uuid
  label-at = refl

same-partition : (n : ℕ) (kind uuid : List ℕ) (first last : ℕ) (label : List ℕ) (p : Partition)
    → n ≡ p.number → kind ≡ p.kind → uuid ≡ p.uuid → first ≡ p.first → last ≡ p.last → label ≡ p.label
    → record { number = n; kind = kind; uuid = uuid; first = first; last = last; label = label } ≡ p
same-partition n kind uuid first last label p e0 e1 e2 e3 e4 e5 = rw e0 (rw e1 (rw e2 (rw e3 (rw e4 (rw e5 refl)))))

pub partition_of-entry : (p : Partition) → IsStatable p → p.first ≤ p.last → partition_of p.number (entry_bytes p) ≡ p
unfolding partition_of
partition_of-entry p ok order =
    same-partition p.number _ _ _ _ _ p refl (uuid-back (entry_bytes p) 0 p.kind ok.kind.0 (kind-at p)) (uuid-back (entry_bytes p) 16 p.uuid ok.uuid.0 (uuid-at p))
    (number64-back (entry_bytes p) 32 p.first (omega (arith, ok.last, order)) (first-at p)) (number64-back (entry_bytes p) 40 p.last ok.last (last-at p))
    (label-at p ∙ ap (λ (n : ℕ). take n p.label) (sym ok.label.0) ∙ take-length p.label)
