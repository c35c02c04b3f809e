-- The array of entries that was written, read again.
use Rattle.std.proofs.Common.{◌≡◌, ◌∙◌, ◌+◌, ◌-◌, ◌*◌, ◌≤◌, ◌<◌, ℕ, zero, suc, Bool, true, false, cond, List, [], ◌∷◌, ◌++◌, ap, append_assoc, arith, drop, length, refl, replicate, sym, take}
use Rattle.std.specs.Prelude.{filter, map}
use Rattle.std.specs.List.{flat_map, range_with_len}
use Rattle.std.proofs.lemmas.List.{drop-drop, drop_at, length-append, length-replicate, replicate-append-replicate, take_all, take_at}
use Rattle.std.proofs.lemmas.List.Elements.{All-nil, All-replicate}
use Rattle.partition_table.specs.declared.partition.Partition.{Partition}
use Rattle.partition_table.specs.Fields.{uuid_at}
use Rattle.partition_table.specs.Partitions.{entry_at, is_used, partition_of, partitions_to}
use Rattle.disk_layout.specs.Entries.{entries_array, entry_bytes}
use Rattle.disk_layout.specs.Written.{AreBytes, AreInOrder}
use Rattle.disk_layout.proofs.BytesLemmas.{byte-append}
use Rattle.disk_layout.proofs.EntryLemmas.{entry-is_bytes, length-entry, partition_of-entry}

-- ---- one entry

zero-unused : (n : ℕ) → is_used (partition_of n (replicate 128 0)) ≡ false
unfolding partition_of uuid_at
zero-unused n = refl

filter-used : (x : Partition) (xs : List Partition) → is_used x ≡ true → filter is_used (x ∷ xs) ≡ x ∷ filter is_used xs
filter-used x xs h = ap (λ (b : Bool). cond b (x ∷ filter is_used xs) (filter is_used xs)) h

filter-unused : (x : Partition) (xs : List Partition) → is_used x ≡ false → filter is_used (x ∷ xs) ≡ filter is_used xs
filter-unused x xs h = ap (λ (b : Bool). cond b (x ∷ filter is_used xs) (filter is_used xs)) h

module _ (array : List ℕ) where
  -- entry k, as it is read
  abbrev read : ℕ → Partition
  read k = partition_of (k + 1) (entry_at 128 array k)

  entry-is : (s : ℕ) (block rest : List ℕ) → length block ≡ 128 → drop (s * 128) array ≡ block ++ rest → entry_at 128 array s ≡ block
  entry-is s block rest size stands =
      let n : s * 128 + 128 - s * 128 ≡ 128 = omega arith in
      ap (λ (k : ℕ). take k (drop (s * 128) array)) n ∙ ap (take 128) stands ∙ take_at block rest 128 size

  rest-is : (s : ℕ) (block rest : List ℕ) → length block ≡ 128 → drop (s * 128) array ≡ block ++ rest → drop ((s + 1) * 128) array ≡ rest
  rest-is s block rest size stands =
      let n : (s + 1) * 128 ≡ s * 128 + 128 = omega arith in
      ap (λ (k : ℕ). drop k array) n ∙ sym (drop-drop 128 (s * 128) array) ∙ ap (drop 128) stands ∙ drop_at block rest 128 size

  unused-walk : (s m : ℕ) → drop (s * 128) array ≡ replicate (128 * m) 0 → filter is_used (map read (range_with_len s m)) ≡ []
  unused-walk s zero stands = refl
  unused-walk s (suc m) stands =
      let n : 128 * suc m ≡ 128 + 128 * m = omega arith in
      let split : drop (s * 128) array ≡ replicate 128 0 ++ replicate (128 * m) 0 =
      stands ∙ ap (λ (k : ℕ). replicate k 0) n ∙ sym (replicate-append-replicate {A = ℕ} 128 (128 * m) 0) in
      let size : length (replicate {A = ℕ} 128 0) ≡ 128 = length-replicate {A = ℕ} 128 0 in
      let unused : is_used (read s) ≡ false = ap (λ (e : List ℕ). is_used (partition_of (s + 1) e)) (entry-is s (replicate 128 0) (replicate (128 * m) 0) size split) ∙ zero-unused (s + 1) in
      filter-unused (read s) (map read (range_with_len (s + 1) m)) unused ∙ unused-walk (s + 1) m (rest-is s (replicate 128 0) (replicate (128 * m) 0) size split)

  -- so many entries: these, and m unused ones
  pub used-walk : (s m n from last : ℕ) (ps : List Partition) → n ≡ length ps + m → AreInOrder (s + 1) from last ps → drop (s * 128) array ≡ flat_map entry_bytes ps ++ replicate (128 * m) 0
      → filter is_used (map read (range_with_len s n)) ≡ ps
  used-walk s m n from last [] count order stands =
      let same : n ≡ m = omega (arith, count) in
      ap (λ (k : ℕ). filter is_used (map read (range_with_len s k))) same ∙ unused-walk s m stands
  used-walk s m n from last (p ∷ ps) count order stands =
      let same : n ≡ suc (length ps + m) = omega (arith, count) in
      let split = stands ∙ append_assoc (entry_bytes p) (flat_map entry_bytes ps) (replicate (128 * m) 0) in
      let size = length-entry p order.4 in
      let rest = flat_map entry_bytes ps ++ replicate {A = ℕ} (128 * m) 0 in
      let is : read s ≡ p =
      ap (λ (e : List ℕ). partition_of (s + 1) e) (entry-is s (entry_bytes p) rest size split) ∙ ap (λ (k : ℕ). partition_of k (entry_bytes p)) (sym order.0) ∙ partition_of-entry p order.4 order.2 in
      let used : is_used (read s) ≡ true = ap is_used is ∙ order.4.used in
      ap (λ (k : ℕ). filter is_used (map read (range_with_len s k))) same ∙ filter-used (read s) (map read (range_with_len (s + 1) (length ps + m))) used
      ∙ ap (λ (q : Partition). q ∷ filter is_used (map read (range_with_len (s + 1) (length ps + m)))) is
      ∙ ap (λ (l : List Partition). p ∷ l) (used-walk (s + 1) m (length ps + m) (p.last + 1) last ps refl order.5 (rest-is s (entry_bytes p) rest size split))

-- ---- the array

length-entries : (n from last : ℕ) (ps : List Partition) → AreInOrder n from last ps → length (flat_map entry_bytes ps) ≡ 128 * length ps
length-entries n from last [] order = refl
length-entries n from last (p ∷ ps) order =
    let rest = length-entries (n + 1) (p.last + 1) last ps order.5 in
    omega (arith, length-append (entry_bytes p) (flat_map entry_bytes ps), length-entry p order.4, rest)

entries-bytes : (n from last : ℕ) (ps : List Partition) → AreInOrder n from last ps → AreBytes (flat_map entry_bytes ps)
entries-bytes n from last [] order = All-nil (λ b. b < 256)
entries-bytes n from last (p ∷ ps) order = byte-append (entry_bytes p) (flat_map entry_bytes ps) (entry-is_bytes p order.4) (entries-bytes (n + 1) (p.last + 1) last ps order.5)

module _ (from last : ℕ) (ps : List Partition) (few : length ps ≤ 128) (order : AreInOrder 1 from last ps) where
  array-is : entries_array ps ≡ flat_map entry_bytes ps ++ replicate (128 * (128 - length ps)) 0
  unfolding entries_array
  array-is =
      let size = length-entries 1 from last ps order in
      let zeros : 16384 - length (flat_map entry_bytes ps) ≡ 128 * (128 - length ps) = omega (arith, size, few) in
      ap (λ (l : List ℕ). l ++ replicate (16384 - length (flat_map entry_bytes ps)) 0) (take_all 16384 (flat_map entry_bytes ps) (omega (arith, size, few)))
      ∙ ap (λ (k : ℕ). flat_map entry_bytes ps ++ replicate k 0) zeros

  pub length-array : length (entries_array ps) ≡ 16384
  length-array =
      omega (
        arith,
        ap length array-is,
        length-append (flat_map entry_bytes ps) (replicate (128 * (128 - length ps)) 0),
        length-entries 1 from last ps order,
        length-replicate {A = ℕ} (128 * (128 - length ps)) 0,
        few,
      )

  pub array-bytes : AreBytes (entries_array ps)
  array-bytes =
      rw array-is (byte-append (flat_map entry_bytes ps) (replicate (128 * (128 - length ps)) 0) (entries-bytes 1 from last ps order) (All-replicate (λ b. b < 256) (128 * (128 - length ps)) 0 (omega arith)))

  pub partitions-back : partitions_to 128 (entries_array ps) 128 ≡ ps
  unfolding partitions_to
  partitions-back = used-walk (entries_array ps) 0 (128 - length ps) 128 from last ps (omega (arith, few)) order array-is
