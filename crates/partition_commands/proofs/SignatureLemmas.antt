-- The partition with the signature of a root hash.
use Rattle.std.proofs.Common.{◌≡◌, ◌⊎◌, ◌∙◌, ◌+◌, ◌-◌, ◌^◌, ◌≤◌, ◌<◌, ◌∷◌, [], ℕ, Bool, true, false, IsTrue, List, Option, Some, None, ap, arith, cond, drop, find, get_or, inl, inr, length, refl, subst, sym}
use Rattle.std.specs.Prelude.{◌&&◌, nat_le, nat_lt}
use Rattle.std.proofs.lemmas.Bool.{and_parts, cases_lt, leb-true, ltb-true}
use Rattle.std.proofs.lemmas.List.{at_drop_all, at_drop_more}
use Rattle.std.specs.List.{concat}
use Rattle.block_device.specs.Device.{Device, HasFailed, IsInside, IsRead, run_of}
use Rattle.device_adapters.specs.declared.part.Part.{Part}
use Rattle.image_files.specs.Partitions.{part_of}
use Rattle.partition_table.specs.declared.partition.Partition.{Partition}
use Rattle.partition_table.specs.declared.sector_size.SectorSize.{SectorSize}
use Rattle.verity_format.specs.Blocks.{IsOnlyRead}
use Rattle.verity_format.proofs.lemmas.DeviceLemmas.{only_read-none, only_read-then, steady-then}
use Rattle.partition_commands.specs.Kinds.{is_signature_type}
use Rattle.partition_commands.specs.Parts.{is_within}
use Rattle.partition_commands.specs.Signatures.{ReadsOff, first_sector, is_signature, may_hold, names_root}

-- the first sector of a part that may hold a signature
pub held-inside : (device : Device) (part : Part) (kind : List ℕ) → may_hold device part kind ≡ true → IsInside device part.first 512
unfolding may_hold
held-inside device part kind may =
    let parts = and_parts (is_signature_type kind) (nat_lt 0 part.count && is_within device part) may in
    let both = and_parts (nat_lt 0 part.count) (is_within device part) parts.1 in
    let some = ltb-true 0 part.count both.0 in
    let within = leb-true (part.first + part.count) device.size both.1 in
    record { some = omega arith; whole = refl; inside = omega (arith, some, within) }

-- ---- one partition

pub held-not : (device : Device) (size : SectorSize) (root : List ℕ) (p : Partition) → may_hold device (part_of size p) p.kind ≡ false → ReadsOff device device (is_signature device size root p) false
unfolding is_signature
held-not device size root p not_held = record {
  read = only_read-none device;
  counted = omega arith;
  is = λ steady. inr (sym (ap (λ (b : Bool). b && names_root root (first_sector device (part_of size p))) not_held));
}

pub held-read : (old new : Device) (size : SectorSize) (root : List ℕ) (p : Partition) (sector : List ℕ) (says : Bool) → may_hold old (part_of size p) p.kind ≡ true → IsRead old 1 true new
    → (IsTrue old.steady → sector ≡ first_sector old (part_of size p)) → says ≡ names_root root sector → ReadsOff old new (is_signature old size root p) says
unfolding is_signature
held-read old new size root p sector says may read stored is = record {
  read = record { same = read.same; writes = read.writes; image = read.image };
  counted = omega (arith, read.failures);
  is = λ steady. inr (is ∙ ap (names_root root) (stored steady) ∙ sym (ap (λ (b : Bool). b && names_root root (first_sector old (part_of size p))) may));
}

failed-counted : (old new : Device) → IsRead old 1 false new → HasFailed old new → old.failures ≤ new.failures
failed-counted old new read (inl more) = omega (arith, more)
failed-counted old new read (inr most) = omega (arith, most, read.failures)

pub held-failed : (old new : Device) (wanted : Bool) → IsRead old 1 false new → HasFailed old new → ReadsOff old new wanted false
held-failed old new wanted read failed = record {
  read = record { same = read.same; writes = read.writes; image = read.image };
  counted = failed-counted old new read failed;
  is = λ steady. inl failed;
}

-- ---- several: what is sought among all is what is sought among those that are left

failed-then : (a b c : Device) → HasFailed a b → b.failures ≤ c.failures → HasFailed a c
failed-then a b c (inl less) more = inl (omega (arith, less, more))
failed-then a b c (inr most) more = inr most

failed-since : (a b c : Device) → a.failures ≤ b.failures → b.failures ≤ c.failures → HasFailed b c → HasFailed a c
failed-since a b c more then (inl less) = inl (omega (arith, more, less))
failed-since a b c more then (inr most) = elim (cases_lt a.failures (2 ^ 64 - 1)) [
  | inl low ↦ inl (omega (arith, low, most, then))
  | inr high ↦ inr (omega (arith, high, most, more))
]

-- over a steady device that was only read, a partition holds the signature as before
same-signature : (a b : Device) (size : SectorSize) (root : List ℕ) (p : Partition) → IsOnlyRead a b → IsTrue a.steady → is_signature b size root p ≡ is_signature a size root p
unfolding is_signature may_hold
same-signature a b size root p read steady =
    let part = part_of size p in
    ap (λ (s : ℕ). (is_signature_type p.kind && (nat_lt 0 part.count && nat_le (part.first + part.count) s)) && names_root root (concat (run_of b.image part.first 1))) read.same.size
    ∙ ap (λ (i : List (List ℕ)). (is_signature_type p.kind && (nat_lt 0 part.count && nat_le (part.first + part.count) a.size)) && names_root root (concat (run_of i part.first 1))) (read.image steady)

-- a search from place k on, by what the element there passes
find-at : {A : Type 0} (f : A → Bool) (xs : List A) (k : ℕ) (x : A) → k < length xs → x ≡ get_or xs k x → find f (drop k xs) ≡ cond (f x) (Some x) (find f (drop (k + 1) xs))
find-at f xs k x low is = at_drop_more (find f) xs k x low ∙ ap (λ y. find f (y ∷ drop (k + 1) xs)) (sym is)

pub seek-none : (device : Device) (size : SectorSize) (root : List ℕ) (xs : List Partition) → ReadsOff device device (find (is_signature device size root) xs) (find (is_signature device size root) xs)
seek-none device size root xs = record { read = only_read-none device; counted = omega arith; is = λ steady. inr refl }

pub seek-next : (a b c : Device) (size : SectorSize) (root : List ℕ) (xs : List Partition) (k : ℕ) (p : Partition) (says : Bool) → k < length xs → p ≡ get_or xs k p
    → ReadsOff a b (find (is_signature a size root) xs) (find (is_signature a size root) (drop k xs)) → ReadsOff b c (is_signature b size root p) says
    → ReadsOff a c (find (is_signature a size root) xs) (cond says (Some p) (find (is_signature a size root) (drop (k + 1) xs)))
seek-next a b c size root xs k p says low is before here = record {
  read = only_read-then before.read here.read;
  counted = omega (arith, before.counted, here.counted);
  is = λ steady. next steady (before.is steady) (here.is (steady-then before.read.same steady));
}
  where
    next : IsTrue a.steady → HasFailed a b ⊎ (find (is_signature a size root) (drop k xs) ≡ find (is_signature a size root) xs) → HasFailed b c ⊎ (says ≡ is_signature b size root p)
        → HasFailed a c ⊎ (cond says (Some p) (find (is_signature a size root) (drop (k + 1) xs)) ≡ find (is_signature a size root) xs)
    next steady (inl failed) said = inl (failed-then a b c failed here.counted)
    next steady (inr sought) (inl failed) = inl (failed-since a b c before.counted here.counted failed)
    next steady (inr sought) (inr said) =
        inr (ap (λ (h : Bool). cond h (Some p) (find (is_signature a size root) (drop (k + 1) xs))) (said ∙ same-signature a b size root p before.read steady)
        ∙ sym (find-at (is_signature a size root) xs k p low is) ∙ sought)

pub seek-all : (a b : Device) (size : SectorSize) (root : List ℕ) (xs : List Partition) (k : ℕ) → length xs ≤ k
    → ReadsOff a b (find (is_signature a size root) xs) (find (is_signature a size root) (drop k xs)) → ReadsOff a b (find (is_signature a size root) xs) None
seek-all a b size root xs k end sought = subst (λ (found : Option Partition). ReadsOff a b (find (is_signature a size root) xs) found) (at_drop_all (find (is_signature a size root)) xs k end) sought
