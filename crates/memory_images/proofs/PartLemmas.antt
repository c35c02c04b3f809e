-- Parts of images in memory as parts of files.
use Rattle.std.proofs.Common.{◌≡◌, ◌+◌, ◌-◌, ◌*◌, ◌/◌, ◌≤◌, ◌++◌, ℕ, Bool, true, List, [], length, take, drop, Some, Ok, arith, refl, sym, ap, subst, ◌∙◌, nat_le, rules, add-zero, length-drop}
use Rattle.std.proofs.lemmas.List.{append-nil, length-take-le}
use Rattle.std.proofs.Math.Nat.{mul_comm}
use Rattle.block_device.proofs.lemmas.SectorLemmas.{drop-sectors_of, sectors_of-append, sectors_of-split, take-sectors_of}
use Rattle.block_device.specs.contracts.memory.MemoryDevBlockDev.TheImpl.{ghosts}
use Rattle.block_device.specs.declared.memory.MemoryDev.{MemoryDev}
use Rattle.block_device.specs.Device.{Device, run_of, sectors_of}
use Rattle.block_device.specs.Memory.{memory_bytes}
use Rattle.block_device.specs.Whole.{length-sectors_of}
use Rattle.device_adapters.specs.declared.part.Part.{Part}
use Rattle.image_files.proofs.lemmas.OverwriteLemmas.{IsOverwritten, overwritten}
use Rattle.image_files.specs.declared.images.OpenImage.{OpenImage}
use Rattle.image_files.specs.Opener.{IsNarrowed}
use Rattle.image_files.specs.Promises.{FileRecord, HoldsPart, IsGrown, IsSameFile, IsShrunk, TakesPart}
use Rattle.memory_images.specs.declared.named_images.MemoryImages.{MemoryImages}
use Rattle.memory_images.specs.Files.{file_under}
use Rattle.memory_images.specs.MemoryRelations.{ChangesAt, GrowsAt, IsNarrowedCopy, IsPartCopy, ShrinksAt}
use Rattle.memory_images.specs.Named.{named_place}
use Rattle.memory_images.specs.Parts.{LiesWithin, grown_image, part_bytes, shrunk_image, with_bytes, with_part}
use Rattle.memory_images.proofs.FileLemmas.{changed, file-of, regular-under, under}

-- sectors of a text's first bytes, whatever follows them
sectors-front : (count : ℕ) (bytes rest : List ℕ) → count * 512 ≤ length bytes → sectors_of count (take (count * 512) bytes ++ rest) ≡ sectors_of count bytes
unfolding sectors_of
sectors-front count bytes rest enough =
    let room : 512 * count ≤ length bytes = omega (arith, enough) in
    let joined : sectors_of (count + 0) (take (512 * count) bytes ++ rest) ≡ sectors_of count (take (512 * count) bytes) ++ [] =
    sectors_of-append count 0 (take (512 * count) bytes) rest (length-take-le (512 * count) bytes room) in
    let whole : sectors_of (count + 0) bytes ≡ sectors_of count (take (512 * count) bytes) ++ [] = sectors_of-split count 0 bytes room in
    ap (λ (n : ℕ). sectors_of count (take n bytes ++ rest)) (mul_comm count 512)
    ∙ (ap (λ (n : ℕ). sectors_of n (take (512 * count) bytes ++ rest)) (sym (add-zero count)) ∙ (joined ∙ (sym whole ∙ ap (λ (n : ℕ). sectors_of n bytes) (add-zero count))))

sectors-take : (count : ℕ) (bytes : List ℕ) → count * 512 ≤ length bytes → sectors_of count (take (count * 512) bytes) ≡ sectors_of count bytes
sectors-take count bytes enough =
    ap (sectors_of count) (sym (append-nil (take (count * 512) bytes))) ∙ sectors-front count bytes [] enough

sectors-held : (bytes : List ℕ) (part : Part) → LiesWithin bytes part → sectors_of (length (part_bytes bytes part) / 512) (part_bytes bytes part) ≡ sectors_of part.count (drop (part.first * 512) bytes)
sectors-held bytes part inside =
    let enough : part.count * 512 ≤ length (drop (part.first * 512) bytes) = omega (arith, length-drop (part.first * 512) bytes, inside) in
    let len : length (part_bytes bytes part) ≡ part.count * 512 = length-take-le (part.count * 512) (drop (part.first * 512) bytes) enough in
    let count : length (part_bytes bytes part) / 512 ≡ part.count = omega (arith, len) in
    ap (λ (n : ℕ). sectors_of n (part_bytes bytes part)) count ∙ sectors-take part.count (drop (part.first * 512) bytes) enough

-- a part's bytes as sectors are a run of the image's
run-held : (bytes : List ℕ) (part : Part) → LiesWithin bytes part
    → sectors_of (length (part_bytes bytes part) / 512) (part_bytes bytes part) ≡ run_of (sectors_of (length bytes / 512) bytes) part.first part.count
run-held bytes part inside =
    let k : ℕ = length bytes / 512 in
    let rest : ℕ = k - (part.first + part.count) in
    let split : k ≡ part.first + (part.count + rest) = omega (arith, inside) in
    let front : 512 * part.first ≤ length bytes = omega (arith, inside) in
    let enough : 512 * part.count ≤ length (drop (512 * part.first) bytes) = omega (arith, length-drop (512 * part.first) bytes, inside) in
    let enough' : part.count * 512 ≤ length (drop (part.first * 512) bytes) = omega (arith, length-drop (part.first * 512) bytes, inside) in
    sectors-held bytes part inside
    ∙ sym (
    ap (λ (j : ℕ). run_of (sectors_of j bytes) part.first part.count) split
    ∙ (ap (take part.count) (drop-sectors_of part.first (part.count + rest) bytes front)
    ∙ (take-sectors_of part.count rest (drop (512 * part.first) bytes) enough
    ∙ (ap (λ (n : ℕ). sectors_of part.count (take (512 * part.count) (drop n bytes))) (mul_comm 512 part.first)
    ∙ (ap (λ (n : ℕ). sectors_of part.count (take n (drop (part.first * 512) bytes))) (mul_comm 512 part.count)
    ∙ sectors-take part.count (drop (part.first * 512) bytes) enough')))))

-- a device over a part's bytes is that part of a device over the image
pub narrowed-memory : (device narrowed : MemoryDev) (part : Part) → LiesWithin (memory_bytes device) part → (ghosts.state device).image ≡ sectors_of (length (memory_bytes device) / 512) (memory_bytes device)
    → IsNarrowedCopy device part narrowed → IsNarrowed (ghosts.state device) part (ghosts.state narrowed)
narrowed-memory device narrowed part inside image copy =
    let bytes : List ℕ = memory_bytes device in
    let enough : part.count * 512 ≤ length (drop (part.first * 512) bytes) = omega (arith, length-drop (part.first * 512) bytes, inside) in
    let len : length (part_bytes bytes part) ≡ part.count * 512 = length-take-le (part.count * 512) (drop (part.first * 512) bytes) enough in
    let count : length (part_bytes bytes part) / 512 ≡ part.count = omega (arith, len) in
    record {
      size = ap (λ (d : Device). d.size) copy.is ∙ (length-sectors_of (length (part_bytes bytes part) / 512) (part_bytes bytes part) ∙ count);
      image = ap (λ (d : Device). d.image) copy.is ∙ (run-held bytes part inside ∙ ap (λ (sectors : List (List ℕ)). run_of sectors part.first part.count) (sym image));
      may_write = ap (λ (d : Device). d.may_write) copy.is;
      clean = λ clean. ap (λ (d : Device). d.dirty) copy.is;
    }

pub part-opened : (m : MemoryImages) (path : List ℕ) (writable : Bool) (part : Part) (image : OpenImage MemoryDev) → IsPartCopy m path writable part image
    → (file : FileRecord) × (file_under m path ≡ Some file) × (image.id ≡ file.id) × HoldsPart (ghosts.state image.device) part file
part-opened m path writable part image c = (
  file-of c.place c.bytes,
  under m path c.place c.bytes c.stands,
  c.id,
  record { inside = c.inside; image = ap (λ (d : Device). d.image) c.is ∙ sectors-held c.bytes part c.inside },
)

-- ---- a part that is put back

with-bytes : (image : List ℕ) (offset : ℕ) (bytes : List ℕ) → offset + length bytes ≤ length image
    → with_bytes image offset bytes ≡ take offset image ++ (bytes ++ drop (offset + length bytes) image)
with-bytes image offset bytes fits =
    let test : nat_le (offset + length bytes) (length image) ≡ true = search rules in rw test refl

with-part : (image : List ℕ) (part : Part) (bytes : List ℕ) → LiesWithin image part
    → with_part image part bytes ≡ with_bytes image (part.first * 512) (take (part.count * 512) bytes)
with-part image part bytes inside =
    let test : nat_le (part.first + part.count) (length image / 512) ≡ true = search rules in rw test refl

put-back : (image : List ℕ) (part : Part) (bytes : List ℕ) → LiesWithin image part → part.count * 512 ≤ length bytes
    → IsOverwritten image (part.first * 512) (take (part.count * 512) bytes) (with_part image part bytes)
put-back image part bytes inside enough =
    let held = take (part.count * 512) bytes in
    let len : length held ≡ part.count * 512 = length-take-le (part.count * 512) bytes enough in
    let fits : part.first * 512 + length held ≤ length image = omega (arith, len, inside) in
    subst (λ (new : List ℕ). IsOverwritten image (part.first * 512) held new) (sym (with-part image part bytes inside ∙ with-bytes image (part.first * 512) held fits)) (overwritten image (part.first * 512) held fits)

takes : (device : MemoryDev) (part : Part) (file file' : FileRecord) → IsSameFile file file' → (ghosts.state device).size ≡ part.count → LiesWithin file.bytes part
    → file'.bytes ≡ with_part file.bytes part (memory_bytes device) → TakesPart (ghosts.state device) part file file'
takes device part file file' same size inside is =
    let bytes = memory_bytes device in
    let held = take (part.count * 512) bytes in
    let enough : part.count * 512 ≤ length bytes = omega (arith, size) in
    let len : length held ≡ part.count * 512 = length-take-le (part.count * 512) bytes enough in
    let p = subst (λ (new : List ℕ). IsOverwritten file.bytes (part.first * 512) held new) (sym is) (put-back file.bytes part bytes inside enough) in
    let end : part.first * 512 + length held ≡ (part.first + part.count) * 512 = omega (arith, len) in
    record {
      same = same;
      holds = record {
        inside = omega (arith, p.same, inside);
        image = ap (λ (n : ℕ). sectors_of n bytes) size ∙ (sym (sectors-front part.count bytes (drop (part.first * 512 + length held) file.bytes) enough) ∙ ap (sectors_of part.count) (sym p.middle));
      };
      before = p.front;
      behind = subst (λ (n : ℕ). drop n file'.bytes ≡ drop n file.bytes) end p.back;
    }

pub part-taken : (old new : MemoryImages) (path : List ℕ) (part : Part) (device : MemoryDev) (file : FileRecord)
    → ChangesAt (named_place old.names.items path) (λ image. with_part image part (memory_bytes device)) old new → file_under old path ≡ Some file
    → (ghosts.state device).size ≡ part.count → part.first + part.count ≤ length file.bytes / 512
    → (file' : FileRecord) × (file_under new path ≡ Some file') × TakesPart (ghosts.state device) part file file'
part-taken old new path part device file is_changed is size inside =
    let c = changed old new path (λ image. with_part image part (memory_bytes device)) file is_changed is in
    (c.0, c.1, takes device part file c.0 c.2 size inside c.3)

pub image-grown : (old new : MemoryImages) (path : List ℕ) (sectors : ℕ) (file : FileRecord) → GrowsAt old path sectors (Ok tt) new → file_under old path ≡ Some file
    → (file' : FileRecord) × (file_under new path ≡ Some file') × IsGrown file file' sectors
image-grown old new path sectors file is_grown is =
    let c = changed old new path (λ image. grown_image image sectors) file is_grown is in
    (c.0, c.1, record { same = c.2; bytes = c.3 ∙ sym (rw (regular-under old path file is) refl) })

pub image-shrunk : (old new : MemoryImages) (path : List ℕ) (sectors : ℕ) (file : FileRecord) → ShrinksAt old path sectors (Ok tt) new → file_under old path ≡ Some file
    → (file' : FileRecord) × (file_under new path ≡ Some file') × IsShrunk file file' sectors
image-shrunk old new path sectors file is_shrunk is =
    let c = changed old new path (λ image. shrunk_image image sectors) file is_shrunk is in
    (c.0, c.1, record { same = c.2; bytes = c.3 ∙ sym (rw (regular-under old path file is) refl) })
