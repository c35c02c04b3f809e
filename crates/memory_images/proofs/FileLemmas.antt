-- Images in memory as files.
use Rattle.std.proofs.Common.{◌≡◌, ◌<◌, ◌%◌, ◌==◌, ◌&&◌, ℕ, Bool, true, false, not, List, length, take, Option, Some, None, Result, Ok, Err, Vec, refl, sym, ap, subst, ◌∙◌}
use Rattle.std.specs.Prelude.{slice_get}
use Rattle.std.specs.Option.{option_map}
use Rattle.std.proofs.lemmas.Bool.{eq-eqb, eqb-false, eqb-true, false≢true}
use Rattle.std.proofs.lemmas.Option.{none-some, same_Some, slice_get_within}
use Rattle.block_device.specs.declared.memory.MemoryDev.{MemoryDev}
use Rattle.block_device.specs.contracts.memory.MemoryDevBlockDev.TheImpl.{ghosts}
use Rattle.block_device.specs.Device.{Device}
use Rattle.block_device.specs.Memory.{memory_bytes}
use Rattle.image_files.specs.declared.images.FileText.{FileText}
use Rattle.image_files.specs.declared.images.OpenImage.{OpenImage}
use Rattle.image_files.specs.Promises.{AreApart, FileRecord, HoldsSectors, IsApartFrom, IsSameFile}
use Rattle.memory_images.specs.declared.named_images.MemoryImages.{MemoryImages}
use Rattle.image_files.specs.declared.texts.ReplaceFault.{ReplaceFault}
use Rattle.memory_images.specs.Files.{file_at_place, file_under}
use Rattle.memory_images.specs.MemoryRelations.{ChangesAt, IsCopy, IsMeasured, IsReplaced, IsText, PutsAt, ReplacesAt, id_at}
use Rattle.memory_images.specs.Named.{IsChanged, Stands, image_bytes, named_place}

-- what is at a place as a file
abbrev pub file-of : ℕ → List ℕ → FileRecord
file-of place bytes = record { id = id_at place; bytes = bytes; regular = true }

pub under : (m : MemoryImages) (path : List ℕ) (place : ℕ) (bytes : List ℕ) → Stands m.names.items m.images.items path place bytes
    → file_under m path ≡ Some (file-of place bytes)
under m path place bytes s =
    ap (file_at_place m.images.items) s.placed ∙ ap (option_map (λ (b : List ℕ). file-of place b)) s.found

pub copy-opened : (m : MemoryImages) (path : List ℕ) (writable : Bool) (image : OpenImage MemoryDev) → IsCopy m path writable image
    → (file : FileRecord) × (file_under m path ≡ Some file) × (image.id ≡ file.id) × HoldsSectors (ghosts.state image.device) file
copy-opened m path writable image c = (file-of c.place c.bytes, under m path c.place c.bytes c.stands, c.id, ap (λ (d : Device). d.image) c.is)

-- the file under a path is the one that is stored there
the-file : (m : MemoryImages) (path : List ℕ) (place : ℕ) (bytes : List ℕ) (file : FileRecord) → Stands m.names.items m.images.items path place bytes → file_under m path ≡ Some file
    → file-of place bytes ≡ file
the-file m path place bytes file s is = same_Some (file-of place bytes) file (sym (under m path place bytes s) ∙ is)

pub text-told : (m : MemoryImages) (path : List ℕ) (most : ℕ) (text : FileText) (file : FileRecord) → IsText m path most text → file_under m path ≡ Some file
    → (text.id ≡ file.id) × (text.bytes.items ≡ take most file.bytes)
text-told m path most text file t is =
    let same = the-file m path t.place t.bytes file t.stands is in
    (t.id ∙ ap (λ (f : FileRecord). f.id) same, t.is ∙ ap (λ (f : FileRecord). take most f.bytes) same)

-- the file is stored at a place
pub record IsAt (m : MemoryImages) (path : List ℕ) (file : FileRecord) : Type 0 where
  pub place : ℕ
  pub bytes : List ℕ
  pub placed : named_place m.names.items path ≡ Some place
  pub found : image_bytes m.images.items place ≡ Some bytes
  pub is : file ≡ file-of place bytes

some-bytes : (place : ℕ) (o : Option (List ℕ)) (file : FileRecord) → option_map (λ (b : List ℕ). file-of place b) o ≡ Some file
    → (bytes : List ℕ) × (o ≡ Some bytes) × (file ≡ file-of place bytes)
some-bytes place (Some bytes) file is = (bytes, refl, sym (same_Some (file-of place bytes) file is))
some-bytes place None file is = absurd (none-some file is)

is-at : (m : MemoryImages) (path : List ℕ) (file : FileRecord) → file_under m path ≡ Some file → IsAt m path file
is-at m path file = go (named_place m.names.items path) refl
  where
    go : (o : Option ℕ) → named_place m.names.items path ≡ o → file_at_place m.images.items o ≡ Some file → IsAt m path file
    go None placed is = absurd (none-some file is)
    go (Some place) placed is =
        let found = some-bytes place (image_bytes m.images.items place) file is in
        record { place = place; bytes = found.0; placed = placed; found = found.1; is = found.2 }

within : {Z : Type 0} (images : List (Vec ℕ Z)) (place : ℕ) (bytes : List ℕ) → image_bytes images place ≡ Some bytes → place < length images
within {Z} images place bytes = go (slice_get images place) refl
  where
    go : (o : Option (Vec ℕ Z)) → slice_get images place ≡ o → option_map (λ (v : Vec ℕ Z). v.items) o ≡ Some bytes → place < length images
    go None at is = absurd (none-some bytes is)
    go (Some image) at is = slice_get_within images place image at

put-at : (old new : MemoryImages) (path : List ℕ) (device : MemoryDev) (place : ℕ) → named_place old.names.items path ≡ Some place → PutsAt (named_place old.names.items path) (memory_bytes device) old new
    → PutsAt (Some place) (memory_bytes device) old new
put-at old new path device place placed = subst (λ (o : Option ℕ). PutsAt o (memory_bytes device) old new) placed

-- names stay, and so do the places that they have
placed-still : (old new : MemoryImages) (path : List ℕ) (place : ℕ) → new.names ≡ old.names → named_place old.names.items path ≡ Some place → named_place new.names.items path ≡ Some place
placed-still old new path place same placed = subst (λ names. named_place names.items path ≡ Some place) (sym same) placed

still-same : (file : FileRecord) (place : ℕ) (bytes bytes' : List ℕ) → file ≡ file-of place bytes → IsSameFile file (file-of place bytes')
still-same file place bytes bytes' is = record { id = sym (ap (λ (f : FileRecord). f.id) is); regular = sym (ap (λ (f : FileRecord). f.regular) is) }

pub regular-under : (m : MemoryImages) (path : List ℕ) (file : FileRecord) → file_under m path ≡ Some file → file.regular ≡ true
regular-under m path file is = ap (λ (f : FileRecord). f.regular) (is-at m path file is).is

pub image-taken : (old new : MemoryImages) (path : List ℕ) (device : MemoryDev) (file : FileRecord) → PutsAt (named_place old.names.items path) (memory_bytes device) old new
    → file_under old path ≡ Some file → (file' : FileRecord) × (file_under new path ≡ Some file') × IsSameFile file file' × HoldsSectors (ghosts.state device) file'
image-taken old new path device file taken is =
    let at = is-at old path file is in
    let put = put-at old new path device at.place at.placed taken in (
      file-of at.place (memory_bytes device),
      under new path at.place (memory_bytes device) (record { placed = placed-still old new path at.place put.0 at.placed; found = put.1.here (within old.images.items at.place at.bytes at.found) }),
      still-same file at.place at.bytes (memory_bytes device) at.is,
      refl,
    )

apart-places : (place place' : ℕ) (bytes bytes' : List ℕ) → AreApart (file-of place bytes) (file-of place' bytes') → place' ≡ place → ⊥
apart-places place place' bytes bytes' apart same = false≢true (sym apart.2 ∙ eq-eqb place place' (sym same))

pub others-kept : (old new : MemoryImages) (path other : List ℕ) (device : MemoryDev) (file another : FileRecord) → PutsAt (named_place old.names.items path) (memory_bytes device) old new
    → file_under old path ≡ Some file → file_under old other ≡ Some another → AreApart file another → file_under new other ≡ Some another
others-kept old new path other device file another taken is is' apart =
    let at = is-at old path file is in
    let at' = is-at old other another is' in
    let put = put-at old new path device at.place at.placed taken in
    let apart' : AreApart (file-of at.place at.bytes) (file-of at'.place at'.bytes) =
    subst (λ (f : FileRecord). AreApart f (file-of at'.place at'.bytes)) at.is (subst (λ (f : FileRecord). AreApart file f) at'.is apart) in
    let kept = put.1.others at'.place (apart-places at.place at'.place at.bytes at'.bytes apart') in
    under new other at'.place at'.bytes (record { placed = placed-still old new other at'.place put.0 at'.placed; found = kept ∙ at'.found }) ∙ ap (λ (f : FileRecord). Some f) (sym at'.is)

-- what is at a place is changed
changed-at : (old new : MemoryImages) (path : List ℕ) (change : List ℕ → List ℕ) (place : ℕ) → named_place old.names.items path ≡ Some place → ChangesAt (named_place old.names.items path) change old new
    → ChangesAt (Some place) change old new
changed-at old new path change place placed = subst (λ (o : Option ℕ). ChangesAt o change old new) placed

-- a file under a path is stored there after a change
pub changed : (old new : MemoryImages) (path : List ℕ) (change : List ℕ → List ℕ) (file : FileRecord) → ChangesAt (named_place old.names.items path) change old new
    → file_under old path ≡ Some file → (file' : FileRecord) × (file_under new path ≡ Some file') × IsSameFile file file' × (file'.bytes ≡ change file.bytes)
changed old new path change file is_changed is =
    let at = is-at old path file is in
    let at_place = changed-at old new path change at.place at.placed is_changed in (
      file-of at.place (change at.bytes),
      under new path at.place (change at.bytes) (record { placed = placed-still old new path at.place at_place.0 at.placed; found = at_place.1.here ∙ ap (option_map change) at.found }),
      still-same file at.place at.bytes (change at.bytes) at.is,
      sym (ap (λ (f : FileRecord). change f.bytes) at.is),
    )

-- and no other one changes
pub others-unchanged : (old new : MemoryImages) (path other : List ℕ) (change : List ℕ → List ℕ) (file another : FileRecord) → ChangesAt (named_place old.names.items path) change old new
    → file_under old path ≡ Some file → file_under old other ≡ Some another → AreApart file another → file_under new other ≡ Some another
others-unchanged old new path other change file another is_changed is is' apart =
    let at = is-at old path file is in
    let at' = is-at old other another is' in
    let at_place = changed-at old new path change at.place at.placed is_changed in
    let apart' : AreApart (file-of at.place at.bytes) (file-of at'.place at'.bytes) =
    subst (λ (f : FileRecord). AreApart f (file-of at'.place at'.bytes)) at.is (subst (λ (f : FileRecord). AreApart file f) at'.is apart) in
    let kept = at_place.1.others at'.place (apart-places at.place at'.place at.bytes at'.bytes apart') in
    under new other at'.place at'.bytes (record { placed = placed-still old new other at'.place at_place.0 at'.placed; found = kept ∙ at'.found }) ∙ ap (λ (f : FileRecord). Some f) (sym at'.is)

no-bytes : (place : ℕ) (o : Option (List ℕ)) → option_map (λ (b : List ℕ). file-of place b) o ≡ None → o ≡ None
no-bytes place None is = refl
no-bytes place (Some bytes) is = absurd (none-some (file-of place bytes) (sym is))

-- where there are no bytes there are none after a change
still-none : {Z : Type 0} (old new : List (Vec ℕ Z)) (place k : ℕ) (change : List ℕ → List ℕ) → IsChanged old place change new → image_bytes old k ≡ None → (e : Bool) → (k == place) ≡ e
    → image_bytes new k ≡ None
still-none old new place k change c none true same =
    let at = eqb-true k place same in
    ap (image_bytes new) at ∙ (c.here ∙ ap (option_map change) (ap (image_bytes old) (sym at) ∙ none))
still-none old new place k change c none false other = c.others k (eqb-false k place other) ∙ none

-- and so under a path
pub none-kept : (old new : MemoryImages) (path other : List ℕ) (change : List ℕ → List ℕ) → ChangesAt (named_place old.names.items path) change old new
    → file_under old other ≡ None → file_under new other ≡ None
none-kept old new path other change is_changed none = go (named_place old.names.items path) is_changed
  where
    at : (place : ℕ) → IsChanged old.images.items place change new.images.items → (o : Option ℕ) → file_at_place old.images.items o ≡ None → file_at_place new.images.items o ≡ None
    at place c None is = refl
    at place c (Some k) is =
        ap (option_map (λ (b : List ℕ). file-of k b)) (still-none old.images.items new.images.items place k change c (no-bytes k (image_bytes old.images.items k) is) (k == place) refl)

    go : (o : Option ℕ) → ChangesAt o change old new → file_under new other ≡ None
    go None same = ap (λ (m : MemoryImages). file_under m other) same ∙ none
    go (Some place) c =
        ap (λ names. file_at_place new.images.items (named_place names.items other)) c.0 ∙ at place c.1 (named_place old.names.items other) none

pub part-measured : (m : MemoryImages) (path : List ℕ) (part : Bool) (file : FileRecord) → IsMeasured m path part → file_under m path ≡ Some file
    → part ≡ (file.regular && not (length file.bytes % 512 == 0))
part-measured m path part file t is =
    t.is ∙ ap (λ (f : FileRecord). f.regular && not (length f.bytes % 512 == 0)) (the-file m path t.place t.bytes file t.stands is)

-- ---- bytes in the place of a file's

pub text-replaced : (old new : MemoryImages) (path bytes : List ℕ) → ReplacesAt old path bytes (Ok tt) new
    → (file : FileRecord) × (file_under new path ≡ Some file) × (file.bytes ≡ bytes)
text-replaced old new path bytes r = (
  file-of r.place bytes,
  under new path r.place bytes (record { placed = placed-still old new path r.place r.names r.stands.placed; found = r.put.here (within old.images.items r.place r.held r.stands.found) }),
  refl,
)

replaced-others : (old new : MemoryImages) (path other bytes : List ℕ) (another : FileRecord) → IsReplaced old path bytes new → file_under old other ≡ Some another
    → IsApartFrom (file_under old path) another → file_under new other ≡ Some another
replaced-others old new path other bytes another r is' apart =
    let at' = is-at old other another is' in
    let here : AreApart (file-of r.place r.held) another = apart (file-of r.place r.held) (under old path r.place r.held r.stands) in
    let apart' : AreApart (file-of r.place r.held) (file-of at'.place at'.bytes) = subst (λ (f : FileRecord). AreApart (file-of r.place r.held) f) at'.is here in
    let kept = r.put.others at'.place (apart-places r.place at'.place r.held at'.bytes apart') in
    under new other at'.place at'.bytes (record { placed = placed-still old new other at'.place r.names at'.placed; found = kept ∙ at'.found }) ∙ ap (λ (f : FileRecord). Some f) (sym at'.is)

pub others-unreplaced : (old new : MemoryImages) (path other bytes : List ℕ) (outcome : Result (Unit {0}) ReplaceFault) (another : FileRecord) → ReplacesAt old path bytes outcome new
    → file_under old other ≡ Some another → IsApartFrom (file_under old path) another → file_under new other ≡ Some another
others-unreplaced old new path other bytes (Ok done) another r is' apart = replaced-others old new path other bytes another r is' apart
others-unreplaced old new path other bytes (Err fault) another same is' apart = ap (λ (m : MemoryImages). file_under m other) same ∙ is'
