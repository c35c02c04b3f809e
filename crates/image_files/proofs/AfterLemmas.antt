-- What files hold after the calls of a history.
use Rattle.std.proofs.Common.{◌≡◌, ◌+◌, ◌*◌, ◌/◌, ◌≤◌, ◌++◌, ◌||◌, ℕ, zero, suc, Bool, true, false, IsSome, List, [], ◌∷◌, length, drop, Option, Some, None, Result, Ok, Err, arith, refl, sym, ap, subst, ◌∙◌, add-zero}
use Rattle.std.specs.Prelude.{slice_get}
use Rattle.std.specs.List.{concat}
use Rattle.std.specs.Str.{bytes_eq}
use Rattle.std.proofs.lemmas.Bool.{eq-eqb, false≢true}
use Rattle.std.proofs.lemmas.List.{append-nil}
use Rattle.std.proofs.lemmas.Option.{none-some, same_Some}
use Rattle.std.proofs.lemmas.Slice.Eq.{bytes_eq-Decides}
use Rattle.block_device.proofs.lemmas.SectorLemmas.{sectors_of-append, sectors_of-concat}
use Rattle.block_device.specs.declared.file_id.FileId.{FileId}
use Rattle.block_device.specs.declared.file_id.FileId.TheVariants.{Inode, BlockDevice}
use Rattle.block_device.specs.Device.{Device, IsWhole, sectors_of}
use Rattle.device_adapters.specs.declared.part.Part.{Part}
use Rattle.image_files.proofs.lemmas.OverwriteLemmas.{overwritten}
use Rattle.image_files.specs.declared.texts.ReplaceFault.{ReplaceFault}
use Rattle.image_files.specs.FileLaws.{CallsChangeFiles}
use Rattle.image_files.specs.FilesAfter.{files_after, files_at, grown_files, id_under, is_name_of, overwritten_bytes, with_changed, with_new}
use Rattle.image_files.specs.Histories.{IsCallAt}
use Rattle.image_files.specs.ImageCalls.{ImageCall, Replace}
use Rattle.image_files.specs.OneFile.{is_one_file}
use Rattle.image_files.specs.Promises.{AreApart, FileRecord, Files, IsApartFrom, TakesPart, grown_bytes, shrunk_bytes}

-- ---- names of one file

itself : (id : FileId) → is_one_file (Some id) (Some id) ≡ true
itself (Inode device inode) = rw (eq-eqb device device refl, eq-eqb inode inode refl) refl
itself (BlockDevice device) = eq-eqb device device refl

not-apart : (file : FileRecord) → AreApart file file → ⊥
not-apart file apart = go file.id apart.0 apart.2
  where
    go : (id : Option FileId) → IsSome id → is_one_file id id ≡ false → ⊥
    go None some is = false≢true some
    go (Some id) some is = false≢true (sym is ∙ itself id)

same-name : (path : List ℕ) → bytes_eq path path ≡ true
same-name path = (bytes_eq-Decides path path).1 refl

-- a path of a file that is another one
another-path : (files : Files) (path other : List ℕ) (another : FileRecord) → files other ≡ Some another → IsApartFrom (files path) another → bytes_eq path other ≡ false
another-path files path other another is apart = go (bytes_eq path other) refl
  where
    go : (e : Bool) → bytes_eq path other ≡ e → e ≡ false
    go false test = refl
    go true test = absurd (not-apart another (apart another (ap files ((bytes_eq-Decides path other).0 test) ∙ is)))

apart-from : (o : Option FileRecord) (file another : FileRecord) → o ≡ Some file → AreApart file another → IsApartFrom o another
apart-from o file another is apart here is' = subst (λ (f : FileRecord). AreApart f another) (same_Some file here (sym is ∙ is')) apart

another-name : (files : Files) (path other : List ℕ) (file another : FileRecord) → files path ≡ Some file → files other ≡ Some another → AreApart file another → is_name_of files path other ≡ false
another-name files path other file another is is' apart =
    let test = another-path files path other another is' (apart-from (files path) file another is apart) in
    let differs : is_one_file (id_under files path) (id_under files other) ≡ false = rw (is, is') apart.2 in
    ap (λ (e : Bool). e || is_one_file (id_under files path) (id_under files other)) test ∙ differs

-- ---- one change

changed-here : (files : Files) (path : List ℕ) (change : FileRecord → List ℕ) (file : FileRecord) → files path ≡ Some file
    → with_changed files path change path ≡ Some (record file { bytes = change file })
changed-here files path change file is = rw (same-name path, is) refl

changed-apart : (files : Files) (path other : List ℕ) (change : FileRecord → List ℕ) (file another : FileRecord) → files path ≡ Some file → files other ≡ Some another → AreApart file another
    → with_changed files path change other ≡ Some another
changed-apart files path other change file another is is' apart = rw (another-name files path other file another is is' apart) is'

new-here : (files : Files) (path : List ℕ) (id : Option FileId) (bytes : List ℕ) → with_new files path id bytes path ≡ Some (record { id = id; bytes = bytes; regular = true })
new-here files path id bytes = rw (same-name path) refl

new-apart : (files : Files) (path other : List ℕ) (id : Option FileId) (bytes : List ℕ) (another : FileRecord) → files other ≡ Some another → IsApartFrom (files path) another
    → with_new files path id bytes other ≡ Some another
new-apart files path other id bytes another is apart = rw (another-path files path other another is apart) is

-- ---- the bytes of a device

sectors-kept : (device : Device) → IsWhole device → device.image ≡ sectors_of (length (concat device.image) / 512) (concat device.image)
sectors-kept device whole =
    let p = sectors_of-concat device.image whole.sectors in
    let size : length (concat device.image) / 512 ≡ length device.image = omega (arith, p.0) in
    sym (ap (λ (n : ℕ). sectors_of n (concat device.image)) size ∙ p.1)

-- the sectors in front of other bytes
sectors-front : (image : List (List ℕ)) (count : ℕ) (rest : List ℕ) → length (concat image) ≡ 512 * count → sectors_of count (concat image) ≡ image
    → sectors_of count (concat image ++ rest) ≡ image
unfolding sectors_of
sectors-front image count rest len is =
    let joined : sectors_of (count + 0) (concat image ++ rest) ≡ sectors_of count (concat image) ++ [] = sectors_of-append count 0 (concat image) rest len in
    ap (λ (n : ℕ). sectors_of n (concat image ++ rest)) (sym (add-zero count)) ∙ (joined ∙ (append-nil (sectors_of count (concat image)) ∙ is))

part-kept : (device : Device) (part : Part) (file : FileRecord) → IsWhole device → device.size ≡ part.count → part.first + part.count ≤ length file.bytes / 512
    → TakesPart device part file (record file { bytes = overwritten_bytes (part.first * 512) (concat device.image) file })
part-kept device part file whole size inside =
    let s = sectors_of-concat device.image whole.sectors in
    let count : length device.image ≡ part.count = whole.length ∙ size in
    let len : length (concat device.image) ≡ 512 * part.count = s.0 ∙ ap (λ (n : ℕ). 512 * n) count in
    let p = overwritten file.bytes (part.first * 512) (concat device.image) (omega (arith, len, inside)) in
    let new = overwritten_bytes (part.first * 512) (concat device.image) file in
    let end : part.first * 512 + length (concat device.image) ≡ (part.first + part.count) * 512 = omega (arith, len) in
    record {
      same = record { id = refl; regular = refl };
      holds = record {
        inside = omega (arith, p.same, inside);
        image = sym (
            ap (sectors_of part.count) p.middle
            ∙ sectors-front device.image part.count (drop (part.first * 512 + length (concat device.image)) file.bytes) len
            (ap (λ (n : ℕ). sectors_of n (concat device.image)) (sym count) ∙ s.1));
      };
      before = p.front;
      behind = subst (λ (n : ℕ). drop n new ≡ drop n file.bytes) end p.back;
    }

-- ---- histories

step : {D : Type 0} (state : D → Device) (ids : ℕ → Option FileId) (start : Files) (calls : List (ImageCall D)) (n : ℕ) (call : ImageCall D) → slice_get calls n ≡ Some call
    → files_at state ids start calls (suc n) ≡ files_after state (ids n) (files_at state ids start calls n) call
step state ids start [] n call is = absurd (none-some call is)
step state ids start (c ∷ rest) zero call is = ap (files_after state (ids 0) start) (same_Some c call is)
step state ids start (c ∷ rest) (suc n) call is = step state (λ k. ids (suc k)) (files_after state (ids 0) start c) rest n call is

after : {D : Type 0} (state : D → Device) (ids : ℕ → Option FileId) (start : Files) (calls : List (ImageCall D)) (n n' : ℕ) (call : ImageCall D) → IsCallAt calls n call n'
    → files_at state ids start calls n' ≡ files_after state (ids n) (files_at state ids start calls n) call
after state ids start calls n n' call c = ap (files_at state ids start calls) c.1 ∙ step state ids start calls n call c.0

replaced-apart : {D : Type 0} (state : D → Device) (id : Option FileId) (files : Files) (path other bytes : List ℕ) (outcome : Result (Unit {0}) ReplaceFault) (another : FileRecord)
    → files other ≡ Some another → IsApartFrom (files path) another → files_after state id files (Replace path bytes outcome) other ≡ Some another
replaced-apart state id files path other bytes (Ok done) another is apart = new-apart files path other id bytes another is apart
replaced-apart state id files path other bytes (Err fault) another is apart = is

pub calls-change : {D : Type 0} (state : D → Device) → ((d : D) → IsWhole (state d)) → CallsChangeFiles state
calls-change {D} state whole ids start calls =
    let at = files_at state ids start calls in
    let under : (n n' : ℕ) (call : ImageCall D) (path : List ℕ) → IsCallAt calls n call n' → at n' path ≡ files_after state (ids n) (at n) call path =
    λ n n' call path c. ap (λ (files : Files). files path) (after state ids start calls n n' call c) in
    record {
      kept_opening = λ n n' path writable outcome c. after state ids start calls n n' _ c;
      kept_reading = λ n n' path most outcome c. after state ids start calls n n' _ c;
      kept_opening_part = λ n n' path writable part outcome c. after state ids start calls n n' _ c;
      kept_narrowing = λ n n' device narrowed part c. after state ids start calls n n' _ c;
      kept_lacking = λ n n' device lacking lost c. after state ids start calls n n' _ c;
      kept_measuring = λ n n' path outcome c. after state ids start calls n n' _ c;
      kept_comparing = λ n n' path other outcome c. after state ids start calls n n' _ c;
      kept_trying = λ n n' path outcome c. after state ids start calls n n' _ c;
      taken = λ n n' path device file c is. (
        record file { bytes = concat (state device).image },
        under n n' _ path c ∙ changed-here (at n) path (λ file. concat (state device).image) file is,
        record { id = refl; regular = refl },
        sectors-kept (state device) (whole device),
      );
      kept_taking = λ n n' path other device file another c is is' apart.
          under n n' _ other c ∙ changed-apart (at n) path other (λ file. concat (state device).image) file another is is' apart;
      taken_part = λ n n' path part device file c is size inside. (
        record file { bytes = overwritten_bytes (part.first * 512) (concat (state device).image) file },
        under n n' _ path c ∙ changed-here (at n) path (overwritten_bytes (part.first * 512) (concat (state device).image)) file is,
        part-kept (state device) part file (whole device) size inside,
      );
      kept_taking_part = λ n n' path other part device file another c is is' apart.
          under n n' _ other c ∙ changed-apart (at n) path other (overwritten_bytes (part.first * 512) (concat (state device).image)) file another is is' apart;
      grown = λ n n' path sectors file c is. (
        record file { bytes = grown_bytes sectors file },
        under n n' _ path c ∙ (ap (λ (o : Option FileRecord). grown_files o (at n) path (ids n) sectors path) is ∙ changed-here (at n) path (grown_bytes sectors) file is),
        record { same = record { id = refl; regular = refl }; bytes = refl },
      );
      kept_growing = λ n n' path other sectors file another c is is' apart.
          under n n' _ other c
          ∙ (ap (λ (o : Option FileRecord). grown_files o (at n) path (ids n) sectors other) is ∙ changed-apart (at n) path other (grown_bytes sectors) file another is is' apart);
      shrunk = λ n n' path sectors file c is. (
        record file { bytes = shrunk_bytes sectors file },
        under n n' _ path c ∙ changed-here (at n) path (shrunk_bytes sectors) file is,
        record { same = record { id = refl; regular = refl }; bytes = refl },
      );
      kept_shrinking = λ n n' path other sectors file another c is is' apart.
          under n n' _ other c ∙ changed-apart (at n) path other (shrunk_bytes sectors) file another is is' apart;
      replaced = λ n n' path bytes c. (
        record { id = ids n; bytes = bytes; regular = true },
        under n n' _ path c ∙ new-here (at n) path (ids n) bytes,
        refl,
      );
      kept_replacing = λ n n' path other bytes outcome another c is apart.
          under n n' _ other c ∙ replaced-apart state (ids n) (at n) path other bytes outcome another is apart;
    }
