-- What a history of an opener of files shows of files, if the system's calls show it.
use Rattle.std.proofs.Common.{◌≡◌, ◌≢◌, ◌↔◌, ◌+◌, ◌-◌, ◌*◌, ◌/◌, ◌%◌, ◌≤◌, ◌==◌, ◌&&◌, ℕ, suc, Bool, true, false, not, IsTrue, List, length, take, drop, Option, Some, Ok, arith, refl, sym, ap, ◌∙◌, add-zero, length-drop}
use Rattle.std.specs.Prelude.{slice_get}
use Rattle.std.specs.Fs.{file_type, metadata_len, IsFile}
use Rattle.std.proofs.lemmas.Bool.{eqb-false, false≢true, ne_eqb}
use Rattle.std.proofs.lemmas.List.{take_all}
use Rattle.std.proofs.Math.Nat.{mul_comm}
use Rattle.block_device.proofs.lemmas.SectorLemmas.{drop-sectors_of, take-sectors_of}
use Rattle.block_device.specs.declared.file_id.FileId.{FileId}
use Rattle.block_device.specs.Device.{Device, IsWhole, run_of, sectors_of}
use Rattle.block_device.specs.Whole.{length-sectors_of}
use Rattle.device_adapters.specs.declared.part.Part.{Part}
use Rattle.image_files.specs.declared.images.OpenImage.{OpenImage}
use Rattle.image_files.specs.FileRelations.{FileView, IsOpenFile, IsOpenPart, file_relations}
use Rattle.image_files.specs.FilesAfter.{files_at}
use Rattle.image_files.specs.Histories.{AreMade, IsMade, in_history}
use Rattle.image_files.specs.ImageCalls.{ImageCall, Open, OpenPart, Narrow, Lack, ReadText, Measure}
use Rattle.image_files.specs.Promises.{FileRecord, Files, HoldsPart, HoldsSectors, KeepsFiles, ShowsFiles}
use Rattle.image_files.specs.SystemShows.{IsOpenOf, SystemShows}
use Rattle.image_files.proofs.AfterLemmas.{calls-change}
use Rattle.image_files.proofs.HistoryLemmas.{made-at, value-at}

-- ---- sectors and sizes

-- so many first sectors are those of the bytes before their end
sectors-front : (count : ℕ) (bytes : List ℕ) → 512 * count ≤ length bytes → sectors_of count (take (512 * count) bytes) ≡ sectors_of count bytes
sectors-front count bytes enough =
    sym (take-sectors_of count 0 bytes enough)
    ∙ (ap (λ (n : ℕ). take count (sectors_of n bytes)) (add-zero count) ∙ take_all count (sectors_of count bytes) (omega (arith, length-sectors_of count bytes)))

-- a run of a file's sectors has the bytes from its first sector on
run-sectors : (bytes : List ℕ) (k first count : ℕ) → first + count ≤ k → 512 * k ≤ length bytes → run_of (sectors_of k bytes) first count ≡ sectors_of count (drop (first * 512) bytes)
run-sectors bytes k first count inside enough =
    let rest : ℕ = k - (first + count) in
    let split : k ≡ first + (count + rest) = omega (arith, inside) in
    let front : 512 * first ≤ length bytes = omega (arith, inside, enough) in
    let room : 512 * count ≤ length (drop (512 * first) bytes) = omega (arith, length-drop (512 * first) bytes, inside, enough) in
    ap (λ (j : ℕ). run_of (sectors_of j bytes) first count) split
    ∙ (ap (take count) (drop-sectors_of first (count + rest) bytes front)
    ∙ (take-sectors_of count rest (drop (512 * first) bytes) room
    ∙ (sectors-front count (drop (512 * first) bytes) room ∙ ap (λ (n : ℕ). sectors_of count (drop n bytes)) (mul_comm 512 first))))

-- a length that ends inside a sector isn't a whole number of sectors, and one that doesn't is
unless-inside : (held : ℕ) → (held % 512 ≢ 0 → ⊥) → (whole : Bool) → (held % 512 == 0) ≡ whole → false ≡ not whole
unless-inside held isnt true is = refl
unless-inside held isnt false is = absurd (isnt (eqb-false (held % 512) 0 is))

-- whether a file ends inside a sector, by the length that the system said
ends-same : (part regular : Bool) (said held : ℕ) (Kind : Type 0) → (IsTrue part ↔ (Kind × (said % 512 ≢ 0))) → (IsTrue regular ↔ Kind) → (IsTrue regular → said ≡ held) → part ≡ (regular && not (held % 512 == 0))
ends-same true true said held Kind test kind long =
    sym (ap not (ne_eqb (held % 512) 0 (λ whole. (test.0 refl).1 (ap (λ (n : ℕ). n % 512) (long refl) ∙ whole))))
ends-same true false said held Kind test kind long = sym (kind.1 (test.0 refl).0)
ends-same false true said held Kind test kind long =
    unless-inside held (λ inside. false≢true (test.1 (kind.0 refl, λ whole. inside (ap (λ (n : ℕ). n % 512) (sym (long refl)) ∙ whole)))) (held % 512 == 0) refl
ends-same false false said held Kind test kind long = refl

-- ---- one call

module _ {S D C F : Type 0} (view : FileView S D C F) (image : OpenImage D) (path : List ℕ) (writable : Bool) (under : Option FileRecord) where
  open-shown : IsOpenFile view image path writable → IsOpenOf view image.device (view.state image.device) under
      → (file : FileRecord) × (under ≡ Some file) × (image.id ≡ file.id) × HoldsSectors (view.state image.device) file
  open-shown h s = (s.file, s.there, h.id ∙ s.id, s.image ∙ ap (λ (n : ℕ). sectors_of n s.file.bytes) (s.size (view.state image.device).size h.size))

  part-shown : (part : Part) → IsOpenPart view image path writable part → IsOpenOf view image.device (view.whole image.device) under
      → (file : FileRecord) × (under ≡ Some file) × (image.id ≡ file.id) × HoldsPart (view.state image.device) part file
  part-shown part h s =
      let size : (view.whole image.device).size ≡ length s.file.bytes / 512 = s.size (view.whole image.device).size h.size in
      let holds : HoldsPart (view.state image.device) part s.file =
      record {
        inside = omega (arith, h.inside, size);
        image =
            ap (λ (x : Device). x.image) h.device
            ∙ (ap (λ (l : List (List ℕ)). run_of l part.first part.count) s.image
            ∙ run-sectors s.file.bytes (view.whole image.device).size part.first part.count h.inside (omega (arith, size)));
      } in
      (s.file, s.there, h.id ∙ s.id, holds)

-- ---- the calls of a history

module _ {S D C F : Type 0} (view : FileView S D C F) (old new : S) (calls : List (ImageCall D)) (made : AreMade (file_relations view) old calls new) where
  was-made-at : (n : ℕ) (call : ImageCall D) → slice_get calls n ≡ Some call
      → IsMade (file_relations view) (value-at (file_relations view) old calls new made n) call (value-at (file_relations view) old calls new made (suc n))
  was-made-at n call is = made-at (file_relations view) old calls new made n call is

  -- what the system's calls show, the history shows
  pub system-shows : (at : ℕ → Files) → SystemShows view calls at → ShowsFiles (in_history calls) view.state at
  system-shows at shows = record {
    opened = λ n n' path writable image c.
        let h = (was-made-at n (Open path writable (Ok image)) c.0).3 in
        open-shown view image path writable (at n path) h (shows.opened n path writable image c.0 h.asked);
    steady = λ n n' path writable image c.
        let h = (was-made-at n (Open path writable (Ok image)) c.0).3 in
        (shows.opened n path writable image c.0 h.asked).steady;
    opened_part = λ n n' path writable part image c.
        let h = (was-made-at n (OpenPart path writable part (Ok image)) c.0).3 in
        part-shown view image path writable (at n path) part h (shows.opened_part n path writable part image c.0 h.asked);
    steady_part = λ n n' path writable part image c.
        let h = (was-made-at n (OpenPart path writable part (Ok image)) c.0).3 in
        ap (λ (x : Device). x.steady) h.device ∙ (shows.opened_part n path writable part image c.0 h.asked).steady;
    steady_narrowed = λ n n' device narrowed part c steady.
        ap (λ (x : Device). x.steady) (was-made-at n (Narrow device part narrowed) c.0).3.part_state ∙ steady;
    steady_lacking = λ n n' device lacking lost c steady. (was-made-at n (Lack device lost lacking) c.0).3.steady ∙ steady;
    told = λ n n' path most text file c is. shows.told n path most text file c.0 (was-made-at n (ReadText path most (Ok text)) c.0).3 is;
    measured = λ n n' path part file c is.
        let h = (was-made-at n (Measure path (Ok part)) c.0).3 in
        let s = shows.measured n path part h.0 file c.0 h.1 is in
        ends-same part file.regular (metadata_len h.0) (length file.bytes) (IsFile (file_type h.0)) h.2 s.regular s.long;
    made_apart = shows.made_apart;
  }

  -- so files that change by its calls exist, and the history keeps them
  pub system-keeps : ((device : D) → IsWhole (view.state device)) → (ids : ℕ → Option FileId) (start : Files) → SystemShows view calls (files_at view.state ids start calls)
      → KeepsFiles (in_history calls) view.state (files_at view.state ids start calls)
  system-keeps whole ids start shows = record {
    shows = system-shows (files_at view.state ids start calls) shows;
    changes = calls-change view.state whole ids start calls;
  }
