-- Sectors that are put into an image, block by block.
use Rattle.std.proofs.Common.{◌≡◌, ℕ, ◌+◌, ◌-◌, ◌*◌, ◌/◌, ◌≤◌, Bool, true, false, Result, Ok, Err, IsTrue, List, [], ◌++◌, length, take, drop, All, refl, sym, ap, subst, ◌∙◌, append_assoc, take-append-drop, arith}
use Rattle.std.specs.Prelude.{OnOk, IsErrAnd, is_ok}
use Rattle.std.specs.List.{concat}
use Rattle.std.proofs.lemmas.List.{drop-drop, drop-take, length-append, length-drop, length-take-le, take-take, take_all, take_at}
use Rattle.std.proofs.Math.Seq.{take-add}
use Rattle.std.proofs.lemmas.List.Elements.{All-drop, All-take}
use Rattle.block_device.specs.Device.{Device, IsRead, IsSameDevice, IsSector, IsWhole, IsWritten, failures_after, run_of, sectors_of, spliced}
use Rattle.block_device.specs.Whole.{length-sectors_of}
use Rattle.block_device.proofs.lemmas.SectorLemmas.{concat-sectors_of, drop-sectors_of, drop-spliced, sectors_of-append, sectors_of-concat, take-sectors_of, take-spliced}
use Rattle.device_adapters.specs.Differing.{AreSectorsPut, KeepsOutside, stands}

-- sectors that are stored there already change nothing
pub spliced-same : (image : List (List ℕ)) (first : ℕ) (sectors : List (List ℕ)) → stands image first sectors → spliced image first sectors ≡ image
spliced-same image first sectors e =
    let n : ℕ = length sectors in
    ap (λ (l : List (List ℕ)). take first image ++ l ++ drop (first + n) image) (sym e)
    ∙ append_assoc (take first image) (take n (drop first image)) (drop (first + n) image)
    ∙ ap (λ (l : List (List ℕ)). take first image ++ (take n (drop first image) ++ l)) (sym (drop-drop n first image))
    ∙ ap (λ (l : List (List ℕ)). take first image ++ l) (take-append-drop n (drop first image))
    ∙ take-append-drop first image

-- some sectors, and then those after them
pub spliced-more : (image : List (List ℕ)) (first : ℕ) (xs ys : List (List ℕ)) → first ≤ length image → spliced (spliced image first xs) (first + length xs) ys ≡ spliced image first (xs ++ ys)
spliced-more image first xs ys inside =
    let front : length (take first image ++ xs) ≡ first + length xs = omega (arith, length-append (take first image) xs, length-take-le first image inside) in
    let end : first + length (xs ++ ys) ≡ first + length xs + length ys = omega (arith, length-append xs ys) in
    let behind : drop (first + length xs + length ys) (spliced image first xs) ≡ drop (first + length (xs ++ ys)) image =
    sym (drop-drop (length ys) (first + length xs) (spliced image first xs)) ∙ ap (drop (length ys)) (drop-spliced image xs first (length xs) inside refl)
    ∙ drop-drop (length ys) (first + length xs) image ∙ ap (λ (k : ℕ). drop k image) (sym end) in
    ap (λ (l : List (List ℕ)). l ++ ys ++ drop (first + length xs + length ys) (spliced image first xs)) (take_at (take first image ++ xs) (drop (first + length xs) image) (first + length xs) front)
    ∙ ap (λ (l : List (List ℕ)). take first image ++ xs ++ ys ++ l) behind
    ∙ ap (λ (l : List (List ℕ)). l ++ drop (first + length (xs ++ ys)) image) (append_assoc (take first image) xs ys)

-- a read that gives these bytes shows that they are stored there, and the other way round
pub bytes-stand : (image : List (List ℕ)) (first n : ℕ) (bytes : List ℕ) → All IsSector image → first + n ≤ length image → bytes ≡ concat (run_of image first n) → sectors_of n bytes ≡ run_of image first n
bytes-stand image first n bytes each inside e =
    let run : List (List ℕ) = run_of image first n in
    let count : length run ≡ n = length-take-le n (drop first image) (omega (arith, inside, length-drop first image)) in
    ap (sectors_of n) e ∙ ap (λ (k : ℕ). sectors_of k (concat run)) (sym count) ∙ (sectors_of-concat run (All-take IsSector n (drop first image) (All-drop IsSector first image each))).1

pub stand-bytes : (image : List (List ℕ)) (first n : ℕ) (bytes : List ℕ) → length bytes ≡ 512 * n → run_of image first n ≡ sectors_of n bytes → concat (run_of image first n) ≡ bytes
stand-bytes image first n bytes size e = ap concat e ∙ concat-sectors_of n bytes ∙ take_all (512 * n) bytes (omega (arith, size))

pub same-device : {a b c : Device} → IsSameDevice a b → IsSameDevice b c → IsSameDevice a c
same-device p q = record { size = q.size ∙ p.size; may_write = q.may_write ∙ p.may_write; steady = q.steady ∙ p.steady; never_fails = λ h. q.never_fails (p.never_fails h) }

-- ---- one block

-- it was read alone
pub outside-read : (old new : Device) (first n m : ℕ) (ok : Bool) → IsRead old m ok new → KeepsOutside old first n ok new
outside-read old new first n m ok r = record {
  same = r.same;
  failures = r.failures;
  before = λ steady. ap (take first) (r.image steady);
  after = λ steady. ap (drop (first + n)) (r.image steady);
}

-- it was read, and then written
pub outside-written : (old mid new : Device) (first n m : ℕ) (ok : Bool) → IsRead old m true mid → IsWritten mid first n ok new → KeepsOutside old first n ok new
outside-written old mid new first n m ok r w = record {
  same = same-device r.same w.same;
  failures = w.failures ∙ ap (λ (f : ℕ). failures_after (record old { failures = f }) ok) r.failures;
  before = λ steady. w.before (subst IsTrue (sym r.same.steady) steady) ∙ ap (take first) (r.image steady);
  after = λ steady. w.after (subst IsTrue (sym r.same.steady) steady) ∙ ap (drop (first + n)) (r.image steady);
}

-- ---- blocks one after another

-- the first k sectors of some bytes were put
pub record IsUnderway (old : Device) (first k : ℕ) (bytes : List ℕ) (now : Device) : Type 0 where
  pub same : IsSameDevice old now
  pub failures : now.failures ≡ old.failures
  pub image : IsTrue old.steady → now.image ≡ spliced old.image first (sectors_of k (take (512 * k) bytes))
  pub writes : IsTrue old.steady → stands old.image first (sectors_of (length bytes / 512) bytes) → now.writes ≡ old.writes

pub underway-none : (device : Device) (first : ℕ) (bytes : List ℕ) → first ≤ length device.image → IsUnderway device first 0 bytes device
unfolding sectors_of
underway-none device first bytes inside = record {
  same = record { size = refl; may_write = refl; steady = refl; never_fails = λ h. h };
  failures = refl;
  image = λ steady. sym (spliced-same device.image first [] refl);
  writes = λ steady h. refl;
}

module _ (old now : Device) (first k n : ℕ) (bytes : List ℕ) (whole : length bytes ≡ 512 * n) (room : first + n ≤ length old.image) (u : IsUnderway old first k bytes now) where
  -- a block that is put
  module _ (m : ℕ) (block : List ℕ) (new : Device) (some : k + m ≤ n) (is : block ≡ take (512 * m) (drop (512 * k) bytes)) where
    abbrev front : List ℕ
    front = take (512 * k) bytes

    sectors-more : sectors_of (k + m) (take (512 * (k + m)) bytes) ≡ sectors_of k front ++ sectors_of m block
    sectors-more =
        let parts : 512 * (k + m) ≡ 512 * k + 512 * m = omega arith in
        ap (sectors_of (k + m)) (ap (λ (j : ℕ). take j bytes) parts ∙ take-add (512 * k) (512 * m) bytes ∙ ap (λ (l : List ℕ). front ++ l) (sym is))
        ∙ sectors_of-append k m front block (length-take-le (512 * k) bytes (omega (arith, some, whole)))

    image-more : IsTrue old.steady → AreSectorsPut now (first + k) (sectors_of m block) new → new.image ≡ spliced old.image first (sectors_of (k + m) (take (512 * (k + m)) bytes))
    image-more steady p =
        let at : first + k ≡ first + length (sectors_of k front) = omega (arith, length-sectors_of k front) in
        p.image (subst IsTrue (sym u.same.steady) steady)
        ∙ ap (λ (i : List (List ℕ)). spliced i (first + k) (sectors_of m block)) (u.image steady)
        ∙ ap (λ (j : ℕ). spliced (spliced old.image first (sectors_of k front)) j (sectors_of m block)) at
        ∙ spliced-more old.image first (sectors_of k front) (sectors_of m block) (omega (arith, room))
        ∙ ap (spliced old.image first) (sym sectors-more)

    -- if all bytes are stored there, so are those of the block
    block-stands : IsTrue old.steady → stands old.image first (sectors_of (length bytes / 512) bytes) → stands now.image (first + k) (sectors_of m block)
    block-stands steady h =
        let all : length bytes / 512 ≡ n = omega (arith, whole) in
        let count : length (sectors_of (length bytes / 512) bytes) ≡ n = length-sectors_of (length bytes / 512) bytes ∙ all in
        let rest : ℕ = n - (k + m) in
        let n-more : n ≡ (k + m) + rest = omega (arith, some) in
        let n-split : n ≡ k + (m + rest) = omega (arith, some) in
        let stand : take n (drop first old.image) ≡ sectors_of n bytes = ap (λ (j : ℕ). take j (drop first old.image)) (sym count) ∙ h ∙ ap (λ (j : ℕ). sectors_of j bytes) all in
        let behind : drop (first + k) now.image ≡ drop k (drop first old.image) =
        ap (drop (first + k)) (u.image steady) ∙ drop-spliced old.image (sectors_of k front) first k (omega (arith, room)) (sym (length-sectors_of k front)) ∙ sym (drop-drop k first old.image) in
        ap (λ (j : ℕ). take j (drop (first + k) now.image)) (length-sectors_of m block)
        ∙ ap (take m) behind
        ∙ sym (drop-take k m (drop first old.image))
        ∙ ap (drop k) (sym (take-take (k + m) n (drop first old.image) some) ∙ ap (take (k + m)) stand)
        ∙ drop-take k m (sectors_of n bytes)
        ∙ ap (take m) (ap (λ (j : ℕ). drop k (sectors_of j bytes)) n-split ∙ drop-sectors_of k (m + rest) bytes (omega (arith, some, whole)))
        ∙ take-sectors_of m rest (drop (512 * k) bytes) (omega (arith, some, whole, length-drop (512 * k) bytes))
        ∙ ap (sectors_of m) (sym is)

    pub underway-put : AreSectorsPut now (first + k) (sectors_of m block) new → KeepsOutside now (first + k) m true new → (IsTrue now.steady → stands now.image (first + k) (sectors_of m block) → new.writes ≡ now.writes) → IsUnderway old first (k + m) bytes new
    underway-put p o w = record {
      same = same-device u.same o.same;
      failures = o.failures ∙ u.failures;
      image = λ steady. image-more steady p;
      writes = λ steady h. w (subst IsTrue (sym u.same.steady) steady) (block-stands steady h) ∙ u.writes steady h;
    }

    -- a block that fails
    pub underway-failed : KeepsOutside now (first + k) m false new → KeepsOutside old first n false new
    underway-failed o =
        let inside : first ≤ length old.image = omega (arith, room) in
        let rest : ℕ = n - (k + m) in
        let end : first + n ≡ first + k + m + rest = omega (arith, some) in
        let later : first + n ≡ first + k + (n - k) = omega (arith, some) in
        record {
          same = same-device u.same o.same;
          failures = o.failures ∙ ap (λ (f : ℕ). failures_after (record old { failures = f }) false) u.failures;
          before = λ steady.
              sym (take-take first (first + k) new.image (omega arith)) ∙ ap (take first) (o.before (subst IsTrue (sym u.same.steady) steady)) ∙ take-take first (first + k) now.image (omega arith)
              ∙ ap (take first) (u.image steady) ∙ take-spliced old.image (sectors_of k front) first inside;
          after = λ steady.
              ap (λ (j : ℕ). drop j new.image) end ∙ sym (drop-drop rest (first + k + m) new.image) ∙ ap (drop rest) (o.after (subst IsTrue (sym u.same.steady) steady)) ∙ drop-drop rest (first + k + m) now.image
              ∙ ap (λ (j : ℕ). drop j now.image) (sym end ∙ later) ∙ sym (drop-drop (n - k) (first + k) now.image)
              ∙ ap (drop (n - k)) (ap (drop (first + k)) (u.image steady) ∙ drop-spliced old.image (sectors_of k front) first k inside (sym (length-sectors_of k front)))
              ∙ drop-drop (n - k) (first + k) old.image ∙ ap (λ (j : ℕ). drop j old.image) (sym later);
        }

-- all of them
module _ (old now : Device) (first k : ℕ) (bytes : List ℕ) (whole : length bytes ≡ 512 * k) (room : first + k ≤ length old.image) (u : IsUnderway old first k bytes now) where
  pub put-all : AreSectorsPut old first (sectors_of (length bytes / 512) bytes) now
  put-all =
      let all : k ≡ length bytes / 512 = omega (arith, whole) in
      record { image = λ steady. u.image steady ∙ ap (λ (l : List ℕ). spliced old.image first (sectors_of k l)) (take_all (512 * k) bytes (omega (arith, whole))) ∙ ap (λ (j : ℕ). spliced old.image first (sectors_of j bytes)) all }

  pub outside-all : KeepsOutside old first (length bytes / 512) true now
  outside-all =
      let all : k ≡ length bytes / 512 = omega (arith, whole) in
      let inside : first ≤ length old.image = omega (arith, room) in
      let sectors : List (List ℕ) = sectors_of k (take (512 * k) bytes) in
      record {
        same = u.same;
        failures = u.failures;
        before = λ steady. ap (take first) (u.image steady) ∙ take-spliced old.image sectors first inside;
        after = λ steady. ap (drop (first + length bytes / 512)) (u.image steady) ∙ drop-spliced old.image sectors first (length bytes / 512) inside (sym (length-sectors_of k (take (512 * k) bytes) ∙ all));
      }

-- ---- a read, and what it shows

module _ (device : Device) (whole : IsWhole device) (first n : ℕ) (bytes out : List ℕ) (size : length bytes ≡ 512 * n) (inside : first + n ≤ device.size) (read : out ≡ concat (run_of device.image first n)) where
  all : length bytes / 512 ≡ n
  all = omega (arith, size)

  -- bytes that are read are stored there
  pub same-stands : out ≡ bytes → stands device.image first (sectors_of (length bytes / 512) bytes)
  same-stands same =
      let run : sectors_of n bytes ≡ run_of device.image first n = bytes-stand device.image first n bytes whole.sectors (omega (arith, inside, whole.length)) (sym same ∙ read) in
      let count : length (sectors_of (length bytes / 512) bytes) ≡ n = length-sectors_of (length bytes / 512) bytes ∙ all in
      ap (run_of device.image first) count ∙ sym run ∙ ap (λ (j : ℕ). sectors_of j bytes) (sym all)

  -- what is stored there is read
  pub stands-same : stands device.image first (sectors_of (length bytes / 512) bytes) → out ≡ bytes
  stands-same h =
      let count : length (sectors_of (length bytes / 512) bytes) ≡ n = length-sectors_of (length bytes / 512) bytes ∙ all in
      read ∙ stand-bytes device.image first n bytes size (ap (run_of device.image first) (sym count) ∙ h ∙ ap (λ (j : ℕ). sectors_of j bytes) all)

pub on_ok : {T E : Type 0} (r : Result T E) (P : Type 0) → P → OnOk r P
on_ok (Ok x) P p = p
on_ok (Err e) P p = tt

pub not_ok : {T E : Type 0} (r : Result T E) (P : E → Type 0) → IsErrAnd r P → is_ok r ≡ false
not_ok (Ok x) P p = absurd p
not_ok (Err e) P p = refl
