-- What is written to where a device's sectors lie is written to the device.
use Rattle.std.proofs.Common.{◌≡◌, ℕ, ◌+◌, ◌-◌, ◌/◌, ◌%◌, ◌<◌, ◌≤◌, ◌⊎◌, inl, inr, true, false, IsTrue, List, [], ◌∷◌, ◌++◌, length, take, Option, Result, Ok, Err, refl, sym, ap, ◌∙◌, subst, arith}
use Rattle.block_device.specs.Device.{Device}
use Rattle.dm_table.specs.declared.table.Line.{Line}
use Rattle.dm_table.specs.declared.table.Target.{Target}
use Rattle.dm_table.specs.declared.table.Target.TheVariants.{Zero, Error}
use Rattle.stack_rules.specs.declared.lower.Lower.{Lower}
use Rattle.stack_rules.specs.Records.{Configuration}
use Rattle.stack_rules.specs.Names.{mapped, lines_of, may_write}
use Rattle.stack_rules.specs.Lines.{IsLine}
use Rattle.stack_rules.specs.Descend.{known, write_cost}
use Rattle.stack_rules.specs.Rules.{IsLoaded}
use Rattle.stack_meaning.specs.declared.fault.IoFault.{IoFault}
use Rattle.stack_meaning.specs.declared.fault.Fault.TheVariants as why
use Rattle.stack_meaning.specs.declared.fault.IoFault.TheVariants as io
use Rattle.stack_lines.specs.Touches.{leaves_of, source_leaves}
use Rattle.stack_lines.proofs.lemmas.TouchLemmas.{one-within, served-within}
use Rattle.stack_lines.specs.declared.source.CryptPart.{CryptPart}
use Rattle.stack_lines.specs.declared.source.Source.{Source}
use Rattle.stack_lines.specs.declared.source.Source.TheVariants.{Below, Units, UnitPart, Zeros, Fails, Block, Blocks}
use Rattle.std.proofs.lemmas.List.{length-take}
use Rattle.stack_meaning.specs.declared.units.CryptUnits.{CryptUnits}
use Rattle.stack_meaning.specs.Outcomes.{Images}
use Rattle.stack_meaning.specs.Meaning.{Said, none_said, said_at}
use Rattle.stack_meaning.specs.Puts.{Putting, none_put, runs_from, put_runs, together, in_one_run, unit_put, in_unit, line_put, put_on}
use Rattle.stack_meaning.specs.Units.{units_of}
use Rattle.stack_lines.specs.Sources.{source_said, IsPartOf, ComeFrom, IsServed}
use Rattle.stack_lines.specs.Writing.{sectors_in, destination_of, StopsAt, put_some, WritesSectors, put_by_name, crypt_put, source_put, source_write_cost, SourceMayWrite, source_destination}
use Rattle.stack_meaning.proofs.lemmas.CostLemmas.{write_cost-falls}
use Rattle.stack_lines.proofs.lemmas.SourceLemmas.{served-line, served-said}
use Rattle.stack_lines.proofs.lemmas.VerityLineLemmas.{line-read_only}
use Rattle.stack_lines.proofs.lemmas.WritableLemmas.{writable-falls}
use Rattle.stack_meaning.proofs.lemmas.ChangeLemmas.{KeepsOthers-none, AreWritten-none}
use Rattle.stack_meaning.proofs.lemmas.LineLemmas.{found-more}
use Rattle.stack_lines.proofs.lemmas.PutLemmas.{Apart, put-none, put-together, device-apart, put_on-line, line_put-beneath}
use Rattle.stack_lines.proofs.lemmas.StopLemmas.{stop-here}
use Rattle.stack_lines.proofs.lemmas.WriteRunLemmas.{length-sectors_in, sectors_in-none, sectors_in-append, PutsInParts, PutsAlike, write_ok, write_err, write_as}

-- ---- puts where a device's sectors lie

module _ (c : Configuration) (d l : ℕ) (line : Line) (is : IsLine c d l line) (w j n : ℕ) (sectors : List (List ℕ)) (images : Images) (some : 0 < length sectors) (fits : j + length sectors ≤ n) where
  -- a target of which all sectors go down together
  one-run : (target : Target) → ((i : ℕ) → IsTrue (together target (w + j + i))) → line.target ≡ target
      → put_runs (line_put c (put_by_name c) d l line.target) (runs_from (together line.target) (w + j) sectors) images ≡ line_put c (put_by_name c) d l target (w + j) sectors images
  one-run target all come =
      ap (λ (t : Target). put_runs (line_put c (put_by_name c) d l t) (runs_from (together t) (w + j) sectors) images) come
      ∙ put-together (line_put c (put_by_name c) d l target) (together target) (w + j) sectors images some (λ i h. all i)

  crypt-put : (x : CryptPart) → IsPartOf c line.target x → x.first ≡ w
      → put_runs (line_put c (put_by_name c) d l line.target) (runs_from (together line.target) (w + j) sectors) images ≡ source_put c (Units x) j sectors images
  crypt-put x of first =
      ap (λ (t : Target). put_runs (line_put c (put_by_name c) d l t) (runs_from (together t) (w + j) sectors) images) of.is
      ∙ ap (λ (o : Option Lower). put_runs (unit_put (λ i t. (known {A = ℕ → Said} (λ t. none_said) (said_at c) o t).means i) (known {A = ℕ → Putting} (λ t. none_put) (put_on c) o) (units_of of.crypt) of.crypt.key) (runs_from (in_unit (units_of of.crypt)) (w + j) sectors) images) of.named
      ∙ ap (λ (u : CryptUnits). crypt_put c x.lower u of.crypt.key (w + j) sectors images) (sym of.units)
      ∙ ap (λ (key : List ℕ). crypt_put c x.lower x.units key (w + j) sectors images) (sym of.key)
      ∙ ap (λ (k : ℕ). crypt_put c x.lower x.units x.key.now (k + j) sectors images) (sym first)

  -- of n sectors from w on, those from the j-th on
  come-put : (source : Source) → SourceMayWrite c source → ComeFrom c (d, l) line.target w n source
      → put_runs (line_put c (put_by_name c) d l line.target) (runs_from (together line.target) (w + j) sectors) images ≡ source_put c source j sectors images
  come-put (Below lower first) may come =
      let on = come.1 in
      put-together (line_put c (put_by_name c) d l line.target) (together line.target) (w + j) sectors images some
      (λ i h. let e : w + j + i ≡ w + (j + i) = omega arith in ap (together line.target) e ∙ come.2 (j + i) (omega (arith, h, fits)))
      ∙ line_put-beneath c (put_by_name c) d l line.target (w + j) (on.name, first + j) sectors images come.0 (on.under j (omega (arith, some, fits)))
      ∙ ap (λ (o : Option Lower). known {A = ℕ → Putting} (λ t. none_put) (put_on c) o (first + j) sectors images) on.is
  come-put (Units x) may come = crypt-put x come.0 come.1
  come-put (UnitPart x) may come = crypt-put x come.0 come.1
  come-put Zeros may come = one-run Zero (λ i. refl) come
  come-put Fails may come = one-run Error (λ i. refl) come
  come-put (Block b) may come = absurd may
  come-put (Blocks b) may come = absurd may

-- of n sectors of a device from s on, those from the j-th on
pub served-put : (c : Configuration) (d s n j : ℕ) (source : Source) (sectors : List (List ℕ)) (images : Images) → IsLoaded c → 0 < length sectors → j + length sectors ≤ n → SourceMayWrite c source → IsServed c d s n source
    → put_on c (mapped d) (s + j) sectors images ≡ source_put c source j sectors images
served-put c d s n j source sectors images loaded some fits may r =
    let at : s + j - r.line.start ≡ s - r.line.start + j = omega (arith, r.start) in
    put_on-line c loaded.valid d (s + j) r.number r.line sectors images (found-more 0 (lines_of c d) s (s + j) (r.number, r.line) r.found (omega arith) (omega (arith, some, fits, r.fits))) (omega (arith, r.start)) (omega (arith, fits, r.fits))
    ∙ ap (λ (k : ℕ). put_runs (line_put c (put_by_name c) d r.number r.line.target) (runs_from (together r.line.target) k sectors) images) at
    ∙ come-put c d r.number r.line r.is (s - r.line.start) j n sectors images some fits source may r.come

-- ---- writes

served-write-cost : (c : Configuration) (d s n : ℕ) (source : Source) → IsLoaded c → 0 < n → IsServed c d s n source → source_write_cost c source ≤ write_cost c (mapped d)
served-write-cost c d s n (Below lower first) loaded some r =
    let on = r.come.1 in
    write_cost-falls c d r.number r.line (s - r.line.start + 0) (on.name, first + 0) lower loaded.valid r.is (on.under 0 some) on.is
served-write-cost c d s n (Units x) loaded some r = (served-line c d s n (Units x) x loaded r r.come.0).write
served-write-cost c d s n (UnitPart x) loaded some r =
    (served-line c d s n (UnitPart x) x loaded r r.come.0).change_unit (λ one. let no : ⊥ = omega (arith, one, some, r.come.2.part) in no)
served-write-cost c d s n Zeros loaded some r = omega arith
served-write-cost c d s n Fails loaded some r = omega arith
served-write-cost c d s n (Block b) loaded some r = omega arith
served-write-cost c d s n (Blocks b) loaded some r = omega arith

pub served-may_write : (c : Configuration) (d s n : ℕ) (source : Source) → IsLoaded c → 0 < n → IsTrue (may_write c (mapped d)) → IsServed c d s n source → SourceMayWrite c source
served-may_write c d s n (Below lower first) loaded some writable r =
    let on = r.come.1 in
    writable-falls c d r.number r.line (s - r.line.start + 0) (on.name, first + 0) lower loaded.valid r.is writable (on.under 0 some) on.is
served-may_write c d s n (Units x) loaded some writable r = (served-line c d s n (Units x) x loaded r r.come.0).writable writable
served-may_write c d s n (UnitPart x) loaded some writable r = (served-line c d s n (UnitPart x) x loaded r r.come.0).writable writable
served-may_write c d s n Zeros loaded some writable r = tt
served-may_write c d s n Fails loaded some writable r = tt
served-may_write c d s n (Block x) loaded some writable r =
    let none = line-read_only c d r.number 0 x.verity.now loaded (record { line = r.line; is = r.is; has = r.come.0; fits = omega arith }) in
    let clash : true ≡ false = sym writable ∙ none in cc
served-may_write c d s n (Blocks x) loaded some writable r =
    let none = line-read_only c d r.number 0 x.verity.now loaded (record { line = r.line; is = r.is; has = r.come.0; fits = omega arith }) in
    let clash : true ≡ false = sym writable ∙ none in cc

served-alike : (c : Configuration) (d s : ℕ) (source : Source) (sectors : List (List ℕ)) → IsLoaded c → 0 < length sectors → SourceMayWrite c source → IsServed c d s (length sectors) source
    → PutsAlike (source_destination c source) (destination_of c (mapped d)) 0 s sectors
served-alike c d s source sectors loaded some may r = record {
  said = λ j h. let e : 0 + j ≡ j = omega arith in ap (source_destination c source).said e ∙ served-said c d s (length sectors) j source loaded h r;
  puts = λ images.
      let e : s + 0 ≡ s = omega arith in
      sym (served-put c d s (length sectors) 0 source sectors images loaded some (omega arith) may r) ∙ ap (λ (k : ℕ). put_on c (mapped d) k sectors images) e;
  fronts = λ k images. front k images (take k sectors) (omega (arith, length-take k sectors));
  cost = served-write-cost c d s (length sectors) source loaded some r;
  leaves = one-within (source_leaves c source) (leaves_of c (mapped d)) (served-within c d s (length sectors) source loaded some r);
}
  where
    front : (k : ℕ) (images : Images) (part : List (List ℕ)) → length part ≤ length sectors → put_some (source_put c source) 0 part images ≡ put_some (put_on c (mapped d)) s part images
    front k images [] h = refl
    front k images (x ∷ xs) h =
        let e : s + 0 ≡ s = omega arith in
        sym (served-put c d s (length sectors) 0 source (x ∷ xs) images loaded (omega arith) (omega (arith, h)) may r) ∙ ap (λ (k : ℕ). put_on c (mapped d) k (x ∷ xs) images) e

pub below-alike : (c : Configuration) (lower : Lower) (first : ℕ) (sectors : List (List ℕ)) → PutsAlike (destination_of c lower) (source_destination c (Below lower first)) first 0 sectors
below-alike c lower first sectors = record {
  said = λ j h. let e : j ≡ 0 + j = omega arith in ap (λ (k : ℕ). said_at c lower (first + k)) e;
  puts = λ images. let e : first ≡ first + 0 = omega arith in ap (λ (k : ℕ). put_on c lower k sectors images) e;
  fronts = λ k images. front images (take k sectors);
  cost = omega arith;
  leaves = λ i is. is;
}
  where
    front : (images : Images) (part : List (List ℕ)) → put_some (put_on c lower) first part images ≡ put_some (source_put c (Below lower first)) 0 part images
    front images [] = refl
    front images (x ∷ xs) = let e : first ≡ first + 0 = omega arith in ap (λ (k : ℕ). put_on c lower k (x ∷ xs) images) e

-- sectors of a `zero` line
pub zeros-written : (c : Configuration) (sectors : List (List ℕ)) (leaves : List Device) → WritesSectors (source_destination c Zeros) 0 sectors leaves leaves (Ok tt)
zeros-written c sectors leaves = record {
  moved = AreWritten-none _ _ leaves;
  ends = tt;
  grown = λ e. cc;
  exact = λ steady. refl;
  stops = tt;
  behind = λ steady. tt;
  unread = λ none. refl;
  fails = refl;
}

-- sectors of an `error` line: the first one of them fails
abbrev fails-stop : (c : Configuration) (n : ℕ) (leaves : List Device) → 0 < n → StopsAt (source_said c Fails) 0 n (io.Stack why.ErrorTarget) leaves leaves
fails-stop c n leaves some = record { before = 0; failed = n; some = some; inside = omega arith; by = λ j h. refl; others = KeepsOthers-none _ leaves }

pub fails-written : (c : Configuration) (sectors : List (List ℕ)) (leaves : List Device) → 0 < length sectors → WritesSectors (source_destination c Fails) 0 sectors leaves leaves (Err (io.Stack why.ErrorTarget))
fails-written c sectors leaves some = record {
  moved = AreWritten-none _ _ leaves;
  ends = (0, some, refl);
  grown = λ e. cc;
  exact = λ steady. refl;
  stops = λ counted. fails-stop c (length sectors) leaves some;
  behind = λ steady counted. stop-here (source_destination c Fails) 0 sectors refl (fails-stop c (length sectors) leaves some) (λ j h. absurd (no-less j h));
  unread = λ none. refl;
  fails = refl;
}
  where
    no-less : (j : ℕ) → j < 0 → ⊥
    no-less j h = omega (arith, h)

-- ---- runs of one device

-- the bytes before sector s of a device end a run
abbrev pub EndsBefore : Configuration → ℕ → ℕ → List ℕ → Type 0
EndsBefore c d s bytes = (bytes ≡ []) ⊎ (in_one_run c d (s - 1) ≡ false)

apart-before : (c : Configuration) (d first : ℕ) (x : List ℕ) (ys : List (List ℕ)) → EndsBefore c d (first + length x / 512) x → Apart (in_one_run c d) first (sectors_in x) ys
apart-before c d first x ys ends = elim ends [
  | inl none ↦ inl (ap sectors_in none ∙ sectors_in-none)
  | inr cut ↦ inr (inr (ap (λ (n : ℕ). in_one_run c d (first + n - 1)) (length-sectors_in x) ∙ cut))
]

parts-before : (c : Configuration) (d first : ℕ) (x : List ℕ) → IsLoaded c → EndsBefore c d (first + length x / 512) x → (ys : List (List ℕ)) → PutsInParts (destination_of c (mapped d)) first (sectors_in x) ys
parts-before c d first x loaded ends ys images = device-apart c loaded.valid d first (sectors_in x) ys images (apart-before c d first x ys ends)

module _ (c : Configuration) (d first : ℕ) (x y : List ℕ) (source : Source) {old mid new : List Device} (loaded : IsLoaded c) (whole_x : length x % 512 ≡ 0) (whole_y : length y % 512 ≡ 0) (some : 0 < length y / 512)
    (may : SourceMayWrite c source) (ends : EndsBefore c d (first + length x / 512) x)
    (r : IsServed c d (first + length x / 512) (length y / 512) source) (p : WritesSectors (destination_of c (mapped d)) first (sectors_in x) old mid (Ok tt)) where
  next-run : (result : Result Unit IoFault) → WritesSectors (source_destination c source) 0 (sectors_in y) mid new result → WritesSectors (destination_of c (mapped d)) (first + length (sectors_in x)) (sectors_in y) mid new result
  next-run result q =
      let count : length y / 512 ≡ length (sectors_in y) = sym (length-sectors_in y) in
      let at : first + length x / 512 ≡ first + length (sectors_in x) = ap (λ (k : ℕ). first + k) (sym (length-sectors_in x)) in
      write_as (served-alike c d (first + length (sectors_in x)) source (sectors_in y) loaded (subst (λ (k : ℕ). 0 < k) count some) may
      (subst (λ (k : ℕ). IsServed c d k (length (sectors_in y)) source) at (subst (λ (k : ℕ). IsServed c d (first + length x / 512) k source) count r))) q

  pub device-written : WritesSectors (source_destination c source) 0 (sectors_in y) mid new (Ok tt) → WritesSectors (destination_of c (mapped d)) first (sectors_in (x ++ y)) old new (Ok tt)
  device-written q =
      subst (λ (l : List (List ℕ)). WritesSectors (destination_of c (mapped d)) first l old new (Ok tt)) (sym (sectors_in-append x y whole_x))
      (write_ok (destination_of c (mapped d)) first (sectors_in x) (sectors_in y) p (parts-before c d first x loaded ends (sectors_in y)) (next-run (Ok tt) q))

  pub device-ended : (z : List ℕ) (fault : IoFault) → (z ≡ []) ⊎ (in_one_run c d (first + length x / 512 + length y / 512 - 1) ≡ false) → WritesSectors (source_destination c source) 0 (sectors_in y) mid new (Err fault)
      → WritesSectors (destination_of c (mapped d)) first (sectors_in (x ++ (y ++ z))) old new (Err fault)
  device-ended z fault after q =
      let at : first + length (sectors_in x) + length (sectors_in y) - 1 ≡ first + length x / 512 + length y / 512 - 1 = omega (arith, length-sectors_in x, length-sectors_in y) in
      let apart : Apart (in_one_run c d) (first + length (sectors_in x)) (sectors_in y) (sectors_in z) = elim after [
        | inl none ↦ inr (inl (ap sectors_in none ∙ sectors_in-none))
        | inr cut ↦ inr (inr (ap (in_one_run c d) at ∙ cut))
      ] in
      subst (λ (l : List (List ℕ)). WritesSectors (destination_of c (mapped d)) first l old new (Err fault)) (sym (sectors_in-append x (y ++ z) whole_x ∙ ap (λ (l : List (List ℕ)). sectors_in x ++ l) (sectors_in-append y z whole_y)))
      (write_err (destination_of c (mapped d)) first (sectors_in x) (sectors_in y) p (sectors_in z) fault (put-none c (mapped d)) (parts-before c d first x loaded ends)
      (λ images. device-apart c loaded.valid d (first + length (sectors_in x)) (sectors_in y) (sectors_in z) images apart) (next-run (Err fault) q))
