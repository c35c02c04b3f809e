-- Writes that cut no unit, run by run.
use Rattle.std.proofs.Common.{◌≡◌, ℕ, zero, suc, ◌+◌, ◌-◌, ◌*◌, ◌/◌, ◌%◌, ◌<◌, ◌≤◌, ◌⊎◌, Bool, true, false, nat_lt, ◌&&◌, List, Option, Some, refl, sym, ap, ◌∙◌, subst, arith, inl, inr}
use Rattle.std.specs.Option.{option_map_or}
use Rattle.std.proofs.lemmas.Bool.{cases_lt, le-ltb}
use Rattle.std.proofs.lemmas.Nat.{div-mul-add, mod-mul-add, mod_below, div-add-mod'}
use Rattle.std.proofs.Math.Nat.{add-mul}
use Rattle.block_device.specs.Device.{Device}
use Rattle.dm_table.specs.declared.crypt.Crypt.{Crypt}
use Rattle.dm_table.specs.declared.table.Line.{Line}
use Rattle.dm_table.specs.declared.table.Target.{Target}
use Rattle.dm_table.specs.declared.table.Target.TheVariants.{Crypt as crypt_target}
use Rattle.stack_rules.specs.declared.lower.Lower.{Lower}
use Rattle.stack_rules.specs.declared.lower.Lower.TheVariants.{Leaf as leaf, Device as device}
use Rattle.stack_rules.specs.Records.{Configuration}
use Rattle.stack_rules.specs.Names.{mapped, lines_of}
use Rattle.stack_rules.specs.Descend.{by_name, known, most_devices, depth}
use Rattle.stack_rules.specs.Lines.{line_at}
use Rattle.stack_rules.specs.Rules.{IsLoaded, IsValid, most_depth}
use Rattle.stack_rules.specs.Units.{crypt_of}
use Rattle.stack_meaning.proofs.lemmas.UnitSizeLemmas.{per_unit-some}
use Rattle.stack_meaning.specs.declared.units.CryptUnits.{CryptUnits}
use Rattle.stack_rules.proofs.lemmas.UnrollLemmas.{IsLocal, descend-rule, falls-at}
use Rattle.stack_rules.proofs.lemmas.ValidLemmas.{depth-low}
use Rattle.stack_meaning.specs.Sectors.{on_found, sector_rule}
use Rattle.stack_meaning.specs.Beneath.{beneath, said_or, HandsOn}
use Rattle.stack_meaning.specs.Changes.{NoneRead}
use Rattle.stack_meaning.specs.Meaning.{Said, none_said, said_at, said_by_name}
use Rattle.stack_meaning.specs.MeaningOf.{meaning_of}
use Rattle.stack_meaning.specs.Puts.{together, in_one_run}
use Rattle.stack_meaning.specs.TargetMeaning.{Meant, handed, own, IsHanded}
use Rattle.stack_meaning.specs.Units.{units_of, per_unit, unit_first}
use Rattle.stack_meaning.proofs.lemmas.LineLemmas.{found-more}
use Rattle.stack_meaning.proofs.lemmas.SectorLemmas.{AsksOfNames, said_or-same, sector_rule-local, said_at-leaf}
use Rattle.stack_lines.specs.declared.source.CryptPart.{CryptPart}
use Rattle.stack_lines.specs.declared.source.Source.{Source}
use Rattle.stack_lines.specs.declared.source.Source.TheVariants.{Below, Units, UnitPart, Zeros, Fails, Block, Blocks}
use Rattle.stack_lines.specs.Sources.{IsServed, EndsRun}
use Rattle.stack_lines.specs.Writing.{SomeEncrypt}
use Rattle.stack_engine.specs.Uncut.{Seam, plain_seam, IsLast, unit_seam, seam_of, seam_as, line_seam, seam_rule, seam_at, CutsNone, SourceCutsNone}
use Rattle.stack_engine.proofs.SpentLemmas.{IsCutBehind}

-- ---- devices

line_seam-asks : (c : Configuration) → AsksOfNames (line_seam c)
line_seam-asks c at at' d l target s all =
    ap (λ (x : Seam). seam_as (meaning_of target).meant x (seam_of c s (crypt_of target))) (said_or-same plain_seam at at' target s all)

seam_rule-local : (c : Configuration) → IsLocal c (seam_rule c)
seam_rule-local c f g (leaf i) all = refl
seam_rule-local c f g (device d) all =
    ap (λ (h : ℕ → Seam). λ (s : ℕ). record { begins = (h s).begins; ends = (h s).ends; goes_on = in_one_run c d.0 s && (h s).goes_on })
    (sector_rule-local c plain_seam (λ (i s : ℕ). plain_seam) (line_seam c) (line_seam-asks c) f g (device d) all)

seam-rule : (c : Configuration) → IsValid c → (x : Lower) → seam_at c x ≡ seam_rule c (seam_at c) x
seam-rule c valid x =
    let low : (y : Lower) → depth c y < most_devices = λ y. let l : depth c y ≤ most_depth = depth-low c valid y in omega (arith, l) in
    descend-rule c (λ s. plain_seam) (seam_rule c) (seam_rule-local c) (depth c) (falls-at c low) x (let l : depth c x ≤ most_depth = depth-low c valid x in omega (arith, l))

abbrev seam_by_name : Configuration → List ℕ → ℕ → Seam
seam_by_name c = by_name c (λ s. plain_seam) (seam_at c)

-- a sector of a device, by its line
abbrev with_run : Bool → Seam → Seam
with_run b x = record { begins = x.begins; ends = x.ends; goes_on = b && x.goes_on }

seam-line : (c : Configuration) → IsValid c → (d s j l : ℕ) (line : Line) → line_at c d s ≡ Some (l, line) → line.start ≤ s → s + j < line.start + line.length
    → seam_at c (mapped d) (s + j) ≡ with_run (in_one_run c d (s + j)) (line_seam c (seam_by_name c) d l line.target (s - line.start + j))
seam-line c valid d s j l line found start inside =
    let within : s + j - line.start ≡ s - line.start + j = omega (arith, start) in
    ap (λ (h : ℕ → Seam). h (s + j)) (seam-rule c valid (mapped d))
    ∙ ap (λ (q : Option (ℕ × Line)). with_run (in_one_run c d (s + j)) (on_found plain_seam (line_seam c (seam_by_name c)) d (s + j) q)) (found-more 0 (lines_of c d) s (s + j) (l, line) found (omega arith) inside)
    ∙ ap (λ (k : ℕ). with_run (in_one_run c d (s + j)) (line_seam c (seam_by_name c) d l line.target k)) within

and-false : (b : Bool) → (b && false) ≡ false
and-false true = refl
and-false false = refl

-- where a run ends, no sector goes on
apart : (c : Configuration) → IsValid c → (d s : ℕ) → in_one_run c d s ≡ false → (seam_at c (mapped d) s).goes_on ≡ false
apart c valid d s cut =
    let h : ℕ → Seam = sector_rule c plain_seam (λ (i s : ℕ). plain_seam) (line_seam c) (seam_at c) (mapped d) in
    ap (λ (f : ℕ → Seam). (f s).goes_on) (seam-rule c valid (mapped d)) ∙ ap (λ (b : Bool). b && (h s).goes_on) cut

-- ---- a run of a write

-- n sectors that begin and end a run, or where the write does
module _ (c : Configuration) (d first a n all : ℕ) (valid : IsValid c) (cuts : CutsNone c (mapped d) first all) (some : 0 < n) (fits : a + n ≤ all)
    (before : (a ≡ 0) ⊎ (in_one_run c d (first + a - 1) ≡ false)) (behind : (a + n ≡ all) ⊎ (in_one_run c d (first + a + n - 1) ≡ false)) where
  at-start : a ≡ 0 → (seam_at c (mapped d) (first + a)).begins
  at-start none = let at : first ≡ first + a = omega (arith, none) in subst (λ (s : ℕ). (seam_at c (mapped d) s).begins) at cuts.begins

  at-cut : (k : ℕ) → a ≡ k → in_one_run c d (first + a - 1) ≡ false → (seam_at c (mapped d) (first + a)).begins
  at-cut zero e cut = at-start e
  at-cut (suc k) e cut =
      let last : first + a - 1 ≡ first + k = omega (arith, e) in
      let here : first + suc k ≡ first + a = omega (arith, e) in
      subst (λ (s : ℕ). (seam_at c (mapped d) s).begins) here (cuts.between k (omega (arith, e, some, fits)) (apart c valid d (first + k) (ap (in_one_run c d) (sym last) ∙ cut))).1

  at-end : a + n ≡ all → (seam_at c (mapped d) (first + a + n - 1)).ends
  at-end whole = let at : first + all - 1 ≡ first + a + n - 1 = omega (arith, whole) in subst (λ (s : ℕ). (seam_at c (mapped d) s).ends) at cuts.ends

  before-cut : in_one_run c d (first + a + n - 1) ≡ false → (seam_at c (mapped d) (first + a + n - 1)).ends
  before-cut cut = elim (cases_lt (a + n) all) [
    | inl more ↦
        let at : first + (a + n - 1) ≡ first + a + n - 1 = omega (arith, some) in
        subst (λ (s : ℕ). (seam_at c (mapped d) s).ends) at (cuts.between (a + n - 1) (omega (arith, more, some)) (apart c valid d (first + (a + n - 1)) (ap (in_one_run c d) at ∙ cut))).0
    | inr last ↦ at-end (omega (arith, last, fits))
  ]

  pub run-cuts : CutsNone c (mapped d) (first + a) n
  run-cuts = record {
    begins = elim before [ inl none ↦ at-start none | inr cut ↦ at-cut a refl cut ];
    ends = elim behind [ inl whole ↦ at-end whole | inr cut ↦ before-cut cut ];
    between = λ j low off.
        let at : first + (a + j) ≡ first + a + j = omega arith in
        let next : first + suc (a + j) ≡ first + a + suc j = omega arith in
        let both = cuts.between (a + j) (omega (arith, low, fits)) (ap (λ (s : ℕ). (seam_at c (mapped d) s).goes_on) at ∙ off) in
        (subst (λ (s : ℕ). (seam_at c (mapped d) s).ends) at both.0, subst (λ (s : ℕ). (seam_at c (mapped d) s).begins) next both.1);
  }

-- ---- where the sectors go

-- a line that hands on the sectors beneath
line_seam-beneath : (c : Configuration) (at : List ℕ → ℕ → Seam) (d l : ℕ) (target : Target) (s : ℕ) (p : List ℕ × ℕ) → HandsOn target → beneath target s ≡ Some p → line_seam c at d l target s ≡ at p.0 p.1
line_seam-beneath c at d l target s p hands e = go (meaning_of target).meant hands
  where
    go : (m : Meant) → IsHanded m → seam_as m (said_or plain_seam at (beneath target s)) (seam_of c s (crypt_of target)) ≡ at p.0 p.1
    go handed h = ap (said_or plain_seam at) e
    go (own m) h = absurd h

module _ (c : Configuration) (d s n : ℕ) (loaded : IsLoaded c) (some : 0 < n) (cuts : CutsNone c (mapped d) s n) where
  below-cuts : (lower : Lower) (first : ℕ) → IsServed c d s n (Below lower first) → CutsNone c lower first n
  below-cuts lower first r =
      let w : ℕ = s - r.line.start in
      let on = r.come.1 in
      let same : (j : ℕ) → j < n → seam_at c (mapped d) (s + j) ≡ with_run (in_one_run c d (s + j)) (seam_at c lower (first + j)) = λ j h.
      seam-line c loaded.valid d s j r.number r.line r.found r.start (omega (arith, h, r.fits))
      ∙ ap (with_run (in_one_run c d (s + j))) (
      line_seam-beneath c (seam_by_name c) d r.number r.line.target (w + j) (on.name, first + j) r.come.0 (on.under j h)
      ∙ ap (λ (o : Option Lower). known {A = ℕ → Seam} (λ t. plain_seam) (seam_at c) o (first + j)) on.is) in
      let begin : s ≡ s + 0 = omega arith in
      let begin' : first + 0 ≡ first = omega arith in
      let end : s + n - 1 ≡ s + (n - 1) = omega (arith, some) in
      let end' : first + (n - 1) ≡ first + n - 1 = omega (arith, some) in
      record {
        begins = subst (λ (k : ℕ). (seam_at c lower k).begins) begin' (subst (λ (x : Seam). x.begins) (same 0 some) (subst (λ (k : ℕ). (seam_at c (mapped d) k).begins) begin cuts.begins));
        ends = subst (λ (k : ℕ). (seam_at c lower k).ends) end' (subst (λ (x : Seam). x.ends) (same (n - 1) (omega (arith, some))) (subst (λ (k : ℕ). (seam_at c (mapped d) k).ends) end cuts.ends));
        between = λ j low off.
            let cut = ap (λ (x : Seam). x.goes_on) (same j (omega (arith, low))) ∙ ap (λ (b : Bool). in_one_run c d (s + j) && b) off ∙ and-false (in_one_run c d (s + j)) in
            let both = cuts.between j low cut in
            (subst (λ (x : Seam). x.ends) (same j (omega (arith, low))) both.0, subst (λ (x : Seam). x.begins) (same (suc j) low) both.1);
      }

  -- the sectors of a crypt line
  module _ (l : ℕ) (line : Line) (found : line_at c d s ≡ Some (l, line)) (start : line.start ≤ s) (fits : s + n ≤ line.start + line.length) (crypt : Crypt) (target : line.target ≡ crypt_target crypt) where
    abbrev w : ℕ
    w = s - line.start

    unit-seam : (j : ℕ) → j < n → seam_at c (mapped d) (s + j) ≡ with_run (in_one_run c d (s + j)) (unit_seam c (w + j) crypt)
    unit-seam j h =
        seam-line c loaded.valid d s j l line found start (omega (arith, h, fits))
        ∙ ap (λ (t : Target). with_run (in_one_run c d (s + j)) (line_seam c (seam_by_name c) d l t (w + j))) target

    abbrev units : CryptUnits
    units = units_of crypt

    begins-unit : (w % per_unit units ≡ 0) × IsLast c crypt w
    begins-unit =
        let begin : s ≡ s + 0 = omega arith in
        let at : w + 0 ≡ w = omega arith in
        subst (λ (k : ℕ). (k % per_unit units ≡ 0) × IsLast c crypt k) at (subst (λ (x : Seam). x.begins) (unit-seam 0 some) (subst (λ (k : ℕ). (seam_at c (mapped d) k).begins) begin cuts.begins))

    ends-unit : (w + n) % per_unit units ≡ 0
    ends-unit =
        let end : s + n - 1 ≡ s + (n - 1) = omega (arith, some) in
        let at : w + (n - 1) + 1 ≡ w + n = omega (arith, some) in
        subst (λ (k : ℕ). k % per_unit units ≡ 0) at (subst (λ (x : Seam). x.ends) (unit-seam (n - 1) (omega (arith, some))) (subst (λ (k : ℕ). (seam_at c (mapped d) k).ends) end cuts.ends))

    -- so none of them is a part of one unit alone
    not-part : n < per_unit units → ⊥
    not-part less =
        let u : ℕ = per_unit units in
        let at : w + n ≡ w / u * u + n = omega (arith, div-add-mod' w u, begins-unit.0) in
        let rest : (w + n) % u ≡ n = ap (λ (k : ℕ). k % u) at ∙ mod-mul-add (w / u) u n less in
        omega (arith, rest, ends-unit, some)

    -- each unit is the last one on its way
    each-last : (k q : ℕ) → q * per_unit units ≡ k → k < n → IsLast c crypt (w + k)
    each-last zero q e low = let at : w ≡ w + 0 = omega arith in subst (IsLast c crypt) at begins-unit.1
    each-last (suc k) q e low = go q e
      where
        go : (q : ℕ) → q * per_unit units ≡ suc k → IsLast c crypt (w + suc k)
        go zero e = let none : 0 * per_unit units ≡ 0 = omega arith in absurd (omega (arith, e, none))
        go (suc q) e =
            let u : ℕ = per_unit units in
            let several : 0 < u = omega (arith, per_unit-some units) in
            let more : suc q ≡ q + 1 = omega arith in
            let all : q * u + u ≡ suc k = omega (arith, e, ap (λ (m : ℕ). m * u) more, add-mul q 1 u) in
            let sum : (w / u + q) * u ≡ w / u * u + q * u = add-mul (w / u) q u in
            let at : w + k ≡ (w / u + q) * u + (u - 1) = omega (arith, all, sum, div-add-mod' w u, begins-unit.0, several) in
            let last : (w + k) % u ≡ u - 1 = ap (λ (m : ℕ). m % u) at ∙ mod-mul-add (w / u + q) u (u - 1) (omega (arith, several)) in
            let whole : Bool = nat_lt (suc (s + k)) (line.start + line.length) in
            let within : s + k - line.start ≡ w + k = omega (arith, start) in
            let cut : in_one_run c d (s + k) ≡ false =
            ap (λ (o : Option (ℕ × Line)). option_map_or (λ p. nat_lt (suc (s + k)) (p.1.start + p.1.length) && together p.1.target (s + k - p.1.start)) o false)
            (found-more 0 (lines_of c d) s (s + k) (l, line) found (omega arith) (omega (arith, low, fits)))
            ∙ ap (λ (t : Target). whole && together t (s + k - line.start)) target
            ∙ ap (λ (m : ℕ). whole && nat_lt (m % u + 1) u) within
            ∙ ap (λ (b : Bool). whole && b) (le-ltb ((w + k) % u + 1) u (omega (arith, last, several)))
            ∙ and-false whole in
            let both = cuts.between k low (apart c loaded.valid d (s + k) cut) in
            (subst (λ (x : Seam). x.begins) (unit-seam (suc k) low) both.1).1

    none-beneath : SomeEncrypt (said_by_name c crypt.base.device) (unit_first units w) n → ⊥
    none-beneath some_at =
        let u : ℕ = per_unit units in
        let several : 0 < u = omega (arith, per_unit-some units) in
        let t : ℕ = some_at.0 in
        let k : ℕ = t / u * u in
        let split : k + t % u ≡ t = div-add-mod' t u in
        let sum : (w / u + t / u) * u ≡ w / u * u + k = add-mul (w / u) (t / u) u in
        let whole : w + k ≡ (w / u + t / u) * u + 0 = omega (arith, sum, div-add-mod' w u, begins-unit.0) in
        let quotient : (w + k) / u ≡ w / u + t / u = ap (λ (m : ℕ). m / u) whole ∙ div-mul-add (w / u + t / u) u 0 several in
        let from : (w + k) / u * u ≡ (w / u + t / u) * u = ap (λ (m : ℕ). m * u) quotient in
        let here : unit_first units w ≡ units.offset + w / u * u = refl in
        let there : unit_first units (w + k) ≡ units.offset + (w + k) / u * u = refl in
        let at : unit_first units w + t ≡ unit_first units (w + k) + t % u = omega (arith, split, sum, from, here, there) in
        each-last k (t / u) refl (omega (arith, split, some_at.1)) (t % u, mod_below t u several, subst (λ (m : ℕ). (said_by_name c crypt.base.device m).encrypts) at some_at.2)

  pub served-cuts : (source : Source) → IsServed c d s n source → SourceCutsNone c source n
  served-cuts (Below lower first) r = below-cuts lower first r
  served-cuts (Units x) r = λ some_at.
      let of = r.come.0 in
      let by : (t : ℕ) → said_by_name c of.crypt.base.device t ≡ said_at c x.lower t = λ t. ap (λ (o : Option Lower). known {A = ℕ → Said} (λ s. none_said) (said_at c) o t) of.named in
      let here : SomeEncrypt (said_by_name c of.crypt.base.device) (unit_first x.units x.first) n = (some_at.0, some_at.1, subst (λ (y : Said). y.encrypts) (sym (by (unit_first x.units x.first + some_at.0))) some_at.2) in
      none-beneath r.number r.line r.found r.start r.fits of.crypt of.is (subst (λ (k : ℕ). SomeEncrypt (said_by_name c of.crypt.base.device) k n) (ap (λ (u : CryptUnits). unit_first u x.first) of.units ∙ ap (unit_first (units_of of.crypt)) r.come.1) here)
  served-cuts (UnitPart x) r = not-part r.number r.line r.found r.start r.fits r.come.0.crypt r.come.0.is (subst (λ (u : CryptUnits). n < per_unit u) r.come.0.units r.come.2.part)
  served-cuts Zeros r = tt
  served-cuts Fails r = tt
  served-cuts (Block b) r = tt
  served-cuts (Blocks b) r = tt

-- ---- leaves

-- no sector of a leaf is encrypted
pub leaf-plain : (c : Configuration) (i first n : ℕ) → SomeEncrypt (said_at c (leaf i)) first n → ⊥
leaf-plain c i first n some = subst (λ (x : Said). x.encrypts) (said_at-leaf c i (first + some.0)) some.2

-- units beneath which none encrypts
pub units-plain-below : (c : Configuration) (x : CryptPart) (n first : ℕ) → SourceCutsNone c (Units x) n → (k m : ℕ) → first ≡ unit_first x.units x.first + k → k + m ≤ n → SomeEncrypt (said_at c x.lower) first m → ⊥
units-plain-below c x n first cuts k m at fits some =
    let place : first + some.0 ≡ unit_first x.units x.first + (k + some.0) = omega (arith, at) in
    cuts (k + some.0, omega (arith, fits, some.1), subst (λ (t : ℕ). (said_at c x.lower t).encrypts) place some.2)

pub unread-then : (old mid new : List Device) → NoneRead old mid → NoneRead mid new → NoneRead old new
unread-then old mid new p q = q ∙ p

-- ---- runs of a device

-- the next run, after a sectors
pub device-uncut : (c : Configuration) (d first a count left all : ℕ) (source : Source) → IsLoaded c → 0 < count → a + count ≤ all → a + left ≡ all → IsCutBehind c d first a all → EndsRun (in_one_run c d) (first + a) left count
    → IsServed c d (first + a) count source → CutsNone c (mapped d) first all → SourceCutsNone c source count
device-uncut c d first a count left all source loaded some fits whole cut ends served cuts =
    let before : (a ≡ 0) ⊎ (in_one_run c d (first + a - 1) ≡ false) = elim cut [
      | inl none ↦ inl none
      | inr other ↦ elim other [ inl end ↦ absurd (omega (arith, end, some, fits)) | inr apart ↦ inr apart ]
    ] in
    let behind : (a + count ≡ all) ⊎ (in_one_run c d (first + a + count - 1) ≡ false) = elim ends [ inl rest ↦ inl (omega (arith, rest, whole)) | inr apart ↦ inr apart ] in
    served-cuts c d (first + a) count loaded some (run-cuts c d first a count all loaded.valid cuts some fits before behind) source served
