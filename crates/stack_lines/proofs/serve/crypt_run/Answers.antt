use Rattle.std.proofs.Common.{◌≡◌, ◌+◌, ◌-◌, ◌*◌, ◌/◌, ◌%◌, ◌≤◌, ◌<◌, ℕ, zero, suc, min, [], Option, Some, refl, sym, ap, ◌∙◌, subst, inl, inr, arith}
use Rattle.std.specs.Prelude.{slice_get, option_and_then}
use Rattle.std.specs.Option.{option_map_or}
use Rattle.std.proofs.lemmas.Bool.{cases_eq}
use Rattle.std.proofs.lemmas.Nat.{div-add-mod', mod-mul-add, mod_below}
use Rattle.dm_table.specs.declared.crypt.Crypt.{Crypt}
use Rattle.dm_table.specs.declared.table.Line.{Line}
use Rattle.dm_table.specs.declared.table.Target.{Target}
use Rattle.dm_table.specs.declared.table.Target.TheVariants.{Crypt as crypt_target}
use Rattle.stack_rules.specs.Lines.{key_of_line, lower_at}
use Rattle.stack_rules.specs.Names.{named, names}
use Rattle.stack_rules.specs.Records.{Configuration}
use Rattle.stack_rules.specs.Rules.{IsLoaded}
use Rattle.stack_config.proofs.lemmas.CryptLineLemmas.{crypt-key}
use Rattle.stack_meaning.specs.declared.units.CryptUnits.{CryptUnits}
use Rattle.stack_meaning.specs.Puts.{together, in_unit}
use Rattle.stack_meaning.specs.Units.{units_of, per_unit}
use Rattle.stack_meaning.proofs.lemmas.UnitLemmas.{unit-fits, unit-more}
use Rattle.stack_meaning.proofs.lemmas.UnitSizeLemmas.{per_unit-some}
use Rattle.stack_lines.specs.declared.source.CryptPart.{CryptPart}
use Rattle.stack_lines.specs.declared.source.Source.TheVariants.{Units, UnitPart}
use Rattle.stack_lines.specs.Runs.{HasLineSectors, IsRunOfLine}
use Rattle.stack_lines.specs.Sources.{HasTarget, EndsRun, IsPartOf}
use Rattle.stack_lines.proofs.StripeLemmas.{part-ends, part-longest}
use Rattle.stack_lines.proofs.lemmas.UnitLineLemmas.{unit-line}
use Rattle.stack_lines.proofs.serve.crypt_run.Goals as goal

-- as many sectors as whole units have
whole-count : (u count : ℕ) → 0 < u → (count - count % u) % u ≡ 0
whole-count u count some =
    let all : count - count % u ≡ count / u * u + 0 = omega (arith, div-add-mod' count u) in
    ap (λ (k : ℕ). k % u) all ∙ mod-mul-add (count / u) u 0 some

-- they aren't all of the unit
less : (u w count n : ℕ) → n ≡ min count (u - w % u) → w % u < u → (w % u ≡ 0 → count < u) → n < u
less u w count n is low part = elim (cases_eq (w % u) 0) [
  | inl none ↦ omega (arith, is, part none)
  | inr some ↦ go (w % u) refl some
]
  where
    go : (r : ℕ) → w % u ≡ r → (w % u ≡ 0 → ⊥) → n < u
    go zero e some = absurd (some e)
    go (suc r) e some = omega (arith, is, low, e)

module _ (c : Configuration) (d l count : ℕ) (crypt : Crypt) (x : CryptPart) (loaded : IsLoaded c) (line : HasLineSectors c d l (crypt_target crypt) x.first count) (of : IsPartOf c (crypt_target crypt) x) (n : ℕ) where
  ends : EndsRun (in_unit x.units) x.first count n → EndsRun (together (crypt_target crypt)) x.first count n
  ends longest = subst (λ (t : Target). EndsRun (together t) x.first count n) (sym of.is) (subst (λ (y : CryptUnits). EndsRun (in_unit y) x.first count n) of.units longest)

  units : n ≡ count - count % per_unit x.units → x.first % per_unit x.units ≡ 0 → per_unit x.units ≤ count → IsRunOfLine c (d, l) (crypt_target crypt) x.first count (record { source = Units x; count = n })
  units is aligned enough =
      let u : ℕ = per_unit x.units in
      let some : 0 < u = omega (arith, per_unit-some x.units) in
      let whole : n % u ≡ 0 = ap (λ (k : ℕ). k % u) is ∙ whole-count u count some in
      let low = mod_below count u some in
      let on = unit-line c d l (x.first + count) (crypt_target crypt) x loaded line.has of in
      record {
        come = (
          of,
          refl,
          record {
            aligned = aligned;
            whole = whole;
            inside = omega (arith, is, on.inside, line.has.fits, div-add-mod' x.first u, aligned);
            small = omega (arith, is, on.small, line.has.fits);
          },
        );
        some = omega (arith, is, enough, low);
        most = omega (arith, is);
        longest = ends (inr (part-ends u (x.first + n) some (omega (arith, is, enough, low)) ((unit-more u x.first n some aligned).1 ∙ whole)));
        units = omega (arith, is, low);
      }

  part : n ≡ min count (per_unit x.units - x.first % per_unit x.units) → (x.first % per_unit x.units ≡ 0 → count < per_unit x.units) → IsRunOfLine c (d, l) (crypt_target crypt) x.first count (record { source = UnitPart x; count = n })
  part is few =
      let u : ℕ = per_unit x.units in
      let w : ℕ = x.first in
      let some : 0 < u = omega (arith, per_unit-some x.units) in
      let low = mod_below w u some in
      let on = unit-line c d l (w + count) (crypt_target crypt) x loaded line.has of in
      let room : w / u * u + u ≤ line.has.line.length = unit-fits u line.has.line.length w some on.whole (omega (arith, line.has.fits, line.some)) in
      record {
        come = (
          of,
          refl,
          record {
            within = omega (arith, is, low);
            part = less u w count n is low few;
            inside = omega (arith, on.inside, room);
            unit_small = omega (arith, on.small, room, div-add-mod' w u);
          },
        );
        some = omega (arith, is, line.some, low);
        most = omega (arith, is);
        longest = ends (part-longest u w count n some line.some is);
        units = tt;
      }

-- the part that is made of what the configuration gives
made : (c : Configuration) (d l n : ℕ) (crypt : Crypt) (x : CryptPart) → HasTarget c d l (crypt_target crypt) n → x.units ≡ units_of crypt → key_of_line c d l ≡ Some x.key.now → lower_at c d l 0 ≡ Some x.lower → IsPartOf c (crypt_target crypt) x
made c d l n crypt x has units key lower =
    let line : lower_at c d l 0 ≡ option_and_then (named c) (slice_get (names has.line.target) 0) = ap (λ (o : Option Line). option_and_then (named c) (slice_get (option_map_or (λ (line : Line). names line.target) o []) 0)) has.is in
    let target : option_and_then (named c) (slice_get (names has.line.target) 0) ≡ named c crypt.base.device = ap (λ (t : Target). option_and_then (named c) (slice_get (names t) 0)) has.has in
    let keys : Some x.key.now ≡ Some crypt.key = sym key ∙ crypt-key c d l has.line crypt has.is has.has in
    record {
      crypt = crypt;
      is = refl;
      units = units;
      key = cc;
      named = sym target ∙ sym line ∙ lower;
    }

pub returns-then-within-sectors-ne0 : goal.returns-then-within-sectors-ne0
returns-then-within-sectors-ne0 c =
    let line = c.requires.line in
    let x : CryptPart = record { units = c.of-units.result; key = c.key.result; lower = c.lower.result; first = c.args.within } in
    let u : c.from-sectors.result ≡ per_unit x.units = c.from-sectors.ensures ∙ c.sectors.ensures.value in
    let of = made c.args.config.now c.args.d.0 c.args.line (c.args.within + c.args.count) c.args.crypt.now x line.has c.of-units.ensures c.key.ensures c.lower.ensures in
    part c.args.config.now c.args.d.0 c.args.line c.args.count c.args.crypt.now x c.requires.loaded line of c.min.result
    (c.min.ensures ∙ ap (λ (k : ℕ). min c.args.count (k - c.args.within % k)) u)
    (λ none. absurd (c.if-within-sectors-ne0.true (ap (λ (k : ℕ). c.args.within % k) u ∙ none)))

pub returns-then-count-sectors : goal.returns-then-count-sectors
returns-then-count-sectors c =
    let line = c.requires.line in
    let x : CryptPart = record { units = c.of-units.result; key = c.key.result; lower = c.lower.result; first = c.args.within } in
    let u : c.from-sectors.result ≡ per_unit x.units = c.from-sectors.ensures ∙ c.sectors.ensures.value in
    let of = made c.args.config.now c.args.d.0 c.args.line (c.args.within + c.args.count) c.args.crypt.now x line.has c.of-units.ensures c.key.ensures c.lower.ensures in
    let begins : c.args.within % per_unit x.units ≡ 0 = sym (ap (λ (k : ℕ). c.args.within % k) u) ∙ c.if-within-sectors-ne0.false in
    part c.args.config.now c.args.d.0 c.args.line c.args.count c.args.crypt.now x c.requires.loaded line of c.args.count (omega (arith, begins, u, c.if-count-sectors.true)) (λ none. omega (arith, u, c.if-count-sectors.true))

pub returns : goal.returns
returns c =
    let line = c.requires.line in
    let x : CryptPart = record { units = c.of-units.result; key = c.key.result; lower = c.lower.result; first = c.args.within } in
    let u : c.from-sectors.result ≡ per_unit x.units = c.from-sectors.ensures ∙ c.sectors.ensures.value in
    let of = made c.args.config.now c.args.d.0 c.args.line (c.args.within + c.args.count) c.args.crypt.now x line.has c.of-units.ensures c.key.ensures c.lower.ensures in
    let begins : c.args.within % per_unit x.units ≡ 0 = sym (ap (λ (k : ℕ). c.args.within % k) u) ∙ c.if-within-sectors-ne0.false in
    units c.args.config.now c.args.d.0 c.args.line c.args.count c.args.crypt.now x c.requires.loaded line of (c.args.count - c.args.count % c.from-sectors.result)
    (ap (λ (k : ℕ). c.args.count - c.args.count % k) u) begins (omega (arith, u, c.if-count-sectors.false))
