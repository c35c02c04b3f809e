-- What a loaded configuration gives of a `crypt` line and its units.
use Rattle.std.proofs.Common.{◌≡◌, ◌≢◌, ℕ, ◌+◌, ◌*◌, ◌%◌, ◌<◌, ◌≤◌, ◌==◌, Bool, true, false, cond, Some, sym, ap, ◌∙◌, subst, refl, arith}
use Rattle.std.proofs.lemmas.Bool.{eqb-true}
use Rattle.dm_table.specs.declared.table.Line.{Line}
use Rattle.dm_table.specs.declared.table.Target.{Target}
use Rattle.stack_rules.specs.declared.lower.Lower.{Lower}
use Rattle.stack_rules.specs.Records.{Configuration}
use Rattle.stack_rules.specs.Names.{mapped, size, may_write}
use Rattle.stack_rules.specs.Descend.{depth, read_cost, write_cost}
use Rattle.stack_rules.specs.Rules.{IsLoaded, most_sectors}
use Rattle.stack_rules.specs.Units.{unit_sectors, unit_write_cost}
use Rattle.stack_config.proofs.lemmas.CryptLineLemmas.{IsCryptLine, crypt-line}
use Rattle.stack_meaning.specs.declared.units.CryptUnits.{CryptUnits}
use Rattle.stack_meaning.specs.Units.{per_unit}
use Rattle.stack_meaning.proofs.lemmas.UnitSizeLemmas.{per_unit-of}
use Rattle.stack_lines.specs.declared.source.CryptPart.{CryptPart}
use Rattle.stack_lines.specs.Sources.{HasTarget, IsPartOf}

-- a line of device d in these units, and the leaf or device beneath it
pub record IsUnitLine (c : Configuration) (d : ℕ) (line : Line) (units : CryptUnits) (lower : Lower) : Type 0 where
  pub inside : units.offset + line.length ≤ size c lower
  pub small : units.offset + line.length ≤ most_sectors
  pub writable : may_write c (mapped d) ≡ true → may_write c lower ≡ true
  pub shallower : depth c lower < depth c (mapped d)
  pub whole : line.length % per_unit units ≡ 0
  pub read : read_cost c lower ≤ read_cost c (mapped d)
  pub write : write_cost c lower ≤ write_cost c (mapped d)
  pub read_unit : per_unit units * read_cost c lower ≤ read_cost c (mapped d)
  pub change_unit : per_unit units ≢ 1 → per_unit units * (read_cost c lower + write_cost c lower) ≤ write_cost c (mapped d)

-- what part of a unit costs
part-cost : (u read write most : ℕ) → u ≢ 1 → unit_write_cost u read write ≤ most → u * (read + write) ≤ most
part-cost u read write most several h = go (u == 1) refl h
  where
    go : (one : Bool) → (u == 1) ≡ one → cond one write (u * (read + write)) ≤ most → u * (read + write) ≤ most
    go true e h = absurd (several (eqb-true u 1 e))
    go false e h = h

pub unit-line : (c : Configuration) (d l n : ℕ) (target : Target) (u : CryptPart) → IsLoaded c → (has : HasTarget c d l target n) → IsPartOf c target u → IsUnitLine c d has.line u.units u.lower
unit-line c d l n target u loaded has of =
    let all = crypt-line c d l has.line of.crypt loaded has.is (has.has ∙ of.is) in
    let both : Some all.0 ≡ Some u.lower = sym all.1.named ∙ of.named in
    let lower : all.0 ≡ u.lower = cc in
    let line = subst (IsCryptLine c d has.line of.crypt) lower all.1 in
    let begin : u.units.offset ≡ of.crypt.base.offset = ap (λ (x : CryptUnits). x.offset) of.units in
    let sectors : unit_sectors of.crypt ≡ per_unit u.units = sym (ap per_unit of.units ∙ per_unit-of of.crypt) in
    record {
      inside = omega (arith, line.inside, begin);
      small = omega (arith, line.small, begin);
      writable = line.writable;
      shallower = line.shallower;
      whole = subst (λ (k : ℕ). has.line.length % k ≡ 0) sectors line.units.whole;
      read = line.read;
      write = line.write;
      read_unit = subst (λ (k : ℕ). k * read_cost c u.lower ≤ read_cost c (mapped d)) sectors line.units.read;
      change_unit = subst (λ (k : ℕ). k ≢ 1 → k * (read_cost c u.lower + write_cost c u.lower) ≤ write_cost c (mapped d)) sectors
          (λ several. part-cost (unit_sectors of.crypt) (read_cost c u.lower) (write_cost c u.lower) (write_cost c (mapped d)) several line.units.write);
    }
