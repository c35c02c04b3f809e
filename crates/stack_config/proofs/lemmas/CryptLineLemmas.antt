-- What a loaded configuration gives of each crypt line.
use Rattle.std.proofs.Common.{subst, ◌≡◌, ◌+◌, ◌*◌, ◌%◌, ◌≤◌, ◌<◌, ◌==◌, ℕ, sym, ap, ◌∙◌, true, false, not, Some, arith}
use Rattle.std.specs.Option.{option_and_then}
use Rattle.dm_table.specs.Grammar.{IsTargetOfGrammar, IsCryptOfGrammar}
use Rattle.dm_table.specs.declared.crypt.Crypt.{Crypt as CryptRecord}
use Rattle.dm_table.specs.declared.table.Line.{Line}
use Rattle.dm_table.specs.declared.table.Target.TheVariants.{Crypt}
use Rattle.stack_rules.specs.declared.lower.Lower.{Lower}
use Rattle.stack_rules.specs.Records.{Configuration}
use Rattle.stack_rules.specs.Names.{mapped, named, size, may_write}
use Rattle.stack_rules.specs.Descend.{depth, read_cost, write_cost}
use Rattle.stack_rules.specs.Lines.{IsLine, key_of, key_of_line}
use Rattle.stack_rules.specs.Rules.{IsLoaded, cuts_unit, is_beyond, is_off_unit, most_sectors}
use Rattle.stack_rules.specs.Units.{unit_sectors, unit_write_cost}
use Rattle.stack_rules.proofs.lemmas.UnitLemmas.{times-some, unit_sectors-some, unit_write-some}
use Rattle.stack_rules.proofs.lemmas.ValidLineLemmas.{equal}
use Rattle.stack_rules.proofs.lemmas.RangeLemmas.{is_beyond-crypt}
use Rattle.stack_config.proofs.lemmas.LoadedLineLemmas.{sound-line, line-grammar, size-most, range-inside, names-known, names-writable, names-shallower, line-read-cost, line-write-cost, name-cost}

-- a line of device d in whole units, and what reading and writing them costs
pub record IsInUnits (c : Configuration) (d : ℕ) (line : Line) (crypt : CryptRecord) (lower : Lower) : Type 0 where
  pub whole : line.length % unit_sectors crypt ≡ 0
  pub offset : crypt.iv_offset % unit_sectors crypt ≡ 0
  pub read : unit_sectors crypt * read_cost c lower ≤ read_cost c (mapped d)
  pub write : unit_write_cost (unit_sectors crypt) (read_cost c lower) (write_cost c lower) ≤ write_cost c (mapped d)

-- a line of device d and the leaf or device beneath it
pub record IsCryptLine (c : Configuration) (d : ℕ) (line : Line) (crypt : CryptRecord) (lower : Lower) : Type 0 where
  pub named : named c crypt.base.device ≡ Some lower
  pub grammar : IsCryptOfGrammar crypt
  pub inside : crypt.base.offset + line.length ≤ size c lower
  pub small : crypt.base.offset + line.length ≤ most_sectors
  pub writable : may_write c (mapped d) ≡ true → may_write c lower ≡ true
  pub shallower : depth c lower < depth c (mapped d)
  pub read : read_cost c lower ≤ read_cost c (mapped d)
  pub write : write_cost c lower ≤ write_cost c (mapped d)
  pub units : IsInUnits c d line crypt lower

undivided : (m n : ℕ) → not (m % n == 0) ≡ false → m % n ≡ 0
undivided m n h = equal (m % n) 0 h

pub crypt-line : (c : Configuration) (d l : ℕ) (line : Line) (crypt : CryptRecord) → IsLoaded c → IsLine c d l line → line.target ≡ Crypt crypt → (lower : Lower) × IsCryptLine c d line crypt lower
crypt-line c d l line crypt loaded is has =
    let names = rw has at (names-known c d l line loaded.valid is) in
    let lower : Lower = names.0.0 in
    let means : named c crypt.base.device ≡ Some lower = names.0.1 in
    let beyond = sym (is_beyond-crypt c line.length crypt) ∙ sym (ap (is_beyond c line.length) has) ∙ (sound-line c d l line loaded.valid is).1.inside in
    let room = range-inside c crypt.base.device lower (crypt.base.offset + line.length) means beyond in
    let writable : may_write c (mapped d) ≡ true → may_write c lower ≡ true = λ writes. (rw has at (names-writable c d l line loaded.valid is writes)).0 lower means in
    let shallower = rw has at (names-shallower c d l line loaded.valid is) in
    let read = rw has at (line-read-cost c d l line loaded.valid is) in
    let write = rw has at (line-write-cost c d l line loaded.valid is) in
    let s = (sound-line c d l line loaded.valid is).1 in
    let some = unit_sectors-some crypt in
    let lower-read = name-cost c (read_cost c) crypt.base.device lower means in
    let lower-write = name-cost c (write_cost c) crypt.base.device lower means in
    let units : IsInUnits c d line crypt lower = record {
      whole = undivided line.length (unit_sectors crypt) (sym (ap (cuts_unit line.length) has) ∙ s.units);
      offset = undivided crypt.iv_offset (unit_sectors crypt) (sym (ap (is_off_unit line.length) has) ∙ s.offset);
      read = rw lower-read at read;
      write = rw (lower-read, lower-write) at write;
    } in (
      lower,
      record {
        named = means;
        grammar = subst IsTargetOfGrammar has (line-grammar c d l line loaded is).target;
        inside = room;
        small = omega (arith, room, size-most c loaded lower);
        writable = writable;
        shallower = shallower.0 lower means;
        read = omega (arith, units.read, times-some (unit_sectors crypt) (read_cost c lower) some);
        write = omega (arith, units.write, unit_write-some (unit_sectors crypt) (read_cost c lower) (write_cost c lower) some);
        units = units;
      },
    )

-- the key that is kept for it is its own
pub crypt-key : (c : Configuration) (d l : ℕ) (line : Line) (crypt : CryptRecord) → IsLine c d l line → line.target ≡ Crypt crypt → key_of_line c d l ≡ Some crypt.key
crypt-key c d l line crypt is has = ap (option_and_then (λ (line : Line). key_of line.target)) is ∙ ap key_of has
