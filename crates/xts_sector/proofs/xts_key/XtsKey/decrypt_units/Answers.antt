use Rattle.std.proofs.Common.{◌≡◌, ℕ, ◌+◌, ◌-◌, ◌*◌, ◌≤◌, length, take, drop, get_or, sym, ap, ◌∙◌, refl, arith}
use Rattle.std.proofs.Math.Nat.{mul-le-mul_left}
use borrow.Author.Count.{below_more}
use Rattle.aes_block.specs.Blocks.{joined}
use Rattle.aes_block.proofs.lemmas.PartLemmas.{IsWrittenTo-none, IsWrittenTo-all}
use Rattle.xts_sector.specs.Xts.{encrypted, decrypted}
use Rattle.xts_sector.specs.Units.{unit, decrypted_numbered, encrypted_numbered}
use Rattle.xts_sector.proofs.FirstTweakLemmas.{HoldTweaks-none, HoldTweaks-next}
use Rattle.xts_sector.proofs.lemmas.UnitLemmas.{length-decrypted_unit, decrypted_units_undone, unit_written}
use Rattle.xts_sector.proofs.xts_key.XtsKey.decrypt_units.Goals as goal
use Rattle.xts_sector.proofs.xts_key.XtsKey.decrypt_units.Goals.{After-loop-i}

pub loop-i-init : goal.loop-i-init
loop-i-init c = record {
  ready = HoldTweaks-none c.args.self.now c.args.numbers.now _;
  written = IsWrittenTo-none c.args.size (λ k. decrypted c.args.self.now (get_or c.args.numbers.now k 0) (unit c.args.size c.args.units.now k)) c.args.units.now;
  undone = λ k h. absurd (omega arith);
}

pub loop-i-preserved : goal.loop-i-preserved
loop-i-preserved c =
    let key = c.args.self.now in
    let numbers = c.args.numbers.now in
    let size = c.args.size in
    let old = c.args.units.now in
    let now = c.loop-i.units in
    let i = c.loop-i.i in
    let so_far = c.loop-i.invariant in
    let number = get_or numbers i 0 in
    let parts = λ (k : ℕ). decrypted key (get_or numbers k 0) (unit size old k) in
    let ready = c.make_ready.ensures so_far.ready in
    let first = c.tweak_at-first.ensures ∙ ready i refl (omega (arith, c.loop-i-test.true)) in
    let wide : size * i + size - size * i ≡ size = omega arith in
    let room : size * (i + 1) ≤ size * length numbers = mul-le-mul_left size (omega (arith, c.loop-i-test.true)) in
    let fits : size * i + (size * i + size - size * i) ≤ length now = omega (arith, room, c.requires.whole, c.loop-i.auto.units) in
    let read : take (size * i + size - size * i) (drop (size * i) now) ≡ unit size old i = ap (λ n. take n (drop (size * i) now)) wide ∙ ap (take size) so_far.written.rest in
    let is : c.decrypt_from.new.unit ≡ parts i = c.decrypt_from.ensures.value number first ∙ ap (decrypted key number) read in
    let long = ap length is ∙ length-decrypted_unit key numbers size old c.requires.size c.requires.whole i (omega (arith, c.loop-i-test.true)) ∙ sym wide in
    let undone : encrypted key number (parts i) ≡ unit size old i = ap (encrypted key number) (sym is) ∙ c.decrypt_from.ensures.inverse number first ∙ read in
    record {
      ready = λ _. HoldTweaks-next key numbers c.make_ready.new.tweaks i ready;
      written = unit_written size parts old now c.decrypt_from.new.unit i (size * i + size - size * i) wide fits is long so_far.written;
      undone = below_more (λ k. encrypted key (get_or numbers k 0) (parts k) ≡ unit size old k) i so_far.undone undone;
    }

-- the units that are left
units_are : (c : After-loop-i) → c.loop-i.units ≡ decrypted_numbered c.args.self.now c.args.numbers.now c.args.size c.args.units.now
unfolding decrypted_numbered
units_are c =
    let numbers = c.args.numbers.now in
    let old = c.args.units.now in
    let parts = λ (k : ℕ). decrypted c.args.self.now (get_or numbers k 0) (unit c.args.size old k) in
    let done : c.loop-i.i ≡ length numbers = omega arith in
    IsWrittenTo-all c.args.size parts old c.loop-i.units c.loop-i.i (c.loop-i.auto.units ∙ c.requires.whole ∙ ap (λ n. c.args.size * n) (sym done)) c.loop-i.invariant.written ∙ ap (joined parts) done

pub returns-clause-value : goal.returns-clause-value
returns-clause-value c = units_are c

pub returns-clause-inverse : goal.returns-clause-inverse
returns-clause-inverse c =
    ap (encrypted_numbered c.args.self.now c.args.numbers.now c.args.size) (units_are c)
    ∙ decrypted_units_undone c.args.self.now c.args.numbers.now c.args.size c.args.units.now c.requires.size c.requires.whole (λ k h. c.loop-i.invariant.undone k (omega arith))
