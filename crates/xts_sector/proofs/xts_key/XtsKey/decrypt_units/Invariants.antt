use Rattle.std.proofs.Common.{◌≡◌, ◌≢◌, ℕ, ◌-◌, ◌%◌, ◌<◌, get_or}
use Rattle.aes_block.proofs.lemmas.PartLemmas.{IsWrittenTo}
use Rattle.xts_sector.specs.Xts.{encrypted, decrypted}
use Rattle.xts_sector.specs.Units.{unit}
use Rattle.xts_sector.specs.FirstTweaks.{HoldTweaks}
use Rattle.xts_sector.proofs.xts_key.XtsKey.decrypt_units.Given as goal

-- the units so far, and the tweaks at hand
abbrev pub invariant-loop-i : goal.invariant-loop-i
invariant-loop-i l = record {
  ready : l.i % 16 ≢ 0 → HoldTweaks l.self l.numbers (l.i - 1) l.tweaks;
  written : IsWrittenTo l.size (λ k. decrypted l.self (get_or l.numbers k 0) (unit l.size l.fn.units k)) l.fn.units l.units l.i;
  undone : (k : ℕ) → k < l.i → encrypted l.self (get_or l.numbers k 0) (decrypted l.self (get_or l.numbers k 0) (unit l.size l.fn.units k)) ≡ unit l.size l.fn.units k;
}
