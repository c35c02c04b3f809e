-- Round keys where they are added.
use Rattle.std.proofs.Common.{◌≡◌, ℕ, zero, suc, ◌%◌, ◌<◌, ◌≤◌, List, refl, sym, subst, arith}
use Rattle.aes_block.specs.KeyExpansion.{round_key}
use Rattle.aes_lanes.specs.declared.keys.KeyPlanes.{KeyPlanes}
use Rattle.aes_lanes.specs.Constant.{add_constant}
use Rattle.aes_lanes.specs.Keys.{AreOneBlock, HoldKeys, kept_key, key_planes}

pub kept_key-later : (w : List ℕ) (r : ℕ) → 0 < r → kept_key w r ≡ add_constant (round_key w r)
kept_key-later w zero h = absurd (omega arith)
kept_key-later w (suc r) h = refl

-- a round key after the first
pub AreCopies-later : (n : ℕ) (w : List ℕ) (keys : List KeyPlanes) (planes : List (List ℕ)) (s r : ℕ) → HoldKeys n w keys → planes ≡ key_planes keys r → 0 < r → r ≤ n → r % 4 ≡ s
    → AreOneBlock s (add_constant (round_key w r)) planes
AreCopies-later n w keys planes s r hold is later inside same =
    let kept = rw (same, kept_key-later w r later) at (hold r inside) in
    subst (AreOneBlock s (add_constant (round_key w r))) (sym is) kept

-- the first
pub AreCopies-first : (n : ℕ) (w : List ℕ) (keys : List KeyPlanes) (planes : List (List ℕ)) → HoldKeys n w keys → planes ≡ key_planes keys 0 → AreOneBlock 0 (round_key w 0) planes
AreCopies-first n w keys planes hold is = subst (AreOneBlock 0 (round_key w 0)) (sym is) (hold 0 (omega arith))
