-- Round keys stored as planes.
use Rattle.std.specs.Prelude.{◌≡◌, ℕ, zero, suc, ◌%◌, ◌<◌, ◌≤◌, List, [], ◌∷◌, slice_index_or}
use Rattle.aes_block.specs.KeyExpansion.{round_key}
use Rattle.aes_lanes.specs.declared.keys.KeyPlanes.{KeyPlanes}
use Rattle.aes_lanes.specs.Constant.{add_constant}
use Rattle.aes_lanes.specs.Planes.{ArePlanes, lane_block, shifted}

-- each of the sixteen blocks in the planes, after s ShiftRows, is this key
pub record AreOneBlock (s : ℕ) (key : List ℕ) (q : List (List ℕ)) : Type 0 where
  pub planes : ArePlanes q
  pub blocks : (j : ℕ) → j < 16 → shifted s (lane_block q j) ≡ key

-- the planes of a `KeyPlanes` record
abbrev pub planes_in : KeyPlanes → List (List ℕ)
planes_in k = k.p0 ∷ k.p1 ∷ k.p2 ∷ k.p3 ∷ k.p4 ∷ k.p5 ∷ k.p6 ∷ k.p7 ∷ []

abbrev pub no_planes : KeyPlanes
no_planes = record { p0 = []; p1 = []; p2 = []; p3 = []; p4 = []; p5 = []; p6 = []; p7 = [] }

-- the planes of round key r in an array of records
abbrev pub key_planes : List KeyPlanes → ℕ → List (List ℕ)
key_planes keys r = planes_in (slice_index_or keys r no_planes)

-- round key r as it is stored: with the constant of SubBytes added, except for round key 0
abbrev pub kept_key : List ℕ → ℕ → List ℕ
kept_key w zero = round_key w 0
kept_key w (suc r) = add_constant (round_key w (suc r))

-- round keys 0 to n of the key schedule w, each stored with r % 4 ShiftRows pending: ShiftRows repeats after four
-- times
abbrev pub HoldKeys : ℕ → List ℕ → List KeyPlanes → Type 0
HoldKeys n w keys = (r : ℕ) → r ≤ n → AreOneBlock (r % 4) (kept_key w r) (key_planes keys r)
