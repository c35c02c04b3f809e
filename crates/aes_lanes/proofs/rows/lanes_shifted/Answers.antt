use Rattle.std.proofs.Common.{ℕ, List, [], ◌∷◌, refl}
use Rattle.aes_lanes.specs.Planes.{lane_shifted}
use Rattle.aes_lanes.proofs.LaneLemmas.{length-picked, slice_index-picked}
use Rattle.aes_lanes.proofs.rows.lanes_shifted.Goals as goal

-- the lanes that the code names
abbrev places : List ℕ
places = 0 ∷ 5 ∷ 10 ∷ 15 ∷ 4 ∷ 9 ∷ 14 ∷ 3 ∷ 8 ∷ 13 ∷ 2 ∷ 7 ∷ 12 ∷ 1 ∷ 6 ∷ 11 ∷ 16 ∷ 21 ∷ 26 ∷ 31 ∷ 20 ∷ 25 ∷ 30 ∷ 19 ∷ 24 ∷ 29 ∷ 18 ∷ 23 ∷ 28 ∷ 17 ∷ 22 ∷ 27 ∷ []

pub returns-clause-len : goal.returns-clause-len
returns-clause-len c = length-picked c.args.x places c.fits-x.0 refl (lane_shifted) refl refl

pub returns-clause-lanes : goal.returns-clause-lanes
returns-clause-lanes c = slice_index-picked c.args.x places c.fits-x.0 refl (lane_shifted) refl refl
