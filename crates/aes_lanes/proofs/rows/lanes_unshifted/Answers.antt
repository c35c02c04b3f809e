use Rattle.std.proofs.Common.{ℕ, List, [], ◌∷◌, refl}
use Rattle.aes_lanes.specs.Planes.{lane_unshifted}
use Rattle.aes_lanes.proofs.LaneLemmas.{length-picked, slice_index-picked}
use Rattle.aes_lanes.proofs.rows.lanes_unshifted.Goals as goal

-- the lanes that the code names
abbrev places : List ℕ
places = 0 ∷ 13 ∷ 10 ∷ 7 ∷ 4 ∷ 1 ∷ 14 ∷ 11 ∷ 8 ∷ 5 ∷ 2 ∷ 15 ∷ 12 ∷ 9 ∷ 6 ∷ 3 ∷ 16 ∷ 29 ∷ 26 ∷ 23 ∷ 20 ∷ 17 ∷ 30 ∷ 27 ∷ 24 ∷ 21 ∷ 18 ∷ 31 ∷ 28 ∷ 25 ∷ 22 ∷ 19 ∷ []

pub returns-clause-len : goal.returns-clause-len
returns-clause-len c = length-picked c.args.x places c.fits-x.0 refl lane_unshifted refl refl

pub returns-clause-lanes : goal.returns-clause-lanes
returns-clause-lanes c = slice_index-picked c.args.x places c.fits-x.0 refl lane_unshifted refl refl
