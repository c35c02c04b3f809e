use Rattle.std.proofs.Common.{ℕ, List, [], ◌∷◌, refl}
use Rattle.aes_lanes.specs.Planes.{lane_below}
use Rattle.aes_lanes.proofs.LaneLemmas.{length-picked, slice_index-picked}
use Rattle.aes_lanes.proofs.columns.opposite_row.Goals as goal

-- the lanes that the code names
abbrev places : List ℕ
places = 2 ∷ 3 ∷ 0 ∷ 1 ∷ 6 ∷ 7 ∷ 4 ∷ 5 ∷ 10 ∷ 11 ∷ 8 ∷ 9 ∷ 14 ∷ 15 ∷ 12 ∷ 13 ∷ 18 ∷ 19 ∷ 16 ∷ 17 ∷ 22 ∷ 23 ∷ 20 ∷ 21 ∷ 26 ∷ 27 ∷ 24 ∷ 25 ∷ 30 ∷ 31 ∷ 28 ∷ 29 ∷ []

pub returns-clause-len : goal.returns-clause-len
returns-clause-len c = length-picked c.args.x places c.fits-x.0 refl (lane_below 2 0) refl refl

pub returns-clause-lanes : goal.returns-clause-lanes
returns-clause-lanes c = slice_index-picked c.args.x places c.fits-x.0 refl (lane_below 2 0) refl refl
