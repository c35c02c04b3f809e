use Rattle.std.proofs.Common.{ℕ, List, [], ◌∷◌, refl}
use Rattle.aes_lanes.specs.Planes.{lane_below}
use Rattle.aes_lanes.proofs.LaneLemmas.{length-picked, slice_index-picked}
use Rattle.aes_lanes.proofs.columns.next_row.Goals as goal

-- the lanes that the code names
abbrev places : List ℕ
places = 1 ∷ 2 ∷ 3 ∷ 0 ∷ 5 ∷ 6 ∷ 7 ∷ 4 ∷ 9 ∷ 10 ∷ 11 ∷ 8 ∷ 13 ∷ 14 ∷ 15 ∷ 12 ∷ 17 ∷ 18 ∷ 19 ∷ 16 ∷ 21 ∷ 22 ∷ 23 ∷ 20 ∷ 25 ∷ 26 ∷ 27 ∷ 24 ∷ 29 ∷ 30 ∷ 31 ∷ 28 ∷ []

pub returns-clause-len : goal.returns-clause-len
returns-clause-len c = length-picked c.args.x places c.fits-x.0 refl (lane_below 1 0) refl refl

pub returns-clause-lanes : goal.returns-clause-lanes
returns-clause-lanes c = slice_index-picked c.args.x places c.fits-x.0 refl (lane_below 1 0) refl refl
