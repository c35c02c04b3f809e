use Rattle.std.proofs.Common.{ℕ, ◌+◌, ◌-◌, IsTrue, List, length}
use Rattle.std.specs.Prelude.{slice_index}
use Rattle.block_device.specs.Call.{DeviceDoes}
use Rattle.verity_format.specs.Blocks.{AreOnlyRead}
use Rattle.fec_area.specs.Asking.{AreAsked, kept_at, sectors_on_data, sectors_on_hash, sum_to}
use Rattle.fec_area.specs.Given.{GivesAll, gathered, kept_index_at}
use Rattle.fec_area.specs.Layouts.{codeword}
use Rattle.fec_area.specs.Rounds.{AreUnfailed}
use Rattle.fec_area.proofs.RoundLemmas.{AreSummed}
use Rattle.fec_area.proofs.round.restore_blocks.Given as goal

-- the places of the message so far
abbrev pub invariant-loop-place : goal.invariant-loop-place
invariant-loop-place g l = record {
  read : AreOnlyRead (g.D.BlockDev.state l.fn.data_dev) (g.H.BlockDev.state l.fn.hash_dev) (g.D.BlockDev.state l.data_dev) (g.H.BlockDev.state l.hash_dev);
  unfailed : AreUnfailed (g.D.BlockDev.state l.fn.data_dev) (g.H.BlockDev.state l.fn.hash_dev) (g.D.BlockDev.state l.data_dev) (g.H.BlockDev.state l.hash_dev);
  sums : IsTrue (g.D.BlockDev.state l.fn.data_dev).steady → IsTrue (g.H.BlockDev.state l.fn.hash_dev).steady
      → AreSummed (λ c. slice_index (codeword l.gap.code.layout.now (g.D.BlockDev.state l.fn.data_dev).image (g.H.BlockDev.state l.fn.hash_dev).image l.gap.round l.parity c)) (length l.gap.places.now) l.gap.code.products.now l.sums l.place;
  asked : AreAsked (sum_to (kept_at (sectors_on_data l.gap.code.layout.now) l.gap.code.layout.now l.gap.round l.gap.places.now) l.place) (sum_to (kept_at (sectors_on_hash l.gap.code.layout.now) l.gap.code.layout.now l.gap.round l.gap.places.now) l.place)
      (g.D.BlockDev.state l.fn.data_dev) (g.H.BlockDev.state l.fn.hash_dev) (g.D.BlockDev.state l.data_dev) (g.H.BlockDev.state l.hash_dev);
  given : GivesAll (DeviceDoes g.D.BlockDev.state g.D.BlockDev.does) (DeviceDoes g.H.BlockDev.state g.H.BlockDev.does) l.gap.code.layout.now (gathered (kept_index_at l.gap.code.layout.now l.gap.round l.gap.places.now) l.place)
      (λ x y. AreSummed (λ c. slice_index (codeword l.gap.code.layout.now x y l.gap.round l.parity c)) (length l.gap.places.now) l.gap.code.products.now l.sums l.place) l.fn.data_dev l.fn.hash_dev l.data_dev l.hash_dev;
}

-- those of the parity so far
abbrev pub invariant-loop-k : goal.invariant-loop-k
invariant-loop-k g l = record {
  sums : IsTrue (g.D.BlockDev.state l.fn.data_dev).steady → IsTrue (g.H.BlockDev.state l.fn.hash_dev).steady
      → AreSummed (λ c. slice_index (codeword l.gap.code.layout.now (g.D.BlockDev.state l.fn.data_dev).image (g.H.BlockDev.state l.fn.hash_dev).image l.gap.round l.parity c)) (length l.gap.places.now) l.gap.code.products.now l.sums (255 - l.gap.code.layout.now.roots + l.k);
  more : (x y : List (List ℕ)) → AreSummed (λ c. slice_index (codeword l.gap.code.layout.now x y l.gap.round l.parity c)) (length l.gap.places.now) l.gap.code.products.now l.initial.sums (255 - l.gap.code.layout.now.roots)
      → AreSummed (λ c. slice_index (codeword l.gap.code.layout.now x y l.gap.round l.parity c)) (length l.gap.places.now) l.gap.code.products.now l.sums (255 - l.gap.code.layout.now.roots + l.k);
}
