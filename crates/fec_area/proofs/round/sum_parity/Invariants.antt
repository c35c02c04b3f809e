use Rattle.std.proofs.Common.{◌*◌, ◌/◌, IsTrue}
use Rattle.block_device.specs.Call.{DeviceDoes}
use Rattle.verity_format.specs.Blocks.{AreOnlyRead}
use Rattle.fec_area.specs.Asking.{AreReadWithin}
use Rattle.fec_area.specs.Given.{GivesAll, gathered, index_at}
use Rattle.fec_area.specs.Layouts.{message_byte}
use Rattle.fec_area.specs.Rounds.{AreUnfailed}
use Rattle.fec_area.proofs.RoundLemmas.{AreBytes, AreSummed}
use Rattle.fec_area.proofs.round.sum_parity.Given as goal

-- the places so far
abbrev pub invariant-loop-place : goal.invariant-loop-place
invariant-loop-place g l = record {
  read : AreOnlyRead (g.D.BlockDev.state l.fn.data_dev) (g.H.BlockDev.state l.fn.hash_dev) (g.D.BlockDev.state l.data_dev) (g.H.BlockDev.state l.hash_dev);
  unfailed : AreUnfailed (g.D.BlockDev.state l.fn.data_dev) (g.H.BlockDev.state l.fn.hash_dev) (g.D.BlockDev.state l.data_dev) (g.H.BlockDev.state l.hash_dev);
  sums : IsTrue (g.D.BlockDev.state l.fn.data_dev).steady → IsTrue (g.H.BlockDev.state l.fn.hash_dev).steady → AreSummed (message_byte l.code.layout.now (g.D.BlockDev.state l.fn.data_dev).image (g.H.BlockDev.state l.fn.hash_dev).image l.round) l.code.layout.now.roots l.code.products.now l.parity l.place;
  bytes : IsTrue (g.D.BlockDev.state l.fn.data_dev).steady → IsTrue (g.H.BlockDev.state l.fn.hash_dev).steady → AreBytes l.code.layout.now (g.D.BlockDev.state l.fn.data_dev).image (g.H.BlockDev.state l.fn.hash_dev).image l.round l.place;
  most : AreReadWithin (l.place * (l.code.layout.now.block / 512)) (g.D.BlockDev.state l.fn.data_dev) (g.H.BlockDev.state l.fn.hash_dev) (g.D.BlockDev.state l.data_dev) (g.H.BlockDev.state l.hash_dev);
  given : GivesAll (DeviceDoes g.D.BlockDev.state g.D.BlockDev.does) (DeviceDoes g.H.BlockDev.state g.H.BlockDev.does) l.code.layout.now (gathered (index_at l.code.layout.now l.round) l.place)
      (λ x y. AreSummed (message_byte l.code.layout.now x y l.round) l.code.layout.now.roots l.code.products.now l.parity l.place × AreBytes l.code.layout.now x y l.round l.place) l.fn.data_dev l.fn.hash_dev l.data_dev l.hash_dev;
}
