use Rattle.std.proofs.Common.{◌≡◌, IsTrue}
use Rattle.block_device.specs.Call.{DeviceDoes}
use Rattle.verity_format.specs.Blocks.{AreOnlyRead, IsOnlyWritten}
use Rattle.fec_area.specs.Layouts.{parity_sectors}
use Rattle.fec_area.specs.Rounds.{AreUnfailed}
use Rattle.fec_area.proofs.HandingLemmas.{AreHanded}
use Rattle.fec_area.proofs.WritingLemmas.{AreWrittenRounds}
use Rattle.fec_area.proofs.writing.write_rounds.Given as goal

-- the rounds so far
abbrev pub invariant-loop-round : goal.invariant-loop-round
invariant-loop-round g l = record {
  read : AreOnlyRead (g.D.BlockDev.state l.fn.data_dev) (g.H.BlockDev.state l.fn.hash_dev) (g.D.BlockDev.state l.data_dev) (g.H.BlockDev.state l.hash_dev);
  unfailed : AreUnfailed (g.D.BlockDev.state l.fn.data_dev) (g.H.BlockDev.state l.fn.hash_dev) (g.D.BlockDev.state l.data_dev) (g.H.BlockDev.state l.hash_dev);
  written : IsOnlyWritten (g.P.BlockDev.state l.fn.parity_dev) (parity_sectors l.code.layout.now) (g.P.BlockDev.state l.parity_dev);
  handed : AreHanded (DeviceDoes g.D.BlockDev.state g.D.BlockDev.does) (DeviceDoes g.H.BlockDev.state g.H.BlockDev.does) (DeviceDoes g.P.BlockDev.state g.P.BlockDev.does) l.code.layout.now (g.D.BlockDev.state l.fn.data_dev) (g.H.BlockDev.state l.fn.hash_dev) l.fn.data_dev l.fn.hash_dev l.fn.parity_dev l.data_dev l.hash_dev l.parity_dev l.round;
  parity_unfailed : (g.P.BlockDev.state l.parity_dev).failures ≡ (g.P.BlockDev.state l.fn.parity_dev).failures;
  parity : IsTrue (g.D.BlockDev.state l.fn.data_dev).steady → IsTrue (g.H.BlockDev.state l.fn.hash_dev).steady → IsTrue (g.P.BlockDev.state l.fn.parity_dev).steady
      → AreWrittenRounds l.code.layout.now (g.D.BlockDev.state l.fn.data_dev).image (g.H.BlockDev.state l.fn.hash_dev).image (g.P.BlockDev.state l.parity_dev).image l.round;
}
