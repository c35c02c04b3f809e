use Rattle.std.proofs.lemmas.Result.{err_from_is_err_and}
use Rattle.block_device.specs.Call.{DeviceDoes}
use Rattle.fec_area.proofs.HandingLemmas.{hands-none}
use Rattle.fec_area.proofs.writing.write_parity.Goals as goal

pub returns-then-sectors-needed-clause-handed : goal.returns-then-sectors-needed-clause-handed
returns-then-sectors-needed-clause-handed g c = (hands-none (DeviceDoes g.D.BlockDev.state g.D.BlockDev.does) (DeviceDoes g.H.BlockDev.state g.H.BlockDev.does) (DeviceDoes g.P.BlockDev.state g.P.BlockDev.does) c.args.layout.now (g.D.BlockDev.state c.args.data_dev.now) (g.H.BlockDev.state c.args.hash_dev.now) c.args.data_dev.now c.args.hash_dev.now c.args.parity_dev.now)

pub returns-then-not-writable-clause-handed : goal.returns-then-not-writable-clause-handed
returns-then-not-writable-clause-handed g c = (hands-none (DeviceDoes g.D.BlockDev.state g.D.BlockDev.does) (DeviceDoes g.H.BlockDev.state g.H.BlockDev.does) (DeviceDoes g.P.BlockDev.state g.P.BlockDev.does) c.args.layout.now (g.D.BlockDev.state c.args.data_dev.now) (g.H.BlockDev.state c.args.hash_dev.now) c.args.data_dev.now c.args.hash_dev.now c.args.parity_dev.now)

pub returns-in_err-products-clause-handed : goal.returns-in_err-products-clause-handed
returns-in_err-products-clause-handed g c = rw (err_from_is_err_and c.from_residual.result c.from_residual.ensures.1).1 (hands-none (DeviceDoes g.D.BlockDev.state g.D.BlockDev.does) (DeviceDoes g.H.BlockDev.state g.H.BlockDev.does) (DeviceDoes g.P.BlockDev.state g.P.BlockDev.does) c.args.layout.now (g.D.BlockDev.state c.args.data_dev.now) (g.H.BlockDev.state c.args.hash_dev.now) c.args.data_dev.now c.args.hash_dev.now c.args.parity_dev.now)

pub returns-in_err-block-clause-handed : goal.returns-in_err-block-clause-handed
returns-in_err-block-clause-handed g c = rw (err_from_is_err_and c.from_residual-in_err-block.result c.from_residual-in_err-block.ensures.1).1 (hands-none (DeviceDoes g.D.BlockDev.state g.D.BlockDev.does) (DeviceDoes g.H.BlockDev.state g.H.BlockDev.does) (DeviceDoes g.P.BlockDev.state g.P.BlockDev.does) c.args.layout.now (g.D.BlockDev.state c.args.data_dev.now) (g.H.BlockDev.state c.args.hash_dev.now) c.args.data_dev.now c.args.hash_dev.now c.args.parity_dev.now)

pub returns-in_err-parity-clause-handed : goal.returns-in_err-parity-clause-handed
returns-in_err-parity-clause-handed g c = rw (err_from_is_err_and c.from_residual-in_err-parity.result c.from_residual-in_err-parity.ensures.1).1 (hands-none (DeviceDoes g.D.BlockDev.state g.D.BlockDev.does) (DeviceDoes g.H.BlockDev.state g.H.BlockDev.does) (DeviceDoes g.P.BlockDev.state g.P.BlockDev.does) c.args.layout.now (g.D.BlockDev.state c.args.data_dev.now) (g.H.BlockDev.state c.args.hash_dev.now) c.args.data_dev.now c.args.hash_dev.now c.args.parity_dev.now)

pub returns-in_err-write_rounds-clause-handed : goal.returns-in_err-write_rounds-clause-handed
returns-in_err-write_rounds-clause-handed g c = rw (err_from_is_err_and c.from_residual-in_err-write_rounds.result c.from_residual-in_err-write_rounds.ensures.1).1 c.in_err-write_rounds.ensures.handed
