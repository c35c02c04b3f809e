use Rattle.std.proofs.Common.{◌∙◌, arith, sym}
use Rattle.verity_format.proofs.lemmas.RoomLemmas.{data_too_small, hash_too_small, not_refused, read_only}
use Rattle.verity_format.proofs.making.check_room.Goals as goal

pub returns-then-sectors-data_sectors : goal.returns-then-sectors-data_sectors
returns-then-sectors-data_sectors g c =
    sym (data_too_small c.args.shape.now c.args.needed (g.D.BlockDev.state c.args.data_dev.now) (g.H.BlockDev.state c.args.hash_dev.now) (omega (arith, c.data_sectors.ensures.value, c.sectors.ensures.size, c.if-sectors-data_sectors.true)))

pub returns-then-sectors-needed : goal.returns-then-sectors-needed
returns-then-sectors-needed g c =
    sym (hash_too_small c.args.shape.now c.args.needed (g.D.BlockDev.state c.args.data_dev.now) (g.H.BlockDev.state c.args.hash_dev.now)
    (omega (arith, c.data_sectors.ensures.value, c.sectors.ensures.size, c.if-sectors-data_sectors.false)) (omega (arith, c.sectors-2.ensures.size, c.if-sectors-needed.true)))

pub returns-then-not-writable : goal.returns-then-not-writable
returns-then-not-writable g c =
    sym (read_only c.args.shape.now c.args.needed (g.D.BlockDev.state c.args.data_dev.now) (g.H.BlockDev.state c.args.hash_dev.now)
    (omega (arith, c.data_sectors.ensures.value, c.sectors.ensures.size, c.if-sectors-data_sectors.false)) (omega (arith, c.sectors-2.ensures.size, c.if-sectors-needed.false)) (sym c.writable.ensures ∙ c.if-not-writable.true))

pub returns : goal.returns
returns g c =
    sym (not_refused c.args.shape.now c.args.needed (g.D.BlockDev.state c.args.data_dev.now) (g.H.BlockDev.state c.args.hash_dev.now)
    (omega (arith, c.data_sectors.ensures.value, c.sectors.ensures.size, c.if-sectors-data_sectors.false)) (omega (arith, c.sectors-2.ensures.size, c.if-sectors-needed.false)) (sym c.writable.ensures ∙ c.if-not-writable.false))
