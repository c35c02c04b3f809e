use Rattle.stack_rules.proofs.lemmas.UnitLemmas.{unit_sectors-some, unit_sectors-most}
use Rattle.stack_rules.proofs.units.unit_sectors.Goals as goal

pub returns-clause-some : goal.returns-clause-some
returns-clause-some c = rw c.sector_size.ensures (unit_sectors-some c.args.crypt.now)

pub returns-clause-few : goal.returns-clause-few
returns-clause-few c = rw c.sector_size.ensures (unit_sectors-most c.args.crypt.now)
