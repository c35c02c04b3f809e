use Rattle.std.proofs.Common.{arith, subst, sym, ◌∙◌}
use Rattle.fec_commands.specs.declared.needed.FoundSectors.{FoundSectors}
use Rattle.fec_commands.specs.Needed.{IsNeededGrown}
use Rattle.fec_commands.proofs.fixed_size.check_fixed_size.Goals as goal

pub returns-then-sectors-needed-clause-err : goal.returns-then-sectors-needed-clause-err
returns-then-sectors-needed-clause-err g c =
    let needed = c.in-Some-needed_grown.needed in
    record {
      parity = c.in-Some.parity;
      there = c.in-Some.is;
      fixed = sym c.has_own_size.ensures ∙ c.if-not-has_own_size.false;
      needs = subst (λ (v : FoundSectors). IsNeededGrown c.args.wanted.now v c.args.roots needed) c.found_sectors-sectors.ensures.value c.in-Some-needed_grown.ensures.some;
      short = omega (arith, c.sectors.ensures.size, c.if-sectors-needed.true);
    }
