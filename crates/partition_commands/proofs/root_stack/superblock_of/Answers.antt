use Rattle.std.proofs.Common.{inl, inr, refl, sym, ◌∙◌}
use Rattle.partition_commands.proofs.EndingLemmas.{err-from}
use Rattle.partition_commands.proofs.root_stack.superblock_of.Goals as goal

pub returns-then-not-is_within-clause-err : goal.returns-then-not-is_within-clause-err
returns-then-not-is_within-clause-err g c =
    (c.args.device, inl (refl, rw c.part_of-data.ensures at (sym c.is_within.ensures ∙ c.if-not-is_within.true)))

pub returns-in_err-superblock-clause-err : goal.returns-in_err-superblock-clause-err
returns-in_err-superblock-clause-err g c =
    err-from c.from_residual.result _ c.in_err-superblock.field-0.0 c.from_residual.ensures.1
    (c.in_err-superblock.ensures.err.0, inr (rw c.part_of-data.ensures at (sym c.is_within.ensures ∙ c.if-not-is_within.false), inl (rw c.part_of.ensures at c.in_err-superblock.ensures.err.1)))

pub returns-then-is_unfit-clause-err : goal.returns-then-is_unfit-clause-err
returns-then-is_unfit-clause-err g c = (
  c.args.device,
  inr (
    rw c.part_of-data.ensures at (sym c.is_within.ensures ∙ c.if-not-is_within.false),
    inr (
      refl,
      record {
        super = c.in_ok-superblock.superblock;
        sector = c.in_ok-superblock.ensures.ok.1.0;
        read = rw c.part_of.ensures at c.in_ok-superblock.ensures.ok.1.1;
        pinned = c.in_ok-superblock.ensures.ok.2;
        unfit = sym c.is_unfit.ensures ∙ c.if-is_unfit.true;
      },
    ),
  ),
)

pub returns-clause-ok : goal.returns-clause-ok
returns-clause-ok g c = record {
  sector = c.in_ok-superblock.ensures.ok.1.0;
  within = rw c.part_of-data.ensures at (sym c.is_within.ensures ∙ c.if-not-is_within.false);
  inside = rw c.part_of.ensures at c.in_ok-superblock.ensures.ok.0;
  read = rw c.part_of.ensures at c.in_ok-superblock.ensures.ok.1.1;
  pinned = c.in_ok-superblock.ensures.ok.2;
  fits = sym c.is_unfit.ensures ∙ c.if-is_unfit.false;
}
