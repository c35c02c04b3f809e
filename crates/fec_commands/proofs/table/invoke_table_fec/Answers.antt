use Rattle.std.proofs.Common.{inl, inr, refl, subst, sym, ◌≡◌, ◌∙◌, ℕ, true, false, Result, Ok, Err}
use Rattle.std.specs.Prelude.{IfErr}
use Rattle.std.proofs.lemmas.Result.{IfErr-weaker, on_ok_weaker}
use Rattle.image_commands.specs.TreeSources.{may_seek}
use Rattle.fec_commands.specs.declared.fault.FecFault.TheVariants.{Verity}
use Rattle.fec_commands.specs.FecFaults.{unopened}
use Rattle.fec_commands.proofs.EndingLemmas.{err-from, quiet, verity-quiet}
use Rattle.fec_commands.proofs.table.invoke_table_fec.Goals as goal

and-err : {T E : Type 0} (r : Result T E) (P Q : E → Type 0) → IfErr r P → IfErr r Q → IfErr r (λ e. P e × Q e)
and-err (Ok done) P Q p q = tt
and-err (Err fault) P Q p q = (p, q)

pub returns-then-not-is_roots-clause-err : goal.returns-then-not-is_roots-clause-err
returns-then-not-is_roots-clause-err g c = (inl (record { roots = sym c.is_roots.ensures ∙ c.if-not-is_roots.true; is = refl; same = refl }), refl)

pub returns-in_err-sought-clause-err : goal.returns-in_err-sought-clause-err
returns-in_err-sought-clause-err g c =
    let cause = c.in_err-sought.field-0.0 in
    err-from c.from_residual.result _ (Verity cause) c.from_residual.ensures.1
    (inr (inl (record { cause = cause; untold = c.in_err-sought.ensures.err; is = refl })), verity-quiet cause _)

pub returns-then-not-may_seek-clause-err : goal.returns-then-not-may_seek-clause-err
returns-then-not-may_seek-clause-err g c =
    let sought = c.in_ok-sought.sought in
    let unaligned = subst (λ (n : ℕ). may_seek sought.source n ≡ false) c.sector_at.ensures (sym c.may_seek.ensures ∙ c.if-not-may_seek.true) in
    (inr (inr (inl (record { sought = sought; told = c.in_ok-sought.ensures.ok; unaligned = unaligned; is = c.from.ensures }))), quiet c.from.result _)

pub returns-in_err-image-clause-err : goal.returns-in_err-image-clause-err
returns-in_err-image-clause-err g c =
    let sought = c.in_ok-sought.sought in
    let aligned = subst (λ (n : ℕ). may_seek sought.source n ≡ true) c.sector_at.ensures (sym c.may_seek.ensures ∙ c.if-not-may_seek.false) in
    let file = c.in_err-image.field-0.0 in
    err-from c.from_residual-in_err-image.result _ (unopened file) c.from_residual-in_err-image.ensures.1 (
      inr (inr (inr (record {
        told_at = c.sought_tree_in.new.images;
        sought = sought;
        told = c.in_ok-sought.ensures.ok;
        aligned = aligned;
        follows = inl (record { file = file; refused = c.in_err-image.ensures.err; is = refl });
      }))),
      refl,
    )

pub returns-clause-ok : goal.returns-clause-ok
returns-clause-ok g c =
    let sought = c.in_ok-sought.sought in
    let aligned = subst (λ (n : ℕ). may_seek sought.source n ≡ true) c.sector_at.ensures (sym c.may_seek.ensures ∙ c.if-not-may_seek.false) in
    on_ok_weaker c.print_open.result
    (λ prints. record {
      told_at = c.sought_tree_in.new.images;
      sought = sought;
      told = c.in_ok-sought.ensures.ok;
      aligned = aligned;
      follows = record { image = c.in_ok-image.image; opened = c.in_ok-image.ensures.ok; prints = prints };
    })
    c.print_open.ensures.ok

pub returns-clause-err : goal.returns-clause-err
returns-clause-err g c =
    let sought = c.in_ok-sought.sought in
    let aligned = subst (λ (n : ℕ). may_seek sought.source n ≡ true) c.sector_at.ensures (sym c.may_seek.ensures ∙ c.if-not-may_seek.false) in
    let both = and-err c.print_open.result _ _ c.print_open.ensures.err c.print_open.ensures.quiet in
    IfErr-weaker c.print_open.result _ _
    (λ fault found. (
      inr (inr (inr (record {
        told_at = c.sought_tree_in.new.images;
        sought = sought;
        told = c.in_ok-sought.ensures.ok;
        aligned = aligned;
        follows = inr (record { image = c.in_ok-image.image; opened = c.in_ok-image.ensures.ok; ends = found.0 });
      }))),
      found.1,
    ))
    both
