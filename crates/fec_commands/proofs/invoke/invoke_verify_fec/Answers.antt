use Rattle.std.proofs.Common.{inl, inr, refl, subst, sym, ◌≡◌, ◌∙◌, ℕ, true, false}
use Rattle.std.proofs.lemmas.Result.{IfErr-weaker, on_ok_weaker}
use Rattle.image_commands.specs.TreeSources.{may_seek}
use Rattle.fec_commands.specs.declared.fault.FecFault.TheVariants.{Verity}
use Rattle.fec_commands.specs.FecFaults.{unopened}
use Rattle.fec_commands.proofs.EndingLemmas.{err-from}
use Rattle.fec_commands.proofs.invoke.invoke_verify_fec.Goals as goal

pub returns-then-words-clause-err : goal.returns-then-words-clause-err
returns-then-words-clause-err g c = inl (inl (record { misused = inl c.if-words.true; is = refl; same = refl }), refl)

pub returns-then-not-is_roots-clause-err : goal.returns-then-not-is_roots-clause-err
returns-then-not-is_roots-clause-err g c = inl (inl (record { misused = inr (sym c.is_roots.ensures ∙ c.if-not-is_roots.true); is = refl; same = refl }), refl)

pub returns-in_err-sought-clause-err : goal.returns-in_err-sought-clause-err
returns-in_err-sought-clause-err g c =
    let cause = c.in_err-sought.field-0.0 in
    err-from c.from_residual.result _ (Verity cause) c.from_residual.ensures.1
    (inl (inr (inl (record { cause = cause; untold = c.in_err-sought.ensures.err; is = refl })), refl))

pub returns-then-not-may_seek-clause-err : goal.returns-then-not-may_seek-clause-err
returns-then-not-may_seek-clause-err g c =
    let sought = c.in_ok-sought.sought in
    let unaligned = subst (λ (n : ℕ). may_seek sought.source n ≡ false) c.sector_at.ensures (sym c.may_seek.ensures ∙ c.if-not-may_seek.true) in
    inl (inr (inr (record { sought = sought; told = c.in_ok-sought.ensures.ok; unaligned = unaligned; is = c.from.ensures })), refl)

pub returns-in_err-three-clause-err : goal.returns-in_err-three-clause-err
returns-in_err-three-clause-err g c =
    let sought = c.in_ok-sought.sought in
    let aligned = subst (λ (n : ℕ). may_seek sought.source n ≡ true) c.sector_at.ensures (sym c.may_seek.ensures ∙ c.if-not-may_seek.false) in
    let file = c.in_err-three.field-0.0 in
    let refused = rw c.sector_at.ensures at c.in_err-three.ensures.err in
    err-from c.from_residual-in_err-three.result _ (unopened file) c.from_residual-in_err-three.ensures.1
    (inr (record {
      told_at = c.sought_tree_in.new.images;
      sought = sought;
      told = c.in_ok-sought.ensures.ok;
      aligned = aligned;
      follows = inl (record { file = file; refused = refused; is = refl; quiet = refl });
    }))

pub returns-clause-ok : goal.returns-clause-ok
returns-clause-ok g c =
    let sought = c.in_ok-sought.sought in
    let aligned = subst (λ (n : ℕ). may_seek sought.source n ≡ true) c.sector_at.ensures (sym c.may_seek.ensures ∙ c.if-not-may_seek.false) in
    let opened = rw c.sector_at.ensures at c.in_ok-three.ensures.ok in
    on_ok_weaker c.verify_open.result
    (λ verifies. record {
      one = c.if-words.false;
      sought = record {
        told_at = c.sought_tree_in.new.images;
        sought = sought;
        told = c.in_ok-sought.ensures.ok;
        aligned = aligned;
        follows = record { three = c.in_ok-three.three; opened = opened; verifies = verifies };
      };
    })
    c.verify_open.ensures.ok

pub returns-clause-err : goal.returns-clause-err
returns-clause-err g c =
    let sought = c.in_ok-sought.sought in
    let aligned = subst (λ (n : ℕ). may_seek sought.source n ≡ true) c.sector_at.ensures (sym c.may_seek.ensures ∙ c.if-not-may_seek.false) in
    let opened = rw c.sector_at.ensures at c.in_ok-three.ensures.ok in
    IfErr-weaker c.verify_open.result _ _
    (λ fault ends. inr (record {
      told_at = c.sought_tree_in.new.images;
      sought = sought;
      told = c.in_ok-sought.ensures.ok;
      aligned = aligned;
      follows = inr (record { three = c.in_ok-three.three; opened = opened; ends = ends });
    }))
    c.verify_open.ensures.err
