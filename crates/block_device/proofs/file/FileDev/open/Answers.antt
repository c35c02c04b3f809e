use Rattle.std.proofs.Common.{inl, inr, refl, sym, ◌∙◌}
use Rattle.std.proofs.lemmas.Bool.{false≢true}
use Rattle.block_device.proofs.OpenLemmas.{fault-passed}
use Rattle.block_device.proofs.file.FileDev.open.Goals as goal

pub returns-in_err-said-clause-err : goal.returns-in_err-said-clause-err
returns-in_err-said-clause-err g c =
    fault-passed c.from_residual.result c.args.path.now c.args.writable c.in_err-said.field-0.0 c.from_residual.ensures.1 (inl c.in_err-said.ensures.err)

pub returns-then-not-is_image-clause-err : goal.returns-then-not-is_image-clause-err
returns-then-not-is_image-clause-err g c =
    inr (inl (record { said = c.in_ok-said.said; of = c.in_ok-said.ensures.ok; kind = λ image. false≢true (sym c.if-not-is_image.true ∙ c.is_image.ensures.1 image); is = refl }))

pub returns-in_err-file-clause-err : goal.returns-in_err-file-clause-err
returns-in_err-file-clause-err g c =
    fault-passed c.from_residual-in_err-file.result c.args.path.now c.args.writable c.in_err-file.field-0.0 c.from_residual-in_err-file.ensures.1 (inr (inr (inl c.in_err-file.ensures.err)))

pub returns-in_err-metadata-clause-err : goal.returns-in_err-metadata-clause-err
returns-in_err-metadata-clause-err g c =
    fault-passed c.from_residual-in_err-metadata.result c.args.path.now c.args.writable c.in_err-metadata.field-0.0 c.from_residual-in_err-metadata.ensures.1
    (inr (inr (inr (record { file = c.in_ok-file.file; opened = c.in_ok-file.ensures.ok; not_taken = inl c.in_err-metadata.ensures.err }))))

pub returns-in_err-sectors-clause-err : goal.returns-in_err-sectors-clause-err
returns-in_err-sectors-clause-err g c =
    fault-passed c.from_residual-in_err-sectors.result c.args.path.now c.args.writable c.in_err-sectors.field-0.0 c.from_residual-in_err-sectors.ensures.1
    (inr (inr (inr (record { file = c.in_ok-file.file; opened = c.in_ok-file.ensures.ok; not_taken = inr (c.in_ok-metadata.metadata, c.in_ok-metadata.ensures.ok, c.in_err-sectors.ensures.err) }))))
