use Rattle.std.proofs.Common.{◌≡◌, ◌∙◌, ℕ, ap, inl, inr, refl, subst, sym}
use Rattle.std.proofs.Math.Path.{subst₂}
use Rattle.std.proofs.lemmas.Result.{IfErr-weaker, on_ok_weaker}
use Rattle.block_device.specs.Device.{Device}
use Rattle.device_adapters.specs.Windows.{windowed}
use Rattle.command_line.specs.words.FecVerify.{FecVerifyRecord, fec_verify_record}
use Rattle.fec_area.specs.Layouts.{IsLaidOn}
use Rattle.image_commands.specs.Comparing.{IsComparedEnd}
use Rattle.image_commands.specs.Places.{IsPartState, IsStateOf, tree_start}
use Rattle.verity_commands.specs.declared.verity_fault.VerityFault.TheVariants.{Image}
use Rattle.verity_format.specs.declared.verifying.Verdict.TheVariants.{Matches}
use Rattle.verity_format.specs.Verifying.{IsTreeFound}
use Rattle.fec_commands.specs.declared.fault.FecFault.TheVariants.{Verity}
use Rattle.fec_commands.specs.Verifying.{EndsChecking, EndsComparing, IsUnmeasured, Parts, VerifiesParts}
use Rattle.fec_commands.proofs.EndingLemmas.{err-from}
use Rattle.fec_commands.proofs.VerifyingLemmas.{laid-after, parity_end-inner, parts-are, unmeasured-inner}
use Rattle.fec_commands.proofs.verifying.verify_open.Goals as goal

pub returns-in_err-laid-clause-err : goal.returns-in_err-laid-clause-err
returns-in_err-laid-clause-err g c =
    let state = g.D.BlockDev.state in
    let two = c.place_parts-two in
    let v : FecVerifyRecord = fec_verify_record c.args.words.now in
    let here = parts-are state c.args.three v c.args.sought.now.source _ _ c.sector_at-first.result c.data_end-end.result two.ensures.«data» two.ensures.hash c.data_end-end.ensures c.sector_at-first.ensures in
    let fault = c.in_err-laid.field-0.0 in
    err-from c.from_residual.result _ fault c.from_residual.ensures.1
    (inl (subst (λ (p : Parts). IsUnmeasured (IsPartState state) p fault) here (unmeasured-inner c.measure.new.hash_dev (λ w. w.inner) (λ w. w.part) state _ fault c.in_err-laid.ensures.err), refl))

pub returns-in_err-compare-clause-err : goal.returns-in_err-compare-clause-err
returns-in_err-compare-clause-err g c =
    let state = g.D.BlockDev.state in
    let read = c.measure.new.hash_dev in
    let read_dev : Device = windowed (state read.inner) read.part in
    let data_new : Device = windowed (state c.compare.new.two.«data».inner.inner) c.compare.new.two.«data».inner.part in
    let hash_new : Device = windowed (state c.compare.new.two.hash.inner) c.compare.new.two.hash.part in
    let two = c.place_parts-two in
    let v : FecVerifyRecord = fec_verify_record c.args.words.now in
    let here = parts-are state c.args.three v c.args.sought.now.source _ _ c.sector_at-first.result c.data_end-end.result two.ensures.«data» two.ensures.hash c.data_end-end.ensures c.sector_at-first.ensures in
    let root = c.args.sought.now.root in
    let old = g.W.Write.contents c.args.writer.now.inner in
    let new = g.W.Write.contents c.compare.new.writer.inner in
    let failed = c.compare.new.writer.failed in
    let cause = c.in_err-compare.field-0.0 in
    let size : ℕ = c.in_ok-laid.laid.tree.shape.hash_block in
    let ahead : c.tree_start-ahead.result ≡ tree_start c.sector_at-first.result size 0 =
    c.tree_start-ahead.ensures ∙ ap (λ (n : ℕ). tree_start c.sector_at-first.result n 0) c.hash_block-size.ensures.value in
    err-from c.from_residual-in_err-compare.result _ (Verity (Image cause)) c.from_residual-in_err-compare.ensures.1
    (inr (inl (subst (λ (p : Parts). EndsComparing (IsPartState state) (IsPartState state) p root old new failed (Verity (Image cause))) here (record {
      cause = cause;
      laid = c.in_ok-laid.laid;
      read_dev = read_dev;
      data_dev' = data_new;
      hash_dev' = hash_new;
      left = ((read.inner, (read.part, refl)), (c.compare.new.two.«data».inner.inner, (c.compare.new.two.«data».inner.part, refl)), (c.compare.new.two.hash.inner, (c.compare.new.two.hash.part, refl)));
      measures = c.in_ok-laid.ensures.ok;
      ends = subst₂ (λ (a : ℕ) (d : Device). IsComparedEnd c.in_ok-laid.laid.tree a d read_dev data_new hash_new root failed cause) ahead c.new-data.ensures.state c.in_err-compare.ensures.err;
      is = refl;
      quiet = c.in_err-compare.ensures.quiet;
    }))))

pub print_checked-requires : goal.print_checked-requires
print_checked-requires g c =
    let state = g.D.BlockDev.state in
    let read = c.measure.new.hash_dev in
    let read_dev : Device = windowed (state read.inner) read.part in
    let laid = subst (λ (d : Device). IsLaidOn c.in_ok-laid.laid.layout d read_dev) (sym c.new-data.ensures.state) c.in_ok-laid.ensures.ok.lays.laid_on in
    laid-after _ _ _ _ _ c.compare.ensures.read.0 c.compare.ensures.read.1 laid

pub returns-clause-ok : goal.returns-clause-ok
returns-clause-ok g c =
    let state = g.D.BlockDev.state in
    let read = c.measure.new.hash_dev in
    let read_dev : Device = windowed (state read.inner) read.part in
    let data_new : Device = windowed (state c.compare.new.two.«data».inner.inner) c.compare.new.two.«data».inner.part in
    let hash_new : Device = windowed (state c.compare.new.two.hash.inner) c.compare.new.two.hash.part in
    let two = c.place_parts-two in
    let v : FecVerifyRecord = fec_verify_record c.args.words.now in
    let here = parts-are state c.args.three v c.args.sought.now.source _ _ c.sector_at-first.result c.data_end-end.result two.ensures.«data» two.ensures.hash c.data_end-end.ensures c.sector_at-first.ensures in
    let root = c.args.sought.now.root in
    let laid = c.in_ok-laid.laid in
    let old = g.W.Write.contents c.args.writer.now.inner in
    let told = g.W.Write.contents c.compare.new.writer.inner in
    let new = g.W.Write.contents c.print_checked.new.writer.inner in
    on_ok_weaker c.print_checked.result
    (λ done. subst (λ (p : Parts). VerifiesParts (IsPartState state) (IsPartState state) p root old new) here (record {
      told = told;
      matches = record {
        laid = laid;
        read_dev = read_dev;
        data_dev' = data_new;
        hash_dev' = hash_new;
        left = ((read.inner, (read.part, refl)), (c.compare.new.two.«data».inner.inner, (c.compare.new.two.«data».inner.part, refl)), (c.compare.new.two.hash.inner, (c.compare.new.two.hash.part, refl)));
        measures = c.in_ok-laid.ensures.ok;
        found = subst (λ (d : Device). IsTreeFound laid.tree.shape laid.tree.salt d read_dev data_new hash_new root Matches) c.new-data.ensures.state c.in_ok-compare.ensures.ok.0;
        printed = c.in_ok-compare.ensures.ok.1;
      };
      checks = done;
    }))
    c.print_checked.ensures.ok

pub returns-clause-err : goal.returns-clause-err
returns-clause-err g c =
    let state = g.D.BlockDev.state in
    let read = c.measure.new.hash_dev in
    let read_dev : Device = windowed (state read.inner) read.part in
    let data_new : Device = windowed (state c.compare.new.two.«data».inner.inner) c.compare.new.two.«data».inner.part in
    let hash_new : Device = windowed (state c.compare.new.two.hash.inner) c.compare.new.two.hash.part in
    let two = c.place_parts-two in
    let v : FecVerifyRecord = fec_verify_record c.args.words.now in
    let here = parts-are state c.args.three v c.args.sought.now.source _ _ c.sector_at-first.result c.data_end-end.result two.ensures.«data» two.ensures.hash c.data_end-end.ensures c.sector_at-first.ensures in
    let root = c.args.sought.now.root in
    let laid = c.in_ok-laid.laid in
    let failed = c.print_checked.new.writer.failed in
    let old = g.W.Write.contents c.args.writer.now.inner in
    let told = g.W.Write.contents c.compare.new.writer.inner in
    let new = g.W.Write.contents c.print_checked.new.writer.inner in
    IfErr-weaker c.print_checked.result _ _
    (λ fault ends. inr (inr (subst (λ (p : Parts). EndsChecking (IsPartState state) (IsPartState state) (IsStateOf state) p root old new failed fault) here (record {
      between = told;
      matches = record {
        laid = laid;
        read_dev = read_dev;
        data_dev' = data_new;
        hash_dev' = hash_new;
        left = ((read.inner, (read.part, refl)), (c.compare.new.two.«data».inner.inner, (c.compare.new.two.«data».inner.part, refl)), (c.compare.new.two.hash.inner, (c.compare.new.two.hash.part, refl)));
        measures = c.in_ok-laid.ensures.ok;
        found = subst (λ (d : Device). IsTreeFound laid.tree.shape laid.tree.salt d read_dev data_new hash_new root Matches) c.new-data.ensures.state c.in_ok-compare.ensures.ok.0;
        printed = c.in_ok-compare.ensures.ok.1;
      };
      ends = parity_end-inner c.compare.new.two.hash (λ w. w.inner) (λ w. w.part) state _ _ _ _ _ _ _ _ fault ends;
    }))))
    c.print_checked.ensures.err
