use Rattle.std.proofs.Common.{◌≡◌, ◌∙◌, Err, None, Ok, Option, Result, Some, ap, sym, subst, arith}
use Rattle.std.specs.Prelude.{IfErr, IsSome, OnOk}
use Rattle.std.specs.Result.{result_err}
use Rattle.std.proofs.lemmas.Result.{IfErr-weaker, on_ok_weaker}
use Rattle.tree_shape.specs.Shape.{IsShape, first_fault}
use Rattle.verity_format.specs.declared.formatting.FormatFault.{FormatFault}
use Rattle.verity_format.specs.Image.{image_sectors}
use Rattle.verity_format.specs.Options.{superblock_with}
use Rattle.verity_format.specs.Superblock.{SuperRecord, shape_of}
use Rattle.verity_format.proofs.lemmas.RoomLemmas.{fits-from_none, format-room}
use Rattle.image_commands.proofs.OpeningLemmas.{err-from}
use Rattle.image_commands.proofs.RefusalLemmas.{image-some, no_shape}
use Rattle.image_commands.proofs.refusal.check_format.Goals as goal

none_of : {T : Type 0} (r : Result T FormatFault) (o : Option FormatFault) → result_err r ≡ o → OnOk r (o ≡ None)
none_of (Ok x) o h = sym h
none_of (Err e) o h = tt

some_of : {T : Type 0} (r : Result T FormatFault) (o : Option FormatFault) → result_err r ≡ o → IfErr r (λ f. o ≡ Some f)
some_of (Ok x) o h = tt
some_of (Err e) o h = sym h

pub returns-in_err-params-clause-err : goal.returns-in_err-params-clause-err
returns-in_err-params-clause-err g c =
    let data_dev = g.D.BlockDev.state c.args.data_dev.now in
    let hash_dev = g.H.BlockDev.state c.args.hash_dev.now in
    let o = c.args.options.now in
    let s : SuperRecord = superblock_with o data_dev.size in
    let same : superblock_with o c.sectors.result ≡ s = ap (superblock_with o) c.sectors.ensures.size in
    let none : IsSome (first_fault (shape_of s)) = subst (λ (v : SuperRecord). IsSome (first_fault (shape_of v))) same c.in_err-params.ensures.err.1 in
    err-from c.from_residual.result _ c.in_err-params.field-0.0 c.from_residual.ensures.1 (no_shape s data_dev hash_dev none ∙ ap Some (sym c.in_err-params.ensures.err.0))

pub returns-clause-ok : goal.returns-clause-ok
returns-clause-ok g c =
    let data_dev = g.D.BlockDev.state c.args.data_dev.now in
    let hash_dev = g.H.BlockDev.state c.args.hash_dev.now in
    let o = c.args.options.now in
    let s : SuperRecord = superblock_with o data_dev.size in
    let same : superblock_with o c.sectors.result ≡ s = ap (superblock_with o) c.sectors.ensures.size in
    let is : c.in_ok-params.params ≡ s = c.in_ok-params.ensures.ok.0 ∙ same in
    let sound : first_fault (shape_of s) ≡ None = subst (λ (v : SuperRecord). first_fault (shape_of v) ≡ None) same c.in_ok-params.ensures.ok.1 in
    let shape : c.shape-shape.result ≡ shape_of s = c.shape-shape.ensures.value ∙ ap shape_of is in
    let as_format = format-room s data_dev hash_dev sound c.shape-shape.result c.image_sectors.result shape c.image_sectors.ensures in
    on_ok_weaker c.check_room.result
    (λ none.
    let fits = fits-from_none c.shape-shape.result c.image_sectors.result data_dev hash_dev none in
    record {
      none = sym as_format ∙ none;
      some = image-some s (subst (λ (v : SuperRecord). IsShape (shape_of v)) is c.shape-shape.ensures.valid);
      room = omega (arith, fits.1, c.image_sectors.ensures, ap image_sectors shape);
      may_write = fits.2;
    })
    (none_of c.check_room.result _ c.check_room.ensures)

pub returns-clause-err : goal.returns-clause-err
returns-clause-err g c =
    let data_dev = g.D.BlockDev.state c.args.data_dev.now in
    let hash_dev = g.H.BlockDev.state c.args.hash_dev.now in
    let o = c.args.options.now in
    let s : SuperRecord = superblock_with o data_dev.size in
    let same : superblock_with o c.sectors.result ≡ s = ap (superblock_with o) c.sectors.ensures.size in
    let is : c.in_ok-params.params ≡ s = c.in_ok-params.ensures.ok.0 ∙ same in
    let sound : first_fault (shape_of s) ≡ None = subst (λ (v : SuperRecord). first_fault (shape_of v) ≡ None) same c.in_ok-params.ensures.ok.1 in
    let shape : c.shape-shape.result ≡ shape_of s = c.shape-shape.ensures.value ∙ ap shape_of is in
    let as_format = format-room s data_dev hash_dev sound c.shape-shape.result c.image_sectors.result shape c.image_sectors.ensures in
    IfErr-weaker c.check_room.result _ _ (λ fault refused. sym as_format ∙ refused) (some_of c.check_room.result _ c.check_room.ensures)
