use Rattle.std.proofs.Common.{ℕ, Result, ap, inl, inr, refl, subst, sym, ◌∙◌}
use Rattle.std.proofs.Math.Path.{subst₃}
use Rattle.std.proofs.lemmas.Result.{IfErr-weaker, IfOk-weaker}
use Rattle.std.specs.Prelude.{IfErr, IfOk}
use Rattle.block_device.specs.Device.{Device}
use Rattle.verity_format.specs.declared.formatting.FormatFault.{FormatFault}
use Rattle.image_commands.specs.declared.format.MadeImage.{MadeImage}
use Rattle.image_commands.specs.declared.fault.ImageFault.TheVariants.{Format}
use Rattle.image_commands.specs.Places.{IsPartState, before}
use Rattle.image_commands.specs.TreeFormats.{IsTreeEnd, IsTreeMade, tree_with}
use Rattle.image_commands.proofs.GivenLemmas.{given-as, undrawn-as}
use Rattle.image_commands.proofs.OpeningLemmas.{err-from}
use Rattle.image_commands.proofs.TreeLemmas.{made-left, tree_end-inner}
use Rattle.image_commands.proofs.tree_format.make_tree.Goals as goal

pub returns-in_err-options-clause-err : goal.returns-in_err-options-clause-err
returns-in_err-options-clause-err g c =
    err-from c.from_residual-in_err-options.result _ c.in_err-options.field-0.0 c.from_residual-in_err-options.ensures.1
    (inr (inr (inl (record { two = c.in_ok-two.two; opened = c.in_ok-two.ensures.ok; undrawn = undrawn-as c.in_err-options.ensures.err.1 c.unnamed.ensures; is = c.in_err-options.ensures.err.0 }))))

pub returns-in-Err-clause-err : goal.returns-in-Err-clause-err
returns-in-Err-clause-err g c =
    let cause = c.in-Err.fault in
    let given = c.in_ok-options.options in
    let watched = c.watch-data_dev in
    let state = g.I.Dev.BlockDev.state in
    let hash_dev' : Device = state c.make_at-hash_dev.result.0 in
    let Ends : Device → Device → ℕ → FormatFault → Type 0 = λ whole hash_dev end. IsTreeEnd (IsPartState state) (IsPartState state) (tree_with given (before whole end)) (before whole end) hash_dev c.args.watched.places.hash_first hash_dev' in
    let Was : FormatFault → Type 0 = Ends (state watched.result.0.inner) (state watched.result.1) c.data_end-end.result in
    let whole : Device = before (state watched.result.0.inner) c.data_end-end.result in
    let ends : Was cause = subst (λ (r : Result MadeImage FormatFault). IfErr r Was) c.in-Err.is
    (IfErr-weaker c.make_at-hash_dev.result.1 _ Was (tree_end-inner watched.result.0 (λ w. w.inner) state (tree_with given whole) whole (state watched.result.1) c.args.watched.places.hash_first hash_dev') c.make_at-hash_dev.ensures.err) in
    inr (inr (inr (inl (record {
      given = given;
      two = c.in_ok-two.two;
      hash_dev' = c.make_at-hash_dev.result.0;
      cause = cause;
      opened = c.in_ok-two.ensures.ok;
      are_given = given-as c.in_ok-options.ensures.ok c.unnamed.ensures;
      ends = subst₃ (λ (d h : Device) (end : ℕ). Ends d h end cause) (ap state watched.ensures.data) (ap state watched.ensures.hash) c.data_end-end.ensures ends;
      is = ap Format c.format_fault_from.ensures;
    }))))

pub returns-in-Ok-clause-ok : goal.returns-in-Ok-clause-ok
returns-in-Ok-clause-ok g c =
    let made = c.in-Ok.made in
    let given = c.in_ok-options.options in
    let watched = c.watch-data_dev in
    let state = g.I.Dev.BlockDev.state in
    let hash_dev' : Device = state c.make_at-hash_dev.result.0 in
    let Made : Device → Device → ℕ → MadeImage → Type 0 = λ whole hash_dev end. IsTreeMade (IsPartState state) (IsPartState state) (tree_with given (before whole end)) (before whole end) hash_dev c.args.watched.places.hash_first hash_dev' in
    let Was : MadeImage → Type 0 = Made (state watched.result.0.inner) (state watched.result.1) c.data_end-end.result in
    let tree : Was made = subst (λ (r : Result MadeImage FormatFault). IfOk r Was) c.in-Ok.is
    (IfOk-weaker c.make_at-hash_dev.result.1 _ Was (λ image m. made-left m (λ device left. (left.0.inner, left.1))) c.make_at-hash_dev.ensures.ok) in record {
      given = given;
      two = c.in_ok-two.two;
      hash_dev' = c.make_at-hash_dev.result.0;
      between = c.open_placed.new.images;
      aligned = cc (c.if-not-is_aligned.ensures);
      opened = c.in_ok-two.ensures.ok;
      apart = sym c.overlaps.ensures ∙ c.if-overlaps.false;
      are_given = given-as c.in_ok-options.ensures.ok c.unnamed.ensures;
      tree = subst₃ (λ (d h : Device) (end : ℕ). Made d h end made) (ap state watched.ensures.data) (ap state watched.ensures.hash) c.data_end-end.ensures tree;
      closed = c.close_place.ensures;
    }

pub returns-then-overlaps-clause-err : goal.returns-then-overlaps-clause-err
returns-then-overlaps-clause-err g c =
    inr (inr (inr (inr (record {
      two = c.in_ok-two.two;
      opened = c.in_ok-two.ensures.ok;
      one = sym c.overlaps.ensures ∙ c.if-overlaps.true;
      is = refl;
      same = refl;
    }))))
