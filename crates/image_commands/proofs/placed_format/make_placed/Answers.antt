use Rattle.std.proofs.Common.{ℕ, Result, ap, inl, inr, refl, subst, sym, ◌∙◌}
use Rattle.std.proofs.Math.Path.{subst₃}
use Rattle.std.proofs.lemmas.Result.{IfErr-weaker, IfOk-weaker}
use Rattle.std.specs.Prelude.{IfErr, IfOk}
use Rattle.block_device.specs.Device.{Device}
use Rattle.verity_format.specs.declared.formatting.FormatFault.{FormatFault}
use Rattle.image_commands.specs.declared.format.MadeImage.{MadeImage}
use Rattle.image_commands.specs.declared.fault.ImageFault.TheVariants.{Format}
use Rattle.image_commands.specs.PlacedFormats.{IsMadePlaced, IsPlacedEnd, Placing}
use Rattle.image_commands.specs.Places.{IsPartState}
use Rattle.image_commands.proofs.OpeningLemmas.{err-from}
use Rattle.image_commands.proofs.PlacedLemmas.{end-inner, made-inner}
use Rattle.image_commands.proofs.placed_format.make_placed.Goals as goal

pub returns-in_err-options-clause-err : goal.returns-in_err-options-clause-err
returns-in_err-options-clause-err g c =
    err-from c.from_residual-in_err-options.result _ c.in_err-options.field-0.0 c.from_residual-in_err-options.ensures.1
    (inr (inr (inl (record { two = c.in_ok-two.two; opened = c.in_ok-two.ensures.ok; undrawn = c.in_err-options.ensures.err.1; is = c.in_err-options.ensures.err.0 }))))

pub returns-in-Err-clause-err : goal.returns-in-Err-clause-err
returns-in-Err-clause-err g c =
    let cause = c.in-Err.fault in
    let watched = c.watch-data_dev in
    let state = g.I.Dev.BlockDev.state in
    let after : Device = state c.make_behind-hash_dev.result.0 in
    let placing : Device → Device → ℕ → Placing = λ data_dev hash_dev end. record { data_dev = data_dev; hash_dev = hash_dev; hash_dev' = after; end = end; first = c.args.watched.places.hash_first } in
    let was : Placing = placing (state watched.result.0.inner) (state watched.result.1) c.data_end-end.result in
    let Ends : FormatFault → Type 0 = IsPlacedEnd (IsPartState state) (IsPartState state) c.in_ok-options.options was in
    let ends : Ends cause = subst (λ (r : Result MadeImage FormatFault). IfErr r Ends) c.in-Err.is
    (IfErr-weaker c.make_behind-hash_dev.result.1 _ Ends (end-inner watched.result.0 (λ w. w.inner) state c.in_ok-options.options was) c.make_behind-hash_dev.ensures.err) in
    inr (inr (inr (inl (record {
      given = c.in_ok-options.options;
      two = c.in_ok-two.two;
      hash_dev' = c.make_behind-hash_dev.result.0;
      cause = cause;
      opened = c.in_ok-two.ensures.ok;
      are_given = c.in_ok-options.ensures.ok;
      ends = subst₃ (λ (d h : Device) (end : ℕ). IsPlacedEnd (IsPartState state) (IsPartState state) c.in_ok-options.options (placing d h end) cause) (ap state watched.ensures.data) (ap state watched.ensures.hash) c.data_end-end.ensures ends;
      is = ap Format c.format_fault_from.ensures;
    }))))

pub returns-in-Ok-clause-ok : goal.returns-in-Ok-clause-ok
returns-in-Ok-clause-ok g c =
    let image = c.in-Ok.made in
    let watched = c.watch-data_dev in
    let state = g.I.Dev.BlockDev.state in
    let after : Device = state c.make_behind-hash_dev.result.0 in
    let placing : Device → Device → ℕ → Placing = λ data_dev hash_dev end. record { data_dev = data_dev; hash_dev = hash_dev; hash_dev' = after; end = end; first = c.args.watched.places.hash_first } in
    let was : Placing = placing (state watched.result.0.inner) (state watched.result.1) c.data_end-end.result in
    let Made : MadeImage → Type 0 = IsMadePlaced (IsPartState state) (IsPartState state) c.in_ok-options.options was in
    let made : Made image = subst (λ (r : Result MadeImage FormatFault). IfOk r Made) c.in-Ok.is
    (IfOk-weaker c.make_behind-hash_dev.result.1 _ Made (made-inner watched.result.0 (λ w. w.inner) state c.in_ok-options.options was) c.make_behind-hash_dev.ensures.ok) in record {
      given = c.in_ok-options.options;
      two = c.in_ok-two.two;
      hash_dev' = c.make_behind-hash_dev.result.0;
      between = c.open_placed.new.images;
      aligned = cc (c.if-not-is_aligned.ensures);
      opened = c.in_ok-two.ensures.ok;
      apart = sym c.overlaps.ensures ∙ c.if-overlaps.false;
      are_given = c.in_ok-options.ensures.ok;
      made = subst₃ (λ (d h : Device) (end : ℕ). IsMadePlaced (IsPartState state) (IsPartState state) c.in_ok-options.options (placing d h end) image) (ap state watched.ensures.data) (ap state watched.ensures.hash) c.data_end-end.ensures made;
      closed = c.close_place.ensures;
    }

pub returns-then-overlaps-clause-err : goal.returns-then-overlaps-clause-err
returns-then-overlaps-clause-err g c =
    inr (inr (inr (inr (record {
      two = c.in_ok-two.two;
      opened = c.in_ok-two.ensures.ok;
      one = sym c.overlaps.ensures ∙ c.if-overlaps.true;
      is = refl;
      same = refl;
    }))))
