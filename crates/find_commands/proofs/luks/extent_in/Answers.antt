use Rattle.std.proofs.Common.{ℕ, ◌∙◌, ap}
use Rattle.std.specs.Prelude.{Option, codes, option_map}
use Rattle.std.specs.Option.{option_and_then}
use Rattle.serde_json.specs.Data.{Data}
use Rattle.serde_json.specs.View.{view}
use Rattle.find_commands.specs.declared.luks.Extent.{Extent}
use Rattle.find_commands.specs.Luks.{extent_from, length_in, number_in, sector_size_in}
use Rattle.find_commands.proofs.luks.extent_in.Goals as goal

after_tweak : Data → ℕ → Option ℕ → ℕ → Option Extent
after_tweak d offset size iv_tweak = option_map (extent_from offset size iv_tweak) (sector_size_in d)

after_size : Data → ℕ → Option ℕ → Option Extent
after_size d offset size = option_and_then (λ iv_tweak. option_map (extent_from offset size iv_tweak) (sector_size_in d)) (number_in (codes "iv_tweak") d)

after_offset : Data → ℕ → Option Extent
after_offset d offset =
    option_and_then (λ size. option_and_then (λ iv_tweak. option_map (extent_from offset size iv_tweak) (sector_size_in d)) (number_in (codes "iv_tweak") d)) (length_in d)

pub returns-in_err-offset : goal.returns-in_err-offset
unfolding after_offset
returns-in_err-offset c = c.from_residual.ensures ∙ ap (option_and_then (after_offset (view c.args.segment.now))) c.in_err-offset.ensures

pub returns-in_err-size : goal.returns-in_err-size
unfolding after_offset after_size
returns-in_err-size c =
    c.from_residual-in_err-size.ensures
    ∙ ap (option_and_then (after_size (view c.args.segment.now) c.in_ok-offset.offset)) c.in_err-size.ensures
    ∙ ap (option_and_then (after_offset (view c.args.segment.now))) c.in_ok-offset.ensures

pub returns-in_err-iv_tweak : goal.returns-in_err-iv_tweak
unfolding after_offset after_size after_tweak
returns-in_err-iv_tweak c =
    c.from_residual-in_err-iv_tweak.ensures
    ∙ ap (option_and_then (after_tweak (view c.args.segment.now) c.in_ok-offset.offset c.in_ok-size.size)) c.in_err-iv_tweak.ensures
    ∙ ap (option_and_then (after_size (view c.args.segment.now) c.in_ok-offset.offset)) c.in_ok-size.ensures
    ∙ ap (option_and_then (after_offset (view c.args.segment.now))) c.in_ok-offset.ensures

pub returns-in_err-sector_size : goal.returns-in_err-sector_size
unfolding after_offset after_size after_tweak
returns-in_err-sector_size c =
    c.from_residual-in_err-sector_size.ensures
    ∙ ap (option_map (extent_from c.in_ok-offset.offset c.in_ok-size.size c.in_ok-iv_tweak.iv_tweak)) c.in_err-sector_size.ensures
    ∙ ap (option_and_then (after_tweak (view c.args.segment.now) c.in_ok-offset.offset c.in_ok-size.size)) c.in_ok-iv_tweak.ensures
    ∙ ap (option_and_then (after_size (view c.args.segment.now) c.in_ok-offset.offset)) c.in_ok-size.ensures
    ∙ ap (option_and_then (after_offset (view c.args.segment.now))) c.in_ok-offset.ensures

pub returns : goal.returns
unfolding after_offset after_size after_tweak
returns c =
    ap (option_map (extent_from c.in_ok-offset.offset c.in_ok-size.size c.in_ok-iv_tweak.iv_tweak)) c.in_ok-sector_size.ensures
    ∙ ap (option_and_then (after_tweak (view c.args.segment.now) c.in_ok-offset.offset c.in_ok-size.size)) c.in_ok-iv_tweak.ensures
    ∙ ap (option_and_then (after_size (view c.args.segment.now) c.in_ok-offset.offset)) c.in_ok-size.ensures
    ∙ ap (option_and_then (after_offset (view c.args.segment.now))) c.in_ok-offset.ensures
