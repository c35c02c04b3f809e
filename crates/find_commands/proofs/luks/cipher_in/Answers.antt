use Rattle.std.proofs.Common.{ℕ, ◌∙◌, Bor, List, ap}
use Rattle.std.specs.Prelude.{Option, option_map}
use Rattle.std.specs.Option.{option_and_then}
use Rattle.serde_json.specs.Data.{Data}
use Rattle.serde_json.specs.View.{view}
use Rattle.find_commands.specs.declared.luks.Extent.{Extent}
use Rattle.find_commands.specs.Luks.{extent_in}
use Rattle.find_commands.proofs.luks.cipher_in.Goals as goal

found_in : Bor (List ℕ) × Extent → List ℕ × Extent
found_in found = (found.0.now, found.1)

after_cipher : Data → List ℕ → Option (List ℕ × Extent)
after_cipher d cipher = option_map (λ extent. (cipher, extent)) (extent_in d)

pub returns-in_err-cipher : goal.returns-in_err-cipher
unfolding found_in after_cipher
returns-in_err-cipher c = ap (option_map found_in) c.from_residual.ensures ∙ ap (option_and_then (after_cipher (view c.args.segment.now))) c.in_err-cipher.ensures

pub returns-in_err-extent : goal.returns-in_err-extent
unfolding found_in after_cipher
returns-in_err-extent c =
    ap (option_map found_in) c.from_residual-in_err-extent.ensures
    ∙ ap (option_map (λ (extent : Extent). (c.in_ok-cipher.cipher.now, extent))) c.in_err-extent.ensures
    ∙ ap (option_and_then (after_cipher (view c.args.segment.now))) c.in_ok-cipher.ensures

pub returns : goal.returns
unfolding found_in after_cipher
returns c =
    ap (option_map (λ (extent : Extent). (c.in_ok-cipher.cipher.now, extent))) c.in_ok-extent.ensures
    ∙ ap (option_and_then (after_cipher (view c.args.segment.now))) c.in_ok-cipher.ensures
