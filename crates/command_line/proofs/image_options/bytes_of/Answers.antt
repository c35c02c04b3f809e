use Rattle.std.proofs.Common.{◌≡◌, ◌/◌, ◌∙◌, ℕ, List, Some, length, ap, sym}
use Rattle.std.specs.Result.{result_ok}
use Rattle.std.proofs.lemmas.List.{length-replicate, with_items_is}
use Rattle.hex.specs.Hex.{decode_sized}
use Rattle.command_line.proofs.CommandWordLemmas.{decoded, undecoded}
use Rattle.command_line.proofs.SaltLemmas.{sized-half}
use Rattle.command_line.proofs.image_options.bytes_of.Goals as goal

pub returns-in-Ok-clause-ok : goal.returns-in-Ok-clause-ok
returns-in-Ok-clause-ok c =
    let bytes = c.in_ok-bytes.bytes in
    let word = c.args.word.now in
    let room = length c.as_mut_slice.result.now in
    let held : length c.decode_to_slice.new.out ≡ bytes.len = c.decode_to_slice.auto.out ∙ ap (λ (l : List ℕ). length l) c.as_mut_slice.ensures.value ∙ sym bytes.ok.0 in
    let half : length c.as_mut_slice.result.now ≡ length c.args.word.now / 2 =
    ap (λ (l : List ℕ). length l) (c.as_mut_slice.ensures.value ∙ c.in_ok-bytes.ensures.ok) ∙ length-replicate {A = ℕ} _ 0 in
    ap (λ l. Some l) (with_items_is bytes c.decode_to_slice.new.out held)
    ∙ decoded (decode_sized word room) c.decode_to_slice.new.out c.decode_to_slice.result c.in-Ok.field-0 c.in-Ok.is c.decode_to_slice.ensures.value
    ∙ ap result_ok (sized-half word room half)

pub returns-in-Err-clause-ok : goal.returns-in-Err-clause-ok
returns-in-Err-clause-ok c =
    let word = c.args.word.now in
    let room = length c.as_mut_slice.result.now in
    let half : length c.as_mut_slice.result.now ≡ length c.args.word.now / 2 =
    ap (λ (l : List ℕ). length l) (c.as_mut_slice.ensures.value ∙ c.in_ok-bytes.ensures.ok) ∙ length-replicate {A = ℕ} _ 0 in
    undecoded (decode_sized word room) c.decode_to_slice.new.out c.decode_to_slice.result c.in-Err.field-0 c.in-Err.is c.decode_to_slice.ensures.value
    ∙ ap result_ok (sized-half word room half)
