use Rattle.std.proofs.Common.{◌≡◌, ℕ, ◌*◌, length, get_or, sym, ap, ◌∙◌, arith}
use Rattle.aes_block.specs.Blocks.{block}
use Rattle.aes_block.proofs.lemmas.BlockLemmas.{IsWritten-none, IsWritten-more, block-take, block-joined}
use Rattle.xts_sector.specs.Tweak.{unit_number}
use Rattle.xts_sector.proofs.FirstTweakLemmas.{length-unit_number}
use Rattle.xts_sector.proofs.first_tweaks.put_numbers.Goals as goal

pub loop-j-init : goal.loop-j-init
loop-j-init c = IsWritten-none _ _

pub loop-j-preserved : goal.loop-j-preserved
loop-j-preserved c =
    let numbers = λ (k : ℕ). unit_number (get_or c.args.numbers.now k 0) in
    let j = c.loop-j.j in
    let out : c.copy_from_slice.new.self ≡ numbers j = c.copy_from_slice.ensures.after ∙ c.unit_number-number.ensures in
    IsWritten-more numbers _ c.loop-j.blocks c.copy_from_slice.new.self j (omega arith) out (ap length out ∙ length-unit_number (get_or c.args.numbers.now j 0)) c.loop-j.invariant

pub returns : goal.returns
returns c j h =
    let numbers = λ (k : ℕ). unit_number (get_or c.args.numbers.now k 0) in
    let n = c.loop-j.j in
    let blocks = c.loop-j.blocks in
    sym (block-take blocks (16 * n) j (omega arith)) ∙ ap (λ bs. block bs j) c.loop-j.invariant.front ∙ block-joined numbers n j (λ k _. length-unit_number (get_or c.args.numbers.now k 0)) (omega arith)
