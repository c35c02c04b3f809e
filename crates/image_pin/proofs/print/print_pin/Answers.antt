use Rattle.std.proofs.Common.{◌≡◌, ◌++◌, List, ℕ, ap, subst, sym, ◌∙◌, arith, decimal, length}
use Rattle.hex.specs.Hex.{IsBytes, encode_lower}
use Rattle.verity_format.specs.Line.{salt_word}
use Rattle.image_pin.specs.declared.name.PinName.TheVariants.{Root, Salt, DataBlockSize, HashBlockSize, DataBlocks}
use Rattle.image_pin.specs.PinTexts.{pin_line, pin_of, pin_text}
use Rattle.image_pin.proofs.PrintedLemmas.{pin-read, text-printed}
use Rattle.image_pin.proofs.print.print_pin.Goals as goal

pub returns-clause-text : goal.returns-clause-text
returns-clause-text c =
    let pin = c.args.pin.now in
    let t0 = c.in_ok-text.text.items in
    let t1 = c.push_hex.new.text.items in
    let t2 = c.push_salt.new.text.items in
    let t3 = c.push_number.new.text.items in
    let t4 = c.push_number-2.new.text.items in
    let t5 = c.push_number-3.new.text.items in
    let e1 : t1 ≡ t0 ++ pin_line Root (encode_lower pin.root) = c.in_ok-push_hex.ensures.printed ∙ ap (λ (v : List ℕ). t0 ++ pin_line Root (encode_lower v)) c.as_bytes.ensures.value in
    let e2 : t2 ≡ t1 ++ pin_line Salt (salt_word pin.salt) = c.in_ok-push_salt.ensures.printed ∙ ap (λ (v : List ℕ). t1 ++ pin_line Salt (salt_word v)) c.bytes.ensures.value in
    let e3 : t3 ≡ t2 ++ pin_line DataBlockSize (decimal pin.data_block) = c.in_ok-push_number.ensures.ok ∙ ap (λ (n : ℕ). t2 ++ pin_line DataBlockSize (decimal n)) c.from.ensures in
    let e4 : t4 ≡ t3 ++ pin_line HashBlockSize (decimal pin.hash_block) = c.in_ok-push_number-2.ensures.ok ∙ ap (λ (n : ℕ). t3 ++ pin_line HashBlockSize (decimal n)) c.from-2.ensures in
    let e5 : t5 ≡ t4 ++ pin_line DataBlocks (decimal pin.blocks) = c.in_ok-push_number-3.ensures.ok in
    text-printed pin t0 t1 t2 t3 t4 t5 c.in_ok-text.ensures.ok e1 e2 e3 e4 e5

pub returns-clause-reads_back : goal.returns-clause-reads_back
returns-clause-reads_back c =
    let pin = c.args.pin.now in
    let printed : c.push_number-3.new.text.items ≡ pin_text pin = returns-clause-text c in
    ap pin_of printed
    ∙ pin-read pin (sym (ap length c.as_bytes.ensures.value) ∙ c.as_bytes.ensures.size) (subst (λ (l : List ℕ). IsBytes l) c.as_bytes.ensures.value c.push_hex.ensures.bytes)
    (omega (arith, ap length c.bytes.ensures.value, c.bytes.ensures.size)) (subst (λ (l : List ℕ). IsBytes l) c.bytes.ensures.value c.push_salt.ensures.bytes) (omega arith) (omega arith) (omega arith)
