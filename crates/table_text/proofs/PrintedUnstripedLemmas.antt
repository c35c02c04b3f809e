-- The printed arguments of an `unstriped` line read back.
use Rattle.std.proofs.Common.{◌≡◌, ℕ, ◌^◌, ◌<◌, ◌≤◌, ◌&&◌, leb, ltb, ◌∷◌, decimal, Ok, ok_or, Some, None, codes, refl, ap, ◌∙◌, arith}
use Rattle.std.proofs.lemmas.Bool.{cond-true, and_from, le-leb, lt-ltb}
use Rattle.dm_table.specs.declared.table.Target.TheVariants as targets
use Rattle.dm_table.specs.declared.target_type.TargetType.TheVariants as types
use Rattle.dm_table.specs.declared.unstriped.Unstriped.{Unstriped}
use Rattle.dm_table.specs.declared.fault.TextKind.{TextKind}
use Rattle.dm_table.specs.declared.fault.TextKind.TheVariants as kinds
use Rattle.dm_table.specs.Numbers.{number_if}
use Rattle.dm_table.specs.Reading.{◌>>=◌}
use Rattle.dm_table.specs.Unstriped.{count_at, stripe_at, unstriped_at}
use Rattle.dm_table.specs.Grammar.{IsUnstripedOfGrammar}
use Rattle.table_text.specs.Unstriped.{unstriped_words}
use Rattle.table_text.proofs.PrintedTargetLemmas.{ReadBack, read_back}
use Rattle.table_text.proofs.PrintedLemmas.{ArePrinted, printed-decimal, printed-device, number-decimal, base_at-printed}

count_at-printed : (kind : TextKind) (n : ℕ) → 1 ≤ n → n < 2 ^ 32 → count_at kind (decimal n) ≡ Ok n
count_at-printed kind n low fits =
    ap (λ o. ok_or (number_if (λ k. leb 1 k && ltb k (2 ^ 32)) o) kind) (number-decimal n (omega (arith, fits)))
    ∙ ap (λ o. ok_or o kind) (cond-true (leb 1 n && ltb n (2 ^ 32)) (Some n) None (and_from _ _ (le-leb 1 n low) (lt-ltb n (2 ^ 32) fits)))

stripe_at-printed : (stripes n : ℕ) → n < stripes → n < 2 ^ 64 → stripe_at stripes (decimal n) ≡ Ok n
stripe_at-printed stripes n low fits =
    ap (λ o. ok_or (number_if (λ k. ltb k stripes) o) kinds.StripeNumber) (number-decimal n fits)
    ∙ ap (λ o. ok_or o kinds.StripeNumber) (cond-true (ltb n stripes) (Some n) None (lt-ltb n stripes low))

-- printed arguments read back
unstriped-printed : (line : Unstriped) → IsUnstripedOfGrammar line → unstriped_at (unstriped_words line) ≡ Ok line
unfolding unstriped_at unstriped_words
unstriped-printed line h =
    let stripes = count_at-printed kinds.StripeCount line.stripes (omega (arith, h.stripe)) h.stripes in
    let chunk = count_at-printed kinds.ZeroChunk line.chunk h.chunk_some h.chunk_fits in
    let stripe = stripe_at-printed line.stripes line.stripe h.stripe (omega (arith, h.stripe, h.stripes)) in
    rw (stripes, chunk, stripe, base_at-printed line.base h.base) refl

-- each word may be in a text
printed-unstriped : (line : Unstriped) → IsUnstripedOfGrammar line → ArePrinted (unstriped_words line)
unfolding unstriped_words
printed-unstriped line h =
    let numbers = printed-decimal line.stripes (omega (arith, h.stripes)) in
    (numbers, (printed-decimal line.chunk (omega (arith, h.chunk_fits)), (printed-decimal line.stripe (omega (arith, h.stripe, h.stripes)), (printed-device line.base.device h.base.device, (printed-decimal line.base.offset h.base.offset, tt)))))

-- the printed line reads back
pub unstriped-read_back : (line : Unstriped) → IsUnstripedOfGrammar line → ReadBack (targets.Unstriped line) (codes "unstriped" ∷ unstriped_words line)
unstriped-read_back line h =
    read_back types.Unstriped (unstriped_words line) (targets.Unstriped line) (printed-unstriped line h) (ap (λ r. r >>= (λ line. Ok (targets.Unstriped line))) (unstriped-printed line h))
