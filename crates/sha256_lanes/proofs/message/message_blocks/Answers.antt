use Rattle.std.proofs.Common.{rules, ◌≡◌, ℕ, List, ◌+◌, ◌-◌, ◌*◌, ◌/◌, ◌%◌, ◌++◌, length, slice_index, arith, ap, sym, ◌∙◌, inl, inr}
use Rattle.std.proofs.lemmas.Bool.{cases_lt}
use Rattle.std.proofs.lemmas.Slice.{overwrites}
use Rattle.sha2.specs.Sha256.{padded_message}
use Rattle.sha256_lanes.specs.Lanes.{message}
use Rattle.sha256_lanes.proofs.PaddingLemmas.{row_at, put_mid-before, put_mid-at}
use Rattle.sha256_lanes.proofs.message.message_blocks.Goals as goal

pub loop-j-preserved : goal.loop-j-preserved
loop-j-preserved c =
    let p : List ℕ = c.args.prefix.now in
    let l : ℕ = c.loop-j.j in
    let a : ℕ = l * 64 in
    let at : ℕ = c.args.index * 64 in
    let row : List ℕ = c.copy_from_slice.new.self in
    let same : row ≡ c.message_block-row.result = c.copy_from_slice.ensures.after in
    let long : length row ≡ 64 = omega (arith, c.copy_from_slice.auto.self) in (
      search (rules, overwrites),
      λ k lt. elim (cases_lt k a) [
        | inl below ↦ put_mid-before a (a + 64 - a) c.loop-j.out row k below (omega arith) ∙ c.loop-j.invariant.1 k below
        | inr here ↦
            let which : k / 64 ≡ l = omega arith in
            let place : k - a ≡ k % 64 = omega arith in
            put_mid-at a (a + 64 - a) c.loop-j.out row k (omega arith) here (omega arith)
            ∙ ap (λ (x : List ℕ). slice_index x (k - a)) same
            ∙ c.message_block-row.ensures (k - a) (omega arith)
            ∙ ap (λ (x : List ℕ). slice_index (padded_message (p ++ x)) (at + (k - a))) c.block.ensures.value
            ∙ ap (λ (i : ℕ). slice_index (padded_message (message p c.args.blocks.now c.args.size l)) (at + i)) place
            ∙ ap (λ (i : ℕ). slice_index (padded_message (message p c.args.blocks.now c.args.size i)) (at + k % 64)) (sym which)
      ],
    )

pub returns : goal.returns
returns c = λ j lt.
    row_at c.loop-j.out c.args.prefix.now c.args.blocks.now c.args.size c.args.index j lt c.requires.blocks c.loop-j.invariant.0 c.requires.inside
    (λ k h. c.loop-j.invariant.1 k (omega arith))
