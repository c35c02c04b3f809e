use Rattle.std.proofs.Common.{◌≡◌, ◌*◌, ◌/◌, ◌∙◌, ℕ, ap, sym, arith, length, subst, refl}
use Rattle.hash_tree.specs.Tree.{cut}
use Rattle.verity_format.specs.Blocks.{IsFullRead, blocks_at}
use Rattle.tree_survey.specs.Failing.{IsSectorsRead}
use Rattle.verity_format.proofs.lemmas.RunLemmas.{run-cut, run-sectors}
use Rattle.tree_survey.proofs.pieces.read_run.Goals as goal

pub returns-clause-ends : goal.returns-clause-ends
returns-clause-ends g c =
    let old = g.D.BlockDev.state c.args.device.now in
    let new = g.D.BlockDev.state c.attempt.new.device in
    let whole = g.met.D.BlockDev.whole c.args.device.now in
    let size = c.args.size in
    let n = length c.args.digests.now in
    let out = c.attempt.new.out in
    let read : IsSectorsRead old (c.args.first * (size / 512)) out new = rw c.if-not-attempt.false at c.attempt.ensures.ends in
    let long : length out ≡ n * size = c.attempt.auto.out ∙ c.requires.run in
    let sectors : length out / 512 ≡ n * (size / 512) = ap (λ (k : ℕ). k / 512) long ∙ run-sectors size n c.requires.size in
    let count : length c.digest_blocks.new.out ≡ n = c.digest_blocks.auto.out in
    record {
      contents = cut size out;
      are = c.digest_blocks.ensures;
      over = λ steady.
          run-cut old.image size c.requires.size whole.sectors out c.args.first n (c.args.first * (size / 512)) (length out / 512)
          (omega (arith, whole.length, c.requires.inside))
          refl sectors
          (read.bytes_are steady)
          ∙ ap (λ k. blocks_at old.image size c.args.first k) (sym count);
      full = subst (λ (k : ℕ). IsFullRead old k new) (sectors ∙ ap (λ (k : ℕ). k * (size / 512)) (sym count)) read.full;
    }
