use Rattle.std.proofs.Common.{◌≡◌, ◌*◌, ◌/◌, ◌∙◌, ap, sym, arith, refl, length, map, All, subst, rules}
use Rattle.std.proofs.lemmas.List.Elements.{All-map}
use Rattle.std.proofs.lemmas.Result.{err_from_is_err_and}
use Rattle.tree_shape.specs.Digests.{digest}
use Rattle.hash_tree.specs.Tree.{cut}
use Rattle.hash_tree.proofs.lemmas.TreeLemmas.{length-digest}
use Rattle.verity_format.specs.Blocks.{blocks_at}
use Rattle.verity_format.proofs.lemmas.RunLemmas.{run-digests, run-sectors}
use Rattle.verity_format.proofs.access.read_run.Goals as goal

pub returns-clause-ok : goal.returns-clause-ok
returns-clause-ok g c =
    let old = g.D.BlockDev.state c.args.device.now in
    let whole = g.met.D.BlockDev.whole c.args.device.now in
    let size = c.args.size in
    let salt = c.args.salt.now in
    let n = length c.args.digests.now in
    record {
      digests = record {
        sized = subst (All (λ d. length d ≡ 32)) (sym c.digest_blocks.ensures) (All-map (λ d. length d ≡ 32) (digest salt) (cut size c.read.new.out) (λ k d inside. length-digest salt _));
        over = λ steady.
            run-digests old.image size c.requires.size whole.sectors salt c.read.new.out c.digest_blocks.new.out c.args.index n (c.args.index * (size / 512)) (length c.args.run.now / 512)
            (omega (arith, whole.length, c.requires.inside))
            refl
            (ap (λ k. k / 512) c.requires.run ∙ run-sectors size n c.requires.size)
            (c.in_ok-read.ensures.bytes steady)
            c.digest_blocks.ensures
            ∙ ap (λ k. map (digest salt) (blocks_at old.image size c.args.index k)) (sym c.digest_blocks.auto.out);
      };
      full = search rules;
    }

pub returns-in_err-read-clause-given : goal.returns-in_err-read-clause-given
returns-in_err-read-clause-given g c =
    let result = err_from_is_err_and c.from_residual.result c.from_residual.ensures.1 in
    rw result.1
    (record {
      bytes = c.read.new.out;
      made = c.in_err-read.ensures.call;
      are = λ bad. cc;
      sectors = ap (λ n. n / 512) (c.read.auto.out ∙ c.requires.run) ∙ run-sectors c.args.size (length c.args.digests.now) c.requires.size;
    })

pub returns-clause-given : goal.returns-clause-given
returns-clause-given g c = record {
  bytes = c.read.new.out;
  made = c.in_ok-read.ensures.call;
  are = λ _. c.digest_blocks.ensures;
  sectors =
      ap (λ n. n / 512) (c.read.auto.out ∙ c.requires.run) ∙ run-sectors c.args.size (length c.args.digests.now) c.requires.size
      ∙ ap (λ n. n * (c.args.size / 512)) (sym c.digest_blocks.auto.out);
}
