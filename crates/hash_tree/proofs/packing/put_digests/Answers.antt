use Rattle.std.proofs.Common.{◌≡◌, ◌+◌, ◌*◌, ◌-◌, ◌++◌, ◌∷◌, ◌≤◌, take, drop, length, [], replicate, sym, ap, ◌∙◌, arith}
use Rattle.std.proofs.lemmas.List.{take_more, append-nil, take_all, length-drop, length-take-le}
use Rattle.std.proofs.lemmas.List.Folds.{concat-append}
use Rattle.std.proofs.lemmas.Slice.{take-put_mid}
use Rattle.std.specs.List.{concat}
use Rattle.hash_tree.proofs.BuildLemmas.{rest-written}
use Rattle.hash_tree.proofs.packing.put_digests.Goals as goal

pub loop-digest-preserved : goal.loop-digest-preserved
loop-digest-preserved c =
    let i = c.loop-digest.digest-index in
    let ds = c.args.digests.now in
    let d = c.digest-item.result in
    let here = c.loop-digest.invariant in
    let read : c.as_bytes.result.now ≡ d = c.as_bytes.ensures.value in
    let more : take (i + 1) ds ≡ take i ds ++ d ∷ [] = take_more ds i d c.loop-digest-test.true ∙ ap (λ x. take i ds ++ x ∷ []) (sym c.digest-item.is) in
    let new : length c.copy_from_slice.new.self ≡ 32 = ap length c.copy_from_slice.ensures.after ∙ c.as_bytes.ensures.size in
    record {
      end = omega (arith, here.end);
      written =
          take-put_mid c.loop-digest.end _ c.loop-digest.out c.copy_from_slice.new.self (c.loop-digest.end + 32) (omega (arith, new)) (omega (arith, here.end, c.loop-digest.auto.out, c.requires, c.loop-digest-test.true))
          ∙ ap (λ front. front ++ c.copy_from_slice.new.self) here.written
          ∙ ap (λ x. concat (take i ds) ++ x) (c.copy_from_slice.ensures.after ∙ read ∙ sym (append-nil d))
          ∙ sym (concat-append (take i ds) (d ∷ []))
          ∙ sym (ap concat more);
    }

pub returns : goal.returns
returns c =
    let end = c.loop-digest.end in
    let out = c.loop-digest.out in
    let ds = c.args.digests.now in
    let rest = length out - end in
    let here = c.loop-digest.invariant in
    let reach : end ≡ 32 * length ds = omega (arith, here.end, c.loop-digest.auto.digest-index-end, c.loop-digest-test.false) in
    let inside : end ≤ length out = omega (arith, reach, c.requires, c.loop-digest.auto.out) in
    let part : length (take rest (drop end out)) ≡ rest = length-take-le rest (drop end out) (omega (arith, length-drop end out)) in
    let count : rest ≡ length c.args.out.now - 32 * length ds = omega (arith, reach, c.loop-digest.auto.out) in
    let zeros : c.fill.new.self ≡ replicate (length c.args.out.now - 32 * length ds) 0 =
    c.fill.ensures.after (λ y h. h) ∙ ap (λ n. replicate n 0) (part ∙ count) in
    let all : take c.loop-digest.digest-index ds ≡ ds = take_all c.loop-digest.digest-index ds c.loop-digest-test.false in
    rest-written end out (concat ds) c.fill.new.self (replicate (length c.args.out.now - 32 * length ds) 0) inside (here.written ∙ ap concat all) zeros
