use Rattle.std.proofs.Common.{Bool, ◌≡◌, ◌∙◌, ℕ, List, Option, Some, None, false, refl, sym, subst, true}
use Rattle.std.specs.Str.{bytes_eq}
use Rattle.std.proofs.lemmas.Result.{err_from_is_err_and}
use Rattle.std.proofs.lemmas.Slice.Eq.{bytes_eq-Decides}
use Rattle.block_device.specs.Call.{DeviceDoes}
use Rattle.verity_format.specs.Comparing.{IsTreeCompared}
use Rattle.verity_format.proofs.VerifyingLemmas.{pair-cause, stops-part, verdict-area, verdict-stored}
use Rattle.verity_format.proofs.verifying.verify_tree.Goals as goal

pub returns-in-Some-clause-ok : goal.returns-in-Some-clause-ok
returns-in-Some-clause-ok g c =
    let t = c.args.tree.now in
    let a = g.D.BlockDev.state c.args.data_dev.now in
    let b = g.H.BlockDev.state c.args.hash_dev.now in
    let a' = g.D.BlockDev.state c.compare_tree.new.data_dev in
    let b' = g.H.BlockDev.state c.compare_tree.new.hash_dev in
    let compared : IsTreeCompared t.shape t.salt a b a' b' (Some c.in-Some.block) c.in_ok-least.expected =
    subst (λ (o : Option ℕ). IsTreeCompared t.shape t.salt a b a' b' o c.in_ok-least.expected) c.in-Some.is c.in_ok-least.ensures.compared in
    record {
      fit = sym c.is_too_small.ensures ∙ c.if-is_too_small.false;
      data_read = compared.data_read;
      hash_read = compared.hash_read;
      found = verdict-area t.shape t.salt a b a' b' c.in_ok-least.expected c.in-Some.block c.args.root.now compared;
    }

unlike : (a b : List ℕ) (r : Bool) → r ≡ bytes_eq a b → r ≡ false → a ≡ b → ⊥
unlike a b r test differs same = let equal : r ≡ true = test ∙ (bytes_eq-Decides a b).1 same in cc

pub returns-then-not-is_same-clause-ok : goal.returns-then-not-is_same-clause-ok
returns-then-not-is_same-clause-ok g c =
    let t = c.args.tree.now in
    let a = g.D.BlockDev.state c.args.data_dev.now in
    let b = g.H.BlockDev.state c.args.hash_dev.now in
    let a' = g.D.BlockDev.state c.compare_tree.new.data_dev in
    let b' = g.H.BlockDev.state c.compare_tree.new.hash_dev in
    let compared : IsTreeCompared t.shape t.salt a b a' b' None c.in_ok-least.expected =
    subst (λ (o : Option ℕ). IsTreeCompared t.shape t.salt a b a' b' o c.in_ok-least.expected) c.in_default.is c.in_ok-least.ensures.compared in
    record {
      fit = sym c.is_too_small.ensures ∙ c.if-is_too_small.false;
      data_read = compared.data_read;
      hash_read = compared.hash_read;
      found = λ data_steady hash_steady. (
        verdict-stored t.shape t.salt a b a' b' c.in_ok-least.expected compared data_steady hash_steady,
        λ e. unlike c.in_ok-least.expected c.args.root.now c.is_same.result c.is_same.ensures c.if-not-is_same.true (compared.root data_steady ∙ e),
      );
    }

pub returns-clause-ok : goal.returns-clause-ok
returns-clause-ok g c =
    let t = c.args.tree.now in
    let a = g.D.BlockDev.state c.args.data_dev.now in
    let b = g.H.BlockDev.state c.args.hash_dev.now in
    let a' = g.D.BlockDev.state c.compare_tree.new.data_dev in
    let b' = g.H.BlockDev.state c.compare_tree.new.hash_dev in
    let compared : IsTreeCompared t.shape t.salt a b a' b' None c.in_ok-least.expected =
    subst (λ (o : Option ℕ). IsTreeCompared t.shape t.salt a b a' b' o c.in_ok-least.expected) c.in_default.is c.in_ok-least.ensures.compared in
    record {
      fit = sym c.is_too_small.ensures ∙ c.if-is_too_small.false;
      data_read = compared.data_read;
      hash_read = compared.hash_read;
      found = λ data_steady hash_steady. (
        verdict-stored t.shape t.salt a b a' b' c.in_ok-least.expected compared data_steady hash_steady,
        sym (compared.root data_steady) ∙ (bytes_eq-Decides c.in_ok-least.expected c.args.root.now).0 (sym c.is_same.ensures ∙ c.if-not-is_same.false),
      );
    }

pub returns-in_err-least-clause-err : goal.returns-in_err-least-clause-err
returns-in_err-least-clause-err g c =
    let p = err_from_is_err_and c.from_residual.result c.from_residual.ensures.1 in
    rw (p.1, p.2)
    (pair-cause c.args.tree.now.shape (g.D.BlockDev.state c.args.data_dev.now) (g.H.BlockDev.state c.args.hash_dev.now) (g.D.BlockDev.state c.compare_tree.new.data_dev) (g.H.BlockDev.state c.compare_tree.new.hash_dev) _ c.in_err-least.ensures.fault)

pub returns-then-is_too_small-clause-calls : goal.returns-then-is_too_small-clause-calls
returns-then-is_too_small-clause-calls g c = (refl, refl)

pub returns-in_err-least-clause-calls : goal.returns-in_err-least-clause-calls
returns-in_err-least-clause-calls g c =
    let p = err_from_is_err_and c.from_residual.result c.from_residual.ensures.1 in
    let asks = DeviceDoes g.D.BlockDev.state g.D.BlockDev.does in
    let does = DeviceDoes g.H.BlockDev.state g.H.BlockDev.does in
    let t = c.args.tree.now in
    rw (p.1, p.2)
    (stops-part asks does t.shape t.salt c.args.data_dev.now c.args.hash_dev.now c.compare_tree.new.data_dev c.compare_tree.new.hash_dev _ c.in_err-least.ensures.calls)

pub returns-in-Some-clause-calls : goal.returns-in-Some-clause-calls
returns-in-Some-clause-calls g c = record {
  least = c.in_ok-least.least;
  computed = c.in_ok-least.expected;
  whole = c.in_ok-least.ensures.calls;
  verdict_is = c.in-Some.is;
}

pub returns-then-not-is_same-clause-calls : goal.returns-then-not-is_same-clause-calls
returns-then-not-is_same-clause-calls g c = record {
  least = c.in_ok-least.least;
  computed = c.in_ok-least.expected;
  whole = c.in_ok-least.ensures.calls;
  verdict_is = (c.in_default.is, λ e. unlike c.in_ok-least.expected c.args.root.now c.is_same.result c.is_same.ensures c.if-not-is_same.true e);
}

pub returns-clause-calls : goal.returns-clause-calls
returns-clause-calls g c = record {
  least = c.in_ok-least.least;
  computed = c.in_ok-least.expected;
  whole = c.in_ok-least.ensures.calls;
  verdict_is = (c.in_default.is, (bytes_eq-Decides c.in_ok-least.expected c.args.root.now).0 (sym c.is_same.ensures ∙ c.if-not-is_same.false));
}
