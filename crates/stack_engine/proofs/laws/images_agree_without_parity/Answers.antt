use Rattle.std.proofs.Common.{◌≡◌, None, Some, sym, ◌∙◌, arith}
use Rattle.stack_engine.proofs.laws.images_agree_without_parity.Goals as goal

pub returns : goal.returns
returns c = λ k none these images d l line v at is on p has.
    let lacks : v.parity ≡ None = none d l v (record { line = line; is = at; has = is; fits = omega arith }) in
    let clash : None ≡ Some p = sym lacks ∙ has in
    absurd cc
