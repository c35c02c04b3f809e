use Rattle.std.proofs.Common.{get_or, take, drop, ◌-◌, sym, ◌∙◌}
use Rattle.xts_sector.proofs.XtsKeyLemmas.{tweak-key_of}
use Rattle.xts_sector.proofs.FirstTweakLemmas.{HoldTweaks-same, HoldTweaks-made}
use Rattle.xts_sector.proofs.xts_key.XtsKey.make_ready.Goals as goal

pub returns-then-i-eq0 : goal.returns-then-i-eq0
returns-then-i-eq0 c _ =
    let numbers = c.args.numbers.now in
    let i = c.args.i in
    let e = c.min-end.result in
    rw (← c.self.view_is) (HoldTweaks-made _ numbers c.make_first_tweaks.new.tweaks i e c.if-i-eq0.true c.min-end.ensures
    (λ j h. c.make_first_tweaks.ensures j h ∙ sym (tweak-key_of c.self.inside c.self.invariant (get_or (take (e - i) (drop i numbers)) j 0))))

pub returns-else-i-eq0 : goal.returns-else-i-eq0
returns-else-i-eq0 c before = HoldTweaks-same c.args.self.now c.args.numbers.now c.args.tweaks.now c.args.i c.if-i-eq0.false (before c.if-i-eq0.false)
