use Rattle.std.proofs.Common.{◌≡◌, ℕ, List, ◌==◌, true, false, subst, Option, Some, None, refl, sym, ◌∙◌}
use Rattle.std.specs.Prelude.{IsTrue, find, is_some}
use Rattle.std.specs.Option.{option_map}
use Rattle.stack_config.specs.declared.keys.LineKey.{LineKey}
use Rattle.stack_rules.specs.Lines.{key_of_line}
use Rattle.stack_config.proofs.config.Config.key.Goals as goal

some-kept : (o : Option LineKey) (p : Option (List ℕ)) → option_map (λ (k : LineKey). k.key) o ≡ p → IsTrue (is_some p) → IsTrue (is_some o)
some-kept None p e h = let clash : false ≡ true = subst (λ o. is_some o ≡ true) (sym e) h in cc
some-kept (Some k) p e h = refl

pub at-requires : goal.at-requires
at-requires c =
    some-kept (find (λ (k : LineKey). k.line == c.args.line) c.device_facts.result.now.keys) (key_of_line c.args.self.now c.args.d.0 c.args.line) (c.device_facts.ensures.key c.args.line) c.requires.crypt

pub returns : goal.returns
returns c = sym (c.device_facts.ensures.key c.args.line) ∙ c.at.ensures
