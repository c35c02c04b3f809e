use Rattle.std.proofs.Common.{◌≡◌, Bool, true, false, not, ◌&&◌, refl, sym, ◌∙◌}
use Rattle.std.proofs.lemmas.Bool.{cond-false}
use Rattle.dm_table.specs.Names.{is_device}
use Rattle.stack_rules.specs.Rules.{is_leaf_name}
use Rattle.stack_loader.proofs.leaves.is_leaf_name.Goals as goal

path-named : (named path : Bool) → path ≡ true → (named && not path) ≡ false
path-named true true is = refl
path-named false true is = refl
path-named named false is = let clash : false ≡ true = is in cc

plain-named : (named path : Bool) → path ≡ false → named ≡ (named && not path)
plain-named true false is = refl
plain-named false false is = refl
plain-named named true is = let clash : true ≡ false = is in cc

pub returns-then-begins_as_path : goal.returns-then-begins_as_path
unfolding is_leaf_name
returns-then-begins_as_path c = sym (path-named _ _ (sym c.begins_as_path.ensures ∙ c.if-begins_as_path.true))

pub returns : goal.returns
unfolding is_leaf_name is_device
returns c =
    let plain = sym c.begins_as_path.ensures ∙ c.if-begins_as_path.false in
    c.is_device.ensures ∙ cond-false _ _ _ plain ∙ plain-named _ _ plain
