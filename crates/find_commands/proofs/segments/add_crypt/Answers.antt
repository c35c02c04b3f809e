use Rattle.std.proofs.Common.{◌∙◌, ◌++◌, ℕ, List, Option, append-nil, ap, map, sym}
use Rattle.std.proofs.lemmas.Result.{on_ok_weaker}
use Rattle.serde_json.specs.View.{view}
use Rattle.find_commands.specs.declared.luks.Extent.{Extent}
use Rattle.find_commands.specs.Objects.{crypt_items}
use Rattle.find_commands.proofs.segments.add_crypt.Goals as goal

pub returns-in-Some : goal.returns-in-Some
returns-in-Some c =
    on_ok_weaker c.add_segment.result (λ added. added ∙ ap (λ (found : Option (List ℕ × Extent)). map view c.args.values.now.items ++ crypt_items c.args.id found) c.in-Some.ensures) c.add_segment.ensures

pub returns-in-None : goal.returns-in-None
returns-in-None c = sym (append-nil _) ∙ ap (λ (found : Option (List ℕ × Extent)). map view c.args.values.now.items ++ crypt_items c.args.id found) c.in-None.ensures
