use Rattle.std.proofs.Common.{Option, sym, subst}
use Rattle.std.proofs.lemmas.Result.{IfOk-weaker}
use Rattle.serde_json.specs.Data.{Data}
use Rattle.find_commands.specs.Areas.{IsJson}
use Rattle.find_commands.proofs.area.json_of.Goals as goal

pub returns-in-Err : goal.returns-in-Err
returns-in-Err c =
    IfOk-weaker c.unparsed.result _ _ (λ value none. subst (λ (o : Option Data). IsJson c.args.text.now o) (sym none.0) (c.in-Err.ensures.err none.1)) c.unparsed.ensures
