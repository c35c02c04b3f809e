-- What `load [--json | --tree] [--linux] STACK BINDING...` says.
use Rattle.std.specs.Prelude.{codes, Bool, List, Ok, map, ℕ}
use Rattle.command_line.specs.Bindings.{BindingRecord, binding_record}
use Rattle.command_line.specs.BindingWords.{bindings_of}
use Rattle.command_line.specs.FormatOptions.{OptionTexts}
use Rattle.command_line.specs.Misuses.{Reading, when}
use Rattle.command_line.specs.Positional.{positional}
use Rattle.command_line.specs.Values.{list_form}
use Rattle.command_line.specs.declared.list_form.ListForm.{ListForm}
use Rattle.command_line.specs.declared.words.load.LoadWords.{LoadWords}

pub record LoadRecord : Type 0 where
  pub stack : List ℕ
  pub bindings : List BindingRecord
  pub form : ListForm
  pub linux : Bool

unfoldable pub load_said : OptionTexts → List (List ℕ) → Reading LoadRecord
load_said texts words =
    when (positional (codes "STACK") words) (λ stack.
    when (list_form texts.json texts.tree) (λ form.
    when (bindings_of stack.1) (λ bindings. Ok (record {
      stack = stack.0;
      bindings = bindings;
      form = form;
      linux = texts.linux;
    }))))

-- what the program's own value says
abbrev pub load_record : LoadWords → LoadRecord
load_record w = record {
  stack = w.stack.now;
  bindings = map binding_record w.bindings.items;
  form = w.form;
  linux = w.linux;
}
