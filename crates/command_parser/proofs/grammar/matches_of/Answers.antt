use Rattle.std.proofs.Common.{map, ap, sym, inl, ◌∙◌}
use Rattle.std.specs.Prelude.{string_bytes}
use Rattle.clap.specs.Faults.{fault_of, is_simple_and_free}
use Rattle.clap.specs.Simple.{App, is_simple, subcommand_of}
use Rattle.command_parser.specs.Memory.{clap-refused}
use Rattle.command_parser.specs.declared.seal.Seal.TheVariants.{Clap}
use Rattle.command_parser.proofs.GrammarLemmas.{is_free-grammar, is_simple-grammar, refused-grammar}
use Rattle.command_parser.proofs.grammar.matches_of.Goals as goal

pub returns-in_default-clause-memory : goal.returns-in_default-clause-memory
returns-in_default-clause-memory c = inl (clap-refused (map string_bytes c.args.words.now) Clap)

pub returns-in-Ok-try_get_matches_from-clause-taken : goal.returns-in-Ok-try_get_matches_from-clause-taken
returns-in-Ok-try_get_matches_from-clause-taken c =
    sym (ap (λ (a : App). fault_of a (map string_bytes c.args.words.now)) c.in-Ok.ensures)
    ∙ c.in-Ok-try_get_matches_from.ensures.kinds (ap is_simple_and_free c.in-Ok.ensures ∙ is_free-grammar)

pub returns-in-Ok-try_get_matches_from-clause-ok : goal.returns-in-Ok-try_get_matches_from-clause-ok
returns-in-Ok-try_get_matches_from-clause-ok c =
    (c.in-Ok-try_get_matches_from.ensures.matches (ap is_simple c.in-Ok.ensures ∙ is_simple-grammar)).1
    ∙ ap (λ (a : App). subcommand_of a (map string_bytes c.args.words.now)) c.in-Ok.ensures

pub returns-in-OutOfMemory-clause-memory : goal.returns-in-OutOfMemory-clause-memory
returns-in-OutOfMemory-clause-memory c = inl (clap-refused (map string_bytes c.args.words.now) Clap)

pub returns-clause-err : goal.returns-clause-err
returns-clause-err c = (
  refused-grammar _ (map string_bytes c.args.words.now) c.in-Err.error c.in-Ok.ensures (c.in-Err.ensures.kinds (ap is_simple_and_free c.in-Ok.ensures ∙ is_free-grammar))
      (λ memory. c.in_default-kind.not-OutOfMemory (c.kind.ensures ∙ memory)),
  c.unread_argument.ensures,
)
