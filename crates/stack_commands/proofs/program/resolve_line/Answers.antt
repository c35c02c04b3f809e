use Rattle.std.proofs.Common.{map, refl}
use Rattle.command_line.specs.Bindings.{binding_record}
use Rattle.stack_commands.proofs.program.resolve_line.Goals as goal

pub returns-in-Ok-clause-ok : goal.returns-in-Ok-clause-ok
returns-in-Ok-clause-ok g c = record {
  same_options = refl;
  resolves = record {
    bindings = map binding_record c.in-Ok.bindings.items;
    found = rw c.bindings_in.ensures at c.in-Ok.ensures.ok;
    is = c.with_bindings.ensures;
  };
}

pub returns-clause-err : goal.returns-clause-err
returns-clause-err g c =
    rw c.command_end.ensures (record { cause = rw c.bindings_in.ensures at c.in-Err.ensures.err; json_is = refl; quiet_is = refl })
