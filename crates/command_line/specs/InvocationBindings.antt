-- The bindings of a command, and the command with others in their place.
use Rattle.std.specs.Prelude.{List, []}
use Rattle.command_line.specs.Bindings.{BindingRecord}
use Rattle.command_line.specs.Invocations.{InvocationRecord, cat, copy, exports, load, nbd, read, scan, session, store, write}

-- a command that isn't on a stack has none
abbrev pub bindings_in : InvocationRecord → List BindingRecord
bindings_in (load w) = w.bindings
bindings_in (read w) = w.bindings
bindings_in (write w) = w.bindings
bindings_in (session w) = w.bindings
bindings_in (nbd w) = w.bindings
bindings_in (exports w) = w.bindings
bindings_in (scan w) = w.bindings
bindings_in (copy w) = w.bindings
bindings_in (cat w) = w.bindings
bindings_in (store w) = w.bindings
bindings_in invocation = []

-- a command that isn't on a stack stays as it is
abbrev pub with_bindings : List BindingRecord → InvocationRecord → InvocationRecord
with_bindings bindings (load w) = load (record w { bindings = bindings })
with_bindings bindings (read w) = read (record w { bindings = bindings })
with_bindings bindings (write w) = write (record w { bindings = bindings })
with_bindings bindings (session w) = session (record w { bindings = bindings })
with_bindings bindings (nbd w) = nbd (record w { bindings = bindings })
with_bindings bindings (exports w) = exports (record w { bindings = bindings })
with_bindings bindings (scan w) = scan (record w { bindings = bindings })
with_bindings bindings (copy w) = copy (record w { bindings = bindings })
with_bindings bindings (cat w) = cat (record w { bindings = bindings })
with_bindings bindings (store w) = store (record w { bindings = bindings })
with_bindings bindings invocation = invocation
