use Rattle.std.proofs.Common.{inl, inr, sym, ◌∙◌}
use Rattle.partition_table.proofs.search.find_either.Goals as goal

pub returns-in-Ok-read_table-clause-ok : goal.returns-in-Ok-read_table-clause-ok
returns-in-Ok-read_table-clause-ok g c = inr (record {
  mid = g.D.BlockDev.state c.read_table.new.device;
  small = record { fault = c.in-Err.fault; read = c.in-Err.ensures.read; none = c.in-Err.ensures.err };
  sure = sym c.may_hide_table.ensures ∙ c.if-may_hide_table.false;
  large = c.in-Ok-read_table.ensures.ok;
})

pub returns-in-Ok-clause-calls : goal.returns-in-Ok-clause-calls
returns-in-Ok-clause-calls g c = inl c.in-Ok.ensures.calls

pub returns-then-may_hide_table-clause-calls : goal.returns-then-may_hide_table-clause-calls
returns-then-may_hide_table-clause-calls g c = inl (sym c.may_hide_table.ensures ∙ c.if-may_hide_table.true, c.in-Err.ensures.calls)

pub returns-in-Ok-read_table-clause-calls : goal.returns-in-Ok-read_table-clause-calls
returns-in-Ok-read_table-clause-calls g c = inr (
  c.in-Err.fault,
  record {
    mid = c.read_table.new.device;
    first = c.in-Err.ensures.calls;
    sure = sym c.may_hide_table.ensures ∙ c.if-may_hide_table.false;
    second = c.in-Ok-read_table.ensures.calls;
  },
)

pub returns-in-Err-read_table-clause-calls : goal.returns-in-Err-read_table-clause-calls
returns-in-Err-read_table-clause-calls g c = inr (
  c.in-Err-read_table.field-0,
  record {
    mid = c.read_table.new.device;
    first = c.in-Err.ensures.calls;
    sure = sym c.may_hide_table.ensures ∙ c.if-may_hide_table.false;
    second = c.in-Err-read_table.ensures.calls;
  },
)
