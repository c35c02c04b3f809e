use Rattle.std.proofs.Common.{refl}
use Rattle.command_line.proofs.invocation.with_bindings.Goals as goal

pub returns-in-Load : goal.returns-in-Load
returns-in-Load c = rw c.in-Load.is refl

pub returns-in-Read : goal.returns-in-Read
returns-in-Read c = rw c.in-Read.is refl

pub returns-in-Write : goal.returns-in-Write
returns-in-Write c = rw c.in-Write.is refl

pub returns-in-Session : goal.returns-in-Session
returns-in-Session c = rw c.in-Session.is refl

pub returns-in-Nbd : goal.returns-in-Nbd
returns-in-Nbd c = rw c.in-Nbd.is refl

pub returns-in-Exports : goal.returns-in-Exports
returns-in-Exports c = rw c.in-Exports.is refl

pub returns-in-Scan : goal.returns-in-Scan
returns-in-Scan c = rw c.in-Scan.is refl

pub returns-in-Copy : goal.returns-in-Copy
returns-in-Copy c = rw c.in-Copy.is refl

pub returns-in-Cat : goal.returns-in-Cat
returns-in-Cat c = rw c.in-Cat.is refl

pub returns-in-Store : goal.returns-in-Store
returns-in-Store c = rw c.in-Store.is refl

pub returns-in-Format : goal.returns-in-Format
returns-in-Format c = rw c.in-Format.is refl

pub returns-in-Verify : goal.returns-in-Verify
returns-in-Verify c = rw c.in-Verify.is refl

pub returns-in-Dump : goal.returns-in-Dump
returns-in-Dump c = rw c.in-Dump.is refl

pub returns-in-Table : goal.returns-in-Table
returns-in-Table c = rw c.in-Table.is refl

pub returns-in-Partitions : goal.returns-in-Partitions
returns-in-Partitions c = rw c.in-Partitions.is refl

pub returns-in-Diff : goal.returns-in-Diff
returns-in-Diff c = rw c.in-Diff.is refl

pub returns-in-Repair : goal.returns-in-Repair
returns-in-Repair c = rw c.in-Repair.is refl

pub returns-in-Update : goal.returns-in-Update
returns-in-Update c = rw c.in-Update.is refl

pub returns-in-Assemble : goal.returns-in-Assemble
returns-in-Assemble c = rw c.in-Assemble.is refl

pub returns-in-VerifyTree : goal.returns-in-VerifyTree
returns-in-VerifyTree c = rw c.in-VerifyTree.is refl

pub returns-in-TableTree : goal.returns-in-TableTree
returns-in-TableTree c = rw c.in-TableTree.is refl

pub returns-in-FormatFec : goal.returns-in-FormatFec
returns-in-FormatFec c = rw c.in-FormatFec.is refl

pub returns-in-VerifyFec : goal.returns-in-VerifyFec
returns-in-VerifyFec c = rw c.in-VerifyFec.is refl

pub returns-in-TableFec : goal.returns-in-TableFec
returns-in-TableFec c = rw c.in-TableFec.is refl

pub returns-in-Manual : goal.returns-in-Manual
returns-in-Manual c = rw c.in-Manual.is refl
