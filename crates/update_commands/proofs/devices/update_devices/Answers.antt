use Rattle.std.proofs.Common.{IsTrue, inl, inr, map, refl, subst, sym}
use Rattle.std.proofs.lemmas.Result.{IfErr-weaker, on_ok_weaker}
use Rattle.update_commands.proofs.UpdateLemmas.{allowed-cleared, allowed-read}
use Rattle.update_commands.proofs.devices.update_devices.Goals as goal

pub begin-requires : goal.begin-requires
begin-requires g c = subst IsTrue (sym c.list_all-lists.ensures.hash_read.same.may_write) (c.requires.hash_writable refl)

pub update_begun-requires : goal.update_begun-requires
update_begun-requires g c =
    let d = g.D.BlockDev.state c.args.target.data_dev in
    let looked = g.H.BlockDev.state c.list_all-lists.new.hash_dev in
    allowed-cleared d looked (g.H.BlockDev.state c.begin.new.hash_dev) c.in-Ok.ensures.ok.cleared (allowed-read d (g.H.BlockDev.state c.args.target.hash_dev) looked c.list_all-lists.ensures.hash_read c.requires)

pub returns-in-Ok-clause-ok : goal.returns-in-Ok-clause-ok
returns-in-Ok-clause-ok g c =
    on_ok_weaker c.update_begun.result.2
    (λ updates. record {
      looked = g.H.BlockDev.state c.list_all-lists.new.hash_dev;
      seen = map g.C.BlockDev.state c.list_all-lists.new.hash_copies.items;
      cleared = g.H.BlockDev.state c.begin.new.hash_dev;
      left = ((c.list_all-lists.new.hash_dev, refl), (c.begin.new.hash_dev, refl));
      lists = c.list_all-lists.ensures;
      begins = c.in-Ok.ensures.ok;
      updates = updates;
    })
    c.update_begun.ensures.ok

pub returns-in-Ok-clause-err : goal.returns-in-Ok-clause-err
returns-in-Ok-clause-err g c =
    IfErr-weaker c.update_begun.result.2 _ _
    (λ fault ends. inr (record {
      looked = g.H.BlockDev.state c.list_all-lists.new.hash_dev;
      seen = map g.C.BlockDev.state c.list_all-lists.new.hash_copies.items;
      cleared = g.H.BlockDev.state c.begin.new.hash_dev;
      left = ((c.list_all-lists.new.hash_dev, refl), (c.begin.new.hash_dev, refl));
      lists = c.list_all-lists.ensures;
      begins = c.in-Ok.ensures.ok;
      ends = ends;
    }))
    c.update_begun.ensures.err

pub returns-clause-err : goal.returns-clause-err
returns-clause-err g c = inl (record { looked = g.H.BlockDev.state c.list_all-lists.new.hash_dev; seen = map g.C.BlockDev.state c.list_all-lists.new.hash_copies.items; left = (c.list_all-lists.new.hash_dev, refl); lists = c.list_all-lists.ensures; unbegun = c.in-Err.ensures.err; data_is = refl; quiet = refl })
