use Rattle.std.proofs.Common.{ℕ, ap, inl, inr, refl}
use Rattle.std.proofs.Math.Path.{subst₃}
use Rattle.std.proofs.lemmas.Result.{IfErr-weaker, on_ok_weaker}
use Rattle.block_device.specs.Device.{Device}
use Rattle.image_commands.specs.Places.{IsPartState}
use Rattle.image_commands.specs.Verifying.{IsMatchingEnd, MatchesSought}
use Rattle.image_commands.proofs.FindingLemmas.{matching-as}
use Rattle.image_commands.proofs.verifying.verify_images.Goals as goal

pub returns-then-not-may_seek-clause-err : goal.returns-then-not-may_seek-clause-err
returns-then-not-may_seek-clause-err g c = inl (record { unaligned = cc (c.if-not-may_seek.ensures); is = refl; same = refl })

pub returns-clause-ok : goal.returns-clause-ok
returns-clause-ok g c =
    let watched = c.watch-devices in
    let state = g.I.Dev.BlockDev.state in
    let old = g.W.Write.contents c.args.writer.now.inner in
    let new = g.W.Write.contents c.compare_behind.new.writer.inner in
    on_ok_weaker c.compare_behind.result
    (λ matches. record {
      two = c.in_ok-two.two;
      aligned = cc (c.if-not-may_seek.ensures);
      opened = c.in_ok-two.ensures.ok;
      matches = subst₃ (λ (d h : Device) (end : ℕ). MatchesSought (IsPartState state) (IsPartState state) d h end c.args.watched.places.hash_first c.args.sought.now old new) (ap state watched.ensures.data) (ap state watched.ensures.hash) c.data_end-end.ensures (record {
        tree = matches.tree;
        read_dev = matches.read_dev;
        data_dev' = matches.data_dev';
        hash_dev' = matches.hash_dev';
        left = (matches.left.0, (matches.left.1.0.inner, matches.left.1.1), matches.left.2);
        stated = matches.stated;
        found = matches.found;
        printed = matches.printed;
      });
    })
    c.compare_behind.ensures.ok

pub returns-clause-err : goal.returns-clause-err
returns-clause-err g c =
    let watched = c.watch-devices in
    let state = g.I.Dev.BlockDev.state in
    IfErr-weaker c.compare_behind.result _ _
    (λ fault ends. inr (inr (record {
      two = c.in_ok-two.two;
      opened = c.in_ok-two.ensures.ok;
      ends = subst₃ (λ (d h : Device) (end : ℕ). IsMatchingEnd (IsPartState state) (IsPartState state) d h end c.args.watched.places.hash_first c.args.sought.now c.compare_behind.new.writer.failed fault) (ap state watched.ensures.data) (ap state watched.ensures.hash) c.data_end-end.ensures
          (matching-as ends (λ device left. (left.0.inner, left.1)));
    })))
    c.compare_behind.ensures.err
