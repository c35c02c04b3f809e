use Rattle.std.proofs.Common.{◌≡◌, ◌≤◌, ◌-◌, ap, arith, length, refl, ◌∙◌, drop}
use Rattle.nbd_server.specs.Content.{HaveData, TellsData, zero_block}
use Rattle.nbd_server.proofs.ContentLemmas.{before-data, front-data, none-behind, told-before, told-data, writes-one, writes-two, zeros}
use Rattle.nbd_server.proofs.content.say_from_data.Goals as goal

pub returns-then-behind-eq0 : goal.returns-then-behind-eq0
returns-then-behind-eq0 g c =
    let bytes = c.args.bytes.now in
    let some : HaveData bytes = front-data bytes zero_block c.requires.some in
    let ends = none-behind bytes c.zeros_behind-behind.result (omega (arith, c.if-behind-eq0.true)) c.zeros_behind-behind.ensures in
    writes-one g.W.Write.contents (TellsData c.args.cookie c.args.last c.args.at bytes) c.args.writer.now c.say_data.new.writer _ c.say_data.result (told-data c.args.cookie c.args.last c.args.at bytes some ends) c.say_data.ensures

pub returns : goal.returns
returns g c =
    let bytes = c.args.bytes.now in
    let back = c.zeros_behind-behind in
    let behind = back.result in
    let size = length bytes - behind in
    let within : size ≤ length bytes = omega arith in
    let left : behind ≡ length bytes - size = omega (arith, back.ensures.inside) in
    let is : drop size bytes ≡ zeros (length bytes - size) = back.ensures.zeros ∙ ap zeros left in
    let some : HaveData bytes = front-data bytes zero_block c.requires.some in
    writes-two g.W.Write.contents (TellsData c.args.cookie c.args.last c.args.at bytes) c.args.writer.now c.say_data-2.new.writer c.say_hole.new.writer _ c.in_ok-say_data.ensures.ok c.in_ok-say_data.ensures.kept _ c.say_hole.result
    (told-before c.args.cookie c.args.last c.args.at size bytes within behind (omega (arith, c.if-behind-eq0.false)) refl back.ensures (before-data bytes size within is some)) c.say_hole.ensures
