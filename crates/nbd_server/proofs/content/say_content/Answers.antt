use Rattle.std.proofs.Common.{◌≡◌, ◌<◌, ℕ, List, ◌+◌, ◌-◌, arith, drop, length, subst, sym, take}
use Rattle.nbd_server.specs.Content.{HaveData, TellsContent, TellsData, zero_block}
use Rattle.nbd_server.proofs.ContentLemmas.{rest-is, told-behind, told-zeros, writes-data, writes-one, writes-some}
use Rattle.nbd_server.proofs.content.say_content.Goals as goal

pub returns-then-front-bytes : goal.returns-then-front-bytes
returns-then-front-bytes g c =
    let front = c.zeros_before-front in
    writes-one g.W.Write.contents (TellsContent c.args.cookie c.args.last c.args.at c.args.bytes.now) c.args.writer.now c.say_hole.new.writer _ c.say_hole.result
    (told-zeros c.args.cookie c.args.last c.args.at front.result c.args.bytes.now c.requires.some front.ensures.zeros c.if-front-bytes.true) c.say_hole.ensures

pub say_from_data-requires-clause-some : goal.say_from_data-requires-clause-some
say_from_data-requires-clause-some g c =
    let front = c.zeros_before-front in
    let below : front.result < length c.args.bytes.now = omega (arith, front.ensures.inside, c.if-front-bytes.false) in
    let none : front.result ≡ 0 = omega (arith, c.if-front-eq0.true) in
    subst (λ (k : ℕ). HaveData (take zero_block (drop k c.args.bytes.now))) none (front.ensures.next below)

pub returns-then-front-eq0 : goal.returns-then-front-eq0
returns-then-front-eq0 g c =
    let front = c.zeros_before-front in
    let below : front.result < length c.args.bytes.now = omega (arith, front.ensures.inside, c.if-front-bytes.false) in
    let none : front.result ≡ 0 = omega (arith, c.if-front-eq0.true) in
    let begins = subst (λ (k : ℕ). HaveData (take zero_block (drop k c.args.bytes.now))) none (front.ensures.next below) in
    writes-data g.W.Write.contents c.args.cookie c.args.last c.args.at c.args.bytes.now c.args.writer.now c.say_from_data.new.writer c.say_from_data.result begins c.say_from_data.ensures

pub say_from_data-requires-2-clause-some : goal.say_from_data-requires-2-clause-some
say_from_data-requires-2-clause-some g c =
    let front = c.zeros_before-front in
    let below : front.result < length c.args.bytes.now = omega (arith, front.ensures.inside, c.if-front-bytes.false) in
    subst (λ (l : List ℕ). HaveData (take zero_block l)) (sym (rest-is c.args.bytes.now front.result)) (front.ensures.next below)

pub returns : goal.returns
returns g c =
    let front = c.zeros_before-front in
    let bytes = c.args.bytes.now in
    let below : front.result < length bytes = omega (arith, front.ensures.inside, c.if-front-bytes.false) in
    writes-some g.W.Write.contents (TellsContent c.args.cookie c.args.last c.args.at bytes) c.args.writer.now c.say_hole-2.new.writer c.say_from_data-2.new.writer _ c.in_ok-say_hole.ensures.ok c.in_ok-say_hole.ensures.kept
    (TellsData c.args.cookie c.args.last (c.args.at + front.result) (take (length bytes - front.result) (drop front.result bytes))) c.say_from_data-2.result
    (λ more holds. told-behind c.args.cookie c.args.last c.args.at front.result bytes front.ensures.inside more (omega (arith, c.if-front-eq0.false)) below front.ensures (subst (λ l. TellsData c.args.cookie c.args.last (c.args.at + front.result) l more) (rest-is bytes front.result) holds)) c.say_from_data-2.ensures
