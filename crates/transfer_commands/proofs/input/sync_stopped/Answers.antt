use Rattle.transfer_commands.proofs.StoreLemmas.{sync-tried}
use Rattle.transfer_commands.proofs.input.sync_stopped.Goals as goal

pub returns : goal.returns
returns g c =
    let did = c.sync-synced.ensures in
    sync-tried c.args.stack.now c.sync-synced.new.self c.sync-synced.result did.config did.capacity did.kept did.ok did.err
