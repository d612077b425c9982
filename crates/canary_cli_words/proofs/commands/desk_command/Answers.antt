use Rattle.canary_cli_words.specs.CommandLine.{bare_desk}
use Rattle.canary_cli_words.proofs.commands.desk_command.Goals as goal

pub returns : goal.returns
returns c =
    let serving = c.with_serving_commands-desk.ensures bare_desk c.bare_desk.ensures in
    let history = c.with_history_commands-desk.ensures _ serving in
    let status = c.with_status_commands-desk.ensures _ history in
    let copies = c.with_copy_commands-desk.ensures _ status in
    let manifests = c.with_manifest_commands-desk.ensures _ copies in
    let asking = c.with_asking_commands-desk.ensures _ manifests in
    let waiting = c.with_waiting_commands-desk.ensures _ asking in
    c.with_agent_command.ensures _ waiting
