-- What a program comes to whose words leave unclear what is asked.
use Rattle.std.proofs.Common.{◌≡◌, Some, Ok, refl}
use Rattle.canary_base.specs.Writes.{Known}
use Rattle.canary_cli_words.specs.declared.words.Program.{Program}
use Rattle.canary_cli_words.specs.declared.words.Program.TheVariants.{Pipe, Serve, Import, History, Export, Status, Page, Backup, Migrate, Succeed, Check, Argo, Ask}
use Rattle.canary_cli.specs.declared.perform.ProgramExit.TheVariants.{Unclear}
use Rattle.canary_cli_words.specs.declared.unclear.Unclear.{Unclear as WhatIsUnclear}
use Rattle.canary_cli_words.specs.Unclear.{unclear_of}
use Rattle.canary_cli.specs.Performed.{IsChecked, IsNoClient, IsRun}

not_checked : (what : WhatIsUnclear) (w : Known) → IsChecked w w (Ok (Unclear what))
not_checked what w done = cc

no_client : (what : WhatIsUnclear) → IsNoClient (Ok (Unclear what))
no_client what outcome asked = cc

-- nothing is read and nothing is written, which is how each of these programs may be run
pub unclear_run : (program : Program) (what : WhatIsUnclear) (r w : Known) → unclear_of program ≡ Some what → IsRun r r w w program (Ok (Unclear what))
unclear_run (Pipe at step db cache) what r w is = cc
unclear_run (Serve listen db cache connections limits) what r w is = cc
unclear_run (Import db cache csv) what r w is = cc
unclear_run (History db service) what r w is = cc
unclear_run (Export db caller service) what r w is = cc
unclear_run (Status db watch json prometheus) what r w is = refl
unclear_run (Page db out watch json) what r w is = cc
unclear_run (Backup db copy every keep) what r w is = refl
unclear_run (Migrate db dry_run) what r w is = cc
unclear_run (Succeed db new) what r w is = cc
unclear_run (Check file request strict) what r w is = (refl, not_checked what w, no_client what)
unclear_run (Argo files out json) what r w is = cc
unclear_run (Ask asked) what r w is = cc
