-- Words that clap takes, and that leave unclear what is asked.
use Rattle.std.specs.Prelude.{◌&&◌, Bool, true, false, not, Option, Some, None, is_some, if◌then◌else◌}
use Rattle.canary_cli_words.specs.declared.unclear.Unclear.{Unclear as WhatIsUnclear}
use Rattle.canary_cli_words.specs.declared.unclear.Unclear.TheVariants.{Checked, Form, Kept}
use Rattle.canary_cli_words.specs.declared.words.Program.{Program}
use Rattle.canary_cli_words.specs.declared.words.Program.TheVariants.{Status, Backup, Check}

abbrev pub unclear_if : Bool → WhatIsUnclear → Option WhatIsUnclear
unclear_if is_so what = if is_so then Some what else None

-- both are true, or neither is
abbrev pub are_alike : Bool → Bool → Bool
are_alike true b = b
are_alike false b = not b

-- what the words of a program leave unclear, if they do: `check` takes one of two files, `status`
-- one of two forms, and `backup` the number of copies only with the seconds from one to the next
abbrev pub unclear_of : Program → Option WhatIsUnclear
unclear_of (Check file request strict) =
    unclear_if (are_alike (is_some file) (is_some request)) Checked
unclear_of (Status db watch json prometheus) = unclear_if (json && prometheus) Form
unclear_of (Backup db copy every keep) = unclear_if (not (is_some every) && is_some keep) Kept
unclear_of _ = None
