use Rattle.std.proofs.Common.{sym, subst, ap, ◌∙◌, string_bytes}
use Rattle.canary_client_records.specs.Texts.{HasNoLf}
use Rattle.canary_client_journal.specs.Lines.{entry_in}
use Rattle.canary_client_journal.proofs.LineLemmas.{line_read}
use Rattle.canary_client_journal.proofs.OneLine.{one_line}
use Rattle.canary_client_journal.proofs.lines.line.Goals as goal

pub returns-clause-back : goal.returns-clause-back
returns-clause-back c =
    let written = c.in_ok-written.ensures in
    ap entry_in c.of.ensures ∙ line_read (string_bytes c.in_ok-written.field-0) c.args.entry.now written.kept written.read written.value

pub returns-clause-one : goal.returns-clause-one
returns-clause-one c =
    let written = c.in_ok-written.ensures in
    subst HasNoLf (sym (c.of.ensures ∙ written.value)) (one_line c.args.entry.now written.kept)
