use Rattle.std.proofs.Common.{string_bytes}
use Rattle.std.proofs.lemmas.Result.{IfOk-weaker}
use Rattle.serde_json.specs.View.{view}
use Rattle.canary_client_journal.proofs.LineLemmas.{written_text, written_read}
use Rattle.canary_client_journal.proofs.lines.written.Goals as goal

pub returns-clause-value : goal.returns-clause-value
returns-clause-value c =
    IfOk-weaker c.to_string.result _ _ (λ text h. written_text (string_bytes text) (view c.in_ok-value.value) c.args.entry.now c.in_ok-value.ensures.value h) c.to_string.ensures.text

pub returns-clause-read : goal.returns-clause-read
returns-clause-read c =
    IfOk-weaker c.to_string.result _ _ (λ text h. written_read (string_bytes text) (view c.in_ok-value.value) c.args.entry.now c.in_ok-value.ensures.value h) c.to_string.ensures.reads_back
