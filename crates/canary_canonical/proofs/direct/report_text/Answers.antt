use Rattle.std.proofs.Common.{◌∙◌, ◌++◌, ◌≡◌, codes, decimal, string_bytes, false, map}
use Rattle.serde_json.specs.View.{items_of}
use Rattle.serde_json.specs.Written.{items_text}
use Rattle.canary_canonical.specs.Texts.{entry_data}
use Rattle.canary_canonical.proofs.Pieces.{report_form, name_plain, of_both}
use Rattle.canary_canonical.proofs.direct.report_text.Goals as goal

pub returns-clause-value : goal.returns-clause-value
returns-clause-value c =
    let report = c.args.report.now in
    let front = codes "{\"report\":{\"entries\":[" in
    let end = codes ",\"run\":" ++ (decimal report.run ++ (codes ",\"service\":\"" ++ (report.service ++ codes "\"}}"))) in
    let begun : string_bytes c.in_ok-text-2.text ≡ front ++ items_text false (items_of (map entry_data report.entries)) =
    c.in_ok-text-2.ensures.value ∙ (λ i. c.in_ok-text.ensures i ++ items_text false (items_of (map entry_data (c.as_slice-entries.ensures i)))) in
    of_both c.with_end.result _ _ _ (λ text h is. h ∙ (λ i. begun i ++ end) ∙ report_form report (name_plain report.service is)) c.with_end.ensures.value c.with_end.ensures.kept
