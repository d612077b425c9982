use Rattle.std.proofs.Common.{◌≡◌, List, true, false, sym, ap, ◌∙◌}
use Rattle.canary_release.specs.declared.runs.OpenRun.{OpenRun}
use Rattle.canary_release.specs.Parts.{is_broken}
use Rattle.canary_tables_adopt.proofs.one_service.service.judge_parts.Goals as goal

pub returns-then-is_broken-clause-refused : goal.returns-then-is_broken-clause-refused
returns-then-is_broken-clause-refused c same is =
    let bad : true ≡ false = sym c.if-is_broken.true ∙ c.is_broken.ensures ∙ ap (λ (rs : List OpenRun). is_broken (record { service = c.args.service; runs = record { count = c.args.count; open_runs = rs } })) c.in_ok-open_runs.ensures ∙ is in
    cc

pub returns-clause-judged : goal.returns-clause-judged
returns-clause-judged c = ap (λ (rs : List OpenRun). is_broken (record { service = c.args.service; runs = record { count = c.args.count; open_runs = rs } })) (sym c.in_ok-open_runs.ensures) ∙ sym c.is_broken.ensures ∙ c.if-is_broken.false
