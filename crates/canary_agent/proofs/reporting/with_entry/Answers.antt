use Rattle.std.proofs.Common.{rules, ◌≡◌, inr, Option, IfSome, subst, [], ◌∷◌, ◌++◌}
use Rattle.canary_plan.specs.declared.report.Entry.{Entry}
use Rattle.canary_agent.specs.Reports.{IsEntryOf}
use Rattle.canary_agent.proofs.reporting.with_entry.Goals as goal

pub returns-clause-entries : goal.returns-clause-entries
returns-clause-entries c =
    let made : IsEntryOf c.args.served.now c.args.taken.now c.in-Some.entry =
    subst (λ (made : Option Entry). IfSome made (IsEntryOf c.args.served.now c.args.taken.now)) c.in-Some.is c.in_ok-entry.ensures in
    let pushed : c.push.new.self ≡ c.args.entries ++ c.in-Some.entry ∷ [] = search rules in
    inr (c.in-Some.entry, made, pushed)
