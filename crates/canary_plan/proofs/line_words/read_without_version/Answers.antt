use Rattle.canary_plan.proofs.LineLemmas.{no_event}
use Rattle.canary_plan.proofs.line_words.read_without_version.Goals as goal

pub returns-in_default : goal.returns-in_default
returns-in_default c =
    let other = c.in_default in
    no_event c.args.word.now c.args.rest.now other.not-background other.not-abort other.not-step other.not-run other.not-hold other.not-promote
