use Rattle.std.proofs.Common.{◌∙◌, sym, ap, Some}
use Rattle.std.proofs.lemmas.Option.{none-some, same_Some}
use Rattle.canary_plan.specs.declared.line.LineEvent.{LineEvent}
use Rattle.canary_plan.specs.Lines.{line_at}
use Rattle.canary_plan.specs.LineReading.{event_of}
use Rattle.canary_plan.proofs.LineLemmas.{event_again, event_found}
use Rattle.canary_plan.proofs.line.Line.read.Goals as goal

pub returns-in_err-event-clause-complete : goal.returns-in_err-event-clause-complete
returns-in_err-event-clause-complete c = λ event h same.
    absurd (none-some event (sym c.in_err-event.was ∙ c.read_event.ensures ∙ ap event_of (sym same) ∙ event_again event h))

pub returns-clause-sound : goal.returns-clause-sound
returns-clause-sound c = event_found c.args.text.now c.in_ok-event.event (sym c.read_event.ensures ∙ c.in_ok-event.was)

pub returns-clause-complete : goal.returns-clause-complete
returns-clause-complete c = λ event h same.
    let found = same_Some c.in_ok-event.event event (sym c.in_ok-event.was ∙ c.read_event.ensures ∙ ap event_of (sym same) ∙ event_again event h) in
    ap (λ (e : LineEvent). Some (line_at c.args.moment e)) found
