use Rattle.std.proofs.Common.{rules, ◌≡◌, ◌∙◌, Err, ap, inl, inr, refl, subst}
use Rattle.canary_wire.specs.declared.serve.ServeFault.TheVariants.{Memory as NoMemory}
use Rattle.canary_programs.specs.declared.fault.Fault.TheVariants.{Memory}
use Rattle.canary_cli_words.specs.declared.words.Program.TheVariants.{Check}
use Rattle.canary_cli_words.specs.Unclear.{unclear_of}
use Rattle.canary_cli.specs.Performed.{IsRunTo}
use Rattle.canary_cli.proofs.Checked.{written}
use Rattle.canary_cli.proofs.TurnedAway.{only_memory}
use Rattle.canary_cli.proofs.perform.perform.Goals as goal

pub returns-in-Err-clause-piped : goal.returns-in-Err-clause-piped
returns-in-Err-clause-piped g c at step cache none is =
    let told = only_memory _ c.in-Err.fault _ _ _ none c.in-Err.ensures.fault c.turn_away.ensures.told in
    (Err Memory, told.0, (Err NoMemory, refl, (refl, told.1)))

pub returns-in-Ok-clause-checked : goal.returns-in-Ok-clause-checked
returns-in-Ok-clause-checked g c file request strict none is done =
    let same : c.in-Ok.program ≡ Check file request strict = search rules in
    let ran = subst (λ p. IsRunTo (g.R.Read.remaining c.args.input.now) (g.R.Read.remaining c.run_placed.new.input) (g.W.Write.contents c.args.output.now) (g.W.Write.contents c.run_placed.new.output) p c.run_placed.result) same c.run_placed.ensures.ran in
    written _ _ _ _ file request strict c.run_placed.result ran done

pub returns-in-Ok-clause-unclear : goal.returns-in-Ok-clause-unclear
returns-in-Ok-clause-unclear g c program what none is unclear =
    let same : c.in-Ok.program ≡ program = search rules in
    let left = c.run_placed.ensures.unclear what (ap unclear_of same ∙ unclear) in
    (inl left.0, left.1, ap g.W.Write.contents left.2)

pub returns-in-Err-clause-unclear : goal.returns-in-Err-clause-unclear
returns-in-Err-clause-unclear g c program what none is unclear =
    let told = only_memory _ c.in-Err.fault _ _ _ none c.in-Err.ensures.fault c.turn_away.ensures.told in
    (inr told.0, refl, told.1)
