use Rattle.std.proofs.Common.{◌∙◌, sym, true≢false}
use Rattle.std.specs.Prelude.{decimal, ◌≢◌}
use Rattle.std.proofs.lemmas.Slice.Eq.{bytes_eq-Decides}
use Rattle.canary_plan.proofs.LineLemmas.{is_number, is_no_number, is_not_printed, fits}
use Rattle.canary_plan.proofs.line_words.read_number.Goals as goal

pub returns-in_err-number : goal.returns-in_err-number
returns-in_err-number c =
    c.from_residual.ensures ∙ is_no_number c.args.text.now c.parse.result c.parse.ensures.value.0 (sym c.ok.ensures.value ∙ c.in_err-number.was)

pub returns-then-eq : goal.returns-then-eq
returns-then-eq c =
    let same = (bytes_eq-Decides c.format.result.now c.args.text.now).0 (sym c.eq.ensures ∙ c.if-eq.true) in
    let low = fits c.args.text.now c.in_ok-number.number c.parse.result c.parse.ensures.value.0 (sym c.ok.ensures.value ∙ c.in_ok-number.was) in
    is_number c.args.text.now c.in_ok-number.number low (sym c.format.ensures.text ∙ same)

pub returns-else-eq : goal.returns-else-eq
returns-else-eq c =
    let other : decimal c.in_ok-number.number ≢ c.args.text.now = λ same. true≢false (sym ((bytes_eq-Decides c.format.result.now c.args.text.now).1 (c.format.ensures.text ∙ same)) ∙ sym c.eq.ensures ∙ c.if-eq.false) in
    is_not_printed c.args.text.now c.in_ok-number.number c.parse.result c.parse.ensures.value.0 (sym c.ok.ensures.value ∙ c.in_ok-number.was) other
