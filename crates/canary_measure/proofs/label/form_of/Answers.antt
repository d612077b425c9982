use Rattle.std.proofs.Common.{◌≡◌, ℕ, ◌+◌, List, Some, None, length, drop, sym, ap, ◌∙◌}
use Rattle.canary_argo.specs.declared.form.Form.{Form}
use Rattle.canary_argo.specs.Labels.{units_of}
use Rattle.canary_measure.specs.Labelled.{IsLabelIn, front_of, shape_in}
use Rattle.canary_measure.proofs.Forms.{label_of, form_found, form_missing}
use Rattle.canary_measure.proofs.label.form_of.Goals as goal

pub returns-in_err-shown : goal.returns-in_err-shown
returns-in_err-shown c =
    let label = c.args.label.now in
    let none : (name : List ℕ) (form : Form) → IsLabelIn label name form → ⊥ = λ name form l. c.in_err-shown.ensures name (units_of form) (label_of label name form l) in
    rw c.from_residual.ensures none

pub returns-in_err-shape : goal.returns-in_err-shape
returns-in_err-shape c =
    let label = c.args.label.now in
    let shown = c.in_ok-shown.shown in
    let text = c.behind.result.now in
    let at : text ≡ drop (length shown.name.now + length (front_of shown.units)) label = c.behind.ensures ∙ ap (λ (n : ℕ). drop (length shown.name.now + n) c.as_bytes.result.now) c.front_len.ensures.value ∙ ap (drop (length shown.name.now + length (front_of shown.units))) c.as_bytes.ensures.value in
    let nothing : shape_in text ≡ None = sym c.shape_of.ensures ∙ c.in_err-shape.was in
    let none : (name : List ℕ) (form : Form) → IsLabelIn label name form → ⊥ = form_missing c.one_ending.ensures label shown.name.now text shown.units c.in_ok-shown.ensures at nothing in
    rw c.from_residual-in_err-shape.ensures none

pub returns : goal.returns
returns c =
    let label = c.args.label.now in
    let shown = c.in_ok-shown.shown in
    let text = c.behind.result.now in
    let at : text ≡ drop (length shown.name.now + length (front_of shown.units)) label = c.behind.ensures ∙ ap (λ (n : ℕ). drop (length shown.name.now + n) c.as_bytes.result.now) c.front_len.ensures.value ∙ ap (drop (length shown.name.now + length (front_of shown.units))) c.as_bytes.ensures.value in
    let found : shape_in text ≡ Some c.in_ok-shape.shape = sym c.shape_of.ensures ∙ c.in_ok-shape.was in
    form_found label shown.name.now text shown.units c.in_ok-shape.shape c.in_ok-shown.ensures at found
