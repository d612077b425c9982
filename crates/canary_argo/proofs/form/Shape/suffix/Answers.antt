use Rattle.std.proofs.Common.{ℕ, ◌<◌, ◌^◌, refl, sym, subst, inr, rules}
use Rattle.std.specs.Fmt.{decimal}
use Rattle.canary_argo.specs.declared.form.Shape.{Shape}
use Rattle.canary_argo.specs.Labels.{shape_text, has_length}
use Rattle.canary_argo.proofs.Suffixes.{digits}
use Rattle.canary_decimal.specs.Endings.{IsShape}
use Rattle.canary_argo.proofs.form.Shape.suffix.Goals as goal

pub returns-in_ok-write-in-Several-clause-shape : goal.returns-in_ok-write-in-Several-clause-shape
returns-in_ok-write-in-Several-clause-shape c =
    let most : ℕ = c.in-Several.most in
    let fits : most < 2 ^ 64 = search rules in
    subst (λ (s : Shape). IsShape (has_length s) (shape_text s)) (sym c.in-Several.is) (inr (inr (decimal most, digits most fits, refl)))

pub returns-in_ok-write-in-Length-clause-shape : goal.returns-in_ok-write-in-Length-clause-shape
returns-in_ok-write-in-Length-clause-shape c =
    let most : ℕ = c.in-Length.most in
    let fits : most < 2 ^ 64 = search rules in
    subst (λ (s : Shape). IsShape (has_length s) (shape_text s)) (sym c.in-Length.is) (decimal most, digits most fits, refl)
