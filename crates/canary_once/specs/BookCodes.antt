-- The codes of a desk and of contents, by which proofs distinguish such values.
use Rattle.std.specs.Prelude.{List, refl}
use Rattle.std.specs.Ordering.{nat_cmp}
use Rattle.std.specs.Cmp.Lexicographic.{slice_cmp}
use Rattle.std.specs.FinMap.{FinMap, code}
use Rattle.std.specs.Coded.{Coded, code_by, coded×, coded_ℕ, coded_list}
use Rattle.canary_plan.specs.contracts.template.Template as template
use Rattle.canary_release.specs.Desks.{ModelService, RevisionMap, Desk}
use Rattle.canary_once.specs.declared.book.Receipt.{Receipt}
use Rattle.canary_once.specs.contracts.book.Receipt as receipt
use Rattle.canary_once.specs.Contents.{Contents}
use Rattle.canary_once.specs.ServiceCodes.{service_code}

abbrev pub map_code : {X : Type 0} → Coded X → Coded (FinMap (slice_cmp nat_cmp) X)
map_code x = code (coded_list coded_ℕ) x

-- each is coded as the pair of its fields

abbrev pub desk_code : Coded Desk
desk_code =
    code_by (RevisionMap × FinMap (slice_cmp nat_cmp) ModelService)
    (coded× (map_code (coded_list template.the_row.coded)) (map_code service_code))
    (λ d. (d.templates, d.services))
    (λ p. record { templates = p.0; services = p.1 })
    (λ _. refl)

abbrev pub contents_code : Coded Contents
contents_code =
    code_by (FinMap (slice_cmp nat_cmp) (List Receipt) × Desk)
    (coded× (map_code (coded_list receipt.the_row.coded)) desk_code)
    (λ c. (c.callers, c.desk))
    (λ p. record { callers = p.0; desk = p.1 })
    (λ _. refl)
