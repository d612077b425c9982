-- The tallies and the rows of binding of the runs that are left.
use Rattle.std.proofs.Common.{◌≡◌, ℕ, ◌+◌, ◌<◌, List, length, drop, get_or, sym, ap, ◌∙◌}
use Rattle.std.specs.List.{sum_by}
use Rattle.std.proofs.lemmas.List.Sums.{sum_by-drop_more}
use Rattle.canary_plan.specs.Plans.{distinct}
use Rattle.canary_once.specs.declared.record.RunRecord.{RunRecord}

pub tallies_left : (runs : List RunRecord) (i : ℕ) (r : RunRecord) → i < length runs → r ≡ get_or runs i r → sum_by (λ (x : RunRecord). length x.tallies) (drop i runs) ≡ length r.tallies + sum_by (λ (x : RunRecord). length x.tallies) (drop (i + 1) runs)
tallies_left runs i r below at =
    sum_by-drop_more (λ (x : RunRecord). length x.tallies) runs i r below ∙ ap (λ (x : RunRecord). length x.tallies + sum_by (λ (x : RunRecord). length x.tallies) (drop (i + 1) runs)) (sym at)

abbrev bindings_of : RunRecord → ℕ
bindings_of r = length (distinct r.analysis.revisions)

pub bindings_left : (runs : List RunRecord) (i : ℕ) (r : RunRecord) → i < length runs → r ≡ get_or runs i r → sum_by bindings_of (drop i runs) ≡ length (distinct r.analysis.revisions) + sum_by bindings_of (drop (i + 1) runs)
bindings_left runs i r below at =
    sum_by-drop_more bindings_of runs i r below ∙ ap (λ (x : RunRecord). bindings_of x + sum_by bindings_of (drop (i + 1) runs)) (sym at)
