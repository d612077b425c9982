use Rattle.std.proofs.Common.{rules, ◌≡◌, [], ◌∷◌, ◌+◌, ◌++◌, List, drop, filter, ap, ◌∙◌}
use Rattle.canary_plan.specs.declared.analysis_parts.Revision.{Revision}
use Rattle.canary_plan.specs.Plans.{distinct}
use Rattle.canary_plan.proofs.Seen.{left}
use Rattle.canary_plan.proofs.Distinct.{is_unseen, at_first, first_one, later_one}
use Rattle.canary_plan.proofs.analysis_parts.distinct.Goals as goal
use Rattle.canary_plan.proofs.analysis_parts.distinct.Goals.{then-is_first+in_ok-push, else-is_first}

pub loop-revision-init : goal.loop-revision-init
loop-revision-init c = at_first c.of-found.result c.new-seen.result c.args.revisions.now (search rules) c.new-seen.ensures.len

pub loop-revision-preserved : goal.loop-revision-preserved
loop-revision-preserved c =
    let so_far : List Revision = c.loop-revision.found in
    let rest : List Revision = drop (c.loop-revision.revision-index + 1) c.args.revisions.now in
    let other = ap (λ (rs : List Revision). so_far ++ filter (is_unseen c.loop-revision.seen) (distinct rs)) (left c.args.revisions.now c.loop-revision.revision-index c.revision-item.result c.revision-item.is (search rules)) ∙ c.loop-revision.invariant in
    elim c.if-is_first.branch [
      | then-is_first+in_ok-push w ↦
          let found : c.if-is_first.found ≡ so_far ++ c.revision-item.result ∷ [] = search rules in
          ap (λ (xs : List Revision). xs ++ filter (is_unseen c.insert.new.self) (distinct rest)) found
          ∙ first_one so_far c.loop-revision.seen c.insert.new.self c.revision-item.result rest c.in_ok-is_first.ensures.updates.0 (search rules) ∙ other
      | else-is_first w ↦
          ap (λ (xs : List Revision). xs ++ filter (is_unseen c.insert.new.self) (distinct rest)) w.found-is
          ∙ later_one so_far c.loop-revision.seen c.insert.new.self c.revision-item.result rest c.in_ok-is_first.ensures.updates.0 (search rules) ∙ other
    ]
