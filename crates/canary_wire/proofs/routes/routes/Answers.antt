use Rattle.std.proofs.Common.{◌≡◌, [], ◌∷◌, refl, rules}
use Rattle.matchit.proofs.OnLiterals.{matchit_on_literals}
use Rattle.matchit.specs.declared.error.InsertError.TheVariants.{OutOfMemory}
use Rattle.canary_wire.specs.Routes.{the_rows, request_row, service_row, history_row, request_pattern, service_pattern, history_pattern, run_pattern}
use Rattle.canary_wire.proofs.RouteLemmas.{takes}
use Rattle.canary_wire.proofs.routes.routes.Goals as goal

pub returns-clause-ok : goal.returns-clause-ok
unfolding matchit_on_literals the_rows
returns-clause-ok c = rw (c.in_ok-insert-4.ensures.1, c.in_ok-insert-3.ensures.1, c.in_ok-insert-2.ensures.1, c.in_ok-insert.ensures.1, c.new-router.ensures) refl

pub returns-in_err-insert-clause-err : goal.returns-in_err-insert-clause-err
unfolding matchit_on_literals the_rows
returns-in_err-insert-clause-err c =
    let only : c.in_err-insert.field-0.0 ≡ OutOfMemory = takes request_pattern [] c.in_err-insert.field-0.0 refl (rw c.new-router.ensures at c.in_err-insert.ensures.1) in
    search (rules, only)

pub returns-in_err-insert-2-clause-err : goal.returns-in_err-insert-2-clause-err
unfolding matchit_on_literals the_rows
returns-in_err-insert-2-clause-err c =
    let only : c.in_err-insert-2.field-0.0 ≡ OutOfMemory = takes service_pattern (request_row ∷ []) c.in_err-insert-2.field-0.0 refl (rw (c.in_ok-insert.ensures.1, c.new-router.ensures) at c.in_err-insert-2.ensures.1) in
    search (rules, only)

pub returns-in_err-insert-3-clause-err : goal.returns-in_err-insert-3-clause-err
unfolding matchit_on_literals the_rows
returns-in_err-insert-3-clause-err c =
    let only : c.in_err-insert-3.field-0.0 ≡ OutOfMemory = takes history_pattern (request_row ∷ service_row ∷ []) c.in_err-insert-3.field-0.0 refl (rw (c.in_ok-insert-2.ensures.1, c.in_ok-insert.ensures.1, c.new-router.ensures) at c.in_err-insert-3.ensures.1) in
    search (rules, only)

pub returns-in_err-insert-4-clause-err : goal.returns-in_err-insert-4-clause-err
unfolding matchit_on_literals the_rows
returns-in_err-insert-4-clause-err c =
    let only : c.in_err-insert-4.field-0.0 ≡ OutOfMemory = takes run_pattern (request_row ∷ history_row ∷ service_row ∷ []) c.in_err-insert-4.field-0.0 refl (rw (c.in_ok-insert-3.ensures.1, c.in_ok-insert-2.ensures.1, c.in_ok-insert.ensures.1, c.new-router.ensures) at c.in_err-insert-4.ensures.1) in
    search (rules, only)
