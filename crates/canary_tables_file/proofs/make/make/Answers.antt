use Rattle.std.specs.Prelude.{IsTrue, Result, Ok, Err, IfOk, MatchResult}
use Rattle.std.proofs.Common.{◌≡◌, ◌∙◌, sym, subst, subst₂, rules}
use Rattle.std.proofs.lemmas.Result.{IfOk-weaker}
use Rattle.sqlite_wal.specs.Reads.{AreClean}
use Rattle.sqlite_store.specs.FileStore.{state, view, schema_of, IsReady}
use Rattle.sqlite_store.specs.Unopened.{state_of, wanted_by, Creates}
use Rattle.sqlite_wal.specs.Files.{seen_image}
use Rattle.canary_tables_file.specs.Found.{HoldNothing}
use Rattle.canary_tables_file.proofs.Connected.{clean_files, clean_pool}
use Rattle.canary_tables_file.proofs.Made.{holds_nothing}
use Rattle.canary_tables_file.proofs.make.make.Goals as goal

-- what holds of a result if it is there, where its error alone is exchanged
of_made : {A E : Type 0} (D : Type 0) (r : Result A E) (x : A) (P : A → Type 0) → MatchResult r (λ y. (let s : Result A D = Ok x in s) ≡ Ok y) (λ e. ⊥) → IfOk r P → P x
of_made D (Ok y) x P same is = let one : y ≡ x = cc in subst P one is
of_made D (Err e) x P never is = absurd never

pub returns-in-Ok-clause-clean : goal.returns-in-Ok-clause-clean
returns-in-Ok-clause-clean g c =
    let made = c.in-Ok.store in
    let before = c.in_ok-unopened.unopened in
    let old = c.args.files in
    let new = c.close.result in
    let honest : IsTrue (state made).is_clean → IsTrue (state_of before).is_clean = search rules in
    IfOk-weaker c.usable.result _ _ (λ files same clean.
    clean_pool before.pool old.log old.db c.in_ok-unopened.ensures.files (honest (clean_files made.pool new.log new.db (sym c.close.ensures) (subst₂ (AreClean g.D.Disk) same.0 same.1 clean))))
    c.usable.ensures.same

pub returns-in-Ok-clause-made : goal.returns-in-Ok-clause-made
returns-in-Ok-clause-made g c =
    let made = c.in-Ok.store in
    let new = c.close.result in
    let ready : IsReady made = search rules in
    let numbered : IsTrue (view made).is_numbered = search rules in
    let before = c.in_ok-unopened.unopened in
    let kept = of_made _ c.create.result made (λ it. IsTrue (state it).is_clean → Creates before (state it)) c.in-Ok.ensures.cases c.create.ensures.kept in
    let small : IsTrue (state made).is_clean → (state made).page_size ≡ 512 = λ clean. (kept clean).size ∙ c.in_ok-unopened.ensures.size ∙ c.new_size.ensures in
    let schema : schema_of made ≡ wanted_by before = search rules in
    IfOk-weaker c.usable.result _ _ (λ files same clean.
    let is = clean_files made.pool new.log new.db (sym c.close.ensures) (subst₂ (AreClean g.D.Disk) same.0 same.1 clean) in
    subst₂ (λ log db. ∥ HoldNothing (seen_image g.D.Disk log db) ∥₁) (sym same.0) (sym same.1)
    (holds_nothing g.met.D.Disk.seen_may_stay made new.log new.db c.close.ensures ready numbered (small is) (schema ∙ c.in_ok-unopened.ensures.none) is))
    c.usable.ensures.same
