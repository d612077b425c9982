-- A query leaves the database as it is, whatever tables there are and whatever it answers.
use Rattle.std.proofs.Common.{◌≡◌, ◌⊎◌, if◌then◌else◌, inl, inr, ℕ, List, Bool, true, false, Vec, Global, Option, Some, None, Ok, Err, Result, IfOk, IfErr, IsTrue, is_some, ◌&&◌, refl, sym, ap, subst, ◌∙◌, arith}
use Rattle.std.proofs.lemmas.Bool.{false≢true}
use Rattle.sqlite_ast.specs.declared.Statement.{Statement}
use Rattle.sqlite_ast.specs.declared.Statement.TheVariants as written
use Rattle.sqlite_syntax.specs.declared.statement.Parsed.{Parsed}
use Rattle.sqlite_resolve.specs.declared.compiled.Compiled.{Compiled}
use Rattle.sqlite_resolve.specs.declared.error.CompileError.{CompileError}
use Rattle.sqlite_resolve.specs.declared.error.CompileError.TheVariants.{NoSuchTable}
use Rattle.sqlite_schema.specs.declared.command.Command.{Command}
use Rattle.sqlite_resolve.specs.Lowering.{Checked, and_then}
use Rattle.sqlite_resolve.specs.Compile.{first, compiled, planned, meaning, command, returning, timed, with_command}
use Rattle.sqlite.specs.Schema.{Schema}
use Rattle.sqlite.specs.Order.{Row}
use Rattle.sqlite.specs.declared.error.Error.{Error}
use Rattle.sqlite.specs.Clock.{timed as at_time}
use Rattle.sqlite.specs.State.{State, HasCleanDisk, Survives, Shown, ShowsRows, FailsToQuery, FailsToShow, IsNotRun, IsUnchanged, IsRolledBack, IsTooLate}
use Rattle.sqlite.specs.Listing.{understood, reads_listing, if_select, is_select, listing_schema}
use Rattle.canary_tables_schema.specs.Stores.{IsUsable}
use Rattle.canary_tables_read.specs.Queries.{IsQuery, IsSelect, ParsesAsSelect}
use Rattle.canary_tables_read.specs.Finds.{IsSame}
use Rattle.canary_tables_read.specs.Reader.{IsKept, seen_inside}

-- what a text comes to returns nothing of a write
abbrev ReturnsNothing : Result Compiled CompileError → Type 0
ReturnsNothing (Ok c) = c.returning ≡ None
ReturnsNothing (Err e) = Unit {0}

planned_as : (p : Parsed) (formats : List (List ℕ)) (r : Checked Command) → ReturnsNothing (and_then (and_then (and_then r (λ c. Ok (c, None))) (λ found. Ok (formats, found))) (λ plan. Ok (with_command p plan)))
planned_as p formats (Ok c) = refl
planned_as p formats (Err e) = tt

planned_plain : (schema : Schema) (p : Parsed) (s : Statement) → IsSelect s → p.statement ≡ s → ReturnsNothing (and_then (planned schema p) (λ plan. Ok (with_command p plan)))
unfolding planned meaning returning
planned_plain schema p (written.Select s) h is = rw is (planned_as p (timed schema p.formats (written.Select s)) (command schema p.formats _ (written.Select s)))
planned_plain schema p s h is = absurd h

compiled_plain : (schema : Schema) (r : Checked Parsed) → ParsesAsSelect r → ReturnsNothing (and_then r (λ p. and_then (planned schema p) (λ plan. Ok (with_command p plan))))
compiled_plain schema (Ok p) h = planned_plain schema p p.statement h refl
compiled_plain schema (Err e) h = absurd h

returns_nothing : (schema : Schema) (text : List ℕ) → IsQuery text → ReturnsNothing (compiled schema text)
unfolding compiled
returns_nothing schema text h = compiled_plain schema (first text) h

if_plain : (r : Result Compiled CompileError) → ReturnsNothing r → ReturnsNothing (if_select r)
if_plain (Ok c) h = elim (is_select c.command) as (λ b. ReturnsNothing (if b then Ok c else Err NoSuchTable)) [ true ↦ h | false ↦ tt ]
if_plain (Err e) h = tt

either_plain : (b : Bool) (x y : Result Compiled CompileError) → ReturnsNothing x → ReturnsNothing y → ReturnsNothing (if b then x else y)
either_plain true x y h k = h
either_plain false x y h k = k

reads_only : (schema : Schema) (text : List ℕ) → IsQuery text → ReturnsNothing (understood schema text)
unfolding understood
reads_only schema text h =
    either_plain (reads_listing schema text) _ _ (if_plain (compiled listing_schema text) (returns_nothing listing_schema text h)) (returns_nothing schema text h)

not_run : (old new : State) (sql : List ℕ) (params : Row) (e : Error) → IsNotRun old new sql params e → IsUnchanged old new ⊎ IsRolledBack old new
unfolding IsNotRun
not_run old new sql params e (inl h) = inl h.1
not_run old new sql params e (inr h) = inr h.3

not_shown : (old new : State) (sql : List ℕ) (c : _) (params : Row) (e : Error) (r : Option _) → FailsToShow old new sql c params e r → IsUnchanged old new ⊎ IsRolledBack old new
not_shown old new sql c params e None h = inl h.3
not_shown old new sql c params e (Some what) (inl h) = inl h.1
not_shown old new sql c params e (Some what) (inr h) = inr h.3

not_queried : (sql : List ℕ) (params : Row) (old new : State) (e : Error) → FailsToQuery sql params old new e → IsUnchanged old new ⊎ IsRolledBack old new
unfolding FailsToQuery
not_queried sql params old new e (inl h) = not_run old new sql params e h
not_queried sql params old new e (inr h) = not_shown old new sql h.0 _ e h.0.returning h.2

was : (old new : State) → IsUnchanged old new ⊎ IsRolledBack old new → IsTrue new.is_open → IsTrue old.is_open
was old new (inl h) live = h.0.was_open
was old new (inr h) live = h.was_open live

stays : (old new : State) → (IsTrue old.is_open → old.now ≡ old.committed) → (h : IsUnchanged old new ⊎ IsRolledBack old new) → IsTrue new.is_open → new.now ≡ old.now
stays old new settled (inl h) live = h.0.now_is
stays old new settled (inr h) live = (h.undone live).0 ∙ sym (settled (h.was_open live))

shown_unchanged : (sql : List ℕ) (params : Row) (old new : State) (rows : List Row) → IsQuery sql → Shown sql params old new rows → IsUnchanged old new
unfolding Shown
shown_unchanged sql params old new rows query h =
    let none = subst ReturnsNothing h.1.is (reads_only old.now.schema sql query) in
    (subst (ShowsRows old new sql h.0 (at_time params h.0.formats h.1.now) rows) none h.2).3

usable_before : (old new : State) (P : _) → Survives old new P → (IsTrue new.is_open → IsTrue old.is_open) → IsUsable new → IsUsable old
usable_before old new P kept was u = record { clean = omega (arith, kept.clean, u.clean); is_open = was u.is_open }

-- what was committed stays, also if a failure undid the transaction
committed_stays : (old new : State) → (h : IsUnchanged old new ⊎ IsRolledBack old new) → IsTrue new.is_open → new.committed ≡ old.committed
committed_stays old new (inl h) live = h.0.committed_is
committed_stays old new (inr h) live = (h.undone live).1

-- whatever a query answers, it was unchanged or undone
ended : (sql : List ℕ) (params : Row) (old new : State) (r : Result (Vec Row Global) Error) → IsQuery sql → IfOk r (λ rows. Shown sql params old new rows.items)
    → IfErr r (λ e. FailsToQuery sql params old new e ⊎ IsTooLate sql params old new e) → IsUnchanged old new ⊎ IsRolledBack old new
ended sql params old new (Ok rows) query ok err = inl (shown_unchanged sql params old new rows.items query ok)
ended sql params old new (Err e) query ok (inl err) = not_queried sql params old new e err
ended sql params old new (Err e) query ok (inr err) = inl err.5

outside : (r : Result (Vec Row Global) Error) (P Q : Error → Type 0) → IfErr r P → IfErr r (λ e. P e ⊎ Q e)
outside (Ok rows) P Q h = h
outside (Err e) P Q h = inl h

kept_so : (old new : State) (P : _) → Survives old new P → (IsUsable new → IsUnchanged old new ⊎ IsRolledBack old new) → IsKept old new
kept_so old new P kept how u =
    let h = how u in (usable_before old new P kept (was old new h) u, committed_stays old new h u.is_open)

-- whatever a query outside of a transaction answers, what was committed stays
pub keeps_committed : (sql : List ℕ) (params : Row) (old new : State) (r : Result (Vec Row Global) Error) (P : _) → IsQuery sql → Survives old new P
    → (HasCleanDisk new → IfOk r (λ rows. Shown sql params old new rows.items)) → (HasCleanDisk new → IfErr r (FailsToQuery sql params old new)) → IsKept old new
keeps_committed sql params old new r P query kept ok err =
    kept_so old new P kept (λ u. ended sql params old new r query (ok u.clean) (outside r (FailsToQuery sql params old new) (IsTooLate sql params old new) (err u.clean)))

-- ---- inside a transaction

pair_of : (a b : Bool) → IsTrue (a && b) → IsTrue a × IsTrue b
pair_of true b h = (refl, h)
pair_of false b h = absurd (false≢true h)

-- a transaction that goes on was not undone
seen_unchanged : (old new : State) → IsUnchanged old new ⊎ IsRolledBack old new → IsTrue (seen_inside new).is_open → IsUnchanged (seen_inside old) (seen_inside new)
seen_unchanged old new (inl h) live =
    let open_and = pair_of new.is_open new.in_transaction live in (
      record {
        was_open = subst (λ b. IsTrue (old.is_open && b)) (h.0.mode) (subst (λ b. IsTrue (b && new.in_transaction)) (sym h.0.was_open) open_and.1);
        is_open = live;
        now_is = h.0.now_is;
        committed_is = h.0.now_is;
        mode = refl;
      },
      record { changes = h.1.changes; last_rowid = h.1.last_rowid },
      refl,
    )
seen_unchanged old new (inr h) live = absurd (false≢true (sym h.autocommit ∙ (pair_of new.is_open new.in_transaction live).1))

usable_seen : (old new : State) (P : _) → Survives old new P → IsUnchanged (seen_inside old) (seen_inside new) → IsUsable (seen_inside new) → IsUsable (seen_inside old)
usable_seen old new P kept h u = record { clean = omega (arith, kept.clean, u.clean); is_open = h.0.was_open }

-- how a query inside a transaction ends
module _ (sql : List ℕ) (params : Row) (old new : State) (r : Result (Vec Row Global) Error) (P : _) (query : IsQuery sql) (kept : Survives old new P) (ok : HasCleanDisk new → IfOk r (λ rows. Shown sql params old new rows.items))
    (err : HasCleanDisk new → IfErr r (λ e. FailsToQuery sql params old new e ⊎ IsTooLate sql params old new e)) where
  how : IsUsable new → IsUnchanged old new ⊎ IsRolledBack old new
  how u = ended sql params old new r query (ok u.clean) (err u.clean)

  pub keeps_inside : IsKept old new
  keeps_inside = kept_so old new P kept how

  unchanged_inside : IsUsable (seen_inside new) → IsUnchanged (seen_inside old) (seen_inside new)
  unchanged_inside u =
      seen_unchanged old new (ended sql params old new r query (ok u.clean) (err u.clean)) u.is_open

  pub same_inside : IsSame (seen_inside old) (seen_inside new)
  same_inside u = let h = unchanged_inside u in (usable_seen old new P kept h u, h.0.now_is)

-- and what it shows, as it would outside of one
pub shown_inside : (sql : List ℕ) (params : Row) (old new : State) (rows : List Row) → IsQuery sql → IsUsable (seen_inside new) → Shown sql params old new rows → Shown sql params (seen_inside old) (seen_inside new) rows
unfolding Shown
shown_inside sql params old new rows query u h =
    let none = subst ReturnsNothing h.1.is (reads_only old.now.schema sql query) in
    let plain = subst (ShowsRows old new sql h.0 (at_time params h.0.formats h.1.now) rows) none h.2 in (
      h.0,
      record { is = h.1.is; whole = h.1.whole; given = h.1.given; now = h.1.now },
      subst (ShowsRows (seen_inside old) (seen_inside new) sql h.0 (at_time params h.0.formats h.1.now) rows) (sym none)
          (plain.0, plain.1, plain.2, seen_unchanged old new (inl plain.3) u.is_open),
    )

-- a query inside a transaction is never too late
pub fails_inside : (sql : List ℕ) (params : Row) (old new : State) (e : Error) → IsQuery sql → FailsToQuery sql params old new e ⊎ IsTooLate sql params old new e → FailsToQuery sql params old new e
fails_inside sql params old new e query (inl h) = h
fails_inside sql params old new e query (inr h) =
    let none = subst ReturnsNothing h.1.is (reads_only old.now.schema sql query) in absurd (false≢true (ap is_some (sym none) ∙ h.2))

-- whatever a query answers, the database is as it was
pub keeps : (sql : List ℕ) (params : Row) (old new : State) (r : Result (Vec Row Global) Error) (P : _) → IsQuery sql → (IsTrue old.is_open → old.now ≡ old.committed) → Survives old new P
    → (HasCleanDisk new → IfOk r (λ rows. Shown sql params old new rows.items)) → (HasCleanDisk new → IfErr r (FailsToQuery sql params old new)) → IsSame old new
keeps sql params old new (Err e) P query settled kept ok err u =
    let h = not_queried sql params old new e (err u.clean) in (usable_before old new P kept (was old new h) u, stays old new settled h u.is_open)
keeps sql params old new (Ok rows) P query settled kept ok err u =
    let h = shown_unchanged sql params old new rows.items query (ok u.clean) in (usable_before old new P kept (λ _. h.0.was_open) u, h.0.now_is)
