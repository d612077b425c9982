-- What the UPDATE of meta does, and the trees of other tables.
use Rattle.std.proofs.Common.{◌≡◌, ◌≢◌, ◌⊎◌, inl, inr, ◌==◌, ◌&&◌, ◌||◌, not, ℕ, pos, List, [], ◌∷◌, map, filter, drop, codes, slice_get, Bool, true, false, Some, Ok, Err, Result, OnOk, refl, sym, ap, subst, ◌∙◌}
use Rattle.std.proofs.lemmas.Bool.Decides.{eqb_tells}
use Rattle.std.specs.List.{AllByRecursion, list_any, list_all}
use Rattle.sqlite.specs.declared.types.Value.{Value}
use Rattle.sqlite.specs.declared.types.Value.TheVariants.{Null, Int}
use Rattle.sqlite.specs.declared.error.Error.{Error}
use Rattle.sqlite.specs.Order.{Row, column}
use Rattle.sqlite.specs.Term.{Term, lit, col}
use Rattle.sqlite.specs.Table.{Table}
use Rattle.sqlite.specs.Schema.{Schema}
use Rattle.sqlite.specs.Tree.{Trees, put_row, without_rowid}
use Rattle.sqlite.specs.Edit.{id_in, edit_of, taken_by}
use Rattle.sqlite.specs.Cast.{cast_row}
use Rattle.sqlite.specs.Command.TheVariants.{Update}
use Rattle.sqlite.specs.Rowids.TheVariants.{Given}
use Rattle.sqlite.specs.State.{State, mode_of, ExecutesInside}
use Rattle.sqlite.specs.Listing.{understood}
use Rattle.sqlite.specs.Given.{IsPlain}
use Rattle.sqlite.proofs.Callers.{command_of, statement_of, runs_as}
use Rattle.sqlite_value.proofs.OrderLemmas.{value_cmp-Int}
use Rattle.sqlite_rules.specs.Action.{works}
use Rattle.sqlite_rules.specs.Calls.{ids_of}
use Rattle.sqlite_schema.specs.declared.schema.Keys.TheVariants.{Enforced}
use Rattle.sqlite_tied.specs.Compute.{everything}
use Rattle.canary_tables_schema.specs.Layout.{moved}
use Rattle.canary_tables_schema.specs.Schema.{meta, schema_at}
use Rattle.canary_tables_schema.specs.Cells.{meta_rows, integer}
use Rattle.canary_tables_schema.specs.Remakes.{are_among, AreKept}
use Rattle.canary_tables_write.specs.Fills.{IsNumberedAnew, trees_but_meta, HasOneId}
use Rattle.canary_tables_write.proofs.Idle.{idle}
use Rattle.canary_tables_write.proofs.Inserted.{cast_null, cast_whole, idle_desk}
use Rattle.canary_tables_write.proofs.UpdateAnswer.{plain_query, passes, shows}
use Rattle.canary_tables_write.proofs.UpdateRows.{updates}

-- all trees but one

or_cases : (a b : Bool) → (a || b) ≡ true → (a ≡ true) ⊎ (b ≡ true)
or_cases true b h = inl refl
or_cases false b h = inr h

and_first : (a b : Bool) → (a && b) ≡ true → a ≡ true
and_first true b h = refl
and_first false b h = h

and_second : (a b : Bool) → (a && b) ≡ true → b ≡ true
and_second true b h = h
and_second false b h = absurd cc

is_equal : (a b : ℕ) → (a == b) ≡ true → a ≡ b
is_equal a b h = by_cases (eqb_tells a b)
  where
    by_cases : ((a == b) ≡ true) × (a ≡ b) ⊎ ((a == b) ≡ false) × (a ≢ b) → a ≡ b
    by_cases (inl same) = same.1
    by_cases (inr other) = absurd (let e = sym h ∙ other.0 in cc)

abbrev SameBut : ℕ → List Table → Trees → Trees → Type 0
SameBut tree tables old new = AllByRecursion (λ t. t.tree ≢ tree → new t.tree ≡ old t.tree) tables

apart : (k tree : ℕ) → not (k == tree) ≡ true → k ≢ tree
apart k tree h = by_cases (eqb_tells k tree)
  where
    by_cases : ((k == tree) ≡ true) × (k ≡ tree) ⊎ ((k == tree) ≡ false) × (k ≢ tree) → k ≢ tree
    by_cases (inl same) = absurd (let e = sym h ∙ ap not same.0 in cc)
    by_cases (inr other) = other.1

one_but : (k tree : ℕ) (tables : List Table) (old new : Trees) → list_any (λ t. t.tree == k) tables ≡ true → k ≢ tree → SameBut tree tables old new → new k ≡ old k
one_but k tree [] old new h other rows = absurd cc
one_but k tree (t ∷ tables) old new h other rows = found (λ later. one_but k tree tables old new later other rows.1) (or_cases (t.tree == k) _ h)
  where
    found : (list_any (λ t. t.tree == k) tables ≡ true → new k ≡ old k) → ((t.tree == k) ≡ true) ⊎ (list_any (λ t. t.tree == k) tables ≡ true) → new k ≡ old k
    found more (inl here) = let e = is_equal t.tree k here in subst (λ n. n ≢ tree → new n ≡ old n) e rows.0 other
    found more (inr later) = more later

spared : (trees : List ℕ) (tree : ℕ) (tables : List Table) (old new : Trees) → are_among trees tables ≡ true → list_all (λ k. not (k == tree)) trees ≡ true → SameBut tree tables old new → AreKept trees old new
spared [] tree tables old new h others rows = tt
spared (k ∷ trees) tree tables old new h others rows =
    (one_but k tree tables old new (and_first _ _ h) (apart k tree (and_first _ _ others)) rows, spared trees tree tables old new (and_second _ _ h) (and_second _ _ others) rows)

-- meta

abbrev text : List ℕ
text = codes "UPDATE meta SET schema = 2"

abbrev shown : List Term
shown = col 1 0 ∷ col 1 0 ∷ lit Null ∷ lit (Int (pos 2)) ∷ []

is_update : command_of (understood (schema_at moved) text) ≡ Update 0 (record { lets = []; body = plain_query 0 [] shown [] })
unfolding understood everything
is_update = refl

is_plain : IsPlain (understood (schema_at moved) text)
unfolding understood everything
is_plain = (refl, refl)

stands : slice_get (schema_at moved).tables 0 ≡ Some meta
unfolding everything
stands = refl

among : are_among trees_but_meta (schema_at moved).tables ≡ true
unfolding everything
among = refl

abbrev second_row : Row
second_row = integer 1 ∷ Null ∷ integer 2 ∷ []

as_given : (v : Value) → v ≡ integer 1 → cast_row meta (v ∷ Null ∷ integer 2 ∷ []) ≡ second_row
as_given v is = rw (is, cast_null, cast_whole (pos 1), cast_whole (pos 2)) refl

-- the one row goes, and the other comes in its place
put : (row : Row) → column row 0 ≡ integer 1 → put_row second_row (without_rowid (id_in (column row 0)) (row ∷ [])) ≡ meta_rows
put row is = rw (is, value_cmp-Int (pos 1) (pos 1)) refl

one_row : (rows : List Row) → HasOneId rows → (row : Row) × (rows ≡ row ∷ []) × (column row 0 ≡ integer 1)
one_row [] h = absurd (cc)
one_row (row ∷ []) h = let id : column row 0 ≡ integer 1 = cc in (row, refl, id)
one_row (row ∷ other ∷ rows) h = absurd (cc)

set : (old new : State) (count : ℕ) → old.now.schema ≡ schema_at moved → HasOneId (old.now.trees 0) → ExecutesInside 0 text [] old new (Ok count) → IsNumberedAnew old new
set old new count is before h =
    let m = one_row (old.now.trees 0) before in
    let row = m.0 in
    let ran = runs_as text [] old new (schema_at moved) is (Update 0 (record { lets = []; body = plain_query 0 [] shown [] })) is_update is_plain count h.0 in
    let found : filter (passes [] []) (old.now.trees 0) ≡ row ∷ [] = ap (filter (passes [] [])) m.1 in
    let quiet = subst (λ s. works s Enforced 0 0 (taken_by old.now.trees (edit_of old.now.trees meta (ids_of (shows shown [] row ∷ [])) Given 1 (shows shown [] row ∷ []))) (second_row ∷ []) ≡ []) (sym is)
    (idle (schema_at moved) (idle_desk moved) 0 (taken_by old.now.trees (edit_of old.now.trees meta (ids_of (shows shown [] row ∷ [])) Given 1 (shows shown [] row ∷ []))) (second_row ∷ [])) in
    let u = updates old.step_limit (mode_of old) [] old.now (statement_of text (understood (schema_at moved) text)) 0 [] shown meta row second_row (ap (λ (s : Schema). slice_get s.tables 0) is ∙ stands) found (as_given (column row 0) m.2) quiet ran.tally new.now ran.changed in
    record {
      live = h.1.mode;
      schema = u.0 ∙ is;
      sound = ran.sound;
      meta = u.1 ∙ ap (λ rows. put_row second_row (without_rowid (id_in (column row 0)) rows)) m.1 ∙ put row m.2;
      kept = spared trees_but_meta 0 (schema_at moved).tables old.now.trees new.now.trees among refl (subst (λ (s : Schema). SameBut 0 s.tables old.now.trees new.now.trees) is u.2);
    }

pub schema_set : (old new : State) (r : Result ℕ Error) → old.now.schema ≡ schema_at moved → HasOneId (old.now.trees 0) → ExecutesInside 0 text [] old new r → OnOk r (IsNumberedAnew old new)
schema_set old new (Err e) is before h = tt
schema_set old new (Ok count) is before h = set old new count is before h
