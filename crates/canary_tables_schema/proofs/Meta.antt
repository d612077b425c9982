-- The row of meta is written into empty tables.
use Rattle.std.proofs.Common.{◌≡◌, ◌≢◌, ℕ, ℤ, pos, List, [], ◌∷◌, codes, slice_get, cond, Bool, true, false, Some, Ok, Err, Result, OnOk, refl, sym, ap, subst, ◌∙◌}
use Rattle.std.specs.List.{AllByRecursion}
use Rattle.sqlite.specs.declared.types.Value.{Value}
use Rattle.sqlite.specs.declared.types.Value.TheVariants.{Null, Int}
use Rattle.sqlite.specs.declared.error.Error.{Error}
use Rattle.sqlite.specs.Order.{Row}
use Rattle.sqlite.specs.Ops.{unary}
use Rattle.sqlite.specs.Kind.TheVariants.{Integer}
use Rattle.sqlite.specs.Term.{lit}
use Rattle.sqlite.specs.Schema.{Schema}
use Rattle.sqlite.specs.Tree.{Trees, put_row}
use Rattle.sqlite.specs.Cast.{cast, cast_row}
use Rattle.sqlite.specs.Command.TheVariants.{Insert}
use Rattle.sqlite.specs.Source.TheVariants.{Values}
use Rattle.sqlite.specs.State.{State, mode_of, ExecutesInside}
use Rattle.sqlite.specs.Effect.{Database}
use Rattle.sqlite.specs.Listing.{understood}
use Rattle.sqlite.specs.Given.{IsPlain}
use Rattle.sqlite.proofs.Callers.{command_of, statement_of, runs_as}
use Rattle.sqlite_tied.specs.Compute.{everything}
use Rattle.canary_tables_rows.specs.Tables.{no_tables}
use Rattle.canary_tables_schema.specs.Layout.{made}
use Rattle.canary_tables_schema.specs.Schema.{meta, schema_at}
use Rattle.canary_tables_schema.specs.Cells.{cells_of, meta_rows, integer}
use Rattle.canary_tables_schema.specs.Stores.{Holds, IsNumbered, IsReady}
use Rattle.canary_tables_schema.specs.Makes.{IsAt}
use Rattle.canary_tables_schema.specs.Adds.{AddsRow, numbered_row}
use Rattle.canary_tables_schema.proofs.Inserts.{inserts}

abbrev text : List ℕ
text = codes "INSERT INTO meta (schema) VALUES (2)"

abbrev row : Row
row = Null ∷ integer 2 ∷ []

is_insert : command_of (understood (schema_at made) text) ≡ Insert 0 (Values (lit Null ∷ lit Null ∷ lit (Int (pos 2)) ∷ []) 3)
unfolding understood everything
is_insert = refl

is_plain : IsPlain (understood (schema_at made) text)
unfolding understood everything
is_plain = (refl, refl)

stands : slice_get (schema_at made).tables 0 ≡ Some meta
unfolding everything
stands = refl

either : (b : Bool) (x : Value) → cond b x x ≡ x
either true x = refl
either false x = refl

cast_null : cast Integer Null ≡ Null
unfolding unary
cast_null = either _ Null

cast_whole : (n : ℤ) → cast Integer (Int n) ≡ Int n
unfolding unary
cast_whole n = either _ (Int n)

kept_as_given : cast_row meta (Null ∷ row) ≡ Null ∷ row
kept_as_given = rw (cast_null, cast_whole (pos 2)) refl

adds : (old new : State) (count : ℕ) → old.now.schema ≡ (schema_at made) → ExecutesInside 0 text [] old new (Ok count) → AddsRow 0 row old.now new.now
adds old new count schema h =
    let ran = runs_as text [] old new (schema_at made) schema (Insert 0 (Values (lit Null ∷ lit Null ∷ lit (Int (pos 2)) ∷ []) 3)) is_insert is_plain count h.0 in
    inserts old.step_limit (mode_of old) [] old.now (statement_of text (understood (schema_at made) text)) 0 (lit Null ∷ lit Null ∷ lit (Int (pos 2)) ∷ []) 3 meta row
    (ap (λ (s : Schema). slice_get s.tables 0) schema ∙ stands) refl refl kept_as_given ran.tally new.now ran.changed

-- the trees of the other tables
abbrev Empty : Trees → List ℕ → Type 0
Empty trees = AllByRecursion (λ k. trees k ≡ [])

abbrev others : List ℕ
others = 1 ∷ 3 ∷ 5 ∷ 7 ∷ 9 ∷ 12 ∷ 13 ∷ 15 ∷ 17 ∷ []

all_empty : (trees : Trees) → AllByRecursion (λ t. trees t.tree ≡ []) (schema_at made).tables → (trees 0 ≡ []) × Empty trees others
all_empty trees h = (h.0, (h.1.0, (h.1.1.0, (h.1.1.1.0, (h.1.1.1.1.0, (h.1.1.1.1.1.0, (h.1.1.1.1.1.1.1.0, (h.1.1.1.1.1.1.1.1.0, (h.1.1.1.1.1.1.1.1.1.0, (h.1.1.1.1.1.1.1.1.1.1.0, tt))))))))))

all_same : (old new : Trees) → AllByRecursion (λ t. t.tree ≢ 0 → new t.tree ≡ old t.tree) (schema_at made).tables → AllByRecursion (λ k. new k ≡ old k) others
all_same old new h =
    (h.1.0 (λ e. absurd (cc)), (h.1.1.0 (λ e. absurd (cc)), (h.1.1.1.0 (λ e. absurd (cc)), (h.1.1.1.1.0 (λ e. absurd (cc)), (h.1.1.1.1.1.0 (λ e. absurd (cc)), (h.1.1.1.1.1.1.1.0 (λ e. absurd (cc)), (h.1.1.1.1.1.1.1.1.0 (λ e. absurd (cc)), (h.1.1.1.1.1.1.1.1.1.0 (λ e. absurd (cc)), (h.1.1.1.1.1.1.1.1.1.1.0 (λ e. absurd (cc)), tt)))))))))

still_empty : (trees : List ℕ) (old new : Trees) → AllByRecursion (λ k. new k ≡ old k) trees → Empty old trees → Empty new trees
still_empty [] old new h k = tt
still_empty (t ∷ trees) old new h k = (h.0 ∙ k.0, still_empty trees old new h.1 k.1)

none : {rows : List Row} → rows ≡ [] → IsNumbered rows
none e = subst IsNumbered (sym e) (tt, tt)

one : {rows : List Row} → rows ≡ meta_rows → IsNumbered rows
one e = subst IsNumbered (sym e) ((tt, tt), (refl, tt))

filled : (db : Database) → db.schema ≡ schema_at made → db.trees 0 ≡ meta_rows → Empty db.trees others → Holds made db no_tables
filled db schema meta h = record {
  schema = schema;
  numbered = (one meta, (none h.0, (none h.1.0, (none h.1.1.0, (none h.1.1.1.0, (none h.1.1.1.1.0, (none h.1.1.1.1.1.0, (none h.1.1.1.1.1.1.0, (none h.1.1.1.1.1.1.1.0, (none h.1.1.1.1.1.1.1.1.0, tt))))))))));
  meta = meta;
  callers = ap cells_of h.0;
  kept = ap cells_of h.1.0;
  services = ap cells_of h.1.1.0;
  runs = ap cells_of h.1.1.1.0;
  measurements = ap cells_of h.1.1.1.1.0;
  history = ap cells_of h.1.1.1.1.1.0;
  revisions = ap cells_of h.1.1.1.1.1.1.0;
  bindings = ap cells_of h.1.1.1.1.1.1.1.0;
  tallies = ap cells_of h.1.1.1.1.1.1.1.1.0;
}

first : (old new : Database) → old.schema ≡ schema_at made → AllByRecursion (λ t. old.trees t.tree ≡ []) (schema_at made).tables → AddsRow 0 row old new → Holds made new no_tables
first old new schema empty a =
    let before = all_empty old.trees empty in
    let meta : new.trees 0 ≡ meta_rows = a.rows ∙ ap (λ rows. put_row (numbered_row row rows) rows) before.0 in
    let same = all_same old.trees new.trees (subst (λ (s : Schema). AllByRecursion (λ t. t.tree ≢ 0 → new.trees t.tree ≡ old.trees t.tree) s.tables) schema a.others) in
    filled new (a.schema ∙ schema) meta (still_empty others old.trees new.trees same before.1)

pub meta_written : (old new : State) (r : Result ℕ Error) → IsAt (schema_at made) old → ExecutesInside 0 text [] old new r → OnOk r (IsReady new no_tables)
meta_written old new (Err e) at h = tt
meta_written old new (Ok count) at h =
    record { live = h.1.mode; stores = record { layout = made; holds = first old.now new.now at.schema_is at.empty (adds old new count at.schema_is h) } }
