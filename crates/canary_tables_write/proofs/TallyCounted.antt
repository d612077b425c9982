-- What the UPDATE that counts one more measurement does.
use Rattle.std.proofs.Common.{◌≡◌, ◌&&◌, ◌==◌, ◌+◌, ◌≤◌, ◌^◌, ℕ, ℤ, pos, List, [], ◌∷◌, drop, codes, slice_get, true, nat_lt, Some, Ok, Err, Result, OnOk, refl, ap, ap₂, ◌∙◌, arith}
use Rattle.std.proofs.lemmas.Bool.Decides.{nat_tests}
use Rattle.sqlite.specs.declared.types.Value.{Value}
use Rattle.sqlite.specs.declared.types.Value.TheVariants.{Int, Text as Words}
use Rattle.sqlite.specs.declared.error.Error.{Error as Refusal}
use Rattle.sqlite.specs.Order.{Row, column}
use Rattle.sqlite.specs.Ops.{binary}
use Rattle.sqlite.specs.Term.{Term, lit, col, op2}
use Rattle.sqlite.specs.Table.{Table}
use Rattle.sqlite.specs.Cast.{cast_row}
use Rattle.sqlite.specs.Command.TheVariants.{Update}
use Rattle.sqlite.specs.State.{State, ExecutesInside}
use Rattle.sqlite.specs.Listing.{understood}
use Rattle.sqlite.specs.Given.{IsPlain}
use Rattle.sqlite.proofs.Callers.{command_of}
use Rattle.sqlite_sql.specs.declared.ops.ArithOp.TheVariants.{Add}
use Rattle.sqlite_sql.specs.declared.ops.BinaryOp.TheVariants.{Compare, Arith}
use Rattle.sqlite_sql.specs.declared.ops.CompareOp.TheVariants.{Eq}
use Rattle.sqlite_value.specs.declared.keys.Collation.TheVariants.{Binary}
use Rattle.sqlite_tied.specs.Compute.{everything}
use Rattle.canary_condition.specs.declared.outcome.Phase.{Phase}
use Rattle.canary_condition.specs.declared.outcome.Phase.TheVariants.{Pending, Running, Successful, Inconclusive, Error, Failed}
use Rattle.canary_metric.specs.Counts.{with_one_more}
use Rattle.canary_tables_rows.specs.declared.rows.TallyRow.{TallyRow}
use Rattle.canary_tables_rows.specs.Tables.{Tables, is_tally}
use Rattle.canary_tables_rows.specs.Changes.{AreFew, HasTally, change_where, with_counted}
use Rattle.canary_tables_schema.specs.Layout.{Layout, made, moved, packed, tally_at}
use Rattle.canary_tables_schema.specs.Schema.{schema_at, tally}
use Rattle.canary_tables_schema.specs.Cells.{integer, tally_cells}
use Rattle.canary_tables_schema.specs.Stores.{IsReady}
use Rattle.canary_tables_write.proofs.Spared.{tallies_now}
use Rattle.canary_tables_write.proofs.UpdateAnswer.{plain_query, passes, shows}
use Rattle.canary_tables_write.proofs.Inserted.{cast_whole}
use Rattle.canary_tables_write.proofs.UpdateDesk.{updated}
use Rattle.canary_tables_write.proofs.UpdateTests.{and_true, equal_words, equal_number}

-- the statement for a phase
abbrev pub counting : Phase → List ℕ
counting Error = codes "UPDATE tally SET errors = errors + 1, consecutive = consecutive + 1, passes = 0, last = ?4 WHERE service = ?1 AND run = ?2 AND metric = ?3"
counting Failed = codes "UPDATE tally SET counted = counted + 1, failed = failed + 1, consecutive = 0, passes = 0, last = ?4 WHERE service = ?1 AND run = ?2 AND metric = ?3"
counting Inconclusive = codes "UPDATE tally SET counted = counted + 1, inconclusive = inconclusive + 1, consecutive = 0, passes = 0, last = ?4 WHERE service = ?1 AND run = ?2 AND metric = ?3"
counting Successful = codes "UPDATE tally SET counted = counted + 1, consecutive = 0, passes = passes + 1, last = ?4 WHERE service = ?1 AND run = ?2 AND metric = ?3"
counting phase = codes "UPDATE tally SET counted = counted + 1, consecutive = 0, passes = 0, last = ?4 WHERE service = ?1 AND run = ?2 AND metric = ?3"

abbrev tests : List Term
tests = op2 (Compare Eq Binary) (col 1 1) (col 0 0) ∷ op2 (Compare Eq Binary) (col 1 2) (col 0 1) ∷ op2 (Compare Eq Binary) (col 1 3) (col 0 2) ∷ []

abbrev more : ℕ → Term
more column = op2 (Arith Add) (col 1 column) (lit (Int (pos 1)))

abbrev none : Term
none = lit (Int (pos 0))

abbrev shown : Phase → List Term
shown Error = col 1 0 ∷ col 1 0 ∷ col 1 1 ∷ col 1 2 ∷ col 1 3 ∷ col 1 4 ∷ col 1 5 ∷ col 1 6 ∷ more 7 ∷ more 8 ∷ none ∷ col 0 3 ∷ []
shown Failed = col 1 0 ∷ col 1 0 ∷ col 1 1 ∷ col 1 2 ∷ col 1 3 ∷ more 4 ∷ more 5 ∷ col 1 6 ∷ col 1 7 ∷ none ∷ none ∷ col 0 3 ∷ []
shown Inconclusive = col 1 0 ∷ col 1 0 ∷ col 1 1 ∷ col 1 2 ∷ col 1 3 ∷ more 4 ∷ col 1 5 ∷ more 6 ∷ col 1 7 ∷ none ∷ none ∷ col 0 3 ∷ []
shown Successful = col 1 0 ∷ col 1 0 ∷ col 1 1 ∷ col 1 2 ∷ col 1 3 ∷ more 4 ∷ col 1 5 ∷ col 1 6 ∷ col 1 7 ∷ none ∷ more 9 ∷ col 0 3 ∷ []
shown phase = col 1 0 ∷ col 1 0 ∷ col 1 1 ∷ col 1 2 ∷ col 1 3 ∷ more 4 ∷ col 1 5 ∷ col 1 6 ∷ col 1 7 ∷ none ∷ none ∷ col 0 3 ∷ []

abbrev table : Layout → Table
table at = record tally { tree = tally_at at }

is_update : (at : Layout) (phase : Phase) → command_of (understood (schema_at at) (counting phase)) ≡ Update 10 (record { lets = []; body = plain_query (tally_at at) tests (shown phase) [] })
unfolding understood everything
is_update made Pending = refl
is_update made Running = refl
is_update made Successful = refl
is_update made Inconclusive = refl
is_update made Error = refl
is_update made Failed = refl
is_update moved Pending = refl
is_update moved Running = refl
is_update moved Successful = refl
is_update moved Inconclusive = refl
is_update moved Error = refl
is_update moved Failed = refl
is_update packed Pending = refl
is_update packed Running = refl
is_update packed Successful = refl
is_update packed Inconclusive = refl
is_update packed Error = refl
is_update packed Failed = refl

is_plain : (at : Layout) (phase : Phase) → IsPlain (understood (schema_at at) (counting phase))
unfolding understood everything
is_plain made Pending = (refl, refl)
is_plain made Running = (refl, refl)
is_plain made Successful = (refl, refl)
is_plain made Inconclusive = (refl, refl)
is_plain made Error = (refl, refl)
is_plain made Failed = (refl, refl)
is_plain moved Pending = (refl, refl)
is_plain moved Running = (refl, refl)
is_plain moved Successful = (refl, refl)
is_plain moved Inconclusive = (refl, refl)
is_plain moved Error = (refl, refl)
is_plain moved Failed = (refl, refl)
is_plain packed Pending = (refl, refl)
is_plain packed Running = (refl, refl)
is_plain packed Successful = (refl, refl)
is_plain packed Inconclusive = (refl, refl)
is_plain packed Error = (refl, refl)
is_plain packed Failed = (refl, refl)

stands : (at : Layout) → slice_get (schema_at at).tables 10 ≡ Some (table at)
unfolding everything
stands at = refl

abbrev change : Phase → ℕ → TallyRow → TallyRow
change phase taken row = record row { counts = with_one_more row.counts phase taken }

-- what the statement is given
abbrev pub counting_given : List ℕ → ℕ → ℕ → ℕ → Row
counting_given service run metric taken = Words service ∷ integer run ∷ integer metric ∷ integer taken ∷ []

fits : (service : List ℕ) (run metric taken : ℕ) (v : Value) (row : TallyRow) → passes tests (counting_given service run metric taken) (v ∷ tally_cells row) ≡ is_tally service run metric row
fits service run metric taken v row =
    ap₂ (λ a b. a && b) (equal_words row.service service) (ap₂ (λ a b. a && (b && true)) (equal_number row.run run) (equal_number row.metric metric) ∙ ap (λ b. (run == row.run) && b) (and_true _))

-- a sum of so few stays within 64 bits
below : (n : ℕ) → n ≤ 1000000 → nat_lt (n + 1) (2 ^ 63) ≡ true
below n few = grind (arith, nat_tests)

sum_of : (n : ℕ) → n ≤ 1000000 → binary (Arith Add) (Int (pos n)) (Int (pos 1)) ≡ Int (pos (n + 1))
unfolding binary
sum_of n few = rw (below n few) refl

-- the row that the statement shows, stored
as_given : (at : Layout) (phase : Phase) (service : List ℕ) (run metric taken : ℕ) (row : TallyRow) (n : ℤ) → AreFew row.counts
    → cast_row (table at) (drop 1 (shows (shown phase) (counting_given service run metric taken) (Int n ∷ tally_cells row))) ≡ Int n ∷ tally_cells (change phase taken row)
as_given at phase service run metric taken row n few = go phase
  where
    unmeasured : cast_row (table at) (drop 1 (shows (shown Pending) (counting_given service run metric taken) (Int n ∷ tally_cells row))) ≡ Int n ∷ tally_cells (change Pending taken row)
    unmeasured =
        rw (sum_of row.counts.counted few.counted, cast_whole n, cast_whole (pos row.run), cast_whole (pos row.metric), cast_whole (pos (row.counts.counted + 1)), cast_whole (pos row.counts.failed), cast_whole (pos row.counts.inconclusive), cast_whole (pos row.counts.errors), cast_whole (pos 0), cast_whole (pos taken)) refl

    go : (phase : Phase) → cast_row (table at) (drop 1 (shows (shown phase) (counting_given service run metric taken) (Int n ∷ tally_cells row))) ≡ Int n ∷ tally_cells (change phase taken row)
    go Pending = unmeasured
    go Running = unmeasured
    go Successful =
        rw (sum_of row.counts.counted few.counted, sum_of row.counts.passes few.passes, cast_whole n, cast_whole (pos row.run), cast_whole (pos row.metric), cast_whole (pos (row.counts.counted + 1)), cast_whole (pos row.counts.failed), cast_whole (pos row.counts.inconclusive), cast_whole (pos row.counts.errors), cast_whole (pos 0), cast_whole (pos (row.counts.passes + 1)), cast_whole (pos taken)) refl
    go Inconclusive =
        rw (sum_of row.counts.counted few.counted, sum_of row.counts.inconclusive few.inconclusive, cast_whole n, cast_whole (pos row.run), cast_whole (pos row.metric), cast_whole (pos (row.counts.counted + 1)), cast_whole (pos row.counts.failed), cast_whole (pos (row.counts.inconclusive + 1)), cast_whole (pos row.counts.errors), cast_whole (pos 0), cast_whole (pos taken)) refl
    go Error =
        rw (sum_of row.counts.errors few.errors, sum_of row.counts.consecutive few.consecutive, cast_whole n, cast_whole (pos row.run), cast_whole (pos row.metric), cast_whole (pos row.counts.counted), cast_whole (pos row.counts.failed), cast_whole (pos row.counts.inconclusive), cast_whole (pos (row.counts.errors + 1)), cast_whole (pos (row.counts.consecutive + 1)), cast_whole (pos 0), cast_whole (pos taken)) refl
    go Failed =
        rw (sum_of row.counts.counted few.counted, sum_of row.counts.failed few.failed, cast_whole n, cast_whole (pos row.run), cast_whole (pos row.metric), cast_whole (pos (row.counts.counted + 1)), cast_whole (pos (row.counts.failed + 1)), cast_whole (pos row.counts.inconclusive), cast_whole (pos row.counts.errors), cast_whole (pos 0), cast_whole (pos taken)) refl

same_rowid : (phase : Phase) (service : List ℕ) (run metric taken : ℕ) (row : TallyRow) (n : ℤ) → column (shows (shown phase) (counting_given service run metric taken) (Int n ∷ tally_cells row)) 0 ≡ Int n
same_rowid Pending service run metric taken row n = refl
same_rowid Running service run metric taken row n = refl
same_rowid Successful service run metric taken row n = refl
same_rowid Inconclusive service run metric taken row n = refl
same_rowid Error service run metric taken row n = refl
same_rowid Failed service run metric taken row n = refl

pub tally_counted : (old new : State) (t : Tables) (service : List ℕ) (run metric : ℕ) (phase : Phase) (taken : ℕ) (r : Result ℕ Refusal) → IsReady old t → HasTally service run metric t
    → ExecutesInside 0 (counting phase) (counting_given service run metric taken) old new r → OnOk r (IsReady new (with_counted service run metric phase taken t))
tally_counted old new t service run metric phase taken (Err e) ready one h = tt
tally_counted old new t service run metric phase taken (Ok count) ready one h =
    let at = ready.stores.layout in
    let has = ready.stores.holds in
    tallies_now at old new t has (change_where (is_tally service run metric) (change phase taken) t.tallies)
    (updated at (counting phase) 10 tests (shown phase) (table at) (counting_given service run metric taken) (is_update at phase) (is_plain at phase) (stands at) old new count has.schema h tally_cells (is_tally service run metric) (change phase taken) (fits service run metric taken) t.tallies one.row (same_rowid phase service run metric taken one.row) (λ n. as_given at phase service run metric taken one.row n one.few) has.numbered.1.1.1.1.1.1.1.1.1.0 has.tallies one.one)

pub counting_others : (phase : Phase) → (phase ≡ Error → ⊥) → (phase ≡ Failed → ⊥) → (phase ≡ Inconclusive → ⊥) → (phase ≡ Successful → ⊥) → counting Running ≡ counting phase
counting_others Pending h k l m = refl
counting_others Running h k l m = refl
counting_others Successful h k l m = absurd (m refl)
counting_others Inconclusive h k l m = absurd (l refl)
counting_others Error h k l m = absurd (h refl)
counting_others Failed h k l m = absurd (k refl)
