-- How many rows a table has, by one query.
use Rattle.std.proofs.Common.{◌≡◌, ℕ, suc, List, [], ◌∷◌, length, map, filter, drop, min, false, Some, slice_index_or, refl, sym, ap, subst, ◌∙◌, arith, IsPermutation}
use Rattle.std.specs.List.{flat_map, list_all, AllZip, AllByRecursion}
use Rattle.std.proofs.lemmas.List.Elements.{recursion_from_All, All-from_recursion}
use Rattle.std.proofs.lemmas.List.Sorted.{length_permutation, All-permutation}
use Rattle.sqlite.specs.declared.types.Value.{Value}
use Rattle.sqlite.specs.declared.types.Value.TheVariants.{Null}
use Rattle.sqlite.specs.Order.{Row, column}
use Rattle.sqlite.specs.Term.{lit, col, holds, eval}
use Rattle.sqlite.specs.Collation.TheVariants.{Binary}
use Rattle.sqlite.specs.Query.{Query, Output, inner, end, IsAnswerAs, output, page}
use Rattle.sqlite.specs.Program.{overlay}
use Rattle.sqlite.specs.Tree.{Trees}
use Rattle.sqlite.specs.Listing.{understood, reads_listing}
use Rattle.sqlite.specs.State.{State, Shown}
use Rattle.sqlite.specs.Command.TheVariants.{Select}
use Rattle.sqlite.proofs.Callers.{IsPlain, command_of, reads_as}
use Rattle.sqlite_sql.specs.declared.aggregate.AggregateOp.TheVariants.{CountRows}
use Rattle.sqlite_sql.specs.Aggregate.{count}
use Rattle.sqlite_sql.specs.Group.{Aggregate, Grouping, IsSummary, value_over}
use Rattle.sqlite_sql.specs.Term.{Env}
use Rattle.canary_tables_schema.specs.Layout.{Layout}
use Rattle.canary_tables_schema.specs.Schema.{schema_at}
use Rattle.canary_tables_schema.specs.Cells.{integer, cells_of}
use Rattle.canary_tables_read.proofs.Answer.{no_limit, from_start, stored}

abbrev counted : Aggregate
counted = record { op = CountRows; distinct = false; collation = Binary; argument = lit Null }

abbrev as_one : Grouping
as_one = record { keys = []; collations = []; aggregates = counted ∷ []; having = [] }

-- how many rows the tree has
abbrev pub count_of : ℕ → Query
count_of tree = record {
  from = inner tree end;
  filter = [];
  group = Some as_one;
  project = col 1 0 ∷ [];
  distinct = false;
  collations = [];
  order = [];
  limit = no_limit;
  offset = from_start;
}

-- what a text asks for in a layout: the count of a tree's rows
pub record CountsAt (at : Layout) (text : List ℕ) (tree : ℕ) : Type 0 where
  pub names : List (List ℕ)
  pub is : command_of (understood (schema_at at) text) ≡ Select (record { lets = []; body = count_of tree }) names
  pub plain : IsPlain (understood (schema_at at) text)
  pub unlisted : reads_listing (schema_at at) text ≡ false

-- so in each layout
abbrev pub Counts : List ℕ → (Layout → ℕ) → Type 0
Counts text tree = (at : Layout) → CountsAt at text (tree at)

one_each : {A B : Type 0} (f : A → B) (xs : List A) → length (flat_map (λ x. f x ∷ []) xs) ≡ length xs
one_each f [] = refl
one_each f (x ∷ xs) = ap suc (one_each f xs)

mapped_length : {A B : Type 0} (f : A → B) (xs : List A) → length (map f xs) ≡ length xs
mapped_length f [] = refl
mapped_length f (x ∷ xs) = ap suc (mapped_length f xs)

alone_by : {A : Type 0} (x : A) (ys : List A) → AllByRecursion (λ y. y ≡ x) ys → length ys ≡ 1 → ys ≡ x ∷ []
alone_by x [] h e = absurd (omega arith)
alone_by x (y ∷ []) h e = ap (λ z. z ∷ []) h.0
alone_by x (y ∷ z ∷ ys) h e = absurd (omega arith)

-- one alone has one order
alone : {A : Type 0} (x : A) (ys : List A) → IsPermutation (x ∷ []) ys → ys ≡ x ∷ []
alone x ys h = alone_by x ys (recursion_from_All (λ y. y ≡ x) ys (All-permutation (λ y. y ≡ x) (x ∷ []) ys h (All-from_recursion (λ y. y ≡ x) (x ∷ []) (refl, tt)))) (length_permutation (x ∷ []) ys h)

one_value : (order : List Env) (values : Row) → AllZip (λ a v. value_over order a ≡ Some v) (counted ∷ []) values → values ≡ count (length order) ∷ []
one_value order [] h = absurd h
one_value order (v ∷ []) h = let is : Some (count (length (map (eval (lit Null)) order))) ≡ Some v = h.0 in let same : v ≡ count (length (map (eval (lit Null)) order)) = cc in ap (λ z. z ∷ []) same ∙ ap (λ n. count n ∷ []) (mapped_length (eval (lit Null)) order)
one_value order (v ∷ w ∷ values) h = absurd h.1

one_summary : (order : List Env) (rows : List Row) → AllZip (IsSummary as_one) (order ∷ []) rows → rows ≡ (count (length order) ∷ []) ∷ []
one_summary order [] h = absurd h
one_summary order (row ∷ []) h = ap (λ z. z ∷ []) (h.0.2 ∙ one_value order h.0.0 h.0.1)
one_summary order (row ∷ other ∷ rows) h = absurd h.1

-- the answer is one row: how many there are
pub count_answer : (lost : Value) (tree : ℕ) (db : Trees) (params : Row) (rows : List Row) → IsAnswerAs lost (count_of tree) (overlay db []) params rows → rows ≡ (count (length (db tree)) ∷ []) ∷ []
count_answer lost tree db params rows a =
    let g = a.grouped in
    let order = g.grouping.0 in
    let summed : g.rows ≡ (count (length order) ∷ []) ∷ [] = one_summary order g.rows (subst (λ groups. AllZip (IsSummary as_one) groups g.rows) g.grouping.2 g.summaries) in
    let staged : a.staged ≡ (params ∷ (count (length order) ∷ []) ∷ []) ∷ [] = g.having ∙ ap (λ (rs : List Row). filter (λ (env : Env). list_all (holds env) []) (map (λ r. params ∷ r ∷ []) rs)) summed in
    let kept : a.kept ≡ ([], count (length order) ∷ []) ∷ [] = a.distinct ∙ ap (map (output (count_of tree))) staged in
    let ordered : a.ordered ≡ ([], count (length order) ∷ []) ∷ [] = alone _ a.ordered (subst (λ all. IsPermutation all a.ordered) kept a.same) in
    let long : length order ≡ length (db tree) = length_permutation _ order g.grouping.1 ∙ one_each (λ (r : Row). params ∷ r ∷ []) (overlay db [] tree) ∙ ap (λ (rs : List Row). length rs) (stored db tree) in
    a.shown ∙ ap (λ (os : List Output). page (count_of tree) params (map (λ (o : Output). o.1) os)) ordered ∙ ap (λ n. (count n ∷ []) ∷ []) long

-- the rows that a text shows of a tree with these cells
pub counts_found : {X : Type 0} (text : List ℕ) (tree : Layout → ℕ) → Counts text tree → (cells : X → Row) (xs : List X) (old new : State) (params : Row) (rows : List Row) (at : Layout) → old.now.schema ≡ schema_at at → cells_of (old.now.trees (tree at)) ≡ map cells xs
    → Shown text params old new rows → rows ≡ (count (length xs) ∷ []) ∷ []
counts_found text tree counts cells xs old new params rows at schema stores h =
    let asks = counts at in
    let long : length (old.now.trees (tree at)) ≡ length xs = sym (mapped_length (drop 1) (old.now.trees (tree at))) ∙ ap length stores ∙ mapped_length cells xs in
    count_answer Null (tree at) old.now.trees params rows ((reads_as text params old new (schema_at at) schema _ asks.is asks.plain asks.unlisted rows h).answer Null) ∙ ap (λ n. (count n ∷ []) ∷ []) long

-- the first of the rows says how many
pub count_found : {X : Type 0} (text : List ℕ) (tree : Layout → ℕ) → Counts text tree → (cells : X → Row) (xs : List X) (old new : State) (params : Row) (rows : List Row) (n : ℕ) (at : Layout) → old.now.schema ≡ schema_at at → cells_of (old.now.trees (tree at)) ≡ map cells xs
    → Shown text params old new rows → column (slice_index_or rows 0 []) 0 ≡ integer n → n ≡ min (length xs) 9223372036854775807
count_found text tree counts cells xs old new params rows n at schema stores h told =
    let is = counts_found text tree counts cells xs old new params rows at schema stores h in
    let same : integer n ≡ count (length xs) = sym told ∙ ap (λ (rs : List Row). column (slice_index_or rs 0 []) 0) is in
    cc
