-- What a query of one table answers.
use Rattle.std.proofs.Common.{◌≡◌, ◌^◌, ℕ, pos, negsuc, List, [], ◌∷◌, ◌++◌, map, filter, Bool, true, false, cond, if◌then◌else◌, Option, None, unwrap_or, nat_le, refl, ap, subst, ◌∙◌, IsSorted}
use Rattle.std.specs.List.{flat_map, list_all}
use Rattle.std.specs.declared.cmp.Ordering.TheVariants.{Less}
use Rattle.std.specs.List.Sorted.{IsPermutation}
use Rattle.sqlite.specs.declared.types.Value.{Value}
use Rattle.sqlite.specs.declared.types.Value.TheVariants.{Int}
use Rattle.sqlite.specs.Order.{Row, value_cmp}
use Rattle.sqlite.specs.Term.{Term, lit, col, eval_all, holds}
use Rattle.sqlite.specs.Collation.TheVariants.{Binary}
use Rattle.sqlite.specs.Query.{Query, inner, end, IsAnswerAs, Output, output, output_cmp, page}
use Rattle.sqlite.specs.Program.{overlay}
use Rattle.sqlite.specs.Tree.{Trees, IsAscending, rowid}
use Rattle.sqlite_sql.proofs.QueryLemmas.{output_cmp_total}
use Rattle.sqlite_keyed.proofs.SortLemmas.{sorted_unique}
use Rattle.sqlite_keyed.proofs.ListLemmas.{map-map, ascending-filter, ascending-map, ascending_weaker}
use Rattle.sqlite_value.specs.declared.keys.Key.{Key}
use Rattle.canary_tables_schema.specs.Stores.{IsNumbered}

-- every row of the table that passes the tests, and these columns of it, in an order, and a page of these
abbrev pub query_of : ℕ → List Term → List Term → List (Term × Key) → Term → Term → Query
query_of tree tests shown order limit offset = record {
  from = inner tree end;
  filter = tests;
  group = None;
  project = shown;
  distinct = false;
  collations = [];
  order = order;
  limit = limit;
  offset = offset;
}

-- all of them
abbrev pub no_limit : Term
no_limit = lit (Int (negsuc 0))

abbrev pub from_start : Term
from_start = lit (Int (pos 0))

-- in the order of one column, up or down
abbrev pub sorted_by : Bool → ℕ → List (Term × Key)
sorted_by down at = (col 1 at, record { collation = Binary; descending = down }) ∷ []

abbrev pub by_column : ℕ → List (Term × Key)
by_column = sorted_by false

abbrev pub passes : List Term → Row → Row → Bool
passes tests params row = list_all (holds (params ∷ row ∷ [])) tests

abbrev pub shows : List Term → Row → Row → Row
shows shown params row = eval_all shown (params ∷ row ∷ [])

flat_step : {A B : Type 0} (b : Bool) (y : B) (x : A) (rest : List B) (f : A → B) (xs : List A) → rest ≡ map f xs → y ≡ f x → (if b then y ∷ [] else []) ++ rest ≡ map f (if b then x ∷ xs else xs)
flat_step true y x rest f xs h e = rw (h, e) refl
flat_step false y x rest f xs h e = h

flat_if : {A B : Type 0} (p : A → Bool) (f : A → B) (xs : List A) → flat_map (λ x. if p x then f x ∷ [] else []) xs ≡ map f (filter p xs)
flat_if p f [] = refl
flat_if p f (x ∷ xs) = flat_step (p x) (f x) x (flat_map (λ y. if p y then f y ∷ [] else []) xs) f (filter p xs) (flat_if p f xs) refl

same_either : {A : Type 0} (b : Bool) (x : A) → cond b x x ≡ x
same_either true x = refl
same_either false x = refl

pub stored : (db : Trees) (tree : ℕ) → overlay db [] tree ≡ db tree
stored db tree = ap (λ (o : Option (List Row)). unwrap_or o (db tree)) (same_either (nat_le (2 ^ 31) tree) None)

module _ (lost : Value) (tree : ℕ) (tests shown : List Term) (order : List (Term × Key)) (limit offset : Term) (db : Trees) (params : Row) (rows : List Row) where
  abbrev q : Query
  q = query_of tree tests shown order limit offset

  abbrev pub put_out : Row → Output
  put_out r = output (query_of tree tests shown order limit offset) (params ∷ r ∷ [])

  -- what passes the tests, with what it is sorted by, in the order of the query
  pub record IsOrdered : Type 0 where
    pub ordered : List Output
    pub same : IsPermutation (map put_out (filter (passes tests params) (db tree))) ordered
    pub sorted : IsSorted (output_cmp q) ordered
    pub shown_are : rows ≡ page q params (map (λ (o : Output). o.1) ordered)

  pub is_ordered : IsAnswerAs lost q (overlay db []) params rows → IsOrdered
  is_ordered a =
      let found : a.staged ≡ map (λ r. params ∷ r ∷ []) (filter (passes tests params) (db tree)) =
      a.grouped ∙ flat_if (passes tests params) (λ r. params ∷ r ∷ []) (overlay db [] tree) ∙ ap (λ (xs : List Row). map (λ r. params ∷ r ∷ []) (filter (passes tests params) xs)) (stored db tree) in
      let kept : a.kept ≡ map put_out (filter (passes tests params) (db tree)) = a.distinct ∙ ap (map (output q)) found ∙ map-map (output q) (λ r. params ∷ r ∷ []) _ in
      record { ordered = a.ordered; same = subst (λ xs. IsPermutation xs a.ordered) kept a.same; sorted = a.sorted; shown_are = a.shown }

  -- if the rows rise in the order of the query, the answer is a page of them
  pub rising_answer : IsAscending (λ a b. output_cmp q (put_out a) (put_out b) ≡ Less) (filter (passes tests params) (db tree)) → IsOrdered → rows ≡ page q params (map (shows shown params) (filter (passes tests params) (db tree)))
  rising_answer rises a =
      let all = filter (passes tests params) (db tree) in
      let one = sorted_unique (output_cmp q) (output_cmp_total q) (map put_out all) a.ordered (ascending-map (λ x y. output_cmp q x y ≡ Less) put_out all rises) a.same a.sorted in
      a.shown_are ∙ ap (page q params) (ap (map (λ (o : Output). o.1)) one ∙ map-map (λ (o : Output). o.1) put_out all)

-- ORDER BY rowid, or the column that is the rowid
pub rowid_answer : (lost : Value) (tree : ℕ) (tests shown : List Term) (limit offset : Term) (db : Trees) (params : Row) (rows : List Row) → IsNumbered (db tree)
    → IsAnswerAs lost (query_of tree tests shown (by_column 0) limit offset) (overlay db []) params rows
    → rows ≡ page (query_of tree tests shown (by_column 0) limit offset) params (map (shows shown params) (filter (passes tests params) (db tree)))
rowid_answer lost tree tests shown limit offset db params rows up a =
    rising_answer lost tree tests shown (by_column 0) limit offset db params rows
    (ascending_weaker (λ x y. value_cmp (rowid x) (rowid y) ≡ Less) _ (λ x y h. rw h refl) _ (ascending-filter _ (passes tests params) (db tree) up.0))
    (is_ordered lost tree tests shown (by_column 0) limit offset db params rows a)
