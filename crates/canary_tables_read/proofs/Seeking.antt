-- Texts that show a row if one passes the tests.
use Rattle.std.proofs.Common.{◌≡◌, ◌==◌, ℕ, suc, pos, List, [], ◌∷◌, length, map, filter, take, if◌then◌else◌, Bool, true, false, refl, sym, ap, ◌∙◌, arith}
use Rattle.std.specs.List.{AllByRecursion}
use Rattle.std.proofs.lemmas.List.Sorted.{length_permutation}
use Rattle.sqlite_keyed.proofs.ListLemmas.{filter_none}
use Rattle.sqlite.specs.declared.types.Value.TheVariants.{Null, Int}
use Rattle.sqlite.specs.Order.{Row}
use Rattle.sqlite.specs.Term.{Term, lit, col, op2}
use Rattle.sqlite.specs.Schema.{Schema}
use Rattle.sqlite.specs.Listing.{understood, reads_listing}
use Rattle.sqlite.specs.Query.{Output}
use Rattle.sqlite.specs.State.{State, Shown}
use Rattle.sqlite.specs.Command.TheVariants.{Select}
use Rattle.sqlite.proofs.Callers.{IsPlain, command_of, reads_as}
use Rattle.sqlite_sql.specs.declared.ops.BinaryOp.TheVariants.{Compare, Or}
use Rattle.sqlite_sql.specs.declared.ops.CompareOp.TheVariants.{Lt}
use Rattle.sqlite_value.specs.declared.keys.Collation.TheVariants.{Binary}
use Rattle.canary_tables_schema.specs.Layout.{Layout}
use Rattle.canary_tables_schema.specs.Schema.{schema_at}
use Rattle.canary_tables_read.proofs.Answer.{query_of, from_start, passes, put_out, IsOrdered, is_ordered}

-- the column at this place is less than 0
abbrev pub below : ℕ → Term
below at = op2 (Compare Lt Binary) (col 1 at) (lit (Int (pos 0)))

-- or one of these is
abbrev pub or_below : Term → List ℕ → Term
or_below test [] = test
or_below test (at ∷ places) = or_below (op2 Or test (below at)) places

abbrev pub only_one : Term
only_one = lit (Int (pos 1))

-- under a schema a text asks for 1 if a row of the tree passes the tests
pub record SeeksIn (schema : Schema) (text : List ℕ) (tree : ℕ) (tests : List Term) : Type 0 where
  pub names : List (List ℕ)
  pub is : command_of (understood schema text) ≡ Select (record { lets = []; body = query_of tree tests (only_one ∷ []) [] only_one from_start }) names
  pub plain : IsPlain (understood schema text)
  pub unlisted : reads_listing schema text ≡ false

-- so in a layout, with one test
abbrev pub SeeksAt : Layout → List ℕ → ℕ → Term → Type 0
SeeksAt at text tree test = SeeksIn (schema_at at) text tree (test ∷ [])

-- so in each layout
abbrev pub Seeks : List ℕ → (Layout → ℕ) → Term → Type 0
Seeks text tree test = (at : Layout) → SeeksAt at text (tree at) test

empty_by : {A B : Type 0} (f : A → B) (xs : List A) → [] ≡ take 1 (map f xs) → length xs ≡ 0
empty_by f [] h = refl
empty_by f (x ∷ xs) h = absurd (cc)

full_by : {A B : Type 0} (f : A → B) (y : B) (ys : List B) (xs : List A) → y ∷ ys ≡ take 1 (map f xs) → length xs ≡ 0 → ⊥
full_by f y ys [] h e = cc
full_by f y ys (x ∷ xs) h e = omega (arith, e)

none_here : {A : Type 0} (b : Bool) (x : A) (rest : List A) → length (if b then x ∷ rest else rest) ≡ 0 → (b ≡ false) × (length rest ≡ 0)
none_here true x rest h = absurd (omega (arith, h))
none_here false x rest h = (refl, h)

none_kept : {A : Type 0} (p : A → Bool) (xs : List A) → length (filter p xs) ≡ 0 → AllByRecursion (λ x. p x ≡ false) xs
none_kept p [] h = tt
none_kept p (x ∷ xs) h = let it = none_here (p x) x (filter p xs) h in (it.0, none_kept p xs it.1)

mapped_length : {A B : Type 0} (f : A → B) (xs : List A) → length (map f xs) ≡ length xs
mapped_length f [] = refl
mapped_length f (x ∷ xs) = ap suc (mapped_length f xs)

module _ (text : List ℕ) (tree : ℕ) (tests : List Term) (old new : State) (rows : List Row) where
  -- the rows that are shown are the first of those that pass the tests
  abbrev IsSought : Type 0
  IsSought = IsOrdered Null tree tests (only_one ∷ []) [] only_one from_start old.now.trees [] rows

  sought : (schema : Schema) → old.now.schema ≡ schema → SeeksIn schema text tree tests → Shown text [] old new rows → IsSought
  sought schema is asks h =
      is_ordered Null tree tests (only_one ∷ []) [] only_one from_start old.now.trees [] rows ((reads_as text [] old new schema is _ asks.is asks.plain asks.unlisted rows h).answer Null)

  as_many : (s : IsSought) → length (filter (passes tests []) (old.now.trees tree)) ≡ length s.ordered
  as_many s = sym (mapped_length (put_out Null tree tests (only_one ∷ []) [] only_one from_start old.now.trees [] rows) (filter (passes tests []) (old.now.trees tree))) ∙ sym (length_permutation _ s.ordered s.same)

-- if no row is shown, none passes
pub none_passes : (text : List ℕ) (tree : ℕ) (tests : List Term) (old new : State) (schema : Schema) → old.now.schema ≡ schema → SeeksIn schema text tree tests → Shown text [] old new [] → AllByRecursion (λ row. passes tests [] row ≡ false) (old.now.trees tree)
none_passes text tree tests old new schema is asks h =
    let s = sought text tree tests old new [] schema is asks h in
    let cut : [] ≡ take 1 (map (λ (o : Output). o.1) s.ordered) = s.shown_are in
    none_kept (passes tests []) (old.now.trees tree) (as_many text tree tests old new [] s ∙ empty_by (λ (o : Output). o.1) s.ordered cut)

-- if a row is shown, one passes
pub one_passes : (text : List ℕ) (tree : ℕ) (tests : List Term) (old new : State) (row : Row) (rows : List Row) (schema : Schema) → old.now.schema ≡ schema → SeeksIn schema text tree tests → Shown text [] old new (row ∷ rows)
    → AllByRecursion (λ row. passes tests [] row ≡ false) (old.now.trees tree) → ⊥
one_passes text tree tests old new row rows schema is asks h none =
    let s = sought text tree tests old new (row ∷ rows) schema is asks h in
    let cut : row ∷ rows ≡ take 1 (map (λ (o : Output). o.1) s.ordered) = s.shown_are in
    full_by (λ (o : Output). o.1) row rows s.ordered cut (sym (as_many text tree tests old new (row ∷ rows) s) ∙ ap length (filter_none (passes tests []) (old.now.trees tree) none))

-- if rows are shown, there is a first
pub some_row : (text : List ℕ) (old new : State) (rows : List Row) → (length rows == 0) ≡ false → Shown text [] old new rows → (row : Row) × (rest : List Row) × Shown text [] old new (row ∷ rest)
some_row text old new [] e h = absurd (cc)
some_row text old new (row ∷ rest) e h = (row, rest, h)
