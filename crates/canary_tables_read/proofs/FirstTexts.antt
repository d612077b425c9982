-- What the queries on the first schema find.
use Rattle.std.proofs.Common.{◌≡◌, ◌↔◌, ◌<◌, ℕ, zero, suc, pos, List, [], ◌∷◌, length, map, take, get_or, codes, false, Option, Some, None, refl, sym, ap, subst, ◌∙◌, arith}
use Rattle.std.specs.List.{AllByRecursion}
use Rattle.sqlite.specs.declared.types.Value.TheVariants.{Null, Int, Text as Words}
use Rattle.sqlite.specs.Order.{Row}
use Rattle.sqlite.specs.Term.{Term, lit, col}
use Rattle.sqlite.specs.Effect.{Database}
use Rattle.sqlite.specs.Schema.{Schema}
use Rattle.sqlite.specs.Table.{Table}
use Rattle.sqlite.specs.Listing.{understood, reads_listing}
use Rattle.sqlite.specs.State.{State, Shown}
use Rattle.sqlite.specs.Command.TheVariants.{Select}
use Rattle.sqlite.proofs.Callers.{IsPlain, command_of, reads_as}
use Rattle.sqlite_tied.specs.Compute.{everything}
use Rattle.canary_tables_schema.specs.Cells.{whole_or_null, number_or_null}
use Rattle.canary_tables_schema.specs.First.{first_schema}
use Rattle.canary_tables_schema.specs.Stores.{IsNumbered}
use Rattle.canary_tables_read.specs.declared.first.TemplateRow.{TemplateRow}
use Rattle.canary_tables_read.specs.declared.first.FirstTally.{FirstTally}
use Rattle.canary_tables_read.specs.First.{IsFirst, template_shown, tally_shown, template_cells, first_tally_cells}
use Rattle.canary_tables_read.specs.Queries.{IsQuery}
use Rattle.canary_tables_read.proofs.Answer.{query_of, no_limit, from_start, by_column, rowid_answer}
use Rattle.canary_tables_read.proofs.Holding.{all_pass}
use Rattle.canary_tables_read.proofs.TypedRows.{same_rows}

-- under the first schema a text asks for these columns of all rows of a tree
record AsksFirst (text : List ℕ) (tree : ℕ) (shown : List Term) : Type 0 where
  names : List (List ℕ)
  is : command_of (understood first_schema text) ≡ Select (record { lets = []; body = query_of tree [] shown (by_column 0) no_limit from_start }) names
  plain : IsPlain (understood first_schema text)
  unlisted : reads_listing first_schema text ≡ false

abbrev pub templates_text : List ℕ
templates_text = codes "SELECT name, spec FROM template ORDER BY rowid"

abbrev template_columns : List Term
template_columns = col 1 1 ∷ col 1 2 ∷ []

pub templates_query : IsQuery templates_text
unfolding everything
templates_query = tt

asks_templates : AsksFirst templates_text 5 template_columns
unfolding understood everything
asks_templates = record { names = _; is = refl; plain = (refl, refl); unlisted = refl }

abbrev pub tallies_text : List ℕ
tallies_text = codes "SELECT service, run, metric, counted, failed, inconclusive, errors, consecutive, last FROM tally ORDER BY rowid"

abbrev tally_columns : List Term
tally_columns = col 1 1 ∷ col 1 2 ∷ col 1 3 ∷ col 1 4 ∷ col 1 5 ∷ col 1 6 ∷ col 1 7 ∷ col 1 8 ∷ col 1 9 ∷ []

pub tallies_query : IsQuery tallies_text
unfolding everything
tallies_query = tt

asks_tallies : AsksFirst tallies_text 11 tally_columns
unfolding understood everything
asks_tallies = record { names = _; is = refl; plain = (refl, refl); unlisted = refl }

pub rising_in : (db : Database) → IsFirst db → AllByRecursion (λ (t : Table). IsNumbered (db.trees t.tree)) first_schema.tables
rising_in db first = subst (λ (s : Schema). AllByRecursion (λ (t : Table). IsNumbered (db.trees t.tree)) s.tables) first.schema first.rising

module _ (old new : State) (rows : List Row) (first : IsFirst old.now) where
  pub templates_shown : Shown templates_text [] old new rows → rows ≡ map template_shown (old.now.trees 5)
  templates_shown h =
      rowid_answer Null 5 [] template_columns no_limit from_start old.now.trees [] rows (rising_in old.now first).1.1.1.0 ((reads_as templates_text [] old new first_schema first.schema _ asks_templates.is asks_templates.plain asks_templates.unlisted rows h).answer Null)
      ∙ ap (map template_shown) (all_pass (old.now.trees 5))

  pub tallies_shown : Shown tallies_text [] old new rows → rows ≡ map tally_shown (old.now.trees 11)
  tallies_shown h =
      rowid_answer Null 11 [] tally_columns no_limit from_start old.now.trees [] rows (rising_in old.now first).1.1.1.1.1.1.0 ((reads_as tallies_text [] old new first_schema first.schema _ asks_tallies.is asks_tallies.plain asks_tallies.unlisted rows h).answer Null)
      ∙ ap (map tally_shown) (all_pass (old.now.trees 11))

-- what is read of the rows that are shown

template_back : Row → Option TemplateRow
template_back (Words name ∷ Words spec ∷ []) = Some (record { name = name; spec = spec })
template_back row = None

tally_with : List ℕ → ℕ → ℕ → ℕ → ℕ → ℕ → ℕ → ℕ → Option (Option ℕ) → Option FirstTally
tally_with service run metric counted failed inconclusive errors consecutive (Some last) =
    Some (record { service = service; run = run; metric = metric; counted = counted; failed = failed; inconclusive = inconclusive; errors = errors; consecutive = consecutive; last = last })
tally_with service run metric counted failed inconclusive errors consecutive None = None

tally_back : Row → Option FirstTally
tally_back (Words service ∷ Int (pos run) ∷ Int (pos metric) ∷ Int (pos counted) ∷ Int (pos failed) ∷ Int (pos inconclusive) ∷ Int (pos errors) ∷ Int (pos consecutive) ∷ last ∷ []) =
    tally_with service run metric counted failed inconclusive errors consecutive (number_or_null last)
tally_back row = None

number_again : (n : Option ℕ) → number_or_null (whole_or_null n) ≡ Some n
number_again None = refl
number_again (Some n) = refl

template_again : (x : TemplateRow) → template_back (template_cells x) ≡ Some x
unfolding template_back
template_again x = refl

tally_again : (x : FirstTally) → tally_back (first_tally_cells x) ≡ Some x
unfolding tally_back tally_with
tally_again x = ap (tally_with x.service x.run x.metric x.counted x.failed x.inconclusive x.errors x.consecutive) (number_again x.last)

pub same_templates : (xs ys : List TemplateRow) → map template_cells xs ≡ map template_cells ys → xs ≡ ys
same_templates xs ys e = same_rows template_cells template_back template_again xs ys e

pub same_tallies : (xs ys : List FirstTally) → map first_tally_cells xs ≡ map first_tally_cells ys → xs ≡ ys
same_tallies xs ys e = same_rows first_tally_cells tally_back tally_again xs ys e

-- one of the rows that are shown is not one that a program can hold
pub one_unheld : {X : Type 0} (cells : X → Row) (Within : X → Type 0) (rows : List Row) (i : ℕ) (d : Row) → i < length rows → ((x : X) → cells x ≡ get_or rows i d → Within x → ⊥) → (all : List X) → map cells all ≡ rows → AllByRecursion Within all → ⊥
one_unheld cells Within [] i d lt none all same within = absurd (omega arith)
one_unheld cells Within (row ∷ rows) i d lt none [] same within = absurd (cc)
one_unheld cells Within (row ∷ rows) zero d lt none (x ∷ all) same within = none x (cc) within.0
one_unheld cells Within (row ∷ rows) (suc i) d lt none (x ∷ all) same within = let later : map cells all ≡ rows = cc in one_unheld cells Within rows i d (omega arith) none all later within.1
