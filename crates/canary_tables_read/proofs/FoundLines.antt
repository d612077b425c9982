-- What the queries on `history` find.
use Rattle.std.proofs.Common.{◌≡◌, ◌∷◌, [], ℕ, zero, suc, List, map, filter, take, drop, refl, sym, ap, subst, ◌∙◌}
use Rattle.sqlite.specs.declared.types.Value.TheVariants.{Null, Text as Words}
use Rattle.sqlite.specs.Order.{Row}
use Rattle.sqlite.specs.Term.{col}
use Rattle.sqlite.specs.State.{State, Shown}
use Rattle.canary_tables_rows.specs.Tables.{Tables, is_line_of}
use Rattle.canary_tables_schema.specs.Layout.{history_at}
use Rattle.canary_tables_schema.specs.Cells.{integer, history_cells}
use Rattle.canary_tables_schema.specs.Stores.{Stores}
use Rattle.canary_tables_read.specs.Finds.{TellsCells}
use Rattle.canary_tables_read.proofs.Answer.{passes, shows}
use Rattle.canary_tables_read.proofs.Asking.{all_found, page_found}
use Rattle.canary_tables_read.proofs.Tests.{and_true, words_same, same_words}
use Rattle.canary_tables_read.proofs.Texts.{history_text, history_tests, history_shown, history_asks, lines_text, lines_asks}
use Rattle.canary_tables_read.proofs.TypedRows.{Tells, taken}

tells_line : (service : List ℕ) (rest : Row)
    → Tells history_cells (is_line_of service) history_cells (λ row. Null ∷ Words service ∷ row) (passes history_tests (Words service ∷ rest)) (shows history_shown (Words service ∷ rest))
tells_line service rest = record {
  filled = λ x. (_, _, refl);
  tests = λ id x. and_true _ ∙ words_same x.service service;
  shown = λ id x h. ap (λ n. Null ∷ Words n ∷ integer x.moment ∷ Words x.line ∷ []) (same_words service x.service h);
}

-- what is shown are the lines of the service, in their order
pub line_rows : (old new : State) (t : Tables) (service : List ℕ) (params : Row) (rows : List Row) → Stores old t → params ≡ Words service ∷ [] → Shown history_text params old new rows
    → TellsCells history_cells (λ row. Null ∷ Words service ∷ row) (filter (is_line_of service) t.history) rows
line_rows old new t service params rows has given h =
    all_found history_text history_at history_tests history_shown history_asks history_cells (is_line_of service) history_cells (λ row. Null ∷ Words service ∷ row) (Words service ∷ []) (tells_line service []) t.history rows
    (record { old = old; new = new; layout = has.layout; schema = has.holds.schema; numbered = has.holds.numbered.1.1.1.1.1.1.0; stored = has.holds.history; shows_rows = subst (λ p. Shown history_text p old new rows) given h })

dropped : {A B : Type 0} (f : A → B) (from : ℕ) (xs : List A) → map f (drop from xs) ≡ drop from (map f xs)
dropped f zero xs = refl
dropped f (suc from) [] = refl
dropped f (suc from) (x ∷ xs) = dropped f from xs

pub paged : {A B : Type 0} (f : A → B) (most from : ℕ) (xs : List A) → map f (take most (drop from xs)) ≡ take most (drop from (map f xs))
paged f most from xs = taken f most (drop from xs) ∙ ap (take most) (dropped f from xs)

-- what is shown is a page of the lines of the service, in their order
pub line_page_rows : (old new : State) (t : Tables) (service : List ℕ) (from most : ℕ) (params : Row) (rows : List Row) → Stores old t → params ≡ Words service ∷ integer from ∷ integer most ∷ [] → Shown lines_text params old new rows
    → TellsCells history_cells (λ row. Null ∷ Words service ∷ row) (take most (drop from (filter (is_line_of service) t.history))) rows
line_page_rows old new t service from most params rows has given h =
    let asked = Words service ∷ integer from ∷ integer most ∷ [] in
    let p = page_found lines_text history_at history_tests history_shown (col 0 2) (col 0 1) lines_asks history_cells (is_line_of service) history_cells (λ row. Null ∷ Words service ∷ row) asked
    (tells_line service (integer from ∷ integer most ∷ [])) t.history rows
    (record { old = old; new = new; layout = has.layout; schema = has.holds.schema; numbered = has.holds.numbered.1.1.1.1.1.1.0; stored = has.holds.history; shows_rows = subst (λ p. Shown lines_text p old new rows) given h }) in
    ap (map (λ row. Null ∷ Words service ∷ row)) p.1 ∙ paged (λ row. Null ∷ Words service ∷ row) most from p.0 ∙ ap (λ rows. take most (drop from rows)) p.2
    ∙ sym (paged history_cells most from (filter (is_line_of service) t.history))
