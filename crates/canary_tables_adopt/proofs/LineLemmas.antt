-- Lines of a history that are read page by page.
use Rattle.std.proofs.Common.{◌≡◌, ◌↔◌, ℕ, zero, suc, ◌+◌, ◌<◌, ◌≤◌, List, [], ◌∷◌, ◌++◌, length, map, take, drop, filter, refl, sym, ap, ◌∙◌, subst, arith, IsTrue, true, false}
use Rattle.std.specs.Prelude.{Option, Some, None, IfSome, is_some}
use Rattle.std.specs.List.{AllByRecursion}
use Rattle.std.proofs.lemmas.Bool.{false≢true}
use Rattle.std.proofs.lemmas.List.{take_all}
use Rattle.sqlite.specs.State.{State}
use Rattle.canary_plan.specs.declared.line.Line.{Line}
use Rattle.canary_tables_rows.specs.declared.rows.HistoryRow.{HistoryRow}
use Rattle.canary_tables_rows.specs.Tables.{Tables, is_line_of}
use Rattle.canary_tables_schema.specs.Stores.{IsUsable, Stores}
use Rattle.canary_tables_contents.specs.Values.{history_row, line_of_row}
use Rattle.canary_tables_read.specs.Finds.{IsSame}
use Rattle.canary_tables_read.specs.Chosen.{lines_of}
use Rattle.canary_tables_adopt.specs.HistoryLines.{IsLineRow, AreLines, IsPageOfLines, lines_after}
use Rattle.canary_tables_adopt.specs.OfService.{IsHistoryOf, line_words}
use Rattle.canary_tables_adopt.proofs.Each.{all_more}
use Rattle.canary_tables_adopt.proofs.HistoryLemmas.{history_told, lines_read}
use Rattle.canary_tables_adopt.proofs.MeasuredLemmas.{page_more, page_within, last_page}
use Rattle.canary_tables_adopt.proofs.Standing.{same_then, stores_then}

-- One row.

one_line : (row : HistoryRow) (o : Option Line) → line_of_row row ≡ o → IfSome o (λ line. line_words line ≡ row.line) → (IsTrue (is_some o) → IsLineRow row) × (IsLineRow row → IsTrue (is_some o))
one_line row (Some line) is words = (λ found. record { line = line; read = is; words = words }, λ there. refl)
one_line row None is words = (λ found. absurd (false≢true found), λ there. let no_way : None ≡ Some there.line = sym is ∙ there.read in absurd (cc no_way))

pub line_row : (row : HistoryRow) (o : Option Line) → o ≡ line_of_row row → IfSome o (λ line. line_words line ≡ row.line) → (IsTrue (is_some o) → IsLineRow row) × (IsLineRow row → IsTrue (is_some o))
line_row row o is words = one_line row o (sym is) words

-- A page.

all_taken : {X : Type 0} (P : X → Type 0) (n : ℕ) (xs : List X) → AllByRecursion P xs → AllByRecursion P (take n xs)
all_taken P zero xs all = tt
all_taken P (suc n) [] all = tt
all_taken P (suc n) (x ∷ xs) all = (all.0, all_taken P n xs all.1)

all_dropped : {X : Type 0} (P : X → Type 0) (n : ℕ) (xs : List X) → AllByRecursion P xs → AllByRecursion P (drop n xs)
all_dropped P zero xs all = all
all_dropped P (suc n) [] all = tt
all_dropped P (suc n) (x ∷ xs) all = all_dropped P n xs all.1

pub page_there : (name : List ℕ) (most from : ℕ) (t : Tables) → AreLines name t → AllByRecursion IsLineRow (lines_after name most from t)
page_there name most from t all = all_taken IsLineRow most (drop from (lines_of name t)) (all_dropped IsLineRow from (lines_of name t) all)

-- Pages.

pub record AreLinesSoFar (name : List ℕ) (count : ℕ) (t : Tables) : Type 0 where
  pub within : count ≤ length (lines_of name t)
  pub lines : AllByRecursion IsLineRow (take count (lines_of name t))

-- those so far are lines', and nothing was changed
pub record LinesSoFar (name : List ℕ) (count : ℕ) (old now : State) : Type 0 where
  pub same : IsSame old now
  pub value : IsUsable now → (t : Tables) → Stores old t → AreLinesSoFar name count t

pub none_so_far : (name : List ℕ) (count : ℕ) (old : State) → count ≡ 0 → LinesSoFar name count old old
none_so_far name count old none = record {
  same = λ usable. (usable, refl);
  value = λ usable t has. record { within = omega (arith, none); lines = subst (λ n. AllByRecursion IsLineRow (take n (lines_of name t))) (sym none) tt };
}

one_page_more : (name : List ℕ) (most before more after : ℕ) (t : Tables) → AreLinesSoFar name before t → IsPageOfLines name most before t more → after ≡ before + more → AreLinesSoFar name after t
one_page_more name most before more after t so_far page sum =
    let all : List HistoryRow = lines_of name t in
    let to : after ≡ before + length (lines_after name most before t) = sum ∙ ap (λ n. before + n) page.so_many in
    record {
      within = subst (λ n. n ≤ length all) (sym to) (page_within before most all so_far.within);
      lines = subst (AllByRecursion IsLineRow) (sym (ap (λ n. take n all) to ∙ page_more before most all)) (all_more IsLineRow (take before all) (lines_after name most before t) so_far.lines page.lines);
    }

pub pages_more : (name : List ℕ) (most before more after : ℕ) (old between new : State) → LinesSoFar name before old between → IsSame between new
    → (IsUsable new → (t : Tables) → Stores between t → IsPageOfLines name most before t more) → after ≡ before + more → LinesSoFar name after old new
pages_more name most before more after old between new so_far same page sum =
    record {
      same = same_then old between new so_far.same same;
      value = λ usable t has.
          let mid = (same usable).0 in
          one_page_more name most before more after t (so_far.value mid t has) (page usable t (stores_then old between t so_far.same mid has)) sum;
    }

-- after the last page
pub all_lines : (name : List ℕ) (most before more after : ℕ) (t : Tables) → AreLinesSoFar name before t → IsPageOfLines name most before t more → after ≡ before + more → more < most → AreLines name t × (after ≡ length (lines_of name t))
all_lines name most before more after t so_far page sum few =
    let all : List HistoryRow = lines_of name t in
    let less : length (lines_after name most before t) < most = subst (λ n. n < most) page.so_many few in
    let count : after ≡ length all = sum ∙ ap (λ n. before + n) page.so_many ∙ last_page before most all so_far.within less in
    let last = one_page_more name most before more after t so_far page sum in
    (subst (AllByRecursion IsLineRow) (take_all after all (omega (arith, count))) last.lines, count)

-- Rows of lines are those of the definition.

lines_there : (rows : List HistoryRow) → AllByRecursion IsLineRow rows → (lines : List Line) × (map line_of_row rows ≡ map Some lines) × (map line_words lines ≡ map (λ (row : HistoryRow). row.line) rows)
lines_there [] all = ([], refl, refl)
lines_there (row ∷ rows) all =
    let rest = lines_there rows all.1 in
    (all.0.line ∷ rest.0, λ i. all.0.read i ∷ rest.1 i, λ i. all.0.words i ∷ rest.2 i)

pub history_there : (name : List ℕ) (t : Tables) → AreLines name t → (lines : List Line) × IsHistoryOf name t lines
history_there name t all =
    let it = lines_there (lines_of name t) all in
    (it.0, history_told name t (lines_of name t) it.0 refl it.1 it.2)

rows_of_lines : (name : List ℕ) (lines : List Line) → map line_of_row (map (history_row name) lines) ≡ map Some lines → AllByRecursion IsLineRow (map (history_row name) lines)
rows_of_lines name [] read = tt
rows_of_lines name (line ∷ lines) read =
    let here : line_of_row (history_row name line) ≡ Some line = cc read in
    let later : map line_of_row (map (history_row name) lines) ≡ map Some lines = cc read in
    (record { line = line; read = here; words = refl }, rows_of_lines name lines later)

pub lines_of_history : (name : List ℕ) (t : Tables) (lines : List Line) → IsHistoryOf name t lines → AreLines name t
lines_of_history name t lines h = subst (AllByRecursion IsLineRow) (sym h.told) (rows_of_lines name lines (lines_read name lines h.lines))
