-- What is read of all rows, and lines whose words are those of their rows.
use Rattle.std.proofs.Common.{◌≡◌, ℕ, List, [], ◌∷◌, map, true, refl, sym, ap, ◌∙◌, subst}
use Rattle.std.specs.Prelude.{Option, Some, None, filter, option_map}
use Rattle.std.specs.List.{AllByRecursion, filter_map, cons_option}
use Rattle.std.proofs.lemmas.Slice.Eq.{bytes_eq-Decides}
use Rattle.canary_plan.specs.declared.line.Line.{Line}
use Rattle.canary_plan.specs.declared.line.LineEvent.{LineEvent}
use Rattle.canary_plan.specs.Lines.{words, line_at}
use Rattle.canary_plan.specs.LineReading.{event_of}
use Rattle.canary_tables_rows.specs.declared.rows.HistoryRow.{HistoryRow}
use Rattle.canary_tables_rows.specs.Tables.{Tables, is_line_of}
use Rattle.canary_tables_contents.specs.Values.{history_row, line_of_row}
use Rattle.canary_tables_contents.specs.Tables.{IsReadableLine}
use Rattle.canary_tables_contents.specs.Finding.{AreRead}
use Rattle.canary_tables_adopt.specs.OfService.{line_words, IsHistoryOf}
use Rattle.canary_tables_adopt.proofs.PlacedLemmas.{passing}

-- What is read.

read_values : {R A : Type 0} (reads : R → Option A) (rows : List R) (found : List A) → map reads rows ≡ map Some found → filter_map reads rows ≡ found
read_values reads [] [] told = refl
read_values reads [] (x ∷ found) told = absurd (cc told)
read_values reads (row ∷ rows) [] told = absurd (cc told)
read_values reads (row ∷ rows) (x ∷ found) told =
    let here : reads row ≡ Some x = cc told in
    let later : map reads rows ≡ map Some found = cc told in
    ap (λ o. cons_option o (filter_map reads rows)) here ∙ ap (λ (ys : List _). x ∷ ys) (read_values reads rows found later)

pub read_all : {R A : Type 0} (reads : R → Option A) (rows there : List R) (found : List A) → rows ≡ there → map reads rows ≡ map Some found → AreRead reads there found
read_all reads rows there found are told =
    let each : map reads there ≡ map Some found = ap (map reads) (sym are) ∙ told in
    record { values = read_values reads there found each; each = each }

-- Lines.

line_told : (row : HistoryRow) (line : Line) (o : Option LineEvent) → event_of row.line ≡ o → option_map (line_at row.moment) o ≡ Some line → (row.moment ≡ line.moment) × (event_of row.line ≡ Some line.event)
line_told row line (Some event) is e =
    let same : line_at row.moment event ≡ line = cc e in
    (ap (λ (l : Line). l.moment) same, is ∙ ap (λ (l : Line). Some l.event) same)
line_told row line None is e = absurd (cc e)

pub are_lines : (name : List ℕ) (rows : List HistoryRow) (lines : List Line) → AllByRecursion (λ row. is_line_of name row ≡ true) rows → map line_of_row rows ≡ map Some lines → map line_words lines ≡ map (λ (row : HistoryRow). row.line) rows
    → (rows ≡ map (history_row name) lines) × AllByRecursion IsReadableLine lines
are_lines name [] [] own read words_are = (refl, tt)
are_lines name [] (line ∷ lines) own read words_are = absurd (cc read)
are_lines name (row ∷ rows) [] own read words_are = absurd (cc read)
are_lines name (row ∷ rows) (line ∷ lines) own read words_are =
    let here : line_of_row row ≡ Some line = cc read in
    let text : words line.event ≡ row.line = cc words_are in
    let later : map line_of_row rows ≡ map Some lines = cc read in
    let others : map line_words lines ≡ map (λ (r : HistoryRow). r.line) rows = cc words_are in
    let told = line_told row line (event_of row.line) refl here in
    let service : name ≡ row.service = (bytes_eq-Decides name row.service).0 own.0 in
    let first : row ≡ history_row name line = λ i. record { service = sym service i; moment = told.0 i; line = sym text i } in
    let rest = are_lines name rows lines own.1 later others in
    (λ i. first i ∷ rest.0 i, (ap event_of text ∙ told.1, rest.1))

pub history_told : (name : List ℕ) (t : Tables) (rows : List HistoryRow) (lines : List Line) → rows ≡ filter (is_line_of name) t.history → map line_of_row rows ≡ map Some lines → map line_words lines ≡ map (λ (row : HistoryRow). row.line) rows → IsHistoryOf name t lines
history_told name t rows lines are read words_are =
    let found = are_lines name rows lines (subst (AllByRecursion (λ row. is_line_of name row ≡ true)) (sym are) (passing (is_line_of name) t.history)) read words_are in
    record { told = sym are ∙ found.0; lines = found.1 }

pub lines_read : (name : List ℕ) (lines : List Line) → AllByRecursion IsReadableLine lines → map line_of_row (map (history_row name) lines) ≡ map Some lines
lines_read name [] all = refl
lines_read name (line ∷ lines) all =
    let first : line_of_row (history_row name line) ≡ Some line = ap (option_map (line_at line.moment)) all.0 in
    λ i. first i ∷ lines_read name lines all.1 i
