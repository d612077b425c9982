-- What is judged of all services, one after another.
use Rattle.std.proofs.Common.{◌≡◌, inl, inr, ◌+◌, ◌<◌, ◌≤◌, ℕ, List, [], ◌∷◌, ◌++◌, length, map, take, get_or, refl, sym, ap, ◌∙◌, subst, arith}
use Rattle.std.specs.Prelude.{filter}
use Rattle.std.specs.List.{AllByRecursion, sum_by}
use Rattle.std.proofs.lemmas.List.{take_more, take_all}
use Rattle.std.proofs.lemmas.List.Sums.{sum_by-cons, sum_by-append}
use Rattle.sqlite.specs.State.{State}
use Rattle.canary_tables_rows.specs.declared.rows.ServiceRow.{ServiceRow}
use Rattle.canary_tables_rows.specs.Limits.{AreWithin}
use Rattle.canary_tables_rows.specs.Tables.{Tables, is_service}
use Rattle.canary_tables_schema.specs.Stores.{IsUsable, Stores}
use Rattle.canary_tables_contents.specs.Judged.{AreTemplatesJudged}
use Rattle.canary_tables_contents.specs.Services.{AreServicesJudged, IsServiceJudged}
use Rattle.canary_tables_contents.specs.Totals.{RunsAreSummedByService, BindingsAreSummedByService, tallies_under, bindings_under}
use Rattle.canary_tables_read.specs.Finds.{IsSame}
use Rattle.canary_tables_adopt.specs.declared.totals.Totals.{Totals}
use Rattle.canary_tables_adopt.specs.OneService.{measurements_under, lines_under, AreTotalsOf, IsServiceFound, IsServiceUnder, AreServicesFound, HaveTotals}
use Rattle.canary_tables_adopt.proofs.Each.{all_more, one_of_all}
use Rattle.canary_tables_adopt.proofs.Names.{IsIn, in_filter, in_one, same_name, names_of_rows}
use Rattle.canary_tables_adopt.proofs.Standing.{same_then, stores_then}

abbrev pub name_of : ServiceRow → List ℕ
name_of row = row.name

abbrev pub with_more : Totals → Totals → Totals
with_more a b = record { runs = a.runs + b.runs; bindings = a.bindings + b.bindings; tallies = a.tallies + b.tallies; measurements = a.measurements + b.measurements; lines = a.lines + b.lines }

names_more : (rows more : List ServiceRow) → map name_of (rows ++ more) ≡ map name_of rows ++ map name_of more
names_more [] more = refl
names_more (row ∷ rows) more = ap (λ (ns : List (List ℕ)). row.name ∷ ns) (names_more rows more)

sum_more : (f : ServiceRow → ℕ) (rows : List ServiceRow) (row : ServiceRow) (a b : ℕ) → a ≡ sum_by f rows → b ≡ f row → a + b ≡ sum_by f (rows ++ row ∷ [])
sum_more f rows row a b first last =
    let all : sum_by f (rows ++ row ∷ []) ≡ sum_by f rows + sum_by f (row ∷ []) = sum_by-append f rows (row ∷ []) in
    let one : sum_by f (row ∷ []) ≡ f row + sum_by f [] = sum_by-cons f row [] in
    let none : sum_by f [] ≡ 0 = refl in
    omega arith

-- no service yet
pub none_found : (t : Tables) (totals : Totals) → totals ≡ record { runs = 0; bindings = 0; tallies = 0; measurements = 0; lines = 0 } → AreServicesFound [] t totals
none_found t totals is =
    record {
      rows = [];
      named = refl;
      each = tt;
      are = record { runs = ap (λ (x : Totals). x.runs) is; bindings = ap (λ (x : Totals). x.bindings) is; tallies = ap (λ (x : Totals). x.tallies) is; measurements = ap (λ (x : Totals). x.measurements) is; lines = ap (λ (x : Totals). x.lines) is };
    }

-- one more
pub found_more : (t : Tables) (names : List (List ℕ)) (name : List ℕ) (totals more all : Totals) → AreServicesFound names t totals → IsServiceFound name t more → all ≡ with_more totals more → AreServicesFound (names ++ name ∷ []) t all
found_more t names name totals more all found one is =
    record {
      rows = found.rows ++ one.row ∷ [];
      named = names_more found.rows (one.row ∷ []) ∙ (λ i. found.named i ++ one.named i ∷ []);
      each = all_more (IsServiceJudged t) found.rows (one.row ∷ []) found.each (one.has.0, tt);
      are = record {
        runs = ap (λ (x : Totals). x.runs) is ∙ sum_more (λ (row : ServiceRow). row.standing.runs) found.rows one.row totals.runs more.runs found.are.runs (ap (λ (x : Totals). x.runs) one.has.1);
        bindings = ap (λ (x : Totals). x.bindings) is ∙ sum_more (bindings_under t) found.rows one.row totals.bindings more.bindings found.are.bindings (ap (λ (x : Totals). x.bindings) one.has.1);
        tallies = ap (λ (x : Totals). x.tallies) is ∙ sum_more (tallies_under t) found.rows one.row totals.tallies more.tallies found.are.tallies (ap (λ (x : Totals). x.tallies) one.has.1);
        measurements = ap (λ (x : Totals). x.measurements) is ∙ sum_more (measurements_under t) found.rows one.row totals.measurements more.measurements found.are.measurements (ap (λ (x : Totals). x.measurements) one.has.1);
        lines = ap (λ (x : Totals). x.lines) is ∙ sum_more (lines_under t) found.rows one.row totals.lines more.lines found.are.lines (ap (λ (x : Totals). x.lines) one.has.1);
      };
    }

-- The services of the first names.

pub record ServicesSoFar (names : List (List ℕ)) (i : ℕ) (old now : State) (totals : Totals) : Type 0 where
  pub same : IsSame old now
  pub found : IsUsable now → (t : Tables) → Stores old t → AreTemplatesJudged t → AreServicesFound (take i names) t totals

pub none_so_far : (names : List (List ℕ)) (old : State) (totals : Totals) → totals ≡ record { runs = 0; bindings = 0; tallies = 0; measurements = 0; lines = 0 } → ServicesSoFar names 0 old old totals
none_so_far names old totals is = record { same = λ usable. (usable, refl); found = λ usable t has judged. none_found t totals is }

pub service_more : (names : List (List ℕ)) (i : ℕ) (name : List ℕ) (old between new : State) (totals more all : Totals) → i < length names → name ≡ get_or names i name → ServicesSoFar names i old between totals → IsSame between new
    → (IsUsable new → (t : Tables) → Stores between t → AreTemplatesJudged t → IsServiceFound name t more) → all ≡ with_more totals more → ServicesSoFar names (i + 1) old new all
service_more names i name old between new totals more all below at before same one is =
    record {
      same = same_then old between new before.same same;
      found = λ usable t has judged.
          let mid = (same usable).0 in
          subst (λ ns. AreServicesFound ns t all) (sym (take_more names i name below ∙ ap (λ (n : List ℕ). take i names ++ n ∷ []) (sym at)))
          (found_more t (take i names) name totals more all (before.found mid t has judged) (one usable t (stores_then old between t before.same mid has) judged) is);
    }

pub all_found : (names : List (List ℕ)) (i : ℕ) (old now : State) (totals : Totals) → ServicesSoFar names i old now totals → length names ≤ i → IsUsable now → (t : Tables) → Stores old t → AreTemplatesJudged t → AreServicesFound names t totals
all_found names i old now totals so_far all usable t has judged = subst (λ ns. AreServicesFound ns t totals) (take_all i names all) (so_far.found usable t has judged)

-- if one is refused, not all are as they are to be
pub service_refused : (names : List (List ℕ)) (i : ℕ) (name : List ℕ) (old between new : State) → i < length names → name ≡ get_or names i name → IsSame old between → IsSame between new → IsUsable new
    → ((t : Tables) → Stores between t → AreTemplatesJudged t → AreWithin t → ¬ IsServiceUnder t name) → (t : Tables) → Stores old t → AreTemplatesJudged t → AreWithin t → ¬ AllByRecursion (IsServiceUnder t) names
service_refused names i name old between new below at before same usable refused t has judged within all =
    refused t (stores_then old between t before (same usable).0 has) judged within (one_of_all (IsServiceUnder t) names i name below at all)

-- All services.

these_rows : (t : Tables) (all rows : List ServiceRow) → ((row : ServiceRow) → IsIn row all → IsIn row t.services) → map name_of rows ≡ map name_of all → AllByRecursion (IsServiceJudged t) rows → rows ≡ all
these_rows t [] [] within named each = refl
these_rows t [] (row ∷ rows) within named each = cc
these_rows t (x ∷ all) [] within named each = cc
these_rows t (x ∷ all) (row ∷ rows) within named each =
    let first : row.name ≡ x.name = cc in
    let rest : map name_of rows ≡ map name_of all = cc in
    let there : IsIn x (filter (is_service row.name) t.services) = in_filter (is_service row.name) x t.services (within x (inl refl)) (same_name row.name x.name first) in
    let is : x ≡ row = in_one x row (subst (IsIn x) each.0.one there) in
    λ i. sym is i ∷ these_rows t all rows (λ y at. within y (inr at)) rest each.1 i

pub rows_are : (t : Tables) (names : List (List ℕ)) (totals : Totals) → names ≡ map name_of t.services → (found : AreServicesFound names t totals) → found.rows ≡ t.services
rows_are t names totals are found = these_rows t t.services found.rows (λ row at. at) (found.named ∙ are) found.each

pub services_judged : (t : Tables) (names : List (List ℕ)) (totals : Totals) → RunsAreSummedByService → BindingsAreSummedByService → names ≡ map name_of t.services → AreServicesFound names t totals → HaveTotals t totals → AreServicesJudged t
services_judged t names totals law bound are found have =
    let rows = rows_are t names totals are found in
    let each = subst (AllByRecursion (IsServiceJudged t)) rows found.each in
    let totals_are : AreTotalsOf t t.services totals = subst (λ rs. AreTotalsOf t rs totals) rows found.are in
    let runs = sym totals_are.runs ∙ have.runs in
    record {
      each = each;
      runs = runs;
      bindings = bound t each runs ∙ sym totals_are.bindings ∙ have.bindings;
      tallies = law t each runs ∙ sym totals_are.tallies ∙ have.tallies;
      measurements = sym totals_are.measurements ∙ have.measurements;
      history = sym totals_are.lines ∙ have.lines;
    }

pub totals_there : (t : Tables) (names : List (List ℕ)) (totals : Totals) → RunsAreSummedByService → BindingsAreSummedByService → names ≡ map name_of t.services → AreServicesFound names t totals → AreServicesJudged t → HaveTotals t totals
totals_there t names totals law bound are found judged =
    let totals_are : AreTotalsOf t t.services totals = subst (λ rs. AreTotalsOf t rs totals) (rows_are t names totals are found) found.are in
    record {
      runs = totals_are.runs ∙ judged.runs;
      bindings = totals_are.bindings ∙ sym (bound t judged.each judged.runs) ∙ judged.bindings;
      tallies = totals_are.tallies ∙ sym (law t judged.each judged.runs) ∙ judged.tallies;
      measurements = totals_are.measurements ∙ judged.measurements;
      lines = totals_are.lines ∙ judged.history;
    }

pub each_service : (t : Tables) (names : List (List ℕ)) → names ≡ map name_of t.services → AreServicesJudged t → AllByRecursion (IsServiceUnder t) names
each_service t names are judged = names_of_rows name_of (IsServiceJudged t) t.services names are judged.each
