-- What is bound by the migration, key by key: of one service, and then of all.
use Rattle.std.proofs.Common.{◌≡◌, ◌⊎◌, inl, inr, ◌≤◌, ◌<◌, ℕ, zero, suc, List, [], ◌∷◌, ◌++◌, Bool, true, false, Some, None, refl, sym, ap, ◌∙◌, subst, eqb-true, append-nil, arith}
use Rattle.std.specs.Prelude.{Option, cond, ◌&&◌, ◌==◌, not, map, filter, find, flat_map}
use Rattle.std.specs.List.{AllByRecursion}
use Rattle.std.specs.Str.{bytes_eq}
use Rattle.std.proofs.lemmas.List.Elements.{filter-append}
use Rattle.canary_plan.specs.declared.analysis_parts.Revision.{Revision}
use Rattle.canary_plan.specs.declared.service.ServiceSpec.{ServiceSpec}
use Rattle.canary_plan.specs.Commands.{all_names}
use Rattle.canary_plan.specs.PlanRefusals.{analyses}
use Rattle.canary_plan.specs.Plans.{distinct, is_of_other}
use Rattle.canary_canonical.specs.Readings.{canonical_in}
use Rattle.canary_tables_rows.specs.declared.rows.BindingRow.{BindingRow}
use Rattle.canary_tables_rows.specs.declared.rows.RunRow.{RunRow}
use Rattle.canary_tables_rows.specs.declared.rows.ServiceRow.{ServiceRow}
use Rattle.canary_tables_rows.specs.Tables.{is_binding, is_run, is_service}
use Rattle.canary_tables_read.specs.Finds.{first}
use Rattle.canary_tables_contents.specs.Tables.{row_if, is_of_template}
use Rattle.canary_tables_contents.specs.Values.{binding_row, made_from}
use Rattle.canary_migrate.specs.Migrated.{first_of, bindings_to, names_at, run_bindings, bindings_of_runs, bindings_made, service_bindings, bindings_named, all_bindings}
use Rattle.canary_migrate.proofs.Filters.{own_name, same_name, own_number, differ, first_holds, second_holds, all_join, all_mapped, all_weaker, none_pass, none_of_both, same_of_both, filter_mapped, mapped_if, first_passes}

-- Of each template the first revision.

apart_of : (template : List ℕ) (r : Revision) → bytes_eq template r.template ≡ true → (x : Revision) → is_of_other r x ≡ true → is_of_template template x ≡ false
apart_of template r e x other =
    let same : template ≡ r.template = same_name template r.template e in
    subst (λ (name : List ℕ). bytes_eq name x.template ≡ false) (sym same) (turned_off (bytes_eq r.template x.template) other)
  where
    turned_off : (b : Bool) → not b ≡ true → b ≡ false
    turned_off true e = cc e
    turned_off false e = refl

kept_of : (template : List ℕ) (r : Revision) → bytes_eq template r.template ≡ false → (x : Revision) → is_of_other r x ≡ false → is_of_template template x ≡ false
kept_of template r e x other =
    let same : r.template ≡ x.template = same_name r.template x.template (turned_on (bytes_eq r.template x.template) other) in
    subst (λ (name : List ℕ). bytes_eq template name ≡ false) same e
  where
    turned_on : (b : Bool) → not b ≡ false → b ≡ true
    turned_on true e = refl
    turned_on false e = cc e

first_distinct : (template : List ℕ) (rs : List Revision) → filter (is_of_template template) (distinct rs) ≡ row_if (λ r. r) (find (is_of_template template) rs)
first_distinct template [] = refl
first_distinct template (r ∷ rs) =
    let rest : List Revision = filter (is_of_other r) (distinct rs) in
    elim (bytes_eq template r.template)
    as (λ b. bytes_eq template r.template ≡ b → cond b (r ∷ filter (is_of_template template) rest) (filter (is_of_template template) rest) ≡ row_if (λ (x : Revision). x) (cond b (Some r) (find (is_of_template template) rs))) [
      | true ↦ λ e. ap (λ (xs : List Revision). r ∷ xs) (none_of_both (is_of_template template) (is_of_other r) (apart_of template r e) (distinct rs))
      | false ↦ λ e. same_of_both (is_of_template template) (is_of_other r) (kept_of template r e) (distinct rs) ∙ first_distinct template rs
    ] refl

-- One run, or the present attempt.

-- the rows of its number
pub own_rows : (name : List ℕ) (k : ℕ) (template : List ℕ) (rs : List Revision) → filter (is_binding name k template) (map (binding_row name k) (distinct rs)) ≡ row_if (binding_row name k) (find (is_of_template template) rs)
own_rows name k template rs =
    filter_mapped (is_binding name k template) (binding_row name k) (distinct rs)
    ∙ ap (map (binding_row name k)) (ap (λ (p : Revision → Bool). filter p (distinct rs)) (λ i r. own_name name i && (own_number k i && bytes_eq template r.template)) ∙ first_distinct template rs)
    ∙ mapped_if (binding_row name k) (λ r. r) (find (is_of_template template) rs)

-- of this service, and of a run of this number
record IsOfRun (name : List ℕ) (k : ℕ) (b : BindingRow) : Type 0 where
  service : b.service ≡ name
  run : b.run ≡ k

of_run : (name : List ℕ) (k : ℕ) (names : List (List ℕ)) → AllByRecursion (IsOfRun name k) (bindings_to name k names)
of_run name k names = all_mapped (IsOfRun name k) (binding_row name k) (λ r. record { service = refl; run = refl }) (distinct (map first_of names))

none_of_run : (name : List ℕ) (k j : ℕ) (template : List ℕ) → (k ≡ j → ⊥) → (rows : List BindingRow) → AllByRecursion (IsOfRun name j) rows → filter (is_binding name k template) rows ≡ []
none_of_run name k j template apart rows are =
    none_pass (is_binding name k template) rows (all_weaker (IsOfRun name j) (λ b. is_binding name k template b ≡ false) one rows are)
  where
    never : (a b c : Bool) → b ≡ false → (a && (b && c)) ≡ false
    never true b c e = ap (λ x. x && c) e
    never false b c e = refl

    one : (b : BindingRow) → IsOfRun name j b → is_binding name k template b ≡ false
    one b is = never (bytes_eq name b.service) (k == b.run) (bytes_eq template b.template) (differ k b.run (λ same. apart (same ∙ is.run)))

either : (n m : ℕ) → (n ≤ m) ⊎ (m < n)
either zero m = inl (omega arith)
either (suc n) zero = inr (omega arith)
either (suc n) (suc m) = up (either n m)
  where
    up : (n ≤ m) ⊎ (m < n) → (suc n ≤ suc m) ⊎ (suc m < suc n)
    up (inl few) = inl (omega (arith, few))
    up (inr many) = inr (omega (arith, many))

-- the rows of the run that stands under a number

by_row : (name : List ℕ) (k : ℕ) (made : ServiceSpec) (o : Option RunRow) → ((row : RunRow) → o ≡ Some row → is_run name k row ≡ true) → AllByRecursion (IsOfRun name k) (run_bindings made o)
by_row name k made None is = tt
by_row name k made (Some row) is =
    let passes = is row refl in
    let service : name ≡ row.service = same_name name row.service (first_holds (bytes_eq name row.service) (k == row.number) passes) in
    let number : k ≡ row.number = eqb-true k row.number (second_holds (bytes_eq name row.service) (k == row.number) passes) in
    all_weaker (IsOfRun row.service row.number) (IsOfRun name k) (λ b h. record { service = h.service ∙ sym service; run = h.run ∙ sym number }) (bindings_to row.service row.number (names_at made row.step)) (of_run row.service row.number (names_at made row.step))

module _ (runs : List RunRow) (name : List ℕ) (made : ServiceSpec) where
  abbrev under : ℕ → List BindingRow
  under k = run_bindings made (first (filter (is_run name k) runs))

  under_run : (k : ℕ) → AllByRecursion (IsOfRun name k) (under k)
  under_run k = by_row name k made (first (filter (is_run name k) runs)) (λ row e. first_passes (is_run name k) runs row e)

  -- none of those before
  beyond : (k n : ℕ) (template : List ℕ) → n < k → filter (is_binding name k template) (bindings_of_runs runs name made n) ≡ []
  beyond k zero template over = refl
  beyond k (suc n) template over =
      filter-append (is_binding name k template) (bindings_of_runs runs name made n) (under (suc n))
      ∙ (λ i. beyond k n template (omega (arith, over)) i ++ none_of_run name k (suc n) template (λ e. omega (arith, over, e)) (under (suc n)) (under_run (suc n)) i)

  pub attempt_alone : (n : ℕ) (template : List ℕ) → filter (is_binding name 0 template) (bindings_of_runs runs name made n) ≡ []
  attempt_alone zero template = refl
  attempt_alone (suc n) template =
      filter-append (is_binding name 0 template) (bindings_of_runs runs name made n) (under (suc n))
      ∙ (λ i. attempt_alone n template i ++ none_of_run name 0 (suc n) template (λ e. omega (arith, e)) (under (suc n)) (under_run (suc n)) i)

  under_number : (k n : ℕ) (template : List ℕ) → k ≤ n → 0 < k → filter (is_binding name k template) (bindings_of_runs runs name made n) ≡ filter (is_binding name k template) (under k)
  under_number k zero template within some = absurd (omega (arith, within, some))
  under_number k (suc n) template within some =
      filter-append (is_binding name k template) (bindings_of_runs runs name made n) (under (suc n)) ∙ by_place (k == suc n) refl (λ few. under_number k n template few some)
    where
      smaller : (k ≡ suc n → ⊥) → k ≤ n
      smaller apart = omega (arith, within, apart)

      by_place : (b : Bool) → (k == suc n) ≡ b → (k ≤ n → filter (is_binding name k template) (bindings_of_runs runs name made n) ≡ filter (is_binding name k template) (under k))
          → filter (is_binding name k template) (bindings_of_runs runs name made n) ++ filter (is_binding name k template) (under (suc n)) ≡ filter (is_binding name k template) (under k)
      by_place true e before =
          let same : k ≡ suc n = eqb-true k (suc n) e in
          ap (λ (rows : List BindingRow). rows ++ filter (is_binding name k template) (under (suc n))) (beyond k n template (omega (arith, same)))
          ∙ ap (λ m. filter (is_binding name k template) (under m)) (sym same)
      by_place false e before =
          let apart : k ≡ suc n → ⊥ = λ same. (let no : true ≡ false = sym (subst (λ m. (k == m) ≡ true) same (own_number k)) ∙ e in absurd (cc)) in
          ap (λ (rows : List BindingRow). filter (is_binding name k template) (bindings_of_runs runs name made n) ++ rows) (none_of_run name k (suc n) template apart (under (suc n)) (under_run (suc n)))
          ∙ append-nil (filter (is_binding name k template) (bindings_of_runs runs name made n))
          ∙ before (smaller apart)

  -- each is of the service
  pub of_service : (n : ℕ) → AllByRecursion (λ (b : BindingRow). b.service ≡ name) (bindings_of_runs runs name made n)
  of_service zero = tt
  of_service (suc n) =
      all_join (λ (b : BindingRow). b.service ≡ name) (bindings_of_runs runs name made n) (under (suc n)) (of_service n)
      (all_weaker (IsOfRun name (suc n)) (λ (b : BindingRow). b.service ≡ name) (λ b h. h.service) (under (suc n)) (under_run (suc n)))

  -- all under a number, whether or not there are so many runs
  pub of_number : (place n : ℕ) (template : List ℕ) → (n ≤ place → first (filter (is_run name (suc place)) runs) ≡ None)
      → filter (is_binding name (suc place) template) (bindings_of_runs runs name made n) ≡ filter (is_binding name (suc place) template) (under (suc place))
  of_number place n template none = by_size (either n place)
    where
      by_size : (n ≤ place) ⊎ (place < n) → filter (is_binding name (suc place) template) (bindings_of_runs runs name made n) ≡ filter (is_binding name (suc place) template) (under (suc place))
      by_size (inl few) = beyond (suc place) n template (omega (arith, few)) ∙ ap (λ (o : Option RunRow). filter (is_binding name (suc place) template) (run_bindings made o)) (sym (none few))
      by_size (inr many) = under_number (suc place) n template (omega (arith, many)) (omega arith)

-- All services.

module _ (services : List ServiceRow) (runs : List RunRow) where
  -- what is bound of a service is its own
  owned_made : (row : ServiceRow) (made : Option ServiceSpec) → AllByRecursion (λ (b : BindingRow). b.service ≡ row.name) (bindings_made runs row made)
  owned_made row None = tt
  owned_made row (Some made) =
      all_join (λ (b : BindingRow). b.service ≡ row.name) (bindings_to row.name 0 (all_names (analyses made))) (bindings_of_runs runs row.name made row.standing.runs)
      (all_weaker (IsOfRun row.name 0) (λ (b : BindingRow). b.service ≡ row.name) (λ b h. h.service) (bindings_to row.name 0 (all_names (analyses made))) (of_run row.name 0 (all_names (analyses made))))
      (of_service runs row.name made row.standing.runs)

  owned_row : (name : List ℕ) (o : Option ServiceRow) → ((row : ServiceRow) → o ≡ Some row → is_service name row ≡ true) → AllByRecursion (λ (b : BindingRow). b.service ≡ name) (service_bindings runs o)
  owned_row name None is = tt
  owned_row name (Some row) is =
      let same : name ≡ row.name = same_name name row.name (is row refl) in
      all_weaker (λ (b : BindingRow). b.service ≡ row.name) (λ (b : BindingRow). b.service ≡ name) (λ b h. h ∙ sym same) (service_bindings runs (Some row)) (owned_made row (made_from (canonical_in row.spec)))

  owned : (name : List ℕ) → AllByRecursion (λ (b : BindingRow). b.service ≡ name) (bindings_named services runs name)
  owned name = owned_row name (first (filter (is_service name) services)) (λ row e. first_passes (is_service name) services row e)

  module _ (name : List ℕ) (number : ℕ) (template : List ℕ) where
    abbrev passing : List ServiceRow → List BindingRow
    passing rows = filter (is_binding name number template) (flat_map (bindings_named services runs) (map (λ (row : ServiceRow). row.name) rows))

    none_of_other : (other : List ℕ) → bytes_eq name other ≡ false → filter (is_binding name number template) (bindings_named services runs other) ≡ []
    none_of_other other apart =
        none_pass (is_binding name number template) (bindings_named services runs other) (all_weaker (λ (b : BindingRow). b.service ≡ other) (λ b. is_binding name number template b ≡ false) one (bindings_named services runs other) (owned other))
      where
        one : (b : BindingRow) → b.service ≡ other → is_binding name number template b ≡ false
        one b is = ap (λ t. t && (number == b.run && bytes_eq template b.template)) (ap (bytes_eq name) is ∙ apart)

    one_more : (row : ServiceRow) (rows : List ServiceRow) → passing (row ∷ rows) ≡ filter (is_binding name number template) (bindings_named services runs row.name) ++ passing rows
    one_more row rows = filter-append (is_binding name number template) (bindings_named services runs row.name) (flat_map (bindings_named services runs) (map (λ (row : ServiceRow). row.name) rows))

    -- if no service has the name, nothing is bound under it
    pub none_there : (rows : List ServiceRow) → filter (is_service name) rows ≡ [] → passing rows ≡ []
    none_there [] none = refl
    none_there (row ∷ rows) none =
        elim (bytes_eq name row.name)
        as (λ b. bytes_eq name row.name ≡ b → ◌≡◌ {A = List ServiceRow} (cond b (row ∷ filter (is_service name) rows) (filter (is_service name) rows)) [] → passing (row ∷ rows) ≡ []) [
          | true ↦ λ e none. cc none
          | false ↦ λ e none. one_more row rows ∙ (λ i. none_of_other row.name e i ++ none_there rows none i)
        ] refl none

    -- if one has it, what is bound under it is that service's
    pub one_there : (rows : List ServiceRow) (service : ServiceRow) → filter (is_service name) rows ≡ service ∷ [] → passing rows ≡ filter (is_binding name number template) (bindings_named services runs name)
    one_there [] service one = cc one
    one_there (row ∷ rows) service one =
        elim (bytes_eq name row.name)
        as (λ b. bytes_eq name row.name ≡ b → cond b (row ∷ filter (is_service name) rows) (filter (is_service name) rows) ≡ service ∷ [] → passing (row ∷ rows) ≡ filter (is_binding name number template) (bindings_named services runs name)) [
          | true ↦ λ e one.
              (let none : filter (is_service name) rows ≡ [] = cc one in
              one_more row rows ∙ ap (λ (bs : List BindingRow). filter (is_binding name number template) (bindings_named services runs row.name) ++ bs) (none_there rows none)
              ∙ append-nil (filter (is_binding name number template) (bindings_named services runs row.name))
              ∙ ap (λ (other : List ℕ). filter (is_binding name number template) (bindings_named services runs other)) (sym (same_name name row.name e)))
          | false ↦ λ e one. one_more row rows ∙ ap (λ (bs : List BindingRow). bs ++ passing rows) (none_of_other row.name e) ∙ one_there rows service one
        ] refl one

  -- a service's rows, of its present attempt and of its runs
  pub bound_of_service : (name : List ℕ) (number : ℕ) (template : List ℕ) (service : ServiceRow) (made : ServiceSpec) → filter (is_service name) services ≡ service ∷ [] → made_from (canonical_in service.spec) ≡ Some made
      → filter (is_binding name number template) (all_bindings services runs)
      ≡ filter (is_binding name number template) (bindings_to service.name 0 (all_names (analyses made)) ++ bindings_of_runs runs service.name made service.standing.runs)
  bound_of_service name number template service made one is =
      one_there name number template services service one
      ∙ ap (λ (rows : List ServiceRow). filter (is_binding name number template) (service_bindings runs (first rows))) one
      ∙ ap (λ (o : Option ServiceSpec). filter (is_binding name number template) (bindings_made runs service o)) is

-- of the attempt's rows, none is of a run
pub run_alone : (name : List ℕ) (place : ℕ) (template : List ℕ) (names : List (List ℕ)) → filter (is_binding name (suc place) template) (bindings_to name 0 names) ≡ []
run_alone name place template names = none_of_run name (suc place) 0 template (λ e. omega (arith, e)) (bindings_to name 0 names) (of_run name 0 names)
