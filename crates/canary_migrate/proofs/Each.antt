-- Rows that are found by reads, one after another.
use Rattle.std.proofs.Common.{◌≡◌, ℕ, suc, ◌+◌, ◌<◌, ◌≤◌, List, [], ◌∷◌, ◌++◌, append-nil, length, map, filter, take, get_or, flat_map, refl, sym, ap, subst, ◌∙◌, arith}
use Rattle.std.proofs.lemmas.List.{take_more, take_all}
use Rattle.std.proofs.lemmas.Grind.{flat_map-append}
use Rattle.std.proofs.lemmas.List.Concat.{flat_map_single}
use Rattle.sqlite.specs.State.{State}
use Rattle.canary_plan.specs.declared.service.ServiceSpec.{ServiceSpec}
use Rattle.canary_tables_rows.specs.declared.rows.BindingRow.{BindingRow}
use Rattle.canary_tables_rows.specs.Tables.{Tables, is_run}
use Rattle.canary_tables_schema.specs.Stores.{IsUsable, Stores}
use Rattle.canary_tables_read.specs.Finds.{IsSame, first}
use Rattle.canary_migrate.specs.Migrated.{bindings_of_runs, run_bindings}
use Rattle.canary_migrate.proofs.Standing.{same_then, stores_then}

append_both : {A : Type 0} (xs ys zs : List A) → (xs ++ ys) ++ zs ≡ xs ++ (ys ++ zs)
append_both [] ys zs = refl
append_both (x ∷ xs) ys zs = ap (λ all. x ∷ all) (append_both xs ys zs)

-- what the tables say of some so far, one after another
module _ {X A : Type 0} (told : Tables → X → List A) (xs : List X) where
  pub record SoFar (i : ℕ) (old now : State) (found : List A) : Type 0 where
    pub same : IsSame old now
    pub value : IsUsable now → (t : Tables) → Stores old t → found ≡ flat_map (told t) (take i xs)

  pub none_yet : (s : State) (found : List A) → found ≡ [] → SoFar 0 s s found
  none_yet s found is = record { same = λ usable. (usable, refl); value = λ usable t has. is }

  pub one_more : (i : ℕ) (x : X) (old mid new : State) (found more all : List A) → i < length xs → x ≡ get_or xs i x → SoFar i old mid found → IsSame mid new
      → (IsUsable new → (t : Tables) → Stores mid t → more ≡ told t x) → all ≡ found ++ more → SoFar (i + 1) old new all
  one_more i x old mid new found more all low is h same told_so joined =
      let next : take (i + 1) xs ≡ take i xs ++ x ∷ [] = take_more xs i x low ∙ ap (λ y. take i xs ++ y ∷ []) (sym is) in
      record {
        same = same_then old mid new h.same same;
        value = λ usable t has.
            let before = (same usable).0 in
            let later = told_so usable t (stores_then old mid t h.same before has) in
            joined ∙ ap (λ ys. ys ++ more) (h.value before t has) ∙ ap (λ ys. flat_map (told t) (take i xs) ++ ys) later ∙ ap (λ ys. flat_map (told t) (take i xs) ++ ys) (sym (append-nil (told t x)))
            ∙ sym (flat_map-append (told t) (take i xs) (x ∷ [])) ∙ ap (flat_map (told t)) (sym next);
      }

  pub all_found : (i : ℕ) (old now : State) (found : List A) → length xs ≤ i → SoFar i old now found → IsUsable now → (t : Tables) → Stores old t → found ≡ flat_map (told t) xs
  all_found i old now found all h usable t has = h.value usable t has ∙ ap (flat_map (told t)) (take_all i xs all)

-- the rows of binding of a service's runs so far, after others
module _ (name : List ℕ) (made : ServiceSpec) (attempt : List BindingRow) where
  pub record RunsSoFar (n : ℕ) (old now : State) (found : List BindingRow) : Type 0 where
    pub same : IsSame old now
    pub value : IsUsable now → (t : Tables) → Stores old t → found ≡ attempt ++ bindings_of_runs t.runs name made n

  pub no_runs : (s : State) (found : List BindingRow) → found ≡ attempt → RunsSoFar 0 s s found
  no_runs s found is = record { same = λ usable. (usable, refl); value = λ usable t has. is ∙ sym (append-nil attempt) }

  pub run_more : (n : ℕ) (old mid new : State) (found more all : List BindingRow) → RunsSoFar n old mid found → IsSame mid new
      → (IsUsable new → (t : Tables) → Stores mid t → more ≡ run_bindings made (first (filter (is_run name (n + 1)) t.runs))) → all ≡ found ++ more → RunsSoFar (n + 1) old new all
  run_more n old mid new found more all h same told joined =
      let next : n + 1 ≡ suc n = omega arith in
      record {
        same = same_then old mid new h.same same;
        value = λ usable t has.
            let before = (same usable).0 in
            let later = told usable t (stores_then old mid t h.same before has) in
            let all_of : (k : ℕ) → k ≡ suc n → attempt ++ (bindings_of_runs t.runs name made n ++ run_bindings made (first (filter (is_run name k) t.runs))) ≡ attempt ++ bindings_of_runs t.runs name made k = λ k e. rw e refl in
            joined ∙ ap (λ ys. ys ++ more) (h.value before t has) ∙ ap (λ ys. (attempt ++ bindings_of_runs t.runs name made n) ++ ys) later
            ∙ append_both attempt (bindings_of_runs t.runs name made n) _ ∙ all_of (n + 1) next;
      }

-- one row for each
pub one_each : {X A : Type 0} (f : X → A) (xs : List X) → flat_map (λ x. f x ∷ []) xs ≡ map f xs
one_each f xs = flat_map_single f xs
