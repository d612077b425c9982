-- The rows of a run, taken out of a page.
use Rattle.std.proofs.Common.{◌≡◌, ℕ, ◌+◌, ◌-◌, ◌<◌, ◌≤◌, ◌==◌, nat_lt, nat_le, List, [], ◌∷◌, ◌++◌, Bool, true, false, refl, sym, ap, ap₂, ◌∙◌, subst, arith, eqb-true, lt-ltb, le-leb}
use Rattle.std.specs.Prelude.{◌&&◌, filter, Some, None}
use Rattle.std.specs.FinMap.{get, empty, get-empty}
use Rattle.std.specs.Ordering.{nat_cmp}
use Rattle.std.specs.Cmp.Lexicographic.{slice_cmp}
use Rattle.std.specs.Str.{bytes_eq}
use Rattle.sqlite.specs.State.{State}
use Rattle.canary_plan.specs.declared.strategy.CheckedStrategy.{CheckedStrategy}
use Rattle.canary_once.specs.declared.record.RunRecord.{RunRecord}
use Rattle.canary_tables_rows.specs.declared.rows.BindingRow.{BindingRow}
use Rattle.canary_tables_rows.specs.declared.rows.RunRow.{RunRow}
use Rattle.canary_tables_rows.specs.declared.rows.TallyRow.{TallyRow}
use Rattle.canary_tables_rows.specs.Tables.{Tables, is_run, is_binding_of, is_tally_of}
use Rattle.canary_tables_schema.specs.Stores.{IsUsable, Stores}
use Rattle.canary_tables_read.specs.Finds.{IsSame}
use Rattle.canary_tables_read.specs.Pages.{is_run_between, is_binding_between, is_tally_between}
use Rattle.canary_tables_read.specs.Sorts.{Sorts, metric_of}
use Rattle.canary_tables_adopt.specs.declared.one_service.pages.RunPage.{RunPage}
use Rattle.canary_tables_adopt.specs.declared.one_service.runs.SoFar.{SoFar}
use Rattle.canary_tables_adopt.specs.OfService.{HasSuch, IsRunOf, AreRunsOf}
use Rattle.canary_tables_adopt.specs.Pages.{IsPageOf, AreCut, AreRowsOf, AreThere, AreSoFar, is_numbered, is_bound_at, is_tallied_at}
use Rattle.canary_tables_adopt.specs.Remembered.{Memo, AreRevisions}
use Rattle.canary_tables_adopt.proofs.PlacedLemmas.{filter_twice}
use Rattle.canary_tables_adopt.proofs.RunLemmas.{no_runs, one_run_more, run_among}
use Rattle.canary_tables_adopt.proofs.StateLemmas.{stay, same_then}

-- One run's rows.

and_again : (own above most : Bool) → above ≡ true → most ≡ true → ((own && (above && most)) && true) ≡ (own && true)
and_again true above most up down = ap₂ (λ a b. (a && b) && true) up down
and_again false above most up down = refl

none_again : (own more : Bool) → ((own && more) && false) ≡ (own && false)
none_again true true = refl
none_again true false = refl
none_again false more = refl

-- what is of a number between two is of the number
of_number : (own : Bool) (after last number n : ℕ) → after < number → number ≤ last → (b : Bool) → (number == n) ≡ b → ((own && (nat_lt after n && nat_le n last)) && b) ≡ (own && b)
of_number own after last number n above most true same =
    let is : number ≡ n = eqb-true number n same in
    and_again own (nat_lt after n) (nat_le n last) (lt-ltb after n (subst (λ m. after < m) is above)) (le-leb n last (subst (λ m. m ≤ last) is most))
of_number own after last number n above most false other = none_again own (nat_lt after n && nat_le n last)

module _ (name : List ℕ) (after last number : ℕ) (t : Tables) (above : after < number) (most : number ≤ last) where
  same_runs : filter (is_numbered number) (filter (is_run_between name after last) t.runs) ≡ filter (is_run name number) t.runs
  same_runs =
      filter_twice (is_numbered number) (is_run_between name after last) t.runs
      ∙ (λ i. filter (λ (row : RunRow). of_number (bytes_eq name row.service) after last number row.number above most (number == row.number) refl i) t.runs)

  same_bindings : filter (is_bound_at number) (filter (is_binding_between name after last) t.bindings) ≡ filter (is_binding_of name number) t.bindings
  same_bindings =
      filter_twice (is_bound_at number) (is_binding_between name after last) t.bindings
      ∙ (λ i. filter (λ (row : BindingRow). of_number (bytes_eq name row.service) after last number row.run above most (number == row.run) refl i) t.bindings)

  same_tallies : filter (is_tallied_at number) (filter (is_tally_between name after last) t.tallies) ≡ filter (is_tally_of name number) t.tallies
  same_tallies =
      filter_twice (is_tallied_at number) (is_tally_between name after last) t.tallies
      ∙ (λ i. filter (λ (row : TallyRow). of_number (bytes_eq name row.service) after last number row.run above most (number == row.run) refl i) t.tallies)

  pub taken_out : (page rows : RunPage) → IsPageOf name after last t page → AreCut number page rows → AreRowsOf name number t rows
  taken_out page rows is cut = record {
    runs = cut.runs ∙ ap (filter (is_numbered number)) is.runs ∙ same_runs;
    bindings = cut.bindings ∙ ap (filter (is_bound_at number)) is.bindings ∙ same_bindings;
    tallies = subst (λ all. Sorts metric_of all rows.tallies) (ap (filter (is_tallied_at number)) is.tallies ∙ same_tallies) cut.tallies;
  }

-- Run after run.

pub record RunsSoFar (strategy : CheckedStrategy) (name : List ℕ) (Given : Tables → Type 0) (place : ℕ) (old now : State) (found : List RunRecord) (memo : Memo) : Type 0 where
  pub same : IsSame old now
  pub value : IsUsable now → (t : Tables) → Stores old t → Given t → AreRunsOf strategy name place t found × AreRevisions memo t

pub more_found : (strategy : CheckedStrategy) (name : List ℕ) (Given : Tables → Type 0) (place : ℕ) (old between new : State) (found more : List RunRecord) (memo kept : Memo) (r : RunRecord) → RunsSoFar strategy name Given place old between found memo → IsSame between new
    → (IsUsable new → (t : Tables) → Stores between t → Given t → AreRevisions memo t → IsRunOf strategy name (place + 1) t r × AreRevisions kept t) → more ≡ found ++ r ∷ [] → RunsSoFar strategy name Given (place + 1) old new more kept
more_found strategy name Given place old between new found more memo kept r before same told pushed =
    record {
      same = same_then old between new before.same same;
      value = λ usable t stores given.
          let midway = (same usable).0 in
          let so_far = before.value midway t stores given in
          let one = told usable t (stay old between t before.same midway stores) given so_far.1 in
          (one_run_more strategy name t place found more r so_far.0 one.0 pushed, one.1);
    }

-- Page after page.

pub record PagesSoFar (strategy : CheckedStrategy) (name : List ℕ) (so_far : SoFar) (old now : State) : Type 0 where
  pub same : IsSame old now
  pub value : IsUsable now → (t : Tables) → Stores old t → AreSoFar strategy name so_far t

-- nothing was asked for yet
none_kept : (memo : Memo) (t : Tables) → memo ≡ empty → AreRevisions memo t
none_kept memo t is name template there = absurd (let no_value : None ≡ Some template = sym (ap (λ (m : Memo). get m name) is ∙ get-empty (slice_cmp nat_cmp) name) ∙ there in cc)

pub none_judged : (strategy : CheckedStrategy) (name : List ℕ) (so_far : SoFar) (old : State) → so_far.count ≡ 0 → so_far.runs ≡ [] → so_far.memo ≡ empty → PagesSoFar strategy name so_far old old
none_judged strategy name so_far old count runs memo = record {
  same = λ usable. (usable, refl);
  value = λ usable t stores. record { runs = subst (λ n. AreRunsOf strategy name n t so_far.runs) (sym count) (no_runs strategy name t so_far.runs runs); memo = none_kept so_far.memo t memo };
}

pub page_more : (strategy : CheckedStrategy) (name : List ℕ) (so_far more : SoFar) (old between new : State) → PagesSoFar strategy name so_far old between → IsSame between new → (IsUsable new → (t : Tables) → Stores between t → AreSoFar strategy name so_far t → AreSoFar strategy name more t)
    → PagesSoFar strategy name more old new
page_more strategy name so_far more old between new before same told =
    record {
      same = same_then old between new before.same same;
      value = λ usable t stores. let midway = (same usable).0 in told usable t (stay old between t before.same midway stores) (before.value midway t stores);
    }

-- if there are so many runs, there is each of them
pub each_there : (strategy : CheckedStrategy) (name : List ℕ) (t : Tables) (count after last : ℕ) → last ≤ count → HasSuch (AreRunsOf strategy name count) t → AreThere strategy name after last t
each_there strategy name t count after last within has number above most =
    let place : ℕ = number - 1 in
    let next : place + 1 ≡ number = omega (arith, above) in
    let there = run_among strategy name t place count has.0 (omega (arith, above, most, within)) has.1 in
    (there.0, subst (λ n. IsRunOf strategy name n t there.0) next there.1)
