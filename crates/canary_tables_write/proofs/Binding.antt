-- Bindings of a run, one after another.
use Rattle.std.proofs.Common.{◌≡◌, ℕ, ◌+◌, ◌<◌, List, [], ◌∷◌, ◌++◌, length, take, get_or, IsTrue, refl, sym, ap, subst, ◌∙◌}
use Rattle.std.proofs.lemmas.List.{take_more}
use Rattle.sqlite.specs.State.{State, HasCleanDisk}
use Rattle.canary_plan.specs.declared.analysis_parts.Revision.{Revision}
use Rattle.canary_tables_rows.specs.Tables.{Tables}
use Rattle.canary_tables_rows.specs.Changes.{HasBinding, with_binding, with_bound}
use Rattle.canary_tables_schema.specs.Stores.{IsReady, StaysCommitted, SurvivesCut}
use Rattle.canary_tables_contents.specs.Values.{binding_row}
use Rattle.canary_tables_contents.specs.Settling.{all_bound, all_rebound, AllRebind}
use Rattle.canary_tables_write.proofs.Doing.{Done, nothing_done, done_as}

-- Rows that are added.

-- nothing is asked
abbrev pub NothingAsked : Tables → Type 0
NothingAsked t = Unit {0}

abbrev pub Bound : List ℕ → ℕ → List Revision → State → State → Type 0
Bound name number rs = Done NothingAsked (all_bound name number rs)

pub none_bound : (name : List ℕ) (number : ℕ) (s : State) → Bound name number [] s s
none_bound name number s = nothing_done NothingAsked s

bound_more : (name : List ℕ) (number : ℕ) (rs : List Revision) (r : Revision) (t : Tables) → with_binding (binding_row name number r) (all_bound name number rs t) ≡ all_bound name number (rs ++ r ∷ []) t
bound_more name number [] r t = refl
bound_more name number (x ∷ rs) r t = bound_more name number rs r (with_binding (binding_row name number x) t)

pub one_bound : (name : List ℕ) (number : ℕ) (all : List Revision) (i : ℕ) (r : Revision) (old mid new : State) → i < length all → r ≡ get_or all i r → Bound name number (take i all) old mid
    → (HasCleanDisk new → (t : Tables) → IsReady mid t → IsReady new (with_binding (binding_row name number r) t))
    → (HasCleanDisk new → IsTrue mid.in_transaction → IsTrue new.in_transaction) → StaysCommitted mid new → SurvivesCut mid new → Bound name number (take (i + 1) all) old new
one_bound name number all i r old mid new lt is h wrote live kept survives =
    let rs : List Revision = take i all in
    subst (λ (xs : List Revision). Bound name number xs old new) (sym (take_more all i r lt ∙ ap (λ (x : Revision). take i all ++ x ∷ []) (sym is)))
    (done_as NothingAsked (all_bound name number (rs ++ r ∷ [])) NothingAsked NothingAsked (all_bound name number rs) (with_binding (binding_row name number r)) old mid new (λ t asked. tt) (λ t asked. tt) (bound_more name number rs r) h (λ clean t ready asked. wrote clean t ready) live kept survives)

-- Rows that are changed.

abbrev pub Rebound : List ℕ → ℕ → List Revision → State → State → Type 0
Rebound name number rs = Done (AllRebind name number rs) (all_rebound name number rs)

pub none_rebound : (name : List ℕ) (number : ℕ) (s : State) → Rebound name number [] s s
none_rebound name number s = nothing_done (AllRebind name number []) s

rebound_more : (name : List ℕ) (number : ℕ) (rs : List Revision) (r : Revision) (t : Tables) → with_bound name number r.template r.number (all_rebound name number rs t) ≡ all_rebound name number (rs ++ r ∷ []) t
rebound_more name number [] r t = refl
rebound_more name number (x ∷ rs) r t = rebound_more name number rs r (with_bound name number x.template x.number t)

first_ask : (name : List ℕ) (number : ℕ) (rs : List Revision) (r : Revision) (t : Tables) → AllRebind name number (rs ++ r ∷ []) t → AllRebind name number rs t
first_ask name number [] r t asks = tt
first_ask name number (x ∷ rs) r t asks = (asks.0, first_ask name number rs r (with_bound name number x.template x.number t) asks.1)

last_asks : (name : List ℕ) (number : ℕ) (rs : List Revision) (r : Revision) (t : Tables) → AllRebind name number (rs ++ r ∷ []) t → HasBinding name number r.template (all_rebound name number rs t)
last_asks name number [] r t asks = asks.0
last_asks name number (x ∷ rs) r t asks = last_asks name number rs r (with_bound name number x.template x.number t) asks.1

pub one_rebound : (name : List ℕ) (number : ℕ) (all : List Revision) (i : ℕ) (r : Revision) (old mid new : State) → i < length all → r ≡ get_or all i r → Rebound name number (take i all) old mid
    → (HasCleanDisk new → (t : Tables) → IsReady mid t → HasBinding name number r.template t → IsReady new (with_bound name number r.template r.number t))
    → (HasCleanDisk new → IsTrue mid.in_transaction → IsTrue new.in_transaction) → StaysCommitted mid new → SurvivesCut mid new → Rebound name number (take (i + 1) all) old new
one_rebound name number all i r old mid new lt is h wrote live kept survives =
    let rs : List Revision = take i all in
    subst (λ (xs : List Revision). Rebound name number xs old new) (sym (take_more all i r lt ∙ ap (λ (x : Revision). take i all ++ x ∷ []) (sym is)))
    (done_as (AllRebind name number (rs ++ r ∷ [])) (all_rebound name number (rs ++ r ∷ [])) (AllRebind name number rs) (HasBinding name number r.template) (all_rebound name number rs) (with_bound name number r.template r.number) old mid new (first_ask name number rs r) (last_asks name number rs r)
    (rebound_more name number rs r) h wrote live kept survives)
