-- The statements of a commit, one after another.
use Rattle.std.proofs.Common.{◌≡◌, ℕ, List, Bool, true, false, Result, Ok, refl, sym, ap, subst, ◌∙◌}
use Rattle.std.specs.Prelude.{if◌then◌else◌, ◌==◌, OnOk}
use Rattle.std.specs.List.{list_any}
use Rattle.sqlite.specs.State.{State, HasCleanDisk}
use Rattle.canary_plan.specs.declared.command.Command.{Command}
use Rattle.canary_canonical.specs.Texts.{command_text}
use Rattle.canary_release.specs.declared.effect.Effect.{Effect}
use Rattle.canary_release.specs.declared.service.ServiceParts.{ServiceParts}
use Rattle.canary_release.specs.declared.decide.DeskChange.{DeskChange}
use Rattle.canary_release.specs.declared.decide.DeskChange.TheVariants.{Nothing, Template as AddsTemplate, Service as Updates}
use Rattle.canary_once.specs.declared.book.Settlement.{Settlement}
use Rattle.canary_tables_rows.specs.declared.rows.KeptRow.{KeptRow}
use Rattle.canary_tables_rows.specs.declared.rows.ServiceRow.{ServiceRow}
use Rattle.canary_tables_rows.specs.declared.rows.ServiceColumns.{ServiceColumns}
use Rattle.canary_tables_rows.specs.Tables.{Tables, is_binding_of}
use Rattle.canary_tables_rows.specs.Changes.{HasService, with_caller, with_settled, with_kept, with_service, with_standing}
use Rattle.canary_tables_schema.specs.Stores.{IsReady, Wrote, WroteIf, SurvivesCut}
use Rattle.canary_tables_contents.specs.Values.{caller_row, kept_row, standing_of}
use Rattle.canary_tables_contents.specs.Settling.{CallerAsks, caller_settled, makes_service, service_put, bindings_put, all_happened, AllAsk, desk_changed, request_settled}
use Rattle.canary_tables_write.specs.Commits.{PutAsks, BeginAsks, IsBoundSaid, ChangeAsks, CommitAsks}
use Rattle.canary_tables_write.proofs.Doing.{on_ok, clean_before}

-- a service that is there stands so
pub put_there : {A E : Type 0} (command : Command) (s : ServiceParts) (standing : ServiceColumns) (old new : State) (r : Result A E) → makes_service command ≡ false → standing ≡ standing_of s.service s.runs.count → WroteIf (HasService s.service.name) (with_standing s.service.name standing) old new r
    → WroteIf (PutAsks command s.service.name) (service_put command s) old new r
put_there command s standing old new r is stands wrote clean t ready asks =
    let row : ServiceRow = record { name = s.service.name; spec = command_text command; standing = standing_of s.service s.runs.count } in
    let stood : OnOk r (IsReady new (with_standing s.service.name (standing_of s.service s.runs.count) t)) = subst (λ (x : ServiceColumns). OnOk r (IsReady new (with_standing s.service.name x t))) stands (wrote clean t ready (asks is)) in
    subst (λ (b : Bool). OnOk r (IsReady new (if b then with_service row t else with_standing s.service.name (standing_of s.service s.runs.count) t))) (sym is) stood

-- a service's change by its parts and effects
pub changes_as : {A E : Type 0} (command : Command) (is_bound : Bool) (change : DeskChange) (s parts : ServiceParts) (effects applied : List Effect) (old new : State) (r : Result A E) → change ≡ Updates s effects → parts ≡ s → applied ≡ effects
    → WroteIf (ChangeAsks is_bound command (Updates parts applied)) (desk_changed command (Updates parts applied)) old new r → WroteIf (ChangeAsks is_bound command change) (desk_changed command change) old new r
changes_as command is_bound change s parts effects applied old new r is made lists wrote =
    subst (λ (x : DeskChange). WroteIf (ChangeAsks is_bound command x) (desk_changed command x) old new r) ((λ i. Updates (made i) (lists i)) ∙ sym is) wrote

-- putting a service leaves the bindings
same_bindings : (command : Command) (s : ServiceParts) (t : Tables) (makes : Bool)
    → (if makes then with_service (record { name = s.service.name; spec = command_text command; standing = standing_of s.service s.runs.count }) t else with_standing s.service.name (standing_of s.service s.runs.count) t).bindings ≡ t.bindings
same_bindings command s t true = refl
same_bindings command s t false = refl

begin_asks : (command : Command) (s : ServiceParts) (effects : List Effect) (is_bound : Bool) (t : Tables) → ChangeAsks is_bound command (Updates s effects) t → BeginAsks is_bound command s (service_put command s t)
begin_asks command s effects is_bound t asks is = record {
  said = asks.0 is ∙ ap (list_any (is_binding_of s.service.name 0)) (sym (same_bindings command s t (makes_service command)));
  rows = asks.1.bindings is;
}

-- a service is put, its attempt is bound if the command begins it, and then all happens
pub changes : {A B C E F G : Type 0} (command : Command) (s : ServiceParts) (effects : List Effect) (is_bound : Bool) (old stands bound new : State) (r : Result A E) (q : Result B F) (u : Result C G) (a : A) (b : B) (c : C)
    → WroteIf (PutAsks command s.service.name) (service_put command s) old stands r → WroteIf (BeginAsks is_bound command s) (bindings_put command s) stands bound q
    → WroteIf (AllAsk s.service.name effects) (all_happened s.service.name effects) bound new u → SurvivesCut stands bound → SurvivesCut bound new → r ≡ Ok a → q ≡ Ok b → u ≡ Ok c
    → HasCleanDisk new → (t : Tables) → IsReady old t → ChangeAsks is_bound command (Updates s effects) t → IsReady new (desk_changed command (Updates s effects) t)
changes command s effects is_bound old stands bound new r q u a b c one two three survives_one survives_two is it so clean t ready asks =
    let bound_clean : HasCleanDisk bound = clean_before bound new survives_two clean in
    let put : Tables = service_put command s t in
    let first : IsReady stands put = on_ok r a _ is (one (clean_before stands bound survives_one bound_clean) t ready asks.1.service) in
    let second : IsReady bound (bindings_put command s put) = on_ok q b _ it (two bound_clean put first (begin_asks command s effects is_bound t asks)) in
    on_ok u c _ so (three clean (bindings_put command s put) second asks.1.effects_ask)

-- callers and receipts leave the bindings as they were
bindings_stay : (name : List ℕ) (number : ℕ) (row : KeptRow) (t : Tables) (first : Bool) → (with_kept row (if first then with_caller (caller_row name 1) t else with_settled name number t)).bindings ≡ t.bindings
bindings_stay name number row t true = refl
bindings_stay name number row t false = refl

still_bound : (is_bound : Bool) (command : Command) (change : DeskChange) (name : List ℕ) (number : ℕ) (row : KeptRow) (t : Tables) → IsBoundSaid is_bound command change t → IsBoundSaid is_bound command change (with_kept row (caller_settled name number t))
still_bound is_bound command Nothing name number row t said = said
still_bound is_bound command (AddsTemplate template) name number row t said = said
still_bound is_bound command (Updates s effects) name number row t said = λ is. said is ∙ ap (list_any (is_binding_of s.service.name 0)) (sym (bindings_stay name number row t (number == 1)))

-- a caller is settled, the request is kept, and the desk is changed
pub writes : {A B C E F G : Type 0} (s : Settlement) (is_bound : Bool) (old settled kept new : State) (r : Result A E) (q : Result B F) (u : Result C G) (a : A) (b : B) (c : C)
    → WroteIf (CallerAsks s.caller s.number) (caller_settled s.caller s.number) old settled r → Wrote (with_kept (kept_row s.caller s.number s.receipt)) settled kept q
    → WroteIf (ChangeAsks is_bound s.receipt.command s.change) (desk_changed s.receipt.command s.change) kept new u → SurvivesCut settled kept → SurvivesCut kept new → r ≡ Ok a → q ≡ Ok b → u ≡ Ok c
    → HasCleanDisk new → (t : Tables) → IsReady old t → CommitAsks is_bound s t → IsReady new (request_settled s t)
writes s is_bound old settled kept new r q u a b c one two three survives_one survives_two is it so clean t ready asks =
    let row : KeptRow = kept_row s.caller s.number s.receipt in
    let kept_clean : HasCleanDisk kept = clean_before kept new survives_two clean in
    let first : IsReady settled (caller_settled s.caller s.number t) = on_ok r a _ is (one (clean_before settled kept survives_one kept_clean) t ready asks.1.caller) in
    let second : IsReady kept (with_kept row (caller_settled s.caller s.number t)) = on_ok q b _ it (two kept_clean (caller_settled s.caller s.number t) first) in
    on_ok u c _ so (three clean (with_kept row (caller_settled s.caller s.number t)) second (still_bound is_bound s.receipt.command s.change s.caller s.number row t asks.0, asks.1.desk))
