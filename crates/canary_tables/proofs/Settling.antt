-- A request that is settled in a desk's database leaves a desk's database, with the contents after it.
use Rattle.std.proofs.Common.{◌≡◌, ◌≤◌, ℕ, List, Bool, true, Result, Ok, Err, sym, ap, subst, ◌∙◌}
use Rattle.std.specs.Prelude.{IfOk, OnOk}
use Rattle.sqlite.specs.State.{State}
use Rattle.sqlite.specs.Effect.{Database}
use Rattle.canary_plan.specs.declared.command.Command.{Command}
use Rattle.canary_release.specs.declared.effect.Effect.{Effect}
use Rattle.canary_release.specs.declared.service.ServiceParts.{ServiceParts}
use Rattle.canary_release.specs.declared.decide.DeskChange.{DeskChange}
use Rattle.canary_release.specs.declared.decide.DeskChange.TheVariants.{Service as Updates}
use Rattle.canary_once.specs.declared.book.Settlement.{Settlement}
use Rattle.canary_once.specs.Contents.{IsSettling, with_settlement}
use Rattle.canary_tables_rows.specs.Tables.{Tables}
use Rattle.canary_tables_schema.specs.Cells.{tables_in}
use Rattle.canary_tables_schema.specs.Stores.{IsHeld, Stores, IsUsable}
use Rattle.canary_tables_schema.specs.Laws.{OneReading}
use Rattle.canary_tables_contents.specs.Reading.{contents_of, HoldsContents}
use Rattle.canary_tables_contents.specs.Settling.{begins, has_bindings, request_settled, IsReadableSettlement}
use Rattle.canary_tables_contents.specs.Laws.{RequestsFind, RequestsSettle}
use Rattle.canary_tables_read.specs.Finds.{IsSame}
use Rattle.canary_tables.specs.Desk.{contents_in, IsDesk}
use Rattle.canary_tables_write.specs.Commits.{IsBoundSaid, CommitAsks}

-- what is reported of the attempt of the service that the change names
pub bound_said : {E : Type 0} (command : Command) (change : DeskChange) (s : ServiceParts) (effects : List Effect) (name : List ℕ) (t : Tables) (r : Result Bool E) → change ≡ Updates s effects → name ≡ s.service.name → IfOk r (λ has. begins command ≡ true → has ≡ has_bindings name t)
    → IfOk r (λ is_bound. IsBoundSaid is_bound command change t)
bound_said command change s effects name t r is named told =
    subst (λ (x : DeskChange). IfOk r (λ (b : Bool). IsBoundSaid b command x t)) (sym is) (subst (λ (n : List ℕ). IfOk r (λ (has : Bool). begins command ≡ true → has ≡ has_bindings n t)) named told)

on_both : {A E P Q R : Type 0} (r : Result A E) → OnOk r P → OnOk r Q → (P → Q → R) → OnOk r R
on_both (Ok a) p q f = f p q
on_both (Err e) p q f = tt

-- what a settled request leaves
pub record Leaves (s : Settlement) (old new : Database) : Type 0 where
  pub stores : IsHeld new (tables_in new)
  pub holds : HoldsContents (tables_in new)
  pub contents : contents_of (tables_in new) ≡ with_settlement (contents_of (tables_in old)) s

left : OneReading → RequestsSettle → (s : Settlement) (old new : Database) → s.number ≤ 1000000000 → HoldsContents (tables_in old) → IsSettling (contents_of (tables_in old)) s
    → IsHeld new (request_settled s (tables_in old)) → IsReadableSettlement s → Leaves s old new
left reading law s old new few holds settling stored readable =
    let is : tables_in new ≡ request_settled s (tables_in old) = reading new (request_settled s (tables_in old)) stored in
    let settles = law s (tables_in old) few holds settling readable in
    record {
      stores = subst (IsHeld new) (sym is) stored;
      holds = subst HoldsContents (sym is) settles.holds;
      contents = ap contents_of is ∙ settles.contents;
    }

-- a request that is committed in the state that a read left
pub settles : {A E : Type 0} → OneReading → RequestsFind → RequestsSettle → (s : Settlement) (is_bound : Bool) (old mid new : State) (r : Result A E) → s.number ≤ 1000000000
    → (IsUsable old → IsDesk old) → (IsUsable old → IsSettling (contents_in old) s) → IsSame old mid
    → (IsUsable mid → (t : Tables) → Stores old t → IsBoundSaid is_bound s.receipt.command s.change t)
    → (IsUsable new → IsUsable mid) → (IsUsable new → (t : Tables) → Stores mid t → CommitAsks is_bound s t → OnOk r (Stores new (request_settled s t))) → OnOk r (IsReadableSettlement s)
    → IsUsable new → OnOk r (Leaves s old.now new.now)
settles reading find law s is_bound old mid new r few desk settling same bound_said held stored readable usable =
    let midway : IsUsable mid = held usable in
    let first : IsUsable old = (same midway).0 in
    let d : IsDesk old = desk first in
    let t : Tables = tables_in old.now in
    let after : Stores mid t = subst (λ db. IsHeld db t) (sym (same midway).1) d.stores in
    on_both r (stored usable t after (bound_said midway t d.stores, find s t d.holds (settling first))) readable (λ stores read. left reading law s old.now new.now few d.holds (settling first) stores read)

pub is_desk : {A E : Type 0} (s : Settlement) (old new : State) (r : Result A E) → OnOk r (Leaves s old.now new.now) → OnOk r (IsDesk new)
is_desk s old new (Ok a) leaves = record { stores = leaves.stores; holds = leaves.holds }
is_desk s old new (Err e) leaves = tt

pub contents_are : {A E : Type 0} (s : Settlement) (old new : State) (r : Result A E) → OnOk r (Leaves s old.now new.now) → OnOk r (contents_in new ≡ with_settlement (contents_in old) s)
contents_are s old new (Ok a) leaves = leaves.contents
contents_are s old new (Err e) leaves = tt
