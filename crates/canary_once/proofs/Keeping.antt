-- A settled request keeps what holds of all contents, and its change is one that a store can make.
use Rattle.std.proofs.Common.{◌≡◌, inl, inr, ℕ, zero, suc, ◌+◌, ◌-◌, ◌≤◌, List, [], ◌∷◌, ◌++◌, length, Bool, true, false, Some, refl, sym, ap, ◌∙◌, subst}
use Rattle.std.specs.Prelude.{cond, option_map, unwrap_or, slice_get}
use Rattle.std.specs.Str.{bytes_eq}
use Rattle.std.specs.FinMap.{get, insert}
use Rattle.std.proofs.lemmas.Slice.Eq.{bytes_eq-Decides}
use Rattle.canary_plan.specs.declared.command.Command.{Command}
use Rattle.canary_plan.specs.Commands.{subject_of}
use Rattle.canary_release.specs.declared.decide.DeskChange.{DeskChange}
use Rattle.canary_release.specs.declared.decide.DeskChange.TheVariants as change
use Rattle.canary_release.specs.Desks.{ModelService, Desk, ruling_on, after, apply}
use Rattle.canary_release.specs.Stored.{stored_form, change_of, desk_with, stored_service, stored_by, KeepsWhatIsSeen}
use Rattle.canary_release.specs.Effects.{IsChange, CommandsChange}
use Rattle.canary_release.specs.Laws.{RefusalsLeaveTheDesk}
use Rattle.canary_release.specs.Order.{AreInOrder, StayInOrder}
use Rattle.canary_release.specs.Sound.{AreSound, StaySound}
use Rattle.canary_once.specs.declared.book.Receipt.{Receipt}
use Rattle.canary_once.specs.declared.book.Settlement.{Settlement}
use Rattle.canary_once.specs.Contents.{Contents, receipts_of, with_receipt, with_settlement, IsSettledStatus, KeepsSettled, IsSettling}
use Rattle.canary_once.specs.Sound.{AreContents, AreSoundContents}
use Rattle.canary_once.specs.Contents.{CallerMap, receipts_in}
use Rattle.canary_once.specs.InMemory.{IsKeptAs, name_in, IsKept}
use Rattle.canary_once.proofs.NameMaps.{insert_with, at_itself}
use Rattle.canary_once.proofs.CallerMaps.{keep_receipts, few_listed, one_more_few, some_same}

-- a command is accepted or refused
status_of_step : RefusalsLeaveTheDesk → (desk : Desk) (moment : ℕ) (command : Command) → IsSettledStatus (apply desk moment command).reply.status
status_of_step leaves desk moment command = elim (leaves desk moment command) [ inl accepted ↦ inl accepted | inr refused ↦ inr refused.0 ]

-- what holds of each receipt of a list, and of one more, holds of each of the longer list
each_with : (P : Receipt → Type 0) (receipts : List Receipt) (x k : Receipt) (i : ℕ) → ((y : Receipt) → slice_get receipts i ≡ Some y → P y) → P x → slice_get (receipts ++ x ∷ []) i ≡ Some k → P k
each_with P [] x k zero all one e = let same : x ≡ k = cc e in subst P same one
each_with P [] x k (suc i) all one e = let none : ⊥ = cc e in absurd none
each_with P (y ∷ receipts) x k zero all one e = all k e
each_with P (y ∷ receipts) x k (suc i) all one e = each_with P receipts x k i all one e

each_there : (P : Receipt → Type 0) (callers : CallerMap) (caller q : List ℕ) (x k : Receipt) (i : ℕ) (b : Bool) → bytes_eq q caller ≡ b → ((y : Receipt) → slice_get (receipts_in callers q) i ≡ Some y → P y) → P x
    → slice_get (unwrap_or (cond b (Some (receipts_in callers caller ++ x ∷ [])) (get callers q)) []) i ≡ Some k → P k
each_there P callers caller q x k i true same all one e =
    let is : q ≡ caller = (bytes_eq-Decides q caller).0 same in
    each_with P (receipts_in callers caller) x k i (λ y h. all y (ap (λ n. slice_get (receipts_in callers n) i) is ∙ h)) one e
each_there P callers caller q x k i false same all one e = all k e

keeps_statuses : RefusalsLeaveTheDesk → (c : Contents) (s : Settlement) → IsSettling c s → KeepsSettled c → KeepsSettled (with_settlement c s)
keeps_statuses leaves c s settling all q n k e =
    let P : Receipt → Type 0 = λ y. IsSettledStatus y.reply.status in
    each_there P c.callers s.caller q s.receipt k (n - 1) (bytes_eq q s.caller) refl (all q n)
    (subst (λ reply. IsSettledStatus reply.status) (sym settling.step.1.reply) (status_of_step leaves c.desk settling.step.0 s.receipt.command))
    (ap (λ o. slice_get (unwrap_or o []) (n - 1)) (sym (insert_with c.callers s.caller (receipts_of c s.caller ++ s.receipt ∷ []) q)) ∙ e)

keeps_order : StayInOrder → (c : Contents) (s : Settlement) → IsSettling c s → AreInOrder c.desk → AreInOrder (with_settlement c s).desk
keeps_order law c s settling order =
    subst AreInOrder (sym settling.step.1.desk_after) (law c.desk ((settling.step.0, s.receipt.command) ∷ []) order)

pub keeps_contents : StayInOrder → RefusalsLeaveTheDesk → (c : Contents) (s : Settlement) → s.number ≤ 1000000000 → IsSettling c s → AreContents c → AreContents (with_settlement c s)
keeps_contents in_order leaves c s few settling are =
    let room : length (receipts_of c s.caller) + 1 ≤ 1000000000 = subst (λ n. n ≤ 1000000000) settling.number few in
    record {
      numbers = keep_receipts c.callers _ s.caller (Some (receipts_of c s.caller ++ s.receipt ∷ [])) (insert_with c.callers s.caller (receipts_of c s.caller ++ s.receipt ∷ [])) are.numbers
          (few_listed (receipts_of c s.caller ++ s.receipt ∷ []) (one_more_few (receipts_of c s.caller) s.receipt room));
      statuses = keeps_statuses leaves c s settling are.statuses;
      desk = keeps_order in_order c s settling are.desk;
    }

pub keeps_soundness : StaySound → (c : Contents) (s : Settlement) → IsSettling c s → AreContents c → AreSoundContents c → AreSoundContents (with_settlement c s)
keeps_soundness law c s settling are sound =
    subst AreSound (sym settling.step.1.desk_after) (law c.desk ((settling.step.0, s.receipt.command) ∷ []) are.desk sound)

-- The change.

pub is_change : CommandsChange → (c : Contents) (s : Settlement) → IsSettling c s → AreContents c → IsChange c.desk s.receipt.command s.change
is_change law c s settling are =
    subst (IsChange c.desk s.receipt.command) (sym settling.step.1.change) (law c.desk settling.step.0 s.receipt.command are.desk)

kept_there : KeepsWhatIsSeen → (desk : Desk) (now : ℕ) (command : Command) (d : DeskChange) → IsChange desk command d → d ≡ change_of (ruling_on desk now command).change → desk_with desk command d ≡ (apply desk now command).desk → IsKept desk (subject_of command) d
kept_there law desk now command change.Nothing made is then = tt
kept_there law desk now command (change.Template t) made is then = tt
kept_there law desk now command (change.Service s effects) made is then =
    let name = subject_of command in
    let m : ModelService = after (get desk.services name) s.service effects in
    let there : get (insert desk.services name m) name ≡ Some m = at_itself desk.services (insert desk.services name m) name (Some m) (insert_with desk.services name m) in
    record {
      strategy = made.strategy;
      allowed = (desk.templates, made.allowed);
      service =
          some_same s (stored_form m)
          (sym (law desk now command s (ap stored_by (sym is)))
          ∙ ap (λ (k : Desk). stored_service k name) (sym then)
          ∙ ap (option_map stored_form) there);
    }

pub is_kept : CommandsChange → KeepsWhatIsSeen → (c : Contents) (s : Settlement) → IsSettling c s → AreContents c → IsKept c.desk (subject_of s.receipt.command) s.change
is_kept changes law c s settling are = kept_there law c.desk settling.step.0 s.receipt.command s.change (is_change changes c s settling are) settling.step.1.change settling.step.1.desk_after

-- a change has the name of what it brings
pub kept_itself : (desk : Desk) (command : Command) (d : DeskChange) → IsChange desk command d → IsKept desk (subject_of command) d → IsKept desk (name_in d) d
kept_itself desk command change.Nothing is kept = tt
kept_itself desk command (change.Template t) is kept = tt
kept_itself desk command (change.Service s effects) is kept = subst (λ (n : List ℕ). IsKeptAs (get desk.services n) s effects) (sym is.named) kept

-- The book in memory.

pub settled_is : (c : Contents) (s : Settlement) (callers : CallerMap) (desk : Desk) → callers ≡ with_receipt c.callers s.caller s.receipt → desk ≡ desk_with c.desk s.receipt.command s.change
    → ◌≡◌ {A = Contents} (record { callers = callers; desk = desk }) (with_settlement c s)
settled_is c s callers desk one next i = record { callers = one i; desk = next i }
