-- What is read back stays so after a settled request.
use Rattle.std.proofs.Common.{◌≡◌, ℕ, zero, suc, ◌-◌, List, [], ◌∷◌, ◌++◌, Bool, true, false, Some, None, refl, sym, ap, ◌∙◌, subst}
use Rattle.std.specs.Prelude.{Option, cond, slice_get, unwrap_or}
use Rattle.std.specs.Str.{bytes_eq}
use Rattle.std.specs.List.{AllByRecursion}
use Rattle.std.specs.FinMap.{get, insert}
use Rattle.canary_plan.specs.declared.template.Template.{Template}
use Rattle.canary_plan.specs.declared.command.Command.{Command}
use Rattle.canary_plan.specs.declared.command.Command.TheVariants as command
use Rattle.canary_plan.specs.Commands.{subject_of}
use Rattle.canary_release.specs.declared.effect.Effect.{Effect}
use Rattle.canary_release.specs.declared.service.ServiceParts.{ServiceParts}
use Rattle.canary_release.specs.declared.decide.DeskChange.{DeskChange}
use Rattle.canary_release.specs.declared.decide.DeskChange.TheVariants as change
use Rattle.canary_release.specs.Desks.{ModelService, Desk, revisions_of, with_revision, before, after, made_as, with_service, ruling_on, apply}
use Rattle.canary_release.specs.Stored.{change_of, desk_with, KeepsWhatIsSeen}
use Rattle.canary_release.specs.Effects.{CommandsChange}
use Rattle.canary_release.specs.Order.{AreInOrder}
use Rattle.canary_once.specs.declared.book.Receipt.{Receipt}
use Rattle.canary_once.specs.declared.book.Settlement.{Settlement}
use Rattle.canary_once.specs.Contents.{Contents, CallerMap, receipts_in, with_receipt, with_settlement, IsSettling}
use Rattle.canary_once.specs.Records.{past_in}
use Rattle.canary_once.specs.Sound.{AreContents}
use Rattle.canary_tables_contents.specs.Tables.{IsReadableCommand, IsReadablePast, IsReadable}
use Rattle.canary_tables_contents.specs.Settling.{IsReadableChange, IsReadableSettlement}
use Rattle.canary_tables_contents.proofs.RevisionsBack.{IsReadableTemplate}
use Rattle.canary_tables_contents.proofs.PastRows.{EffectsStayReadable}
use Rattle.canary_tables_contents.proofs.SettledKeys.{NameMap, equal_names, at_name, some_same}
use Rattle.canary_tables_contents.proofs.DesksRuled.{IsAdding, adding, updating}
use Rattle.canary_tables_contents.proofs.Desks.{past_before}

-- Receipts.

-- what holds of each receipt of a list, and of one more, holds of each of the longer list
each_with : (P : Receipt → Type 0) (receipts : List Receipt) (x k : Receipt) (i : ℕ) → ((y : Receipt) → slice_get receipts i ≡ Some y → P y) → P x → slice_get (receipts ++ x ∷ []) i ≡ Some k → P k
each_with P [] x k zero all one e = let same : x ≡ k = cc e in subst P same one
each_with P [] x k (suc i) all one e = let none : ⊥ = cc e in absurd none
each_with P (y ∷ receipts) x k zero all one e = all k e
each_with P (y ∷ receipts) x k (suc i) all one e = each_with P receipts x k i all one e

each_there : (P : Receipt → Type 0) (callers : CallerMap) (caller q : List ℕ) (x k : Receipt) (i : ℕ) (b : Bool) → bytes_eq q caller ≡ b → ((y : Receipt) → slice_get (receipts_in callers q) i ≡ Some y → P y) → P x
    → slice_get (unwrap_or (cond b (Some (receipts_in callers caller ++ x ∷ [])) (get callers q)) []) i ≡ Some k → P k
each_there P callers caller q x k i true same all one e =
    let is : q ≡ caller = equal_names q caller same in
    each_with P (receipts_in callers caller) x k i (λ y h. all y (ap (λ n. slice_get (receipts_in callers n) i) is ∙ h)) one e
each_there P callers caller q x k i false same all one e = all k e

-- what holds of each receipt of a caller, and of one more, holds of each there then is
pub each_receipt : (P : Receipt → Type 0) (callers : CallerMap) (caller q : List ℕ) (x k : Receipt) (number : ℕ) → ((y : Receipt) → slice_get (receipts_in callers q) (number - 1) ≡ Some y → P y) → P x
    → slice_get (receipts_in (with_receipt callers caller x) q) (number - 1) ≡ Some k → P k
each_receipt P callers caller q x k number all one e =
    each_there P callers caller q x k (number - 1) (bytes_eq q caller) refl all one
    (ap (λ (o : Option (List Receipt)). slice_get (unwrap_or o []) (number - 1)) (sym (at_name callers caller (receipts_in callers caller ++ x ∷ []) q)) ∙ e)

-- The desk.

pub record IsReadableDesk (desk : Desk) : Type 0 where
  pub templates : (name : List ℕ) → AllByRecursion IsReadableTemplate (revisions_of desk.templates name)
  pub made : (name : List ℕ) (m : ModelService) → get desk.services name ≡ Some m → IsReadableCommand (command.Service m.made)
  pub pasts : (name : List ℕ) → IsReadablePast (past_in (get desk.services name))

-- what holds of what a map has, and of one value more, holds of what it then has
each_of : {A : Type 0} (P : A → Type 0) (o : Option A) (x y : A) (b : Bool) → P x → ((z : A) → o ≡ Some z → P z) → cond b (Some x) o ≡ Some y → P y
each_of P o x y true one all e = subst P (some_same x y e) one
each_of P o x y false one all e = all y e

each_inserted : {A : Type 0} (P : A → Type 0) (m : NameMap A) (k q : List ℕ) (x y : A) → P x → ((z : A) → get m q ≡ Some z → P z) → get (insert m k x) q ≡ Some y → P y
each_inserted P m k q x y one all e = each_of P (get m q) x y (bytes_eq q k) one all (sym (at_name m k x q) ∙ e)

-- one revision more
one_more : (ts : List Template) (t : Template) → AllByRecursion IsReadableTemplate ts → IsReadableTemplate t → AllByRecursion IsReadableTemplate (ts ++ t ∷ [])
one_more [] t all one = (one, tt)
one_more (x ∷ ts) t all one = (all.0, one_more ts t all.1 one)

revisions_there : (o : Option (List Template)) (ts : List Template) (b : Bool) → AllByRecursion IsReadableTemplate ts → AllByRecursion IsReadableTemplate (unwrap_or o []) → AllByRecursion IsReadableTemplate (unwrap_or (cond b (Some ts) o) [])
revisions_there o ts true one all = one
revisions_there o ts false one all = all

template_readable : (desk : Desk) (template : Template) → IsReadableDesk desk → IsReadableTemplate template → IsReadableDesk (record desk { templates = with_revision desk.templates template.spec.name template })
template_readable desk template are one =
    let k : List ℕ = template.spec.name in
    let longer : List Template = revisions_of desk.templates k ++ template ∷ [] in
    record {
      templates = λ q.
          subst (λ (o : Option (List Template)). AllByRecursion IsReadableTemplate (unwrap_or o [])) (sym (at_name desk.templates k longer q))
          (revisions_there (get desk.templates q) longer (bytes_eq q k) (one_more (revisions_of desk.templates k) template (are.templates k) one) (are.templates q));
      made = are.made;
      pasts = are.pasts;
    }

-- the command that made a service, which may be new
made_readable : (found : Option ModelService) (asked : Command) (s : ServiceParts) (effects : List Effect) → IsReadableCommand asked → (found ≡ None → asked ≡ command.Service (made_as s.service)) → ((m : ModelService) → found ≡ Some m → IsReadableCommand (command.Service m.made))
    → IsReadableCommand (command.Service (after found s.service effects).made)
made_readable None asked s effects one made all = subst IsReadableCommand (made refl) one
made_readable (Some m) asked s effects one made all = all m refl

past_readable : EffectsStayReadable → (found : Option ModelService) (asked : Command) (s : ServiceParts) (effects : List Effect) → IsReadablePast (past_in found) → IsReadableChange (change.Service s effects) → IsReadablePast (after found s.service effects).past
past_readable law found asked s effects are more = law effects (before found s.service).past (subst IsReadablePast (past_before found s) are) more

past_there : (m : ModelService) (o : Option ModelService) (b : Bool) → IsReadablePast m.past → IsReadablePast (past_in o) → IsReadablePast (past_in (cond b (Some m) o))
past_there m o true one all = one
past_there m o false one all = all

service_readable : EffectsStayReadable → (desk : Desk) (asked : Command) (s : ServiceParts) (effects : List Effect) → IsReadableDesk desk → IsReadableCommand asked → IsReadableChange (change.Service s effects)
    → (get desk.services s.service.name ≡ None → asked ≡ command.Service (made_as s.service)) → IsReadableDesk (with_service desk s.service.name s.service effects)
service_readable law desk asked s effects are one more made =
    let name : List ℕ = s.service.name in
    let m : ModelService = after (get desk.services name) s.service effects in
    record {
      templates = are.templates;
      made = λ q y e. each_inserted (λ (m : ModelService). IsReadableCommand (command.Service m.made)) desk.services name q m y (made_readable (get desk.services name) asked s effects one made (are.made name)) (are.made q) e;
      pasts = λ q.
          subst (λ (o : Option ModelService). IsReadablePast (past_in o)) (sym (at_name desk.services name m q))
          (past_there m (get desk.services q) (bytes_eq q name) (past_readable law (get desk.services name) asked s effects (are.pasts name) more) (are.pasts q));
    }

desk_readable : EffectsStayReadable → CommandsChange → KeepsWhatIsSeen → (desk : Desk) (now : ℕ) (asked : Command) (made : DeskChange) → AreInOrder desk → made ≡ change_of (ruling_on desk now asked).change → desk_with desk asked made ≡ (apply desk now asked).desk
    → IsReadableDesk desk → IsReadableCommand asked → IsReadableChange made → IsReadableDesk (desk_with desk asked made)
desk_readable law commands keeps desk now asked change.Nothing order is stands are one more = are
desk_readable law commands keeps desk now asked (change.Template template) order is stands are one more =
    let adds : IsAdding desk.templates asked template = adding commands desk now asked template order is in
    subst (λ (k : List ℕ). IsReadableDesk (record desk { templates = with_revision desk.templates k template })) (sym (ap subject_of adds.asked_for))
    (template_readable desk template are (subst IsReadableCommand adds.asked_for one))
desk_readable law commands keeps desk now asked (change.Service s effects) order is stands are one more =
    let update = updating commands keeps desk now asked s effects order is stands in
    subst (λ (k : List ℕ). IsReadableDesk (with_service desk k s.service effects)) (sym update.0) (service_readable law desk asked s effects are one more update.1.made)

-- The contents.

pub stays_readable : EffectsStayReadable → CommandsChange → KeepsWhatIsSeen → (c : Contents) (s : Settlement) → IsReadable c → AreContents c → IsSettling c s → IsReadableSettlement s → IsReadable (with_settlement c s)
stays_readable law commands keeps c s are lawful settling one =
    let desk : IsReadableDesk (desk_with c.desk s.receipt.command s.change) = desk_readable law commands keeps c.desk settling.step.0 s.receipt.command s.change lawful.desk settling.step.1.change settling.step.1.desk_after (record { templates = are.templates; made = are.made; pasts = are.pasts }) one.command one.change in
    record {
      receipts = λ q number receipt e. each_receipt (λ (x : Receipt). IsReadableCommand x.command) c.callers s.caller q s.receipt receipt number (are.receipts q number) one.command e;
      templates = desk.templates;
      made = desk.made;
      pasts = desk.pasts;
    }
