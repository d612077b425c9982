-- The histories that are kept stay those of the contents.
use Rattle.std.proofs.Common.{◌≡◌, ℕ, List, Bool, true, false, Some, None, refl, sym, ap, ◌∙◌, subst}
use Rattle.std.specs.Prelude.{Option, cond, option_map}
use Rattle.std.specs.Cmp.Lexicographic.{nat_list_cmp_total}
use Rattle.std.specs.FinMap.{get, insert, remove, get-insert, get-remove}
use Rattle.canary_plan.specs.declared.command.Command.{Command}
use Rattle.canary_plan.specs.declared.line.Line.{Line}
use Rattle.canary_plan.specs.Commands.{subject_of}
use Rattle.canary_release.specs.declared.service.ServiceParts.{ServiceParts}
use Rattle.canary_release.specs.declared.state.ServiceState.{ServiceState}
use Rattle.canary_release.specs.declared.effect.Effect.{Effect}
use Rattle.canary_release.specs.declared.decide.DeskChange.{DeskChange}
use Rattle.canary_release.specs.declared.decide.DeskChange.TheVariants.{Nothing, Template as AddsTemplate, Service as Updates}
use Rattle.canary_release.specs.Pasts.{no_past}
use Rattle.canary_release.specs.Desks.{ModelService, Desk, after, ruling_on, apply}
use Rattle.canary_release.specs.Stored.{stored_form, stored_service, change_of, desk_with, stored_by, KeepsWhatIsSeen}
use Rattle.canary_release.specs.Order.{AreInOrder}
use Rattle.canary_once.specs.Contents.{Contents, put_some}
use Rattle.canary_once.specs.Records.{past_in}
use Rattle.canary_once.specs.Showing.{lines_after}
use Rattle.canary_once.proofs.Histories.{lines_grow}
use Rattle.canary_tables.specs.CacheMaps.{Named, IsWithin}
use Rattle.canary_tables.specs.Caches.{AreHistories, with_lines, with_told}
use Rattle.canary_tables.proofs.EntryLemmas.{is_it, equal_names, put_anew}

-- A history that is taken out, and may be put back.

taken : {A : Type 0} (b : Bool) (o : Option A) (v : A) → cond b None o ≡ Some v → o ≡ Some v
taken true o v e = let never : ⊥ = cc in absurd never
taken false o v e = e

taken_or : {A : Type 0} (b : Bool) (o : Option A) (x v : A) → cond b None o ≡ Some v → cond b (Some x) o ≡ Some v
taken_or true o x v e = let never : ⊥ = cc in absurd never
taken_or false o x v e = e

-- it is taken out
pub only_taken : {A : Type 0} (m n : Named A) (name : List ℕ) (found : Option A) → n ≡ remove m name → IsWithin n (put_some m name found)
only_taken {A} m n name None is = λ q v there. taken (is_it q name) (get m q) v (sym (get-remove nat_list_cmp_total m name q) ∙ ap (λ (r : Named A). get r q) (sym is) ∙ there)
only_taken {A} m n name (Some x) is = λ q v there.
    get-insert nat_list_cmp_total m name x q ∙ taken_or (is_it q name) (get m q) x v (sym (get-remove nat_list_cmp_total m name q) ∙ ap (λ (r : Named A). get r q) (sym is) ∙ there)

-- it is put back
pub put_back : {A : Type 0} (m rest n : Named A) (name : List ℕ) (x y : A) → rest ≡ remove m name → x ≡ y → IsWithin n (insert rest name x) → IsWithin n (insert m name y)
put_back {A} m rest n name x y is same within =
    subst (λ (z : A). IsWithin n (insert m name z)) same (subst (IsWithin n) (ap (λ (r : Named A). insert r name x) is ∙ put_anew m name x) within)

-- what is kept of histories, with more lines in one of them if it is there
abbrev told : Named (List Line) → List ℕ → List Effect → Option (List Line) → Named (List Line)
told m name effects found = put_some m name (option_map (λ lines. lines_after lines effects) found)

pub told_so : (m n : Named (List Line)) (name : List ℕ) (effects : List Effect) (history lines : List Line) → Some history ≡ get m name → lines ≡ lines_after history effects → (rest : Named (List Line)) → rest ≡ remove m name → IsWithin n (insert rest name lines)
    → IsWithin n (with_told m name effects)
told_so m n name effects history lines there is rest taken_out within =
    subst (λ (o : Option (List Line)). IsWithin n (told m name effects o)) there (put_back m rest n name lines (lines_after history effects) taken_out is within)

-- A change of a service, by its parts.

pub lines_so : (m n : Named (List Line)) (change : DeskChange) (s : ServiceParts) (effects : List Effect) (name : List ℕ) → change ≡ Updates s effects → name ≡ s.service.name → IsWithin n (with_told m name effects) → IsWithin n (with_lines m change)
lines_so m n change s effects name is named within =
    subst (λ (x : DeskChange). IsWithin n (with_lines m x)) (sym is) (subst (λ (k : List ℕ). IsWithin n (with_told m k effects)) named within)

-- A request is settled.

-- the history of a service, on a desk
abbrev history_on : Desk → List ℕ → List Line
history_on desk name = (past_in (get desk.services name)).history

-- the history of a service that has changed
grown : (found : Option ModelService) (s : ServiceState) (effects : List Effect) → lines_after (past_in found).history effects ≡ (after found s effects).past.history
grown None s effects = lines_grow no_past effects
grown (Some m) s effects = lines_grow m.past effects

pub there_is : (o : Option ModelService) (k : ServiceParts) → option_map stored_form o ≡ Some k → (m : ModelService) × ((o ≡ Some m) × (stored_form m ≡ k))
there_is None k e = let never : ⊥ = cc in absurd never
there_is (Some m) k e = (m, (refl, cc))

-- what a change brings is what is kept of its command's service after it
pub brought : KeepsWhatIsSeen → (desk : Desk) (now : ℕ) (command : Command) (s : ServiceParts) (effects : List Effect) → Updates s effects ≡ change_of (ruling_on desk now command).change → desk_with desk command (Updates s effects) ≡ (apply desk now command).desk
    → stored_service (desk_with desk command (Updates s effects)) (subject_of command) ≡ Some s
brought law desk now command s effects is next_desk = subst (λ (d : Desk). stored_service d (subject_of command) ≡ Some s) (sym next_desk) (law desk now command s (ap stored_by (sym is)))

-- which has that name
pub named_so : (next : Desk) (name : List ℕ) (s : ServiceParts) → AreInOrder next → stored_service next name ≡ Some s → s.service.name ≡ name
named_so next name s order is = let m = there_is (get next.services name) s is in ap (λ (p : ServiceParts). p.service.name) (sym m.1.1) ∙ (order.services name m.0 m.1.0).shown

-- one history has more lines, and the others are what they were
one_told : (desk : Desk) (s : ServiceState) (effects : List Effect) (m : Named (List Line)) (name : List ℕ) (found : Option (List Line)) → ((q : List ℕ) (lines : List Line) → get m q ≡ Some lines → lines ≡ history_on desk q) → found ≡ get m name
    → (q : List ℕ) (lines : List Line) → get (told m name effects found) q ≡ Some lines → lines ≡ (past_in (get (insert desk.services name (after (get desk.services name) s effects)) q)).history
one_told desk s effects m name None are is q lines there =
    one (is_it q name) (equal_names q name) ∙ sym (ap (λ (o : Option ModelService). (past_in o).history) (get-insert nat_list_cmp_total desk.services name (after (get desk.services name) s effects) q)) where
      one : (b : Bool) → (b ≡ true → q ≡ name) → lines ≡ (past_in (cond b (Some (after (get desk.services name) s effects)) (get desk.services q))).history
      one true same = let none : None ≡ Some lines = is ∙ ap (get m) (sym (same refl)) ∙ there in let never : ⊥ = cc in absurd never
      one false same = are q lines there
one_told desk s effects m name (Some old) are is q lines there =
    one (is_it q name) (equal_names q name) (sym (get-insert nat_list_cmp_total m name (lines_after old effects) q) ∙ there)
    ∙ sym (ap (λ (o : Option ModelService). (past_in o).history) (get-insert nat_list_cmp_total desk.services name (after (get desk.services name) s effects) q)) where
      one : (b : Bool) → (b ≡ true → q ≡ name) → cond b (Some (lines_after old effects)) (get m q) ≡ Some lines → lines ≡ (past_in (cond b (Some (after (get desk.services name) s effects)) (get desk.services q))).history
      one true same e =
          let told_lines : lines ≡ lines_after old effects = cc in
          told_lines ∙ ap (λ (ls : List Line). lines_after ls effects) (are name old (sym is)) ∙ grown (get desk.services name) s effects
      one false same e = are q lines e

pub histories_after : KeepsWhatIsSeen → (desk : Desk) (now : ℕ) (command : Command) (change : DeskChange) → change ≡ change_of (ruling_on desk now command).change → desk_with desk command change ≡ (apply desk now command).desk → AreInOrder (desk_with desk command change)
    → (m n : Named (List Line)) → ((name : List ℕ) (lines : List Line) → get m name ≡ Some lines → lines ≡ (past_in (get desk.services name)).history) → IsWithin n (with_lines m change)
    → (name : List ℕ) (lines : List Line) → get n name ≡ Some lines → lines ≡ (past_in (get (desk_with desk command change).services name)).history
histories_after law desk now command Nothing is next_desk order m n are within = λ q lines there. are q lines (within q lines there)
histories_after law desk now command (AddsTemplate template) is next_desk order m n are within = λ q lines there. are q lines (within q lines there)
histories_after law desk now command (Updates s effects) is next_desk order m n are within = λ q lines there.
    one_told desk s.service effects m (subject_of command) (get m (subject_of command)) are refl q lines (ap (λ (k : List ℕ). get (told m k effects (get m k)) q) (sym named) ∙ within q lines there) where
      named : s.service.name ≡ subject_of command
      named = named_so (desk_with desk command (Updates s effects)) (subject_of command) s order (brought law desk now command s effects is next_desk)

-- One is read.

pub one_history_more : (c : Contents) (m n : Named (List Line)) (name : List ℕ) (read : List Line) → AreHistories m c → read ≡ (past_in (get c.desk.services name)).history → IsWithin n (insert m name read) → AreHistories n c
one_history_more c m n name read are is within = λ q lines there.
    one q lines (is_it q name) (equal_names q name) (sym (get-insert nat_list_cmp_total m name read q) ∙ within q lines there) where
      one : (q : List ℕ) (lines : List Line) (b : Bool) → (b ≡ true → q ≡ name) → cond b (Some read) (get m q) ≡ Some lines → lines ≡ (past_in (get c.desk.services q)).history
      one q lines true same e = let same_lines : lines ≡ read = cc in same_lines ∙ is ∙ ap (λ (k : List ℕ). (past_in (get c.desk.services k)).history) (sym (same refl))
      one q lines false same e = are q lines e
