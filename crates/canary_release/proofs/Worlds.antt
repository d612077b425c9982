-- The small machine with the newest templates and the services as functions of their names, which
-- computes, and that it is the machine.
use Rattle.std.proofs.Common.{◌≡◌, ℕ, List, [], ◌∷◌, ◌++◌, Bool, true, false, refl, ap, ◌∙◌}
use Rattle.std.specs.Prelude.{cond, Option, Some, None, option_map, unwrap_or}
use Rattle.std.specs.List.{last_or}
use Rattle.std.specs.Ordering.{nat_cmp, eq_by_cmp}
use Rattle.std.specs.Cmp.Lexicographic.{slice_cmp, nat_list_cmp_total}
use Rattle.std.specs.FinMap.{get, get-insert, get-empty}
use Rattle.canary_plan.specs.declared.command.Command.{Command}
use Rattle.canary_plan.specs.Commands.{subject_of}
use Rattle.canary_release.specs.declared.reply.Reply.{Reply}
use Rattle.canary_plan.specs.declared.template.Template.{Template}
use Rattle.canary_plan.specs.Plans.{Templates}
use Rattle.canary_release.specs.Desks.{ModelService, model_evolution, Change, ModelDecision, model_decision, RevisionMap, revisions_of, newest, with_revision, Desk, no_desk, after, desk_after, apply, machine}
use Rattle.canary_release.specs.Desks.Change.{Nothing, Adds, Becomes}
use Rattle.canary_release.proofs.OrderingBasics.{last_pushed}
use Rattle.canary_release.proofs.Stories.{replies_after, service_after}

pub record World : Type 0 where
  pub known : Templates
  pub services : List ℕ → Option ModelService

abbrev pub nowhere : World
nowhere = record { known = λ name. None; services = λ name. None }

-- the function with another value at a name
abbrev pub changed_at : {A : Type 0} → (List ℕ → Option A) → List ℕ → A → List ℕ → Option A
changed_at f name a x = cond (eq_by_cmp (slice_cmp nat_cmp) x name) (Some a) (f x)

abbrev pub with_change : World → Command → Change → World
with_change w command Nothing = w
with_change w command (Adds t) = record w { known = changed_at w.known (subject_of command) t }
with_change w command (Becomes c) = let s = after (w.services (subject_of command)) c.service c.effects in record w { services = changed_at w.services (subject_of command) s }

abbrev pub ruling_in : World → ℕ → Command → ModelDecision
ruling_in w now command = model_decision w.known (option_map model_evolution (w.services (subject_of command))) now command

abbrev pub world_after : World → ℕ → Command → World
world_after w now command = with_change w command (ruling_in w now command).change

abbrev pub replies_in : World → List (ℕ × Command) → List Reply
replies_in w [] = []
replies_in w (x ∷ xs) = (ruling_in w x.0 x.1).reply ∷ replies_in (world_after w x.0 x.1) xs

abbrev pub world_after_all : World → List (ℕ × Command) → World
world_after_all w [] = w
world_after_all w (x ∷ xs) = world_after_all (world_after w x.0 x.1) xs

abbrev pub world_of : Desk → World
world_of desk = record { known = newest desk.templates; services = get desk.services }

last_if : (b : Bool) (old : Option (List Template)) (new : List Template) (t : Template) → last_or None new ≡ Some t → last_or None (unwrap_or (cond b (Some new) old) []) ≡ cond b (Some t) (last_or None (unwrap_or old []))
last_if true old new t e = e
last_if false old new t e = refl

-- the newest revision of each template, with one revision more of one
pub newest_after : (templates : RevisionMap) (name : List ℕ) (t : Template) (q : List ℕ) → newest (with_revision templates name t) q ≡ changed_at (newest templates) name t q
newest_after templates name t q =
    let new = revisions_of templates name ++ t ∷ [] in
    ap (λ (o : Option (List Template)). last_or None (unwrap_or o [])) (get-insert nat_list_cmp_total templates name new q)
    ∙ last_if (eq_by_cmp (slice_cmp nat_cmp) q name) (get templates q) new t (last_pushed None (revisions_of templates name) t)

change_lem : (desk : Desk) (command : Command) (c : Change) → world_of (desk_after desk command c) ≡ with_change (world_of desk) command c
change_lem desk command Nothing = refl
change_lem desk command (Adds t) = λ i. record { known = λ q. newest_after desk.templates (subject_of command) t q i; services = get desk.services }
change_lem desk command (Becomes c) =
    let name = subject_of command in
    λ i. record { known = newest desk.templates; services = λ q. get-insert nat_list_cmp_total desk.services name (after (get desk.services name) c.service c.effects) q i }

pub world-apply : (desk : Desk) (now : ℕ) (command : Command) → world_of (apply desk now command).desk ≡ world_after (world_of desk) now command
world-apply desk now command = change_lem desk command (ruling_in (world_of desk) now command).change

machine-replies : (desk : Desk) (xs : List (ℕ × Command)) → (machine desk xs).replies ≡ replies_in (world_of desk) xs
machine-replies desk [] = refl
machine-replies desk (x ∷ xs) =
    ap (λ (rs : List Reply). (ruling_in (world_of desk) x.0 x.1).reply ∷ rs) (machine-replies (apply desk x.0 x.1).desk xs
    ∙ ap (λ w. replies_in w xs) (world-apply desk x.0 x.1))

machine-world : (desk : Desk) (xs : List (ℕ × Command)) → world_of (machine desk xs).desk ≡ world_after_all (world_of desk) xs
machine-world desk [] = refl
machine-world desk (x ∷ xs) = machine-world (apply desk x.0 x.1).desk xs ∙ ap (λ w. world_after_all w xs) (world-apply desk x.0 x.1)

pub world-no_desk : world_of no_desk ≡ nowhere
world-no_desk = λ i. record { known = λ q. last_or None (unwrap_or (get-empty (slice_cmp nat_cmp) q i) []); services = λ q. get-empty (slice_cmp nat_cmp) q i }

from_nothing : (xs : List (ℕ × Command)) → world_of (machine no_desk xs).desk ≡ world_after_all nowhere xs
from_nothing xs = machine-world no_desk xs ∙ ap (λ w. world_after_all w xs) world-no_desk

-- the machine's replies, from an empty desk
pub replies_from_nothing : (xs : List (ℕ × Command)) (rs : List Reply) → replies_in nowhere xs ≡ rs → (machine no_desk xs).replies ≡ rs
replies_from_nothing xs rs e = machine-replies no_desk xs ∙ ap (λ w. replies_in w xs) world-no_desk ∙ e

-- and its replies after the first commands
pub replies_then : (first xs : List (ℕ × Command)) (rs : List Reply) → replies_in (world_after_all nowhere first) xs ≡ rs → replies_after first xs ≡ rs
replies_then first xs rs e = machine-replies (machine no_desk first).desk xs ∙ ap (λ w. replies_in w xs) (from_nothing first) ∙ e

-- and what is reported of its service of a name
pub service_then : {A : Type 0} (tells : Option ModelService → A) (xs : List (ℕ × Command)) (name : List ℕ) (a : A) → tells ((world_after_all nowhere xs).services name) ≡ a → tells (service_after xs name) ≡ a
service_then tells xs name a e = ap (λ (w : World). tells (w.services name)) (from_nothing xs) ∙ e
