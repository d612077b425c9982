-- Commands on one service, and those on others.
use Rattle.std.proofs.Common.{◌≡◌, ℕ, ◌+◌, List, [], ◌∷◌, ◌++◌, Bool, true, false, refl, ap, sym, ◌∙◌, subst}
use Rattle.std.specs.Prelude.{cond, filter, Option, Some, None, Result, Ok, Err, option_map, unwrap_or, ◌||◌}
use Rattle.std.specs.List.{zip, last_or}
use Rattle.std.specs.Ordering.{nat_cmp, eq_by_cmp}
use Rattle.std.specs.Cmp.Lexicographic.{slice_cmp, nat_list_cmp_total}
use Rattle.std.specs.Str.{bytes_eq}
use Rattle.std.proofs.lemmas.Map.Text.{is_eq-slice_cmp}
use Rattle.std.proofs.lemmas.Slice.Eq.{bytes_eq-Decides}
use Rattle.std.specs.FinMap.{get, insert, get-insert}
use Rattle.canary_plan.specs.declared.command.Command.{Command}
use Rattle.canary_plan.specs.declared.command.Command.TheVariants.{Template}
use Rattle.canary_plan.specs.declared.template_spec.TemplateSpec.{TemplateSpec}
use Rattle.canary_plan.specs.declared.template.Template.{Template as Known}
use Rattle.canary_plan.specs.declared.refusal.Refusal.{Refusal}
use Rattle.canary_plan.specs.Plans.{Templates, template_of}
use Rattle.canary_plan.specs.Commands.{subject_of}
use Rattle.canary_release.specs.declared.reply.Reply.{Reply}
use Rattle.canary_release.specs.Evolutions.{Evolution}
use Rattle.canary_release.specs.Rules.Commands.{ModelResult}
use Rattle.canary_release.specs.Desks.{ModelService, Desk, Change, ModelDecision, rules, after, desk_after, model_evolution, act_new, act_passed, adds_unless, newest_number, revision_refusal, revisions_of, newest, with_revision, rule_template, rule_service, model_decision, ruling_on, apply, machine}
use Rattle.canary_release.specs.Desks.Change.{Nothing, Adds, Becomes}
use Rattle.canary_release.specs.Laws.{is_on, concerns, concerning, is_reply_on, replies_on, AgreeOn, AreIndependent}

-- What a command changes.

-- no service
abbrev pub ChangesNoService : Change → Type 0
ChangesNoService Nothing = Unit {0}
ChangesNoService (Adds t) = Unit {0}
ChangesNoService (Becomes c) = ⊥

-- no template
abbrev pub ChangesNoTemplate : Change → Type 0
ChangesNoTemplate Nothing = Unit {0}
ChangesNoTemplate (Adds t) = ⊥
ChangesNoTemplate (Becomes c) = Unit {0}

adds_no_service : (refusal : Option Refusal) (t : Known) → ChangesNoService (adds_unless refusal t).change
adds_no_service None t = tt
adds_no_service (Some refusal) t = tt

pub template_changes : (found : Option Known) (spec : TemplateSpec) → ChangesNoService (rule_template found spec).change
template_changes found spec = adds_no_service (revision_refusal (newest_number found) spec) (template_of spec (newest_number found + 1))

rules_change : (r : Result ModelResult Refusal) → ChangesNoTemplate (rules r).change
rules_change (Ok a) = tt
rules_change (Err refusal) = tt

pub service_changes : (known : Templates) (found : Option Evolution) (now : ℕ) (command : Command) → ChangesNoTemplate (rule_service known found now command).change
service_changes known None now command = rules_change (act_new known command now)
service_changes known (Some c) now command = rules_change (act_passed known command c now)

pub changes_on : (desk : Desk) (now : ℕ) (command : Command) → ChangesNoTemplate (rule_service (newest desk.templates) (option_map model_evolution (get desk.services (subject_of command))) now command).change
changes_on desk now command = service_changes (newest desk.templates) (option_map model_evolution (get desk.services (subject_of command))) now command

-- What is found after a change.

-- of the service at that name, after one was put under another name or the same
pub put_at : (desk : Desk) (command : Command) (m : ModelService) (name : List ℕ) → get (insert desk.services (subject_of command) m) name ≡ cond (bytes_eq name (subject_of command)) (Some m) (get desk.services name)
put_at desk command m name = get-insert nat_list_cmp_total desk.services (subject_of command) m name ∙ ap (λ b. cond b (Some m) (get desk.services name)) (is_eq-slice_cmp name (subject_of command))

pub template_at : (desk : Desk) (command : Command) (t : Known) (name : List ℕ) → get (with_revision desk.templates (subject_of command) t) name ≡ cond (eq_by_cmp (slice_cmp nat_cmp) name (subject_of command)) (Some (revisions_of desk.templates (subject_of command) ++ t ∷ [])) (get desk.templates name)
template_at desk command t name = get-insert nat_list_cmp_total desk.templates (subject_of command) (revisions_of desk.templates (subject_of command) ++ t ∷ []) name

-- desks that agree on the templates agree on them with one revision more
pub templates_alike : (desk other : Desk) (command : Command) (t : Known) → ((n : List ℕ) → get desk.templates n ≡ get other.templates n) → (n : List ℕ) → get (with_revision desk.templates (subject_of command) t) n ≡ get (with_revision other.templates (subject_of command) t) n
templates_alike desk other command t h n =
    template_at desk command t n
    ∙ (λ i. cond (eq_by_cmp (slice_cmp nat_cmp) n (subject_of command)) (Some (unwrap_or (h (subject_of command) i) [] ++ t ∷ [])) (h n i))
    ∙ sym (template_at other command t n)

-- and on the newest of each
pub newest_alike : (desk other : Desk) → ((n : List ℕ) → get desk.templates n ≡ get other.templates n) → newest desk.templates ≡ newest other.templates
newest_alike desk other h = λ i n. last_or None (unwrap_or (h n i) [])

-- the same change of the service leaves desks that agree on it in agreement
same_there : (name : List ℕ) (desk other : Desk) (command : Command) (x : Change) → AgreeOn name desk other → get desk.services (subject_of command) ≡ get other.services (subject_of command) → AgreeOn name (desk_after desk command x) (desk_after other command x)
same_there name desk other command Nothing h there = h
same_there name desk other command (Adds t) h there =
    record {
      templates = templates_alike desk other command t h.templates;
      service = h.service;
    }
same_there name desk other command (Becomes c) h there =
    record {
      templates = h.templates;
      service = put_at desk command (after (get desk.services (subject_of command)) c.service c.effects) name
          ∙ (λ i. cond (bytes_eq name (subject_of command)) (Some (after (there i) c.service c.effects)) (h.service i))
          ∙ sym (put_at other command (after (get other.services (subject_of command)) c.service c.effects) name);
    }

-- and so does a change of the templates
same_added : (name : List ℕ) (desk other : Desk) (command : Command) (x : Change) → ChangesNoService x → AgreeOn name desk other → AgreeOn name (desk_after desk command x) (desk_after other command x)
same_added name desk other command Nothing none h = h
same_added name desk other command (Adds t) none h =
    record {
      templates = templates_alike desk other command t h.templates;
      service = h.service;
    }
same_added name desk other command (Becomes c) none h = absurd none

-- a change of another service leaves this one
left_alone : (name : List ℕ) (desk other : Desk) (command : Command) (x : Change) → ChangesNoTemplate x → bytes_eq name (subject_of command) ≡ false → AgreeOn name desk other → AgreeOn name (desk_after desk command x) other
left_alone name desk other command Nothing none apart h = h
left_alone name desk other command (Adds t) none apart h = absurd none
left_alone name desk other command (Becomes c) none apart h =
    let m : ModelService = after (get desk.services (subject_of command)) c.service c.effects in
    record {
      templates = h.templates;
      service = put_at desk command m name ∙ ap (λ b. cond b (Some m) (get desk.services name)) apart ∙ h.service;
    }

-- One command.

named_so : (name : List ℕ) (command : Command) → bytes_eq name (subject_of command) ≡ true → name ≡ subject_of command
named_so name command e = (bytes_eq-Decides name (subject_of command)).0 e

-- the decisions are the same, and so the desks agree afterwards
abbrev pub StepsAlike : List ℕ → Desk → Desk → ℕ → Command → Type 0
StepsAlike name desk other now command = ((apply desk now command).reply ≡ (apply other now command).reply) × AgreeOn name (apply desk now command).desk (apply other now command).desk

on_it : (name : List ℕ) (desk other : Desk) (now : ℕ) (command : Command) → AgreeOn name desk other → bytes_eq name (subject_of command) ≡ true → StepsAlike name desk other now command
on_it name desk other now command h e =
    let there : get desk.services (subject_of command) ≡ get other.services (subject_of command) = subst (λ n. get desk.services n ≡ get other.services n) (named_so name command e) h.service in
    let same : ruling_on desk now command ≡ ruling_on other now command = λ i. model_decision (newest_alike desk other h.templates i) (option_map model_evolution (there i)) now command in (
      ap (λ (r : ModelDecision). r.reply) same,
      subst (λ (r : ModelDecision). AgreeOn name (desk_after desk command (ruling_on desk now command).change) (desk_after other command r.change)) same (same_there name desk other command (ruling_on desk now command).change h there),
    )

adds_it : (name : List ℕ) (desk other : Desk) (now : ℕ) (spec : TemplateSpec) → AgreeOn name desk other → StepsAlike name desk other now (Template spec)
adds_it name desk other now spec h =
    let same : rule_template (newest desk.templates spec.name) spec ≡ rule_template (newest other.templates spec.name) spec = (λ i. rule_template (newest_alike desk other h.templates i spec.name) spec) in (
      ap (λ (r : ModelDecision). r.reply) same,
      subst (λ (r : ModelDecision). AgreeOn name (desk_after desk (Template spec) (rule_template (newest desk.templates spec.name) spec).change) (desk_after other (Template spec) r.change)) same
          (same_added name desk other (Template spec) (rule_template (newest desk.templates spec.name) spec).change (template_changes (newest desk.templates spec.name) spec) h),
    )

pub steps_alike : (name : List ℕ) (desk other : Desk) (now : ℕ) (command : Command) → AgreeOn name desk other → concerns name (now, command) ≡ true → StepsAlike name desk other now command
steps_alike name desk other now (Template spec) h e = adds_it name desk other now spec h
steps_alike name desk other now command h e = on_it name desk other now command h e

leaves_it : (name : List ℕ) (desk other : Desk) (now : ℕ) (command : Command) → ChangesNoTemplate (ruling_on desk now command).change → bytes_eq name (subject_of command) ≡ false → AgreeOn name desk other → AgreeOn name (apply desk now command).desk other
leaves_it name desk other now command none apart h = left_alone name desk other command (ruling_on desk now command).change none apart h

pub leaves_service : (name : List ℕ) (desk other : Desk) (now : ℕ) (command : Command) → AgreeOn name desk other → concerns name (now, command) ≡ false → AgreeOn name (apply desk now command).desk other
leaves_service name desk other now (Template spec) h e = cc e
leaves_service name desk other now command h e = leaves_it name desk other now command (changes_on desk now command) e h

-- All commands.

is_not_on : (b o : Bool) → (b || o) ≡ false → o ≡ false
is_not_on true o e = cc e
is_not_on false o e = e

-- the machine on the commands that concern the service does the same to it
abbrev DoesAlike : List ℕ → Desk → Desk → List (ℕ × Command) → List (ℕ × Command) → Type 0
DoesAlike name desk other xs ys = AgreeOn name (machine desk xs).desk (machine other ys).desk × (replies_on name desk xs ≡ replies_on name other ys)

with_reply : (name : List ℕ) (x : ℕ × Command) (r s : Reply) (ps qs : List ((ℕ × Command) × Reply)) → r ≡ s → filter (is_reply_on name) ps ≡ filter (is_reply_on name) qs → filter (is_reply_on name) ((x, r) ∷ ps) ≡ filter (is_reply_on name) ((x, s) ∷ qs)
with_reply name x r s ps qs e h = λ i. cond (is_on name x.1) ((x, e i) ∷ h i) (h i)

alone : (name : List ℕ) (desk other : Desk) (xs : List (ℕ × Command)) → AgreeOn name desk other → DoesAlike name desk other xs (concerning name xs)
alone name desk other [] h = (h, refl)
alone name desk other (x ∷ xs) h =
    elim (concerns name x)
    as (λ b. concerns name x ≡ b → DoesAlike name desk other (x ∷ xs) (cond b (x ∷ concerning name xs) (concerning name xs))) [
      | true ↦ λ e.
          let step = steps_alike name desk other x.0 x.1 h e in
          let rest = alone name (apply desk x.0 x.1).desk (apply other x.0 x.1).desk xs step.1 in
          (rest.0, with_reply name x (apply desk x.0 x.1).reply (apply other x.0 x.1).reply (zip xs (machine (apply desk x.0 x.1).desk xs).replies) (zip (concerning name xs) (machine (apply other x.0 x.1).desk (concerning name xs)).replies) step.0 rest.1)
      | false ↦ λ e.
          let rest = alone name (apply desk x.0 x.1).desk other xs (leaves_service name desk other x.0 x.1 h e) in
          let p : (ℕ × Command) × Reply = (x, (apply desk x.0 x.1).reply) in
          let ps = zip xs (machine (apply desk x.0 x.1).desk xs).replies in
          (rest.0, ap (λ b. cond b (p ∷ filter (is_reply_on name) ps) (filter (is_reply_on name) ps)) (is_not_on _ (is_on name x.1) e) ∙ rest.1)
    ] refl

agree_over : (name : List ℕ) (a b c : Desk) → AgreeOn name a c → AgreeOn name b c → AgreeOn name a b
agree_over name a b c h k = record { templates = λ n. h.templates n ∙ sym (k.templates n); service = h.service ∙ sym k.service }

pub are_independent : AreIndependent
are_independent name desk other xs ys h same =
    let first = alone name desk other xs h in
    let second : DoesAlike name other other ys (concerning name xs) = subst (DoesAlike name other other ys) (sym same) (alone name other other ys (record { templates = λ n. refl; service = refl })) in
    (agree_over name (machine desk xs).desk (machine other ys).desk (machine other (concerning name xs)).desk first.0 second.0, first.1 ∙ sym second.1)
