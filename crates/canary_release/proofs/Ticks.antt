-- A Tick, put into a list of commands or left out.
use Rattle.std.proofs.Common.{◌≡◌, ◌≢◌, ◌⊎◌, inl, inr, ℕ, ◌≤◌, List, [], ◌∷◌, ◌++◌, append-nil, Bool, true, false, refl, ap, sym, ◌∙◌, subst, arith, true≢false}
use Rattle.std.specs.Prelude.{cond, IsTrue, Option, Some, None, Result, Ok, Err, option_map, max}
use Rattle.std.specs.Str.{bytes_eq}
use Rattle.std.proofs.lemmas.Slice.Eq.{bytes_eq-Decides}
use Rattle.std.specs.FinMap.{get}
use Rattle.canary_plan.specs.declared.template_spec.TemplateSpec.{TemplateSpec}
use Rattle.canary_plan.specs.declared.command.Command.{Command}
use Rattle.canary_plan.specs.declared.command.Command.TheVariants.{Template, Tick}
use Rattle.canary_plan.specs.declared.refusal.Refusal.{Refusal}
use Rattle.canary_plan.specs.declared.refusal.Refusal.TheVariants.{UnknownService}
use Rattle.canary_plan.specs.Plans.{Templates}
use Rattle.canary_plan.specs.Commands.{subject_of}
use Rattle.canary_release.specs.declared.effect.Effect.{Effect}
use Rattle.canary_release.specs.declared.reply.Reply.{Reply}
use Rattle.canary_release.specs.declared.state.ServiceState.{ServiceState}
use Rattle.canary_release.specs.Pasts.{Past, past_with, past_with_all, tracked}
use Rattle.canary_release.specs.Evolutions.{Evolution, RunView}
use Rattle.canary_release.specs.Rules.Passing.{with_last, followed, judged_at, pass}
use Rattle.canary_release.specs.Rules.Commands.{ModelResult, act}
use Rattle.canary_release.specs.Replies.{accepted}
use Rattle.canary_release.specs.Desks.{ModelService, Desk, Change, ModelDecision, watch_of, model_evolution, passed_on, act_passed, newest, after, rules, rule_template, rule_service, ruling_on, desk_after, apply, machine}
use Rattle.canary_release.specs.Desks.Change.{Nothing, Adds, Becomes}
use Rattle.canary_release.specs.Laws.{is_on, passed_to, AreFrom, AgreeFrom, TicksOnlyPassTime}
use Rattle.canary_release.proofs.Watches.{passed, acted_passed, KeepsIf}
use Rattle.canary_release.proofs.InSteps.{passes_in_steps, later_of}
use Rattle.canary_release.proofs.Behind.{behind, once_seen, result_behind, pass_behind, act_passed_behind}
use Rattle.canary_release.proofs.Apart.{ChangesNoService, ChangesNoTemplate, template_changes, changes_on, put_at, templates_alike, newest_alike}

-- An evolution with several effects before its own.

abbrev behind_all : RunView → List Effect → Evolution → Evolution
behind_all w [] c = record c { watch = w }
behind_all w (x ∷ xs) c = behind w x (behind_all (once_seen w x) xs c)

-- a view of runs after these effects
abbrev all_seen : RunView → List Effect → RunView
all_seen w es xs = w (es ++ xs)

abbrev result_behind_all : RunView → List Effect → Result ModelResult Refusal → Result ModelResult Refusal
result_behind_all w es (Ok a) = Ok (record a { evolution = behind_all w es a.evolution })
result_behind_all w es (Err refusal) = Err refusal

watch_behind : (w : RunView) (es : List Effect) (c : Evolution) → (behind_all w es c).watch ≡ w
watch_behind w [] c = refl
watch_behind w (x ∷ es) c = refl

-- it stands as the evolution does, and the effects come before its own
shape_behind : (w : RunView) (es : List Effect) (c : Evolution) → behind_all w es c ≡ record { service = c.service; effects = es ++ c.effects; watch = w }
shape_behind w [] c = refl
shape_behind w (x ∷ es) c = ap (behind w x) (shape_behind (once_seen w x) es c)

result_more : (w : RunView) (x : Effect) (es : List Effect) (r : Result ModelResult Refusal) → result_behind w x (result_behind_all (once_seen w x) es r) ≡ result_behind_all w (x ∷ es) r
result_more w x es (Ok a) = refl
result_more w x es (Err refusal) = refl

same_watch : (w : RunView) (r : Result ModelResult Refusal) (c : Evolution) → c.watch ≡ w → KeepsIf c r → r ≡ result_behind_all w [] r
same_watch w (Ok a) c p k = λ i. Ok (record a { evolution = record a.evolution { watch = (k ∙ p) i } })
same_watch w (Err refusal) c p k = refl

pass_behind_all : (w : RunView) (es : List Effect) (c : Evolution) (t : ℕ) → c.watch ≡ all_seen w es → pass (behind_all w es c) t ≡ behind_all w es (pass c t)
pass_behind_all w [] c t p = (λ i. pass (record c { watch = sym p i }) t) ∙ (λ i. record (pass c t) { watch = (passed c t ∙ p) i })
pass_behind_all w (x ∷ es) c t p = pass_behind w x (behind_all (once_seen w x) es c) t (watch_behind (once_seen w x) es c) ∙ ap (behind w x) (pass_behind_all (once_seen w x) es c t p)

act_behind_all : (known : Templates) (w : RunView) (es : List Effect) (command : Command) (c : Evolution) (now : ℕ) → c.watch ≡ all_seen w es → act_passed known command (behind_all w es c) now ≡ result_behind_all w es (act_passed known command c now)
act_behind_all known w [] command c now p = (λ i. act_passed known command (record c { watch = sym p i }) now) ∙ same_watch w (act_passed known command c now) c p (acted_passed known command c now)
act_behind_all known w (x ∷ es) command c now p =
    act_passed_behind known w x command (behind_all (once_seen w x) es c) now (watch_behind (once_seen w x) es c)
    ∙ ap (result_behind w x) (act_behind_all known (once_seen w x) es command c now p)
    ∙ result_more w x es (act_passed known command c now)

-- A service that was passed to a moment.

grows_on : (p : Past) (es xs : List Effect) → past_with_all (past_with_all p es) xs ≡ past_with_all p (es ++ xs)
grows_on p [] xs = refl
grows_on p (x ∷ es) xs = grows_on (past_with p x) es xs

-- what happens to it up to a moment
abbrev effects_to : ℕ → ModelService → List Effect
effects_to t m = (pass (model_evolution m) t).effects

seen_on : (t : ℕ) (m : ModelService) → (model_evolution (passed_to t m)).watch ≡ all_seen (watch_of m.past) (effects_to t m)
seen_on t m = λ i xs. tracked (grows_on m.past (effects_to t m) xs i)

-- the evolution that passed is that of the service that was passed, with what happened on the way before it
is_behind : (t : ℕ) (m : ModelService) → pass (model_evolution m) t ≡ behind_all (watch_of m.past) (effects_to t m) (model_evolution (passed_to t m))
is_behind t m =
    let c : Evolution = pass (model_evolution m) t in
    (λ i. record { service = c.service; effects = sym (append-nil c.effects) i; watch = passed (model_evolution m) t i })
    ∙ sym (shape_behind (watch_of m.past) (effects_to t m) (model_evolution (passed_to t m)))

-- passing it further is passing the service there
passed_further : (t u : ℕ) (m : ModelService) → t ≤ u → pass (model_evolution m) u ≡ behind_all (watch_of m.past) (effects_to t m) (pass (model_evolution (passed_to t m)) u)
passed_further t u m le =
    sym (passes_in_steps (model_evolution m) t u le)
    ∙ ap (λ (c : Evolution). pass c u) (is_behind t m)
    ∙ pass_behind_all (watch_of m.past) (effects_to t m) (model_evolution (passed_to t m)) u (seen_on t m)

-- a service that stands so, with these effects
abbrev grown : ModelService → ServiceState → List Effect → ModelService
grown m s es = record m { service = s; past = past_with_all m.past es }

grown_behind : (t : ℕ) (m : ModelService) (c : Evolution) → (let d : Evolution = behind_all (watch_of m.past) (effects_to t m) c in grown m d.service d.effects) ≡ grown (passed_to t m) c.service c.effects
grown_behind t m c =
    ap (λ (d : Evolution). grown m d.service d.effects) (shape_behind (watch_of m.past) (effects_to t m) c)
    ∙ (λ i. record m { service = c.service; past = sym (grows_on m.past (effects_to t m) c.effects) i })

passed_twice : (t u : ℕ) (m : ModelService) → t ≤ u → passed_to u (passed_to t m) ≡ passed_to u m
passed_twice t u m le =
    sym (ap (λ (d : Evolution). grown m d.service d.effects) (passed_further t u m le) ∙ grown_behind t m (pass (model_evolution (passed_to t m)) u))

-- a command on the service does what it does on the one that was passed, with what happened on the way before it
acts_further : (known : Templates) (t u : ℕ) (m : ModelService) (command : Command) → t ≤ u → act_passed known command (model_evolution m) u ≡ result_behind_all (watch_of m.past) (effects_to t m) (act_passed known command (model_evolution (passed_to t m)) u)
acts_further known t u m command le =
    let at : judged_at (pass (model_evolution m) t).service u ≡ judged_at m.service u = later_of t u m.service.last le in
    sym (λ i. passed_on (act known command (passes_in_steps (model_evolution m) t u le i) (at i)) (at i))
    ∙ ap (λ (c : Evolution). act_passed known command c u) (is_behind t m)
    ∙ act_behind_all known (watch_of m.past) (effects_to t m) command (model_evolution (passed_to t m)) u (seen_on t m)

-- Desks, with a Tick and without.

-- they agree on the templates and on every other service, and the service is the same, or was passed to t by the Tick
record AreApart (t : ℕ) (name : List ℕ) (ticked plain : Desk) : Type 0 where
  templates : (template : List ℕ) → get ticked.templates template ≡ get plain.templates template
  others : (service : List ℕ) → service ≢ name → get ticked.services service ≡ get plain.services service
  service : (get ticked.services name ≡ get plain.services name) ⊎ (get ticked.services name ≡ option_map (passed_to t) (get plain.services name))

is_named : (a b : List ℕ) → bytes_eq a b ≡ true → a ≡ b
is_named a b e = (bytes_eq-Decides a b).0 e

is_other : (a b : List ℕ) → a ≢ b → bytes_eq a b ≡ false
is_other a b apart = elim (bytes_eq a b) as (λ x. bytes_eq a b ≡ x → x ≡ false) [ true ↦ λ e. absurd (apart (is_named a b e)) | false ↦ λ e. refl ] refl

is_apart : (a b : List ℕ) → bytes_eq a b ≡ false → b ≢ a
is_apart a b e same = true≢false (sym ((bytes_eq-Decides a b).1 (sym same)) ∙ e)

abbrev DoAlike : ℕ → List ℕ → Desk → Desk → Command → ModelDecision → ModelDecision → Type 0
DoAlike t name ticked plain command r s = (r.reply ≡ s.reply) × AreApart t name (desk_after ticked command r.change) (desk_after plain command s.change)

-- the service of that name, as it is or passed to t
abbrev IsPassed : ℕ → Option ModelService → Option ModelService → Type 0
IsPassed t ticked plain = (ticked ≡ plain) ⊎ (ticked ≡ option_map (passed_to t) plain)

still_passed : (t : ℕ) (a b c d : Option ModelService) → c ≡ a → d ≡ b → IsPassed t a b → IsPassed t c d
still_passed t a b c d e f (inl s) = inl (e ∙ s ∙ sym f)
still_passed t a b c d e f (inr s) = inr (e ∙ s ∙ ap (option_map (passed_to t)) (sym f))

-- if the same service is put at one name
put_same : (t : ℕ) (b : Bool) (m n : ModelService) (ticked plain : Option ModelService) → m ≡ n → IsPassed t ticked plain → IsPassed t (cond b (Some m) ticked) (cond b (Some n) plain)
put_same t true m n ticked plain same h = inl (ap (λ (k : ModelService). Some k) same)
put_same t false m n ticked plain same h = h

-- the same service is put on both desks
put_both : (t : ℕ) (name : List ℕ) (ticked plain : Desk) (command : Command) (c d : Evolution) → AreApart t name ticked plain
    → ◌≡◌ {A = ModelService} (after (get ticked.services (subject_of command)) c.service c.effects) (after (get plain.services (subject_of command)) d.service d.effects)
    → AreApart t name (desk_after ticked command (Becomes c)) (desk_after plain command (Becomes d))
put_both t name ticked plain command c d h same =
    let m : ModelService = after (get ticked.services (subject_of command)) c.service c.effects in
    let n : ModelService = after (get plain.services (subject_of command)) d.service d.effects in
    let b = bytes_eq name (subject_of command) in
    record {
      templates = h.templates;
      others = λ q apart. put_at ticked command m q ∙ (λ i. cond (bytes_eq q (subject_of command)) (Some (same i)) (h.others q apart i)) ∙ sym (put_at plain command n q);
      service = still_passed t (cond b (Some m) (get ticked.services name)) (cond b (Some n) (get plain.services name)) (get (desk_after ticked command (Becomes c)).services name) (get (desk_after plain command (Becomes d)).services name)
          (put_at ticked command m name) (put_at plain command n name) (put_same t b m n (get ticked.services name) (get plain.services name) same h.service);
    }

-- One command on both desks.

-- the same change, if no template is changed and the desks agree on the service that the command names
same_change : (t : ℕ) (name : List ℕ) (ticked plain : Desk) (command : Command) (x : Change) → ChangesNoTemplate x → get ticked.services (subject_of command) ≡ get plain.services (subject_of command) → AreApart t name ticked plain
    → AreApart t name (desk_after ticked command x) (desk_after plain command x)
same_change t name ticked plain command Nothing none there h = h
same_change t name ticked plain command (Adds k) none there h = absurd none
same_change t name ticked plain command (Becomes c) none there h = put_both t name ticked plain command c c h (λ i. after (there i) c.service c.effects)

-- the same change, if no service is changed
same_added : (t : ℕ) (name : List ℕ) (ticked plain : Desk) (command : Command) (x : Change) → ChangesNoService x → AreApart t name ticked plain → AreApart t name (desk_after ticked command x) (desk_after plain command x)
same_added t name ticked plain command Nothing none h = h
same_added t name ticked plain command (Adds k) none h =
    record {
      templates = templates_alike ticked plain command k h.templates;
      others = h.others;
      service = h.service;
    }
same_added t name ticked plain command (Becomes c) none h = absurd none

-- the decision on a command that is no Template
abbrev ruled : Desk → ℕ → Command → ModelDecision
ruled desk now command = rule_service (newest desk.templates) (option_map model_evolution (get desk.services (subject_of command))) now command

on_same : (t : ℕ) (name : List ℕ) (ticked plain : Desk) (now : ℕ) (command : Command) → get ticked.services (subject_of command) ≡ get plain.services (subject_of command) → AreApart t name ticked plain
    → DoAlike t name ticked plain command (ruled ticked now command) (ruled plain now command)
on_same t name ticked plain now command there h =
    let same : ruled ticked now command ≡ ruled plain now command = λ i. rule_service (newest_alike ticked plain h.templates i) (option_map model_evolution (there i)) now command in (
      ap (λ (r : ModelDecision). r.reply) same,
      subst (λ (r : ModelDecision). AreApart t name (desk_after ticked command (ruled ticked now command).change) (desk_after plain command r.change)) same
          (same_change t name ticked plain command (ruled ticked now command).change (changes_on ticked now command) there h),
    )

-- what a command leads to from the service that was passed, and from the one that was not
on_results : (t : ℕ) (name : List ℕ) (ticked plain : Desk) (command : Command) (m : ModelService) (r : Result ModelResult Refusal) → AreApart t name ticked plain
    → get ticked.services (subject_of command) ≡ Some (passed_to t m) → get plain.services (subject_of command) ≡ Some m
    → DoAlike t name ticked plain command (rules r) (rules (result_behind_all (watch_of m.past) (effects_to t m) r))
on_results t name ticked plain command m (Err refusal) h ticked_is plain_is = (refl, h)
on_results t name ticked plain command m (Ok a) h ticked_is plain_is =
    let d : Evolution = behind_all (watch_of m.past) (effects_to t m) a.evolution in (
      ap (λ (c : Evolution). accepted (a.shows c.service)) (sym (shape_behind (watch_of m.past) (effects_to t m) a.evolution)),
      put_both t name ticked plain command a.evolution d h ((λ i. after (ticked_is i) a.evolution.service a.evolution.effects) ∙ sym (grown_behind t m a.evolution) ∙ (λ i. after (sym plain_is i) d.service d.effects)),
    )

on_passed : (t : ℕ) (name : List ℕ) (ticked plain : Desk) (now : ℕ) (command : Command) → t ≤ now → AreApart t name ticked plain
    → (o : Option ModelService) → get ticked.services (subject_of command) ≡ option_map (passed_to t) o → get plain.services (subject_of command) ≡ o
    → DoAlike t name ticked plain command (ruled ticked now command) (ruled plain now command)
on_passed t name ticked plain now command le h None ticked_is plain_is = on_same t name ticked plain now command (ticked_is ∙ sym plain_is) h
on_passed t name ticked plain now command le h (Some m) ticked_is plain_is =
    let known = newest ticked.templates in
    let r = act_passed known command (model_evolution (passed_to t m)) now in
    let first : ruled ticked now command ≡ rules r = ap (λ o. rule_service (newest ticked.templates) (option_map model_evolution o) now command) ticked_is in
    let second : ruled plain now command ≡ rules (result_behind_all (watch_of m.past) (effects_to t m) r) =
    (λ i. rule_service (newest_alike plain ticked (λ n. sym (h.templates n)) i) (option_map model_evolution (plain_is i)) now command) ∙ ap rules (acts_further known t now m command le) in
    subst (λ (x : ModelDecision). DoAlike t name ticked plain command x (ruled plain now command)) (sym first)
    (subst (λ (x : ModelDecision). DoAlike t name ticked plain command (rules r) x) (sym second) (on_results t name ticked plain command m r h ticked_is plain_is))

on_either : (t : ℕ) (name : List ℕ) (ticked plain : Desk) (now : ℕ) (command : Command) → t ≤ now → AreApart t name ticked plain
    → IsPassed t (get ticked.services (subject_of command)) (get plain.services (subject_of command))
    → DoAlike t name ticked plain command (ruled ticked now command) (ruled plain now command)
on_either t name ticked plain now command le h (inl same) = on_same t name ticked plain now command same h
on_either t name ticked plain now command le h (inr ahead) = on_passed t name ticked plain now command le h (get plain.services (subject_of command)) ahead refl

on_service : (t : ℕ) (name : List ℕ) (ticked plain : Desk) (now : ℕ) (command : Command) → AreApart t name ticked plain → (IsTrue (bytes_eq name (subject_of command)) → t ≤ now)
    → DoAlike t name ticked plain command (ruled ticked now command) (ruled plain now command)
on_service t name ticked plain now command h from =
    elim (bytes_eq name (subject_of command))
    as (λ b. bytes_eq name (subject_of command) ≡ b → DoAlike t name ticked plain command (ruled ticked now command) (ruled plain now command)) [
      | true ↦ λ e. on_either t name ticked plain now command (from e) h (subst (λ n. IsPassed t (get ticked.services n) (get plain.services n)) (is_named name (subject_of command) e) h.service)
      | false ↦ λ e. on_same t name ticked plain now command (h.others (subject_of command) (is_apart name (subject_of command) e)) h
    ] refl

on_template : (t : ℕ) (name : List ℕ) (ticked plain : Desk) (now : ℕ) (spec : TemplateSpec) → AreApart t name ticked plain
    → DoAlike t name ticked plain (Template spec) (ruling_on ticked now (Template spec)) (ruling_on plain now (Template spec))
on_template t name ticked plain now spec h =
    let same : rule_template (newest ticked.templates spec.name) spec ≡ rule_template (newest plain.templates spec.name) spec = (λ i. rule_template (newest_alike ticked plain h.templates i spec.name) spec) in (
      ap (λ (r : ModelDecision). r.reply) same,
      subst (λ (r : ModelDecision). AreApart t name (desk_after ticked (Template spec) (rule_template (newest ticked.templates spec.name) spec).change) (desk_after plain (Template spec) r.change)) same
          (same_added t name ticked plain (Template spec) (rule_template (newest ticked.templates spec.name) spec).change (template_changes (newest ticked.templates spec.name) spec) h),
    )

one_alike : (t : ℕ) (name : List ℕ) (ticked plain : Desk) (now : ℕ) (command : Command) → AreApart t name ticked plain → (IsTrue (is_on name command) → t ≤ now)
    → DoAlike t name ticked plain command (ruling_on ticked now command) (ruling_on plain now command)
one_alike t name ticked plain now (Template spec) h from = on_template t name ticked plain now spec h
one_alike t name ticked plain now command h from = on_service t name ticked plain now command h from

-- All commands that follow.

all_alike : (t : ℕ) (name : List ℕ) (ticked plain : Desk) (ys : List (ℕ × Command)) → AreApart t name ticked plain → AreFrom t name ys
    → ((machine ticked ys).replies ≡ (machine plain ys).replies) × AreApart t name (machine ticked ys).desk (machine plain ys).desk
all_alike t name ticked plain [] h from = (refl, h)
all_alike t name ticked plain (y ∷ ys) h from =
    let one = one_alike t name ticked plain y.0 y.1 h from.0 in
    let rest = all_alike t name (apply ticked y.0 y.1).desk (apply plain y.0 y.1).desk ys one.1 from.1 in
    ((λ i. one.0 i ∷ rest.0 i), rest.1)

-- The Tick itself.

-- a Tick passes the service twice, which is once
tick_passes : (t : ℕ) (c : Evolution) → pass (pass c t) (judged_at c.service t) ≡ pass c t
tick_passes t c =
    let k = c.service.last in
    let again : max (max t k) k ≡ max t k = omega arith in
    passes_in_steps c t (max t k) (omega arith) ∙ ap (λ a. with_last (followed c a) a) again

ticked_there : (t : ℕ) (name : List ℕ) (desk : Desk) (m : ModelService) (c : Evolution) → get desk.services name ≡ Some m → c ≡ pass (model_evolution m) t → AreApart t name (desk_after desk (Tick name) (Becomes c)) desk
ticked_there t name desk m c there is =
    let k : ModelService = after (get desk.services name) c.service c.effects in
    let grew : k ≡ passed_to t m = (λ i. after (there i) c.service c.effects) ∙ ap (λ (d : Evolution). grown m d.service d.effects) is in
    record {
      templates = λ n. refl;
      others = λ q apart. put_at desk (Tick name) k q ∙ ap (λ b. cond b (Some k) (get desk.services q)) (is_other q name apart);
      service = inr (put_at desk (Tick name) k name ∙ ap (λ b. cond b (Some k) (get desk.services name)) ((bytes_eq-Decides name name).1 refl) ∙ ap (λ (n : ModelService). Some n) grew ∙ sym (ap (option_map (passed_to t)) there));
    }

tick_of : (t : ℕ) (name : List ℕ) (desk : Desk) (o : Option ModelService) → get desk.services name ≡ o → AreApart t name (apply desk t (Tick name)).desk desk
tick_of t name desk None there =
    let none : ruled desk t (Tick name) ≡ rules (Err UnknownService) = ap (λ o. rule_service (newest desk.templates) (option_map model_evolution o) t (Tick name)) there in
    subst (λ (r : ModelDecision). AreApart t name (desk_after desk (Tick name) r.change) desk) (sym none) (record { templates = λ n. refl; others = λ q apart. refl; service = inl refl })
tick_of t name desk (Some m) there =
    let some : ruled desk t (Tick name) ≡ rules (act_passed (newest desk.templates) (Tick name) (model_evolution m) t) = ap (λ o. rule_service (newest desk.templates) (option_map model_evolution o) t (Tick name)) there in
    subst (λ (r : ModelDecision). AreApart t name (desk_after desk (Tick name) r.change) desk) (sym some)
    (ticked_there t name desk m (pass (pass (model_evolution m) t) (judged_at m.service t)) there (tick_passes t (model_evolution m)))

-- The law.

further : (t u : ℕ) (o : Option ModelService) → t ≤ u → option_map (passed_to u) (option_map (passed_to t) o) ≡ option_map (passed_to u) o
further t u None le = refl
further t u (Some m) le = ap (λ (k : ModelService). Some k) (passed_twice t u m le)

in_time : (t u : ℕ) (ticked plain : Option ModelService) → t ≤ u → IsPassed t ticked plain → option_map (passed_to u) ticked ≡ option_map (passed_to u) plain
in_time t u ticked plain le (inl same) = ap (option_map (passed_to u)) same
in_time t u ticked plain le (inr ahead) = ap (option_map (passed_to u)) ahead ∙ further t u plain le

agree_from : (t : ℕ) (name : List ℕ) (ticked plain : Desk) → AreApart t name ticked plain → AgreeFrom t name ticked plain
agree_from t name ticked plain h = record { templates = h.templates; others = h.others; service = λ u le. in_time t u (get ticked.services name) (get plain.services name) le h.service }

pub ticks_only_pass_time : TicksOnlyPassTime
ticks_only_pass_time desk name t [] ys from =
    let rest = all_alike t name (apply desk t (Tick name)).desk desk ys (tick_of t name desk (get desk.services name) refl) from in
    (rest.0, agree_from t name (machine (apply desk t (Tick name)).desk ys).desk (machine desk ys).desk rest.1)
ticks_only_pass_time desk name t (x ∷ xs) ys from =
    let rest = ticks_only_pass_time (apply desk x.0 x.1).desk name t xs ys from in
    (ap (λ (rs : List Reply). (apply desk x.0 x.1).reply ∷ rs) rest.0, rest.1)
