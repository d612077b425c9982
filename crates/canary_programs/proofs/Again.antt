-- One command more, and one request more; and what the register says of requests that were accepted.
use Rattle.std.proofs.Common.{◌≡◌, ℕ, zero, suc, ◌+◌, ◌<◌, List, [], ◌∷◌, ◌++◌, length, take, get_or, Bool, true, false, Option, Some, None, refl, sym, ap, ◌∙◌, subst, append_assoc, arith}
use Rattle.std.specs.Prelude.{◌||◌, cond, option_map, All}
use Rattle.std.specs.List.{filter_map, cons_option, AllByRecursion}
use Rattle.std.specs.Ordering.{nat_cmp}
use Rattle.std.specs.Cmp.Lexicographic.{slice_cmp, nat_list_cmp_total}
use Rattle.std.specs.FinMap.{FinMap, get, empty, get-insert, get-empty}
use Rattle.std.proofs.lemmas.Map.Text.{is_eq-slice_cmp}
use Rattle.std.proofs.lemmas.Slice.Eq.{bytes_eq-Decides}
use Rattle.std.proofs.lemmas.List.{take_more}
use Rattle.std.proofs.lemmas.List.Elements.{All-append, filter_map-append, recursion_from_All}
use Rattle.std.proofs.lemmas.List.Folds.{list_any_more, list_any_at}
use Rattle.canary_plan.specs.declared.template.Template.{Template}
use Rattle.canary_plan.specs.declared.template_spec.TemplateSpec.{TemplateSpec}
use Rattle.canary_plan.specs.declared.command.Command.{Command}
use Rattle.canary_plan.specs.declared.command.Command.TheVariants.{Template as AddTemplate}
use Rattle.canary_plan.specs.Plans.{Templates}
use Rattle.canary_release.specs.declared.reply.Reply.{Reply}
use Rattle.canary_release.specs.declared.reply.ReplyStatus.TheVariants.{Accepted}
use Rattle.canary_release.specs.Desks.{Desk, newest}
use Rattle.canary_once.specs.declared.event.Event.{Event}
use Rattle.canary_once.specs.declared.event.Answer.{Answer}
use Rattle.canary_once.specs.declared.event.Answer.TheVariants.{Replied, Unavailable}
use Rattle.canary_once.specs.BookCalls.{BookState, Stays}
use Rattle.canary_once.specs.Contents.{Contents, put_some, known_named}
use Rattle.canary_once.specs.Answers.{answered_events, replies_in, answers_of, after}
use Rattle.canary_programs.specs.Successions.{is_going_on, are_going_on, template_again, IsAccepted, Succeeds, requests_from, request_again}

-- What is found under the one name that was asked for.

put_got : (name : List ℕ) (o : Option Template) → get (put_some empty name o) name ≡ o
put_got name None = get-empty (slice_cmp nat_cmp) name
put_got name (Some t) =
    get-insert nat_list_cmp_total empty name t name
    ∙ ap (λ b. cond b (Some t) (get {R = slice_cmp nat_cmp} empty name)) (is_eq-slice_cmp name name ∙ (bytes_eq-Decides name name).1 refl)

pub found_alone : (known : Templates) (name : List ℕ) (found : FinMap (slice_cmp nat_cmp) Template) → found ≡ known_named known (name ∷ []) → get found name ≡ known name
found_alone known name found is = ap (λ (m : FinMap (slice_cmp nat_cmp) Template). get m name) is ∙ put_got name (known name)

-- The step of a loop over names.

pub one_more : (f : Desk → List ℕ → Option Command) (old now new : BookState) (names : List (List ℕ)) (i : ℕ) (name : List ℕ) (start commands grown : List Command) (found : Option Command)
    → i < length names → name ≡ get_or names i name → Stays old now → Stays now new
    → (now.is_honest → commands ≡ start ++ filter_map (f old.contents.desk) (take i names))
    → (new.is_honest → found ≡ f now.contents.desk name)
    → grown ≡ commands ++ cons_option found []
    → new.is_honest → grown ≡ start ++ filter_map (f old.contents.desk) (take (i + 1) names)
one_more f old now new names i name start commands grown found lt at first second before is pushed h =
    let g : List ℕ → Option Command = f old.contents.desk in
    let here : found ≡ g name = is h ∙ ap (λ c. f c.desk name) (first.same (second.honest h)) in
    let longer : take (i + 1) names ≡ take i names ++ name ∷ [] = take_more names i name lt ∙ ap (λ (n : List ℕ). take i names ++ n ∷ []) (sym at) in
    pushed
    ∙ ap (λ (xs : List Command). xs ++ cons_option found []) (before (second.honest h))
    ∙ append_assoc start (filter_map g (take i names)) (cons_option found [])
    ∙ ap (λ (xs : List Command). start ++ xs) (
    ap (λ o. filter_map g (take i names) ++ cons_option o []) here
    ∙ sym (filter_map-append g (take i names) (name ∷ []))
    ∙ ap (filter_map g) (sym longer)
    )

pub none_more : (moment : ℕ) (old now new : BookState) (names : List (List ℕ)) (i : ℕ) (name : List ℕ)
    → i < length names → name ≡ get_or names i name → Stays old now → Stays now new
    → (now.is_honest → are_going_on old.contents.desk moment (take i names) ≡ false)
    → (new.is_honest → is_going_on now.contents.desk moment name ≡ false)
    → new.is_honest → are_going_on old.contents.desk moment (take (i + 1) names) ≡ false
none_more moment old now new names i name lt at first second before is h =
    let p : List ℕ → Bool = is_going_on old.contents.desk moment in
    let here : p name ≡ false = sym (ap (λ c. is_going_on c.desk moment name) (first.same (second.honest h))) ∙ is h in
    list_any_more p names i name lt
    ∙ (λ k. before (second.honest h) k || (ap p (sym at) ∙ here) k)

pub some_going : (moment : ℕ) (old now new : BookState) (names : List (List ℕ)) (i : ℕ) (name : List ℕ)
    → i < length names → name ≡ get_or names i name → Stays old now → Stays now new
    → (new.is_honest → is_going_on now.contents.desk moment name ≡ true)
    → new.is_honest → are_going_on old.contents.desk moment names ≡ true
some_going moment old now new names i name lt at first second is h =
    let p : List ℕ → Bool = is_going_on old.contents.desk moment in
    let here : p name ≡ true = sym (ap (λ c. is_going_on c.desk moment name) (first.same (second.honest h))) ∙ is h in
    list_any_at p names i name lt (ap p (sym at) ∙ here)

-- The step of the loop over commands: the requests so far, with those of the commands that are left.

pub numbered : (now number : ℕ) (command : Command) (rest : List Command) (made grown whole : List Event)
    → grown ≡ made ++ request_again now number command ∷ []
    → made ++ requests_from now number (command ∷ rest) ≡ whole
    → grown ++ requests_from now (number + 1) rest ≡ whole
numbered now number command rest made grown whole is before =
    let next : number + 1 ≡ suc number = omega arith in
    (λ k. is k ++ requests_from now (next k) rest)
    ∙ append_assoc made (request_again now number command ∷ []) (requests_from now (suc number) rest)
    ∙ before

-- Requests that were all accepted: each was heard, and so each reply says.

pub all_heard : (events : List Event) (answers : List Answer) → length answers ≡ length events → AllByRecursion IsAccepted answers → answered_events events answers ≡ events
all_heard [] [] n all = refl
all_heard [] (a ∷ answers) n all = absurd (omega arith)
all_heard (e ∷ events) [] n all = absurd (omega arith)
all_heard (e ∷ events) (Replied reply ∷ answers) n all = ap (λ (es : List Event). e ∷ es) (all_heard events answers (omega arith) all.1)
all_heard (e ∷ events) (Unavailable fault ∷ answers) n all = absurd all.0

pub all_accepted : (answers : List Answer) → AllByRecursion IsAccepted answers → AllByRecursion (λ (r : Reply). r.status ≡ Accepted) (replies_in answers)
all_accepted [] all = tt
all_accepted (Replied reply ∷ answers) all = (all.0, all_accepted answers all.1)
all_accepted (Unavailable fault ∷ answers) all = absurd all.0

pub succeeds : (events : List Event) (answers : List Answer) (old new : Contents) → length answers ≡ length events → All IsAccepted answers
    → replies_in answers ≡ answers_of old (answered_events events answers) → new ≡ after old (answered_events events answers) → Succeeds events old new
succeeds events answers old new n all told is =
    let each : AllByRecursion IsAccepted answers = recursion_from_All IsAccepted answers all in
    let whole : answered_events events answers ≡ events = all_heard events answers n each in (
      is ∙ ap (after old) whole,
      subst (AllByRecursion (λ (r : Reply). r.status ≡ Accepted)) (told ∙ ap (answers_of old) whole) (all_accepted answers each),
    )

-- The step of the loop over answers.

one : (answer : Answer) → IsAccepted answer → All IsAccepted (answer ∷ [])
one answer is zero d h = is
one answer is (suc k) d h = let never : ⊥ = omega (arith, h) in absurd never

pub one_accepted : (answers : List Answer) (i : ℕ) (answer : Answer) → i < length answers → answer ≡ get_or answers i answer
    → All IsAccepted (take i answers) → IsAccepted answer → All IsAccepted (take (i + 1) answers)
one_accepted answers i answer lt at before is =
    let longer : take (i + 1) answers ≡ take i answers ++ answer ∷ [] = take_more answers i answer lt ∙ ap (λ (a : Answer). take i answers ++ a ∷ []) (sym at) in
    subst (All IsAccepted) (sym longer) (All-append IsAccepted (take i answers) (answer ∷ []) before (one answer is))

-- A template as it is asked for anew, if there is one.

pub again_some : (desk : Desk) (name : List ℕ) (t : Template) (spec : TemplateSpec) → spec ≡ t.spec → Some t ≡ newest desk.templates name → Some (AddTemplate spec) ≡ template_again desk name
again_some desk name t spec is known =
    ap (λ (s : TemplateSpec). Some (AddTemplate s)) is
    ∙ ap (λ (o : Option Template). option_map (λ (t : Template). AddTemplate t.spec) o) known

pub again_none : (desk : Desk) (name : List ℕ) → None ≡ newest desk.templates name → None ≡ template_again desk name
again_none desk name known = ap (λ (o : Option Template). option_map (λ (t : Template). AddTemplate t.spec) o) known
