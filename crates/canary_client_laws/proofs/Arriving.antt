-- Requests at one moment, of scripts that are apart, lead to the same contents in any order.
use Rattle.std.proofs.Common.{◌≡◌, inl, inr, ℕ, List, [], ◌∷◌, length, drop, Bool, true, false, Some, refl, sym, ap, ◌∙◌, arith}
use Rattle.std.specs.Prelude.{map, filter, cond, slice_get}
use Rattle.std.specs.List.{AllByRecursion}
use Rattle.std.specs.Ordering.{nat_cmp}
use Rattle.std.specs.Cmp.Lexicographic.{slice_cmp, nat_list_cmp_total}
use Rattle.std.specs.FinMap.{get, same_map, IsAntisymmetric, slice_cmp-IsAntisymmetric, nat_cmp-IsAntisymmetric}
use Rattle.std.proofs.lemmas.Slice.Eq.{bytes_eq-Decides}
use Rattle.std.proofs.lemmas.List.{take_all}
use Rattle.std.proofs.lemmas.Option.{same_Some}
use Rattle.canary_plan.specs.declared.command.Command.{Command}
use Rattle.canary_plan.specs.Commands.{subject_of}
use Rattle.canary_release.specs.declared.reply.Reply.{Reply}
use Rattle.canary_release.specs.Desks.{Desk, machine}
use Rattle.canary_release.specs.Laws.{is_on, concerning, is_reply_on, replies_on, AgreeOn, AreIndependent}
use Rattle.canary_once.specs.declared.event.Request.{Request}
use Rattle.canary_once.specs.declared.event.Event.{Event}
use Rattle.canary_once.specs.Contents.{Contents}
use Rattle.canary_once.specs.Answers.{requests_of, is_of, news_of, bare, settled_requests, after}
use Rattle.canary_client_laws.specs.Senders.{Scripts, IsDrawn, commands_of, AreApart, SettleAllAt, OrderDoesNotMatter}
use Rattle.canary_client_laws.proofs.Receipts.{own, receipt_for, more, got_all, replies_after, replies_long, own_bare}
use Rattle.canary_client_laws.proofs.Drawn.{settles_first}
use Rattle.canary_client_laws.proofs.Named.{news_all, on_its_own, Names, all_alone, concerning_mine, replies_mine, look, none_concerning}

-- What a caller settles is its script, at that moment.

one_at : (t : ℕ) (r : Request) (rs : List Request) (mine : Bool) → r.moment ≡ t → map bare rs ≡ map (λ x. (t, x)) (map (λ (r : Request). r.command) rs)
    → map bare (cond mine (r ∷ rs) rs) ≡ map (λ x. (t, x)) (map (λ (r : Request). r.command) (cond mine (r ∷ rs) rs))
one_at t r rs true now ih = λ i. (now i, r.command) ∷ ih i
one_at t r rs false now ih = ih

bare_at : (t : ℕ) (caller : List ℕ) (news : List Request) → AllByRecursion (λ (r : Request). r.moment ≡ t) news → map bare (filter (is_of caller) news) ≡ map (λ x. (t, x)) (commands_of caller news)
bare_at t caller [] all = refl
bare_at t caller (r ∷ rs) all = one_at t r (filter (is_of caller) rs) (is_of caller r) all.0 (bare_at t caller rs all.1)

settles : (t : ℕ) (scripts : Scripts) (c : Contents) (es : List Event) (caller : List ℕ) → SettleAllAt t scripts c es
    → map bare (filter (is_of caller) (news_of c es)) ≡ map (λ x. (t, x)) (scripts caller)
settles t scripts c es caller all =
    let first = settles_first scripts c es caller all.drawn in
    let count = first.count in
    let whole = all.whole caller in
    bare_at t caller (news_of c es) (news_all (λ (r : Request). r.moment ≡ t) c [] (requests_of es) tt all.at_once)
    ∙ ap (map (λ x. (t, x)))
    (first.commands ∙ take_all (length (filter (is_of caller) (news_of c es))) (scripts caller) (omega (arith, count, whole)))

drawn_news : (t : ℕ) (scripts : Scripts) (c : Contents) (es : List Event) → SettleAllAt t scripts c es → AllByRecursion (IsDrawn scripts c) (news_of c es)
drawn_news t scripts c es all = news_all (IsDrawn scripts c) c [] (requests_of es) tt all.drawn

-- The settled requests that concern one service.

of_script : (t : ℕ) (scripts : Scripts) (c : Contents) (es : List Event) (caller name : List ℕ) → AreApart scripts → SettleAllAt t scripts c es → Names scripts caller name
    → concerning name (settled_requests c es) ≡ concerning name (map (λ x. (t, x)) (scripts caller))
of_script t scripts c es caller name apart all named =
    concerning_mine caller name (news_of c es) (all_alone scripts c caller name (news_of c es) apart named (drawn_news t scripts c es all))
    ∙ ap (concerning name) (settles t scripts c es caller all)

same_concerning : (t : ℕ) (scripts : Scripts) (c : Contents) (es other : List Event) (name : List ℕ) → AreApart scripts → SettleAllAt t scripts c es → SettleAllAt t scripts c other
    → concerning name (settled_requests c es) ≡ concerning name (settled_requests c other)
same_concerning t scripts c es other name apart one two =
    elim (look scripts c name (news_of c es) apart (drawn_news t scripts c es one)) [
      | inr found ↦ of_script t scripts c es found.0 name apart one found.1 ∙ sym (of_script t scripts c other found.0 name apart two found.1)
      | inl none ↦ elim (look scripts c name (news_of c other) apart (drawn_news t scripts c other two)) [
        | inr found ↦ of_script t scripts c es found.0 name apart one found.1 ∙ sym (of_script t scripts c other found.0 name apart two found.1)
        | inl neither ↦ none_concerning name (news_of c es) none ∙ sym (none_concerning name (news_of c other) neither)
      ]
    ]

-- Two lists of answered commands that agree on each service.

abbrev Answered : Type 0
Answered = (ℕ × Command) × Reply

heads : {A : Type 0} (z w : A) (zs ws : List A) → ◌≡◌ {A = List A} (z ∷ zs) (w ∷ ws) → z ≡ w
heads z w zs ws e = same_Some z w (ap (λ l. slice_get l 0) e)

tails : {A : Type 0} (z w : A) (zs ws : List A) → ◌≡◌ {A = List A} (z ∷ zs) (w ∷ ws) → zs ≡ ws
tails z w zs ws e = ap (drop 1) e

kept_both : {A : Type 0} (p : A → Bool) (z w : A) (zs ws : List A) (b : Bool) → p z ≡ b → p w ≡ b → filter p (z ∷ zs) ≡ filter p (w ∷ ws)
    → cond b (z ∷ filter p zs) (filter p zs) ≡ cond b (w ∷ filter p ws) (filter p ws)
kept_both p z w zs ws b e f h =
    ap (λ b. cond b (z ∷ filter p zs) (filter p zs)) (sym e) ∙ h ∙ ap (λ b. cond b (w ∷ filter p ws) (filter p ws)) f

tails_kept : {A : Type 0} (p : A → Bool) (z w : A) (zs ws : List A) (b : Bool) → cond b (z ∷ filter p zs) (filter p zs) ≡ cond b (w ∷ filter p ws) (filter p ws) → filter p zs ≡ filter p ws
tails_kept p z w zs ws true h = tails z w (filter p zs) (filter p ws) h
tails_kept p z w zs ws false h = h

-- each is on a service that is among these
abbrev AreOn : (List ℕ → Type 0) → List Answered → Type 0
AreOn P zs = AllByRecursion (λ (z : Answered). (is_on (subject_of z.0.1) z.0.1 ≡ true) × P (subject_of z.0.1)) zs

same_answered : (P : List ℕ → Type 0) (zs ws : List Answered) → map (λ (z : Answered). z.0) zs ≡ map (λ (w : Answered). w.0) ws → AreOn P zs
    → ((name : List ℕ) → P name → filter (is_reply_on name) zs ≡ filter (is_reply_on name) ws) → zs ≡ ws
same_answered P [] [] keys all same = refl
same_answered P [] (w ∷ ws) keys all same = let e = ap length keys in absurd (omega (arith, e))
same_answered P (z ∷ zs) [] keys all same = let e = ap length keys in absurd (omega (arith, e))
same_answered P (z ∷ zs) (w ∷ ws) keys all same =
    let key : z.0 ≡ w.0 = heads z.0 w.0 (map (λ (z : Answered). z.0) zs) (map (λ (w : Answered). w.0) ws) keys in
    let on : (name : List ℕ) → is_reply_on name w ≡ is_reply_on name z = λ name. ap (λ (k : ℕ × Command). is_on name k.1) (sym key) in
    let name : List ℕ = subject_of z.0.1 in
    let here : z ≡ w = heads z w (filter (is_reply_on name) zs) (filter (is_reply_on name) ws) (kept_both (is_reply_on name) z w zs ws true all.0.0 (on name ∙ all.0.0) (same name all.0.1)) in
    let rest : zs ≡ ws = same_answered P zs ws (tails z.0 w.0 (map (λ (z : Answered). z.0) zs) (map (λ (w : Answered). w.0) ws) keys) all.1
    (λ n p. tails_kept (is_reply_on n) z w zs ws (is_reply_on n z) (kept_both (is_reply_on n) z w zs ws (is_reply_on n z) refl (on n) (same n p))) in
    λ i. here i ∷ rest i

-- A caller's answered requests.

one_on : (scripts : Scripts) (c : Contents) (caller : List ℕ) (r : Request) (x : Reply) (zs : List Answered) (mine : Bool) → AreApart scripts → is_of caller r ≡ mine → IsDrawn scripts c r → AreOn (Names scripts caller) zs
    → AreOn (Names scripts caller) (cond mine ((bare r, x) ∷ zs) zs)
one_on scripts c caller r x zs true apart e drawn all =
    let there : slice_get (scripts caller) drawn.place ≡ Some r.command = ap (λ (n : List ℕ). slice_get (scripts n) drawn.place) ((bytes_eq-Decides caller r.caller).0 e) ∙ drawn.command in
    ((on_its_own r.command (apart.no_template caller drawn.place r.command there), (drawn.place, r.command, there, refl)), all)
one_on scripts c caller r x zs false apart e drawn all = all

own_on : (scripts : Scripts) (c : Contents) (caller : List ℕ) (news : List Request) (xs : List Reply) → AreApart scripts → AllByRecursion (IsDrawn scripts c) news → AreOn (Names scripts caller) (own caller news xs)
own_on scripts c caller [] xs apart all = tt
own_on scripts c caller (r ∷ rs) [] apart all = tt
own_on scripts c caller (r ∷ rs) (x ∷ xs) apart all = one_on scripts c caller r x (own caller rs xs) (is_of caller r) apart refl all.0 (own_on scripts c caller rs xs apart all.1)

-- The law.

-- the machine over both lists of settled requests
agreed : AreIndependent → (t : ℕ) (scripts : Scripts) (c : Contents) (es other : List Event) (name : List ℕ) → AreApart scripts → SettleAllAt t scripts c es → SettleAllAt t scripts c other
    → AgreeOn name (machine c.desk (settled_requests c es)).desk (machine c.desk (settled_requests c other)).desk
    × (replies_on name c.desk (settled_requests c es) ≡ replies_on name c.desk (settled_requests c other))
agreed independent t scripts c es other name apart one two =
    independent name c.desk c.desk (settled_requests c es) (settled_requests c other) (record { templates = λ template. refl; service = refl }) (same_concerning t scripts c es other name apart one two)

same_own : AreIndependent → (t : ℕ) (scripts : Scripts) (c : Contents) (es other : List Event) (caller : List ℕ) → AreApart scripts → SettleAllAt t scripts c es → SettleAllAt t scripts c other
    → own caller (news_of c es) (replies_after c es) ≡ own caller (news_of c other) (replies_after c other)
same_own independent t scripts c es other caller apart one two =
    let keys : map (λ (z : Answered). z.0) (own caller (news_of c es) (replies_after c es)) ≡ map (λ (z : Answered). z.0) (own caller (news_of c other) (replies_after c other)) =
    own_bare caller (news_of c es) (replies_after c es) (replies_long c.desk (news_of c es))
    ∙ settles t scripts c es caller one
    ∙ sym (settles t scripts c other caller two)
    ∙ sym (own_bare caller (news_of c other) (replies_after c other) (replies_long c.desk (news_of c other))) in
    same_answered (Names scripts caller) (own caller (news_of c es) (replies_after c es)) (own caller (news_of c other) (replies_after c other)) keys
    (own_on scripts c caller (news_of c es) (replies_after c es) apart (drawn_news t scripts c es one))
    (λ name named.
    sym (replies_mine caller name (news_of c es) (replies_after c es) (all_alone scripts c caller name (news_of c es) apart named (drawn_news t scripts c es one)))
    ∙ (agreed independent t scripts c es other name apart one two).1
    ∙ replies_mine caller name (news_of c other) (replies_after c other) (all_alone scripts c caller name (news_of c other) apart named (drawn_news t scripts c other two)))

names_are_told_apart : IsAntisymmetric (slice_cmp nat_cmp)
names_are_told_apart = slice_cmp-IsAntisymmetric nat_cmp-IsAntisymmetric

pub order_does_not_matter : AreIndependent → OrderDoesNotMatter
order_does_not_matter independent scripts c t es other apart one two =
    let desk : Desk = (machine c.desk (settled_requests c es)).desk in
    let desk2 : Desk = (machine c.desk (settled_requests c other)).desk in
    let callers : (after c es).callers ≡ (after c other).callers =
    same_map nat_list_cmp_total names_are_told_apart (after c es).callers (after c other).callers (λ caller.
    got_all c.callers (news_of c es) (replies_after c es) caller
    ∙ ap (λ zs. more (get c.callers caller) (map receipt_for zs)) (same_own independent t scripts c es other caller apart one two)
    ∙ sym (got_all c.callers (news_of c other) (replies_after c other) caller)) in
    let templates : desk.templates ≡ desk2.templates =
    same_map nat_list_cmp_total names_are_told_apart desk.templates desk2.templates (agreed independent t scripts c es other [] apart one two).0.templates in
    let services : desk.services ≡ desk2.services =
    same_map nat_list_cmp_total names_are_told_apart desk.services desk2.services (λ name. (agreed independent t scripts c es other name apart one two).0.service) in
    λ i. record { callers = callers i; desk = record { templates = templates i; services = services i } }
