-- New requests that name a service which only one script names are of that script's caller.
use Rattle.std.proofs.Common.{◌≡◌, ◌⊎◌, inl, inr, ℕ, List, [], ◌∷◌, ◌++◌, Bool, true, false, Some, refl, sym, ap, ◌∙◌}
use Rattle.std.specs.Prelude.{if◌then◌else◌, map, filter, cond, slice_get}
use Rattle.std.specs.List.{AllByRecursion, zip}
use Rattle.std.specs.Str.{bytes_eq}
use Rattle.std.proofs.lemmas.Slice.Eq.{bytes_eq-Decides}
use Rattle.std.proofs.lemmas.Bool.{both_ways, cases_Bool, false_from_ne_true, or_parts, or_cases}
use Rattle.canary_plan.specs.declared.command.Command.{Command}
use Rattle.canary_plan.specs.declared.command.Command.TheVariants.{Template}
use Rattle.canary_plan.specs.Commands.{subject_of}
use Rattle.canary_release.specs.declared.reply.Reply.{Reply}
use Rattle.canary_release.specs.Laws.{is_template, is_on, concerns, concerning, is_reply_on}
use Rattle.canary_once.specs.declared.event.Request.{Request}
use Rattle.canary_once.specs.Contents.{Contents}
use Rattle.canary_once.specs.Answers.{is_of, is_new, news_after, bare}
use Rattle.canary_client_laws.specs.Senders.{Scripts, IsDrawn, AreApart}
use Rattle.canary_client_laws.proofs.Receipts.{own}

-- What holds of all requests holds of the new ones.

one_all : (P : Request → Type 0) (news : List Request) (r : Request) → AllByRecursion P news → P r → AllByRecursion P (news ++ r ∷ [])
one_all P [] r all p = (p, tt)
one_all P (x ∷ news) r all p = (all.0, one_all P news r all.1 p)

or_as_before : (P : Request → Type 0) (news : List Request) (r : Request) (new : Bool) → AllByRecursion P news → P r → AllByRecursion P (if new then news ++ r ∷ [] else news)
or_as_before P news r true all p = one_all P news r all p
or_as_before P news r false all p = all

pub news_all : (P : Request → Type 0) (c : Contents) (news rs : List Request) → AllByRecursion P news → AllByRecursion P rs → AllByRecursion P (news_after c news rs)
news_all P c news [] there all = there
news_all P c news (r ∷ rs) there all =
    news_all P c (if is_new c news r then news ++ r ∷ [] else news) rs (or_as_before P news r (is_new c news r) there all.0) all.1

-- Commands on a service.

named_so : (name subject : List ℕ) → bytes_eq name subject ≡ true → subject ≡ name
named_so name subject e = sym ((bytes_eq-Decides name subject).0 e)

on_subject : (name : List ℕ) (x : Command) → is_on name x ≡ true → subject_of x ≡ name
on_subject name (Template spec) e = let none : ⊥ = cc e in absurd none
on_subject name x e = named_so name (subject_of x) e

itself : (name : List ℕ) → bytes_eq name name ≡ true
itself name = (bytes_eq-Decides name name).1 refl

pub on_its_own : (x : Command) → is_template x ≡ false → is_on (subject_of x) x ≡ true
on_its_own (Template spec) e = let none : ⊥ = cc e in absurd none
on_its_own x e = itself (subject_of x)

-- a script names a service
abbrev pub Names : Scripts → List ℕ → List ℕ → Type 0
Names scripts caller name = (place : ℕ) × (x : Command) × (slice_get (scripts caller) place ≡ Some x) × (subject_of x ≡ name)

concerned : (scripts : Scripts) (c : Contents) (name : List ℕ) (r : Request) → AreApart scripts → IsDrawn scripts c r → concerns name (bare r) ≡ true → is_on name r.command ≡ true
concerned scripts c name r apart drawn e =
    elim (or_cases (is_template r.command) (is_on name r.command) e) [
      | inl template ↦ absurd (both_ways (is_template r.command) (apart.no_template r.caller drawn.place r.command drawn.command) template)
      | inr on ↦ on
    ]

-- a request of another caller does not concern the service
abbrev pub IsAlone : List ℕ → List ℕ → Request → Type 0
IsAlone caller name r = is_of caller r ≡ false → concerns name (bare r) ≡ false

alone : (scripts : Scripts) (c : Contents) (caller name : List ℕ) (r : Request) → AreApart scripts → Names scripts caller name → IsDrawn scripts c r → IsAlone caller name r
alone scripts c caller name r apart named drawn other =
    false_from_ne_true (concerns name (bare r)) (λ e.
    let subject : subject_of r.command ≡ name = on_subject name r.command (concerned scripts c name r apart drawn e) in
    let same : caller ≡ r.caller = apart.services caller r.caller named.0 drawn.place named.1 r.command named.2 drawn.command (named.3 ∙ sym subject) in
    both_ways (is_of caller r) other ((bytes_eq-Decides caller r.caller).1 same))

pub all_alone : (scripts : Scripts) (c : Contents) (caller name : List ℕ) (news : List Request) → AreApart scripts → Names scripts caller name → AllByRecursion (IsDrawn scripts c) news → AllByRecursion (IsAlone caller name) news
all_alone scripts c caller name [] apart named all = tt
all_alone scripts c caller name (r ∷ rs) apart named all = (alone scripts c caller name r apart named all.0, all_alone scripts c caller name rs apart named all.1)

-- Only one caller's requests concern the service.

one_kept : {A : Type 0} (p : A → Bool) (z : A) (zs ws : List A) (mine : Bool) → (mine ≡ false → p z ≡ false) → filter p zs ≡ filter p ws → filter p (z ∷ zs) ≡ filter p (cond mine (z ∷ ws) ws)
one_kept p z zs ws true h ih = ap (λ l. cond (p z) (z ∷ l) l) ih
one_kept p z zs ws false h ih = ap (λ b. cond b (z ∷ filter p zs) (filter p zs)) (h refl) ∙ ih

one_bare : (r : Request) (rs : List Request) (mine : Bool) → cond mine (bare r ∷ map bare rs) (map bare rs) ≡ map bare (cond mine (r ∷ rs) rs)
one_bare r rs true = refl
one_bare r rs false = refl

pub concerning_mine : (caller name : List ℕ) (news : List Request) → AllByRecursion (IsAlone caller name) news → concerning name (map bare news) ≡ concerning name (map bare (filter (is_of caller) news))
concerning_mine caller name [] all = refl
concerning_mine caller name (r ∷ rs) all =
    one_kept (concerns name) (bare r) (map bare rs) (map bare (filter (is_of caller) rs)) (is_of caller r) all.0 (concerning_mine caller name rs all.1)
    ∙ ap (filter (concerns name)) (one_bare r (filter (is_of caller) rs) (is_of caller r))

pub replies_mine : (caller name : List ℕ) (news : List Request) (xs : List Reply) → AllByRecursion (IsAlone caller name) news
    → filter (is_reply_on name) (zip (map bare news) xs) ≡ filter (is_reply_on name) (own caller news xs)
replies_mine caller name [] xs all = refl
replies_mine caller name (r ∷ rs) [] all = refl
replies_mine caller name (r ∷ rs) (x ∷ xs) all =
    one_kept (is_reply_on name) (bare r, x) (zip (map bare rs) xs) (own caller rs xs) (is_of caller r) (λ other. (or_parts (is_template r.command) (is_on name r.command) (all.0 other)).1) (replies_mine caller name rs xs all.1)

-- Some request concerns the service, and then its caller's script names it, or none does.

abbrev pub AreElsewhere : List ℕ → List Request → Type 0
AreElsewhere name news = AllByRecursion (λ (r : Request). concerns name (bare r) ≡ false) news

pub look : (scripts : Scripts) (c : Contents) (name : List ℕ) (news : List Request) → AreApart scripts → AllByRecursion (IsDrawn scripts c) news → AreElsewhere name news ⊎ ((caller : List ℕ) × Names scripts caller name)
look scripts c name [] apart all = inl tt
look scripts c name (r ∷ rs) apart all =
    elim (cases_Bool (concerns name (bare r))) [
      | inl here ↦ inr (r.caller, (all.0.place, r.command, all.0.command, on_subject name r.command (concerned scripts c name r apart all.0 here)))
      | inr elsewhere ↦ elim (look scripts c name rs apart all.1) [ inl rest ↦ inl (elsewhere, rest) | inr found ↦ inr found ]
    ]

pub none_concerning : (name : List ℕ) (news : List Request) → AreElsewhere name news → concerning name (map bare news) ≡ []
none_concerning name [] all = refl
none_concerning name (r ∷ rs) all = ap (λ b. cond b (bare r ∷ concerning name (map bare rs)) (concerning name (map bare rs))) all.0 ∙ none_concerning name rs all.1
