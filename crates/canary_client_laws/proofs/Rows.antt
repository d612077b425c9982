-- Worked rows: two scripts, of ops on web and of dev on api, that arrive late, twice and in order.
use Rattle.std.proofs.Common.{◌≡◌, ◌⊎◌, inl, inr, ℕ, zero, suc, ◌+◌, List, [], ◌∷◌, ◌++◌, length, Bool, true, false, Some, refl, sym, ap, ◌∙◌, subst, arith}
use Rattle.std.specs.Prelude.{◌==◌, if◌then◌else◌, filter, cond, codes, slice_get}
use Rattle.std.specs.List.{AllByRecursion}
use Rattle.std.specs.Str.{bytes_eq}
use Rattle.std.proofs.lemmas.Slice.Eq.{bytes_eq-Decides}
use Rattle.std.proofs.lemmas.Option.{same_Some}
use Rattle.canary_plan.specs.declared.command.Command.{Command}
use Rattle.canary_plan.specs.declared.command.Command.TheVariants.{Start}
use Rattle.canary_plan.specs.Commands.{subject_of}
use Rattle.canary_release.specs.Laws.{is_template, AreIndependent}
use Rattle.canary_release.proofs.Stories.{b, web, v2, add, two_pauses}
use Rattle.canary_once.specs.declared.event.Request.{Request}
use Rattle.canary_once.specs.declared.event.Event.{Event}
use Rattle.canary_once.specs.declared.event.Event.TheVariants as event
use Rattle.canary_once.specs.Contents.{no_contents, count_of}
use Rattle.canary_once.specs.Answers.{requests_of, is_of, news_after, news_of, after}
use Rattle.canary_once.specs.Single.{request_of}
use Rattle.canary_client_laws.specs.Senders.{Scripts, IsDrawn, IsSettledWhole, AreApart, SettleAllAt}
use Rattle.canary_client_laws.proofs.Receipts.{count_after, nobody_yet}
use Rattle.canary_client_laws.proofs.Arriving.{order_does_not_matter}

abbrev ops : List ℕ
ops = codes "ops"

abbrev dev : List ℕ
dev = codes "dev"

abbrev api : List ℕ
api = codes "api"

abbrev on_web : List Command
on_web = add web two_pauses ∷ Start web v2 ∷ []

abbrev on_api : List Command
on_api = add api two_pauses ∷ []

abbrev both : Bool → Bool → List Command
both is_ops is_dev = cond is_ops on_web [] ++ cond is_dev on_api []

abbrev scripts : Scripts
scripts caller = both (bytes_eq caller ops) (bytes_eq caller dev)

abbrev first_of_ops : Request
first_of_ops = request_of b ops 1 (add web two_pauses)

abbrev second_of_ops : Request
second_of_ops = request_of b ops 2 (Start web v2)

abbrev first_of_dev : Request
first_of_dev = request_of b dev 1 (add api two_pauses)

-- the second of ops comes too early, and the first twice
abbrev late : List Event
late =
    event.Request second_of_ops
    ∷ event.Request first_of_dev
    ∷ event.Request first_of_ops
    ∷ event.Request first_of_ops
    ∷ event.Request second_of_ops
    ∷ []

abbrev in_order : List Event
in_order =
    event.Request first_of_ops
    ∷ event.Request second_of_ops
    ∷ event.Request first_of_dev
    ∷ []

-- What is new from empty contents on, which computes.

abbrev new_from : List Request → List Request → List Request
new_from news [] = news
new_from news (r ∷ rs) = new_from (if r.number == length (filter (is_of r.caller) news) + 1 then news ++ r ∷ [] else news) rs

news_are : (news rs : List Request) → news_after no_contents news rs ≡ new_from news rs
news_are news [] = refl
news_are news (r ∷ rs) =
    let none : count_of no_contents r.caller ≡ 0 = nobody_yet r.caller in
    let next : count_of no_contents r.caller + length (filter (is_of r.caller) news) + 1 ≡ length (filter (is_of r.caller) news) + 1 = omega (arith, none) in
    ap (λ n. news_after no_contents (if r.number == n then news ++ r ∷ [] else news) rs) next
    ∙ news_are (if r.number == length (filter (is_of r.caller) news) + 1 then news ++ r ∷ [] else news) rs

late_news : news_of no_contents late ≡ first_of_dev ∷ first_of_ops ∷ second_of_ops ∷ []
late_news = news_are [] (requests_of late)

in_order_news : news_of no_contents in_order ≡ first_of_ops ∷ second_of_ops ∷ first_of_dev ∷ []
in_order_news = news_are [] (requests_of in_order)

-- The scripts are apart.

all_there : {A : Type 0} (P : A → Type 0) (l : List A) (i : ℕ) (x : A) → AllByRecursion P l → slice_get l i ≡ Some x → P x
all_there P [] i x all e = let none : ⊥ = cc e in absurd none
all_there P (y ∷ l) zero x all e = subst P (same_Some y x e) all.0
all_there P (y ∷ l) (suc i) x all e = all_there P l i x all.1 e

abbrev IsOn : List ℕ → Command → Type 0
IsOn name x = (is_template x ≡ false) × (subject_of x ≡ name)

-- it is of ops and on web, or of dev and on api
abbrev IsTheirs : List ℕ → Command → Type 0
IsTheirs caller x = ((caller ≡ ops) × IsOn web x) ⊎ ((caller ≡ dev) × IsOn api x)

theirs : (caller : List ℕ) (is_ops is_dev : Bool) (i : ℕ) (x : Command) → bytes_eq caller ops ≡ is_ops → bytes_eq caller dev ≡ is_dev → slice_get (both is_ops is_dev) i ≡ Some x → IsTheirs caller x
theirs caller true true i x o d e =
    let same : ops ≡ dev = sym ((bytes_eq-Decides caller ops).0 o) ∙ (bytes_eq-Decides caller dev).0 d in
    let none : ◌≡◌ {A = Bool} false true = (bytes_eq-Decides ops dev).1 same in
    cc none
theirs caller true false i x o d e = inl ((bytes_eq-Decides caller ops).0 o, all_there (IsOn web) on_web i x ((refl, refl), ((refl, refl), tt)) e)
theirs caller false true i x o d e = inr ((bytes_eq-Decides caller dev).0 d, all_there (IsOn api) on_api i x ((refl, refl), tt) e)
theirs caller false false i x o d e = let none : ⊥ = cc e in absurd none

of_scripts : (caller : List ℕ) (i : ℕ) (x : Command) → slice_get (scripts caller) i ≡ Some x → IsTheirs caller x
of_scripts caller i x e = theirs caller (bytes_eq caller ops) (bytes_eq caller dev) i x refl refl e

web_is_not_api : web ≡ api → ⊥
web_is_not_api e = let none : ◌≡◌ {A = Bool} false true = (bytes_eq-Decides web api).1 e in cc none

one_service : (one other : List ℕ) (x y : Command) → IsTheirs one x → IsTheirs other y → subject_of x ≡ subject_of y → one ≡ other
one_service one other x y (inl p) (inl q) e = p.0 ∙ sym q.0
one_service one other x y (inl p) (inr q) e = absurd (web_is_not_api (sym p.1.1 ∙ e ∙ q.1.1))
one_service one other x y (inr p) (inl q) e = absurd (web_is_not_api (sym q.1.1 ∙ sym e ∙ p.1.1))
one_service one other x y (inr p) (inr q) e = p.0 ∙ sym q.0

no_template : (caller : List ℕ) (x : Command) → IsTheirs caller x → is_template x ≡ false
no_template caller x (inl p) = p.1.0
no_template caller x (inr q) = q.1.0

are_apart : AreApart scripts
are_apart = record {
  no_template = λ caller i x e. no_template caller x (of_scripts caller i x e);
  services = λ one other i j x y e f s. one_service one other x y (of_scripts one i x e) (of_scripts other j y f) s;
}

-- Both settle all.

drawn : (caller : List ℕ) (place : ℕ) (command : Command) → slice_get (scripts caller) place ≡ Some command → IsDrawn scripts no_contents (request_of b caller (place + 1) command)
drawn caller place command there =
    let none : count_of no_contents caller ≡ 0 = nobody_yet caller in
    record { place = place; command = there; number = omega (arith, none) }

abbrev kept : Bool → Request → List Request → List Request
kept own r rs = cond own (r ∷ rs) rs

late_long : (x y z : Request) (is_ops is_dev : Bool) → length (kept is_dev x (kept is_ops y (kept is_ops z []))) ≡ length (both is_ops is_dev)
late_long x y z true true = refl
late_long x y z true false = refl
late_long x y z false true = refl
late_long x y z false false = refl

in_order_long : (x y z : Request) (is_ops is_dev : Bool) → length (kept is_ops x (kept is_ops y (kept is_dev z []))) ≡ length (both is_ops is_dev)
in_order_long x y z true true = refl
in_order_long x y z true false = refl
in_order_long x y z false true = refl
in_order_long x y z false false = refl

whole : (es : List Event) (news : List Request) (caller : List ℕ) → news_of no_contents es ≡ news → length (filter (is_of caller) news) ≡ length (scripts caller) → IsSettledWhole scripts no_contents es caller
whole es news caller are long =
    count_after no_contents es caller
    ∙ ap (λ (rs : List Request). count_of no_contents caller + length (filter (is_of caller) rs)) are
    ∙ ap (λ n. count_of no_contents caller + n) long

late_settles : SettleAllAt b scripts no_contents late
late_settles =
    let one = drawn ops 0 (add web two_pauses) refl in
    let two = drawn ops 1 (Start web v2) refl in
    let three = drawn dev 0 (add api two_pauses) refl in
    record {
      drawn = (two, (three, (one, (one, (two, tt)))));
      at_once = (refl, (refl, (refl, (refl, (refl, tt)))));
      whole = λ caller. whole late (first_of_dev ∷ first_of_ops ∷ second_of_ops ∷ []) caller late_news
          (late_long first_of_dev first_of_ops second_of_ops (bytes_eq caller ops) (bytes_eq caller dev));
    }

in_order_settles : SettleAllAt b scripts no_contents in_order
in_order_settles =
    let one = drawn ops 0 (add web two_pauses) refl in
    let two = drawn ops 1 (Start web v2) refl in
    let three = drawn dev 0 (add api two_pauses) refl in
    record {
      drawn = (one, (two, (three, tt)));
      at_once = (refl, (refl, (refl, tt)));
      whole = λ caller. whole in_order (first_of_ops ∷ second_of_ops ∷ first_of_dev ∷ []) caller in_order_news
          (in_order_long first_of_ops second_of_ops first_of_dev (bytes_eq caller ops) (bytes_eq caller dev));
    }

-- and so the contents are the same
same_contents : AreIndependent → after no_contents late ≡ after no_contents in_order
same_contents independent = order_does_not_matter independent scripts no_contents b late in_order are_apart late_settles in_order_settles
