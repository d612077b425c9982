-- A crowd stays in order.
use Rattle.std.proofs.Common.{◌≡◌, ◌≢◌, ℕ, ◌==◌, inl, inr, Bool, true, false, List, [], ◌∷◌, ◌++◌, refl, sym, ap, ◌∙◌, subst}
use Rattle.std.specs.Prelude.{Option, Some, if◌then◌else◌}
use Rattle.std.proofs.lemmas.List.{append-nil}
use Rattle.std.proofs.lemmas.Grind.{flat_map-append}
use Rattle.std.proofs.lemmas.Bool.Decides.{eqb_tells}
use Rattle.canary_wire.specs.Conversing.{Talk, begun, KeepsOrder, so_far}
use Rattle.canary_wire.specs.Crowds.{Turn, by, IsNew, InOrderBy, IsTalk, Comes, HasTurn, Goes}
use Rattle.canary_wire.proofs.ServeLemmas.{begins_none}
use Rattle.canary_wire.proofs.OrderLemmas.{order_as}

-- ---- what one client's turns give

if_mine : {X : Type 0} (b : Bool) (xs : List X) → b ≡ true → (if b then xs else []) ≡ xs
if_mine true xs e = refl
if_mine false xs e = absurd (cc e)

if_other : {X : Type 0} (b : Bool) (xs : List X) → b ≡ false → (if b then xs else []) ≡ []
if_other true xs e = absurd (cc e)
if_other false xs e = refl

by_one : {X : Type 0} (who : ℕ) (part : Turn → List X) (turns : List Turn) (t : Turn) → by who part (turns ++ t ∷ []) ≡ by who part turns ++ (if t.client == who then part t else [])
by_one who part turns t =
    flat_map-append (λ (x : Turn). if x.client == who then part x else []) turns (t ∷ []) ∙ ap (λ z. by who part turns ++ z) (append-nil (if t.client == who then part t else []))

by_mine : {X : Type 0} (who : ℕ) (part : Turn → List X) (turns : List Turn) (t : Turn) → t.client == who ≡ true → by who part (turns ++ t ∷ []) ≡ by who part turns ++ part t
by_mine who part turns t e = by_one who part turns t ∙ ap (λ z. by who part turns ++ z) (if_mine (t.client == who) (part t) e)

by_other : {X : Type 0} (who : ℕ) (part : Turn → List X) (turns : List Turn) (t : Turn) → t.client == who ≡ false → by who part (turns ++ t ∷ []) ≡ by who part turns
by_other who part turns t e = by_one who part turns t ∙ ap (λ z. by who part turns ++ z) (if_other (t.client == who) (part t) e) ∙ append-nil (by who part turns)

is_same : (n : ℕ) → n == n ≡ true
is_same n = elim (eqb_tells n n) [ inl h ↦ h.0 | inr h ↦ absurd (h.1 refl) ]

is_other : (m n : ℕ) → m ≢ n → m == n ≡ false
is_other m n d = elim (eqb_tells m n) [ inl h ↦ absurd (d h.1) | inr h ↦ h.0 ]

by_new : {X : Type 0} (who : ℕ) (part : Turn → List X) (turns : List Turn) → IsNew who turns → by who part turns ≡ []
by_new who part [] new = refl
by_new who part (t ∷ turns) new = ap (λ z. z ++ by who part turns) (if_other (t.client == who) (part t) (is_other t.client who new.0)) ∙ by_new who part turns new.1

-- ---- clients come, have their turns and go

begun_by : (turns : List Turn) (who : ℕ) → IsNew who turns → InOrderBy turns who begun
begun_by turns who fresh =
    order_as [] (by who (λ x. x.got) turns) [] (by who (λ x. x.put) turns) [] (by who (λ x. x.held) turns) begun
    (sym (by_new who (λ x. x.got) turns fresh)) (sym (by_new who (λ x. x.put) turns fresh)) (sym (by_new who (λ x. x.held) turns fresh))
    (so_far (begins_none []) refl)

pub comes : Comes
comes turns old new who crowd fresh becomes w = elim (eqb_tells w who) [
  | inl h ↦ (
    begun,
    subst (λ k. InOrderBy turns k begun) (sym h.1) (begun_by turns who fresh),
    subst (λ o. IsTalk o begun) (sym (ap new h.1 ∙ becomes.changed)) refl,
  )
  | inr h ↦ (let t = crowd w in (t.0, t.1, subst (λ o. IsTalk o t.0) (sym (becomes.others w h.1)) t.2))
]

-- with one turn more, the conversation of its client
after_one : (turns : List Turn) (one : Turn) (a b : Talk) → InOrderBy turns one.client a → KeepsOrder a b one.got one.put one.held → InOrderBy (turns ++ one ∷ []) one.client b
after_one turns one a b before step =
    let who = one.client in
    order_as (by who (λ x. x.got) turns ++ one.got) (by who (λ x. x.got) (turns ++ one ∷ [])) (by who (λ x. x.put) turns ++ one.put) (by who (λ x. x.put) (turns ++ one ∷ []))
    (by who (λ x. x.held) turns ++ one.held) (by who (λ x. x.held) (turns ++ one ∷ [])) b
    (sym (by_mine who (λ x. x.got) turns one (is_same who))) (sym (by_mine who (λ x. x.put) turns one (is_same who))) (sym (by_mine who (λ x. x.held) turns one (is_same who)))
    (step (by who (λ x. x.got) turns) (by who (λ x. x.put) turns) (by who (λ x. x.held) turns) before)

-- and that of another
after_other : (turns : List Turn) (one : Turn) (w : ℕ) (t : Talk) → one.client == w ≡ false → InOrderBy turns w t → InOrderBy (turns ++ one ∷ []) w t
after_other turns one w t differs before =
    order_as (by w (λ x. x.got) turns) (by w (λ x. x.got) (turns ++ one ∷ [])) (by w (λ x. x.put) turns) (by w (λ x. x.put) (turns ++ one ∷ [])) (by w (λ x. x.held) turns) (by w (λ x. x.held) (turns ++ one ∷ [])) t
    (sym (by_other w (λ x. x.got) turns one differs)) (sym (by_other w (λ x. x.put) turns one differs)) (sym (by_other w (λ x. x.held) turns one differs))
    before

-- the conversation of a client that is there
its_order : (turns : List Turn) (who : ℕ) (o : Option Talk) (a t : Talk) → o ≡ Some a → IsTalk o t → InOrderBy turns who t → InOrderBy turns who a
its_order turns who o a t e is order = subst (InOrderBy turns who) (subst (λ x. IsTalk x t) e is) order

pub has_turn : HasTurn
has_turn turns one old new a b crowd at step becomes w = elim (eqb_tells w one.client) [
  | inl h ↦ (
      let t = crowd one.client in (
        b,
        subst (λ k. InOrderBy (turns ++ one ∷ []) k b) (sym h.1) (after_one turns one a b (its_order turns one.client (old one.client) a t.0 at t.2 t.1) step),
        subst (λ o. IsTalk o b) (sym (ap new h.1 ∙ becomes.changed)) refl,
      )
      )
  | inr h ↦ (
      let t = crowd w in (
        t.0,
        after_other turns one w t.0 (is_other one.client w (λ k. h.1 (sym k))) t.1,
        subst (λ o. IsTalk o t.0) (sym (becomes.others w h.1)) t.2,
      )
      )
]

pub goes : Goes
goes turns old new who crowd becomes w = elim (eqb_tells w who) [
  | inl h ↦ (let t = crowd w in (t.0, t.1, subst (λ o. IsTalk o t.0) (sym (ap new h.1 ∙ becomes.changed)) tt))
  | inr h ↦ (let t = crowd w in (t.0, t.1, subst (λ o. IsTalk o t.0) (sym (becomes.others w h.1)) t.2))
]
