-- A service passes as it is computed.
use Rattle.std.proofs.Common.{◌≡◌, ℕ, zero, suc, ◌+◌, ◌-◌, ◌≤◌, List, [], ◌∷◌, length, Bool, true, false, refl, ap, ◌∙◌, sym, subst, arith, true≢false}
use Rattle.std.specs.Prelude.{if◌then◌else◌, Option, Some, None, slice_get, IsTrue}
use Rattle.std.proofs.lemmas.Bool.Decides.{nat_tests}
use Rattle.canary_plan.specs.declared.step.Step.{Step}
use Rattle.canary_release.specs.Services.{step_of}
use Rattle.canary_release.specs.Evolutions.{Evolution}
use Rattle.canary_release.specs.Rules.Entering.{enter}
use Rattle.canary_release.specs.Rules.Passing.{is_free, leaves_at, Moves, Chain, IsLongest, with_last, judged_at, next_move, is_by, move_at, chain_end, PassesAsComputed}
use Rattle.canary_release.proofs.Keeping.{enter_keeps}

-- no further move with a moment at most t
abbrev pub IsAtRest : ℕ → Evolution → Type 0
IsAtRest t c = (e : ℕ) (next : Evolution) → Moves c e next → e ≤ t → ⊥

-- a move is at the moment that is computed
move_found : (c next : Evolution) (e : ℕ) → Moves c e next → next_move c.service ≡ Some e
move_found c next e h = rw (h.0) (h.1)

by_some : (t e : ℕ) → e ≤ t → is_by t (Some e) ≡ true
by_some t e h = grind (arith, nat_tests, h)

by_time : (c : Evolution) (t : ℕ) → is_by t (next_move c.service) ≡ false → IsAtRest t c
by_time c t stops e next h le = true≢false (sym (by_some t e le) ∙ ap (is_by t) (sym (move_found c next e h)) ∙ stops)

past : (ss : List Step) (i : ℕ) → length ss ≤ i → slice_get ss i ≡ None
past [] i h = refl
past (s ∷ ss) zero h = absurd (omega arith)
past (s ∷ ss) (suc i) h = past ss i (omega arith)

at_end : (c : Evolution) (t : ℕ) → length c.service.strategy.steps ≤ c.service.step → IsAtRest t c
at_end c t h e next m le =
    let gone : leaves_at None c.service.entered ≡ Some e = ap (λ s. leaves_at s c.service.entered) (sym (past c.service.strategy.steps c.service.step h)) ∙ m.1 in
    cc gone

-- where a chain of at most so many moves comes to an end
abbrev pub IsEnd : ℕ → Evolution → Evolution → Type 0
IsEnd t c end' = (k : ℕ) × Chain k t c end' × IsAtRest t end'

-- what a move by time is
pub record Going (t : ℕ) (c : Evolution) : Type 0 where
  pub e : ℕ
  pub next : Evolution
  pub moves : Moves c e next
  pub in_time : e ≤ t
  pub is_next : next ≡ move_at c (next_move c.service)

free_case : (b : Bool) (o : Option ℕ) (t : ℕ) → is_by t (if b then o else None) ≡ true → (e : ℕ) × (IsTrue b) × (o ≡ Some e) × (e ≤ t)
free_case true None t h = cc h
free_case true (Some e) t h = (e, refl, refl, grind (arith, nat_tests, h))
free_case false o t h = cc h

pub going : (c : Evolution) (t : ℕ) → is_by t (next_move c.service) ≡ true → Going t c
going c t h =
    let f = free_case (is_free c.service) (leaves_at (step_of c.service) c.service.entered) t h in
    record {
      e = f.0;
      next = enter c (c.service.step + 1) f.0;
      moves = (f.1, f.2, refl);
      in_time = f.3;
      is_next = ap (move_at c) (sym (move_found c (enter c (c.service.step + 1) f.0) f.0 (f.1, f.2, refl)));
    }

-- with so many steps left at most, the computed chain ends where no move is left
pub chain_ends : (n t : ℕ) (c : Evolution) → length c.service.strategy.steps ≤ c.service.step + n → IsEnd t c (chain_end n t c)
chain_ends zero t c h = (0, refl, at_end c t (omega arith))
chain_ends (suc n) t c h =
    elim (is_by t (next_move c.service))
    as (λ b. is_by t (next_move c.service) ≡ b → IsEnd t c (elim b [ true ↦ chain_end n t (move_at c (next_move c.service)) | false ↦ c ])) [
      | true ↦ λ goes.
          let g = going c t goes in
          let kept = enter_keeps c (c.service.step + 1) g.e in
          let rest : IsEnd t (move_at c (next_move c.service)) (chain_end n t (move_at c (next_move c.service))) =
          chain_ends n t (move_at c (next_move c.service)) (subst (λ (d : Evolution). length d.service.strategy.steps ≤ d.service.step + n) g.is_next (rw g.moves.2 (rw (kept.0, kept.1) (omega arith)))) in
          (suc rest.0, (g.e, g.next, g.moves, g.in_time, subst (λ (d : Evolution). Chain rest.0 t d (chain_end n t (move_at c (next_move c.service)))) (sym g.is_next) rest.1), rest.2)
      | false ↦ λ stops. (0, refl, by_time c t stops)
    ] refl

some_injective : (a b : ℕ) → ◌≡◌ {A = Option ℕ} (Some a) (Some b) → a ≡ b
some_injective a b h = cc h

-- there is one next move at most
one_move : (c x y : Evolution) (d e : ℕ) → Moves c d x → Moves c e y → x ≡ y
one_move c x y d e g h = g.2 ∙ ap (enter c (c.service.step + 1)) (some_injective d e (sym g.1 ∙ h.1)) ∙ sym h.2

-- a chain that comes to rest is a longest one
pub rest_is_longest : (k t : ℕ) (c x : Evolution) → Chain k t c x → IsAtRest t x → IsLongest t c k
rest_is_longest zero t c x g rest zero d h = omega arith
rest_is_longest zero t c x g rest (suc m) d h = absurd (subst (IsAtRest t) g rest h.0 h.1 h.2 h.3)
rest_is_longest (suc k) t c x g rest zero d h = omega arith
rest_is_longest (suc k) t c x g rest (suc m) d h =
    let fewer : m ≤ k = rest_is_longest k t g.1 x g.4 rest m d (subst (λ (y : Evolution). Chain m t y d) (sym (one_move c g.1 h.1 g.0 h.0 g.2 h.2)) h.4) in
    omega arith

-- chains of so many moves have one end
one_end : (n t : ℕ) (c x y : Evolution) → Chain n t c x → Chain n t c y → x ≡ y
one_end zero t c x y g h = g ∙ sym h
one_end (suc n) t c x y g h = one_end n t g.1 x y g.4 (subst (λ (d : Evolution). Chain n t d y) (sym (one_move c g.1 h.1 g.0 h.0 g.2 h.2)) h.4)

-- longest chains have one end
pub one_longest : (m n t : ℕ) (c x y : Evolution) → Chain m t c x → IsLongest t c m → Chain n t c y → IsLongest t c n → x ≡ y
one_longest m n t c x y g gl h hl =
    let below : m ≤ n = hl m x g in
    let above : n ≤ m = gl n y h in
    let same : m ≡ n = omega arith in
    one_end n t c x y (subst (λ k. Chain k t c x) same g) h

-- the law that joins the relation and what is computed
pub passes_as_computed : PassesAsComputed
passes_as_computed c t =
    let at = judged_at c.service t in
    let n = length c.service.strategy.steps - c.service.step in
    let found = chain_ends n at c (omega arith) in
    let longest = rest_is_longest found.0 at c (chain_end n at c) found.1 found.2 in (
      (found.0, chain_end n at c, found.1, longest, refl),
      λ p q. q.4 ∙ ap (λ (d : Evolution). with_last d at) (one_longest q.0 found.0 at c q.1 (chain_end n at c) q.2 q.3 found.1 longest),
    )
