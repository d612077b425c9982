-- The chain of moves, move after move.
use Rattle.std.proofs.Common.{◌≡◌, ℕ, zero, suc, ◌+◌, ◌-◌, ◌<◌, length, true, false, refl, sym, ap, ◌∙◌, subst, arith}
use Rattle.std.specs.Prelude.{if◌then◌else◌, nat_le, Option, Some, None}
use Rattle.canary_release.specs.Evolutions.{Evolution}
use Rattle.canary_release.specs.Rules.Passing.{next_move, is_by, move_by, move_at, chain_end, followed}
use Rattle.canary_release.specs.Rules.Entering.{enter}
use Rattle.canary_release.proofs.Keeping.{enter_keeps}

-- a move by t is the next move, which is by t
found : (t e : ℕ) (o : Option ℕ) → move_by t o ≡ Some e → (o ≡ Some e) × (is_by t o ≡ true)
found t e None h = cc h
found t e (Some x) h =
    elim (nat_le x t) as (λ b. nat_le x t ≡ b → (if b then Some x else None) ≡ Some e → (◌≡◌ {A = Option ℕ} (Some x) (Some e)) × (nat_le x t ≡ true))
    [ true ↦ λ b g. (g, b) | false ↦ λ b g. cc g ] refl h

not_by : (t : ℕ) (o : Option ℕ) → move_by t o ≡ None → is_by t o ≡ false
not_by t None h = refl
not_by t (Some x) h =
    elim (nat_le x t) as (λ b. nat_le x t ≡ b → ◌≡◌ {A = Option ℕ} (if b then Some x else None) None → nat_le x t ≡ false)
    [ true ↦ λ b g. cc g | false ↦ λ b g. b ] refl h

-- no move is left
chain_stop : (n t : ℕ) (d : Evolution) → move_by t (next_move d.service) ≡ None → chain_end n t d ≡ d
chain_stop zero t d h = refl
chain_stop (suc n) t d h = ap (λ b. elim b [ true ↦ chain_end n t (move_at d (next_move d.service)) | false ↦ d ]) (not_by t (next_move d.service) h)

-- one move more
one_more : (m n t e : ℕ) (d : Evolution) → m ≡ suc n → move_by t (next_move d.service) ≡ Some e → chain_end m t d ≡ chain_end n t (enter d (d.service.step + 1) e)
one_more m n t e d is h =
    let f = found t e (next_move d.service) h in
    ap (λ k. chain_end k t d) is
    ∙ ap (λ b. elim b [ true ↦ chain_end n t (move_at d (next_move d.service)) | false ↦ d ]) f.1
    ∙ ap (λ o. chain_end n t (move_at d o)) f.0

chain_on : (t e : ℕ) (d : Evolution) → d.service.step < length d.service.strategy.steps → move_by t (next_move d.service) ≡ Some e
    → followed d t ≡ chain_end (length d.service.strategy.steps - (d.service.step + 1)) t (enter d (d.service.step + 1) e)
chain_on t e d h go = one_more (length d.service.strategy.steps - d.service.step) (length d.service.strategy.steps - (d.service.step + 1)) t e d (omega arith) go

-- where the chain from one evolution has come to
pub record IsOnChain (t : ℕ) (from d : Evolution) : Type 0 where
  pub same_strategy : d.service.strategy ≡ from.service.strategy
  pub rest : followed d t ≡ followed from t

to_next : (t e : ℕ) (from d : Evolution) → IsOnChain t from d → d.service.step < length d.service.strategy.steps → move_by t (next_move d.service) ≡ Some e → IsOnChain t from (enter d (d.service.step + 1) e)
to_next t e from d h lt go =
    let k = enter_keeps d (d.service.step + 1) e in
    record {
      same_strategy = k.0 ∙ h.same_strategy;
      rest = rw (k.0, k.1) (sym (chain_on t e d lt go) ∙ h.rest);
    }

pub goes_on : (t e : ℕ) (from d next : Evolution) → IsOnChain t from d → d.service.step < length d.service.strategy.steps → move_by t (next_move d.service) ≡ Some e → next ≡ enter d (d.service.step + 1) e → IsOnChain t from next
goes_on t e from d next h lt go is = subst (IsOnChain t from) (sym is) (to_next t e from d h lt go)

pub falls : (t e : ℕ) (from d next : Evolution) → IsOnChain t from d → d.service.step < length d.service.strategy.steps → next ≡ enter d (d.service.step + 1) e
    → length from.service.strategy.steps - next.service.step < length from.service.strategy.steps - d.service.step
falls t e from d next h lt is =
    let step : next.service.step ≡ d.service.step + 1 = ap (λ (r : Evolution). r.service.step) is ∙ (enter_keeps d (d.service.step + 1) e).1 in
    let same : length d.service.strategy.steps ≡ length from.service.strategy.steps = ap (λ s. length s.steps) h.same_strategy in
    omega arith

pub at_end : (t : ℕ) (from d : Evolution) → IsOnChain t from d → move_by t (next_move d.service) ≡ None → d ≡ followed from t
at_end t from d h stop = sym (chain_stop (length d.service.strategy.steps - d.service.step) t d stop) ∙ h.rest
