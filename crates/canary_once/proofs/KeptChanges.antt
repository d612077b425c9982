-- A service that is kept is one of the model, before and after a change.
use Rattle.std.proofs.Common.{◌≡◌, ℕ, List, ap, sym, ◌∙◌, subst}
use Rattle.std.specs.Prelude.{Some, None}
use Rattle.canary_release.specs.declared.effect.Effect.{Effect}
use Rattle.canary_release.specs.declared.service.ServiceParts.{ServiceParts}
use Rattle.canary_release.specs.Pasts.{past_with_all, tracked, no_past}
use Rattle.canary_release.specs.Desks.{ModelService, after}
use Rattle.canary_release.specs.Laws.{WatchesAlike}
use Rattle.canary_once.specs.Kept.{Kept, nothing_kept, past_kept, keeps_all, AreKept}
use Rattle.canary_once.specs.KeptServices.{model_of}
use Rattle.canary_once.specs.InMemory.{IsKeptAs}
use Rattle.canary_once.proofs.KeptPasts.{IsKept, all_kept}

-- a service and what is kept of it are this one of the model, and kept well
pub record AreThat (m : ModelService) (name version : List ℕ) (s : ServiceParts) (k : Kept) : Type 0 where
  pub runs : s.runs ≡ tracked (past_kept k)
  pub kept : AreKept k
  pub model : model_of name version s k ≡ m

changed_here : WatchesAlike → (name version : List ℕ) (s new : ServiceParts) (k k' : Kept) (xs : List Effect) → AreKept k → k' ≡ keeps_all k xs → IsKeptAs (Some (model_of name version s k)) new xs → AreThat (after (Some (model_of name version s k)) new.service xs) name version new k'
changed_here alike name version s new k k' xs kept e made =
    let grown : IsKept k' (past_with_all (past_kept k) xs) = subst (λ (q : Kept). IsKept q (past_with_all (past_kept k) xs)) (sym e) (all_kept alike made.allowed.0 new.service.strategy k xs kept made.allowed.1) in
    record {
      runs = ap (λ (p : ServiceParts). p.runs) made.service ∙ sym (ap tracked grown.past);
      kept = grown.kept;
      model = λ i. record { made = record { name = name; version = version; steps = (made.strategy i).steps; background = (made.strategy i).background }; service = new.service; past = grown.past i };
    }

-- after a change
pub changed : WatchesAlike → (m : ModelService) (name version : List ℕ) (s new : ServiceParts) (k k' : Kept) (xs : List Effect) → model_of name version s k ≡ m → AreKept k → k' ≡ keeps_all k xs → IsKeptAs (Some m) new xs → AreThat (after (Some m) new.service xs) name version new k'
changed alike m name version s new k k' xs is kept e =
    subst
    (λ (m : ModelService). IsKeptAs (Some m) new xs → AreThat (after (Some m) new.service xs) name version new k')
    is
    (changed_here alike name version s new k k' xs kept e)

nothing_is_kept : AreKept nothing_kept
nothing_is_kept = record { numbered = tt; within = tt; last = tt }

-- a new one
pub made : WatchesAlike → (s : ServiceParts) (k k' : Kept) (xs : List Effect) → k ≡ nothing_kept → k' ≡ keeps_all k xs → IsKeptAs None s xs → AreThat (after None s.service xs) s.service.name s.service.version s k'
made alike s k k' xs none e new =
    let grown : IsKept k' (past_with_all no_past xs) = subst (λ (q : Kept). IsKept q (past_with_all no_past xs)) (sym (e ∙ ap (λ (q : Kept). keeps_all q xs) none)) (all_kept alike new.allowed.0 s.service.strategy nothing_kept xs nothing_is_kept new.allowed.1) in
    record {
      runs = ap (λ (p : ServiceParts). p.runs) new.service ∙ sym (ap tracked grown.past);
      kept = grown.kept;
      model = λ i. record { made = record { name = s.service.name; version = s.service.version; steps = s.service.strategy.steps; background = s.service.strategy.background }; service = s.service; past = grown.past i };
    }
