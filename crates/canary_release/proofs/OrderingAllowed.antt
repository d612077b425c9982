-- Open runs after allowed effects, and evolutions that bring such effects alone.
use Rattle.std.proofs.Common.{◌≡◌, ℕ, ◌+◌, ◌≤◌, List, [], ◌∷◌, ◌++◌, Bool, true, false, refl, ap, sym, ◌∙◌, subst, arith}
use Rattle.std.specs.Prelude.{◌==◌, cond, if◌then◌else◌, map, filter}
use Rattle.std.specs.List.{AllByRecursion}
use Rattle.canary_plan.specs.declared.strategy.CheckedStrategy.{CheckedStrategy}
use Rattle.canary_release.specs.declared.effect.Recorded.{Recorded}
use Rattle.canary_release.specs.declared.effect.Effect.{Effect}
use Rattle.canary_release.specs.declared.effect.Effect.TheVariants.{LineAdded, RunOpened, MeasurementRecorded, RunClosed}
use Rattle.canary_release.specs.declared.runs.OpenRun.{OpenRun}
use Rattle.canary_release.specs.declared.runs.Runs.{Runs}
use Rattle.canary_release.specs.declared.state.ServiceState.{ServiceState}
use Rattle.canary_release.specs.Pasts.{change_at}
use Rattle.canary_release.specs.Watching.{opened_now, counted, counted_in, is_other, effect_applied, after_all}
use Rattle.canary_release.specs.Evolutions.{Evolution, with_service_state, apply_effect, runs_now}
use Rattle.canary_plan.specs.Plans.{bound_of}
use Rattle.canary_release.specs.Desks.{RevisionMap}
use Rattle.canary_release.specs.Order.{known_by, IsBoundIn}
use Rattle.canary_release.specs.Parts.{is_bound}
use Rattle.canary_release.specs.Services.{is_in_progress}
use Rattle.canary_release.specs.Effects.{Allowed, AreAllowed}
use Rattle.canary_release.proofs.OrderingBasics.{other_number, each, each_and_more, each_mapped, each_filtered}

one_more_allowed : (ts : RevisionMap) (st : CheckedStrategy) (w : Runs) (xs : List Effect) (x : Effect) → AreAllowed ts st w xs → Allowed ts st (after_all w xs) x → AreAllowed ts st w (xs ++ x ∷ [])
one_more_allowed ts st w [] x h a = (a, tt)
one_more_allowed ts st w (y ∷ xs) x h a = (h.0, one_more_allowed ts st (effect_applied w y) xs x h.1 a)

one_more_applied : (w : Runs) (xs : List Effect) (x : Effect) → after_all w (xs ++ x ∷ []) ≡ effect_applied (after_all w xs) x
one_more_applied w [] x = refl
one_more_applied w (y ∷ xs) x = one_more_applied (effect_applied w y) xs x

-- Open runs have different numbers, none above the number of runs.

abbrev pub AreDistinct : List OpenRun → Type 0
AreDistinct [] = Unit {0}
AreDistinct (r ∷ rs) = AllByRecursion (λ (q : OpenRun). (q.number == r.number) ≡ false) rs × AreDistinct rs

abbrev pub IsAtMost : ℕ → OpenRun → Type 0
IsAtMost n r = r.number ≤ n

pub record IsNumbered (w : Runs) : Type 0 where
  pub most : AllByRecursion (IsAtMost w.count) w.open_runs
  pub distinct : AreDistinct w.open_runs

distinct_and_more : (rs : List OpenRun) (x : OpenRun) → AllByRecursion (λ (q : OpenRun). (x.number == q.number) ≡ false) rs → AreDistinct rs → AreDistinct (rs ++ x ∷ [])
distinct_and_more [] x h d = (tt, tt)
distinct_and_more (r ∷ rs) x h d = (each_and_more (λ (q : OpenRun). (q.number == r.number) ≡ false) rs x d.0 h.0, distinct_and_more rs x h.1 d.1)

same_distinct : (f : OpenRun → OpenRun) → ((r : OpenRun) → (f r).number ≡ r.number) → (rs : List OpenRun) → AreDistinct rs → AreDistinct (map f rs)
same_distinct f same [] d = tt
same_distinct f same (r ∷ rs) d =
    (each_mapped (λ (q : OpenRun). (q.number == r.number) ≡ false) (λ (q : OpenRun). (q.number == (f r).number) ≡ false) f (λ q e. (λ i. same q i == same r i) ∙ e) rs d.0, same_distinct f same rs d.1)

filtered_distinct : (test : OpenRun → Bool) (rs : List OpenRun) → AreDistinct rs → AreDistinct (filter test rs)
filtered_distinct test [] d = tt
filtered_distinct test (r ∷ rs) d =
    let rest = filtered_distinct test rs d.1 in
    elim (test r)
    as (λ b. AreDistinct (cond b (r ∷ filter test rs) (filter test rs)))
    [ true ↦ (each_filtered (λ (q : OpenRun). (q.number == r.number) ≡ false) test rs d.0, rest) | false ↦ rest ]

pub counted_number : (x : Recorded) (r : OpenRun) → (counted_in x r).number ≡ r.number
counted_number x r =
    elim (r.number == x.run)
    as (λ b. (let q : OpenRun = (if b then record r { tallies = change_at x.metric (counted x) r.tallies } else r) in q).number ≡ r.number)
    [ true ↦ refl | false ↦ refl ]

higher : (n : ℕ) (r : OpenRun) → IsAtMost n r → IsAtMost (n + 1) r
higher n r h = omega arith

numbered_after : (ts : RevisionMap) (st : CheckedStrategy) (w : Runs) (x : Effect) → Allowed ts st w x → IsNumbered w → IsNumbered (effect_applied w x)
numbered_after ts st w (LineAdded line) a n = n
numbered_after ts st w (RunOpened x) a n =
    let is : x.run ≡ w.count + 1 = a.number in
    let new : IsAtMost (w.count + 1) (opened_now x) = omega (arith, is) in
    record {
      most = each_and_more (IsAtMost (w.count + 1)) w.open_runs (opened_now x) (each (IsAtMost w.count) (IsAtMost (w.count + 1)) (higher w.count) w.open_runs n.most) new;
      distinct = distinct_and_more w.open_runs (opened_now x) (each (IsAtMost w.count) (λ (q : OpenRun). (x.run == q.number) ≡ false) (λ q h. other_number x.run q.number (λ same. omega (arith, is, h, same))) w.open_runs n.most) n.distinct;
    }
numbered_after ts st w (MeasurementRecorded x) a n =
    record {
      most = each_mapped (IsAtMost w.count) (IsAtMost w.count) (counted_in x) (λ r h. rw (counted_number x r) h) w.open_runs n.most;
      distinct = same_distinct (counted_in x) (counted_number x) w.open_runs n.distinct;
    }
numbered_after ts st w (RunClosed x tallies) a n =
    record {
      most = each_filtered (IsAtMost w.count) (is_other x.run) w.open_runs n.most;
      distinct = filtered_distinct (is_other x.run) w.open_runs n.distinct;
    }

numbered_after_all : (ts : RevisionMap) (st : CheckedStrategy) (w : Runs) (xs : List Effect) → AreAllowed ts st w xs → IsNumbered w → IsNumbered (after_all w xs)
numbered_after_all ts st w [] h n = n
numbered_after_all ts st w (x ∷ xs) h n = numbered_after_all ts st (effect_applied w x) xs h.1 (numbered_after ts st w x h.0 n)

-- An evolution of a service that stood so, and of which this was tracked, if these are the
-- templates: the same strategy and name, bound to revisions that there are, wholly if it is in
-- progress, and allowed effects.
pub record IsFollowing (ts : RevisionMap) (s : ServiceState) (w : Runs) (c : Evolution) : Type 0 where
  pub strategy : c.service.strategy ≡ s.strategy
  pub name : c.service.name ≡ s.name
  pub watch : c.watch ≡ after_all w
  pub bound : IsBoundIn ts c.service
  pub wholly : is_in_progress c.service.state ≡ true → is_bound c.service ≡ true
  pub allowed : AreAllowed ts s.strategy w c.effects

module _ (ts : RevisionMap) (s : ServiceState) (w : Runs) where
  pub now_is : (c : Evolution) → IsFollowing ts s w c → runs_now c ≡ after_all w c.effects
  now_is c f = λ i. f.watch i c.effects

  pub numbered_now : IsNumbered w → (c : Evolution) → IsFollowing ts s w c → IsNumbered (runs_now c)
  numbered_now n c f = subst IsNumbered (sym (now_is c f)) (numbered_after_all ts s.strategy w c.effects f.allowed n)

  -- one more effect that is allowed
  pub follows_on : (c : Evolution) (x : Effect) → IsFollowing ts s w c → Allowed ts s.strategy (runs_now c) x → IsFollowing ts s w (apply_effect c x)
  follows_on c x f a =
      record {
        strategy = f.strategy;
        name = f.name;
        watch = f.watch;
        bound = f.bound;
        wholly = f.wholly;
        allowed = one_more_allowed ts s.strategy w c.effects x f.allowed (subst (λ (v : Runs). Allowed ts s.strategy v x) (now_is c f) a);
      }

  pub now_after : (c : Evolution) (x : Effect) → IsFollowing ts s w c → runs_now (apply_effect c x) ≡ effect_applied (runs_now c) x
  now_after c x f = (λ i. f.watch i (c.effects ++ x ∷ [])) ∙ one_more_applied w c.effects x ∙ ap (λ (v : Runs). effect_applied v x) (sym (now_is c f))

  -- standing otherwise, with the same strategy and name
  pub stands_on : (c : Evolution) (d : ServiceState) → IsFollowing ts s w c → d.strategy ≡ c.service.strategy → d.name ≡ c.service.name → IsBoundIn ts d → (is_in_progress d.state ≡ true → is_bound d ≡ true) → IsFollowing ts s w (with_service_state c d)
  stands_on c d f same named bound wholly = record { strategy = same ∙ f.strategy; name = named ∙ f.name; watch = f.watch; bound = bound; wholly = wholly; allowed = f.allowed }

  -- bound as before
  pub as_bound : (c : Evolution) (d : ServiceState) → IsFollowing ts s w c → d.strategy ≡ c.service.strategy → d.bound ≡ c.service.bound → IsBoundIn ts d
  as_bound c d f same bound = record { binding = f.bound.binding; bound = bound ∙ f.bound.bound ∙ ap (bound_of (known_by ts f.bound.binding)) (sym same) }
