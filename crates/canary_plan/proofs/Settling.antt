-- The limits of a metric that is asked for are those of a metric's settings.
use Rattle.std.proofs.Common.{◌≡◌, ℕ, List, Bool, true, false, refl}
use Rattle.std.specs.Prelude.{◌&&◌, nat_le, Option, Some, None}
use Rattle.canary_metric.specs.Settings.{is_within_limit, are_within_limits}
use Rattle.canary_plan.specs.declared.template_spec.MetricSpec.{MetricSpec}
use Rattle.canary_plan.specs.Limits.{is_limit, is_count, is_condition_asked}
use Rattle.canary_plan.specs.Plans.{settings_of}

second : (a b : Bool) → (a && b) ≡ true → b ≡ true
second true b h = h
second false b h = cc h

count_kept : (count : Option ℕ) → is_count count ≡ true → is_within_limit count ≡ true
count_kept None h = refl
count_kept (Some n) h = second (nat_le 1 n) (is_limit n) h

all_kept : (a b c d p q f i e : Bool) → (a && (b && (c && (p && (f && (i && e)))))) ≡ true → (c ≡ true → d ≡ true) → (p ≡ true → q ≡ true) → (d && q && f && i && e) ≡ true
all_kept true true true true true true true true e h k l = h
all_kept true true true true true true true false e h k l = cc h
all_kept true true true true true true false i e h k l = cc h
all_kept true true true true true false f i e h k l = cc (l refl)
all_kept true true true true false q f i e h k l = cc h
all_kept true true true false p q f i e h k l = cc (k refl)
all_kept true true false d p q f i e h k l = cc h
all_kept true false c d p q f i e h k l = cc h
all_kept false b c d p q f i e h k l = cc h

pub within_limits : (dry_run : List (List ℕ)) (m : MetricSpec) → are_within_limits (settings_of dry_run m) ≡ true
within_limits dry_run m =
    all_kept (is_condition_asked m.success) (is_condition_asked m.failure) (is_count m.count) (is_within_limit m.count) (is_count m.pass_after) (is_within_limit m.pass_after) (is_limit m.failure_limit) (is_limit m.inconclusive_limit)
    (is_limit m.consecutive_error_limit) m.within (count_kept m.count) (count_kept m.pass_after)
