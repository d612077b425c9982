-- A metric, by its numbers.
use Rattle.std.proofs.Common.{◌≡◌, ℕ, List, Option, Some, None, refl, ap, ◌∙◌, codes}
use Rattle.std.specs.Prelude.{option_and_then}
use Rattle.std.specs.Option.{option_flatten}
use Rattle.serde_json.specs.Data.{Data}
use Rattle.canary_plan.specs.declared.template_spec.MetricSpec.{MetricSpec}
use Rattle.canary_canonical.specs.Forms.{◌⊛◌, label_in}
use Rattle.canary_canonical.specs.Readings.{metric_with}
use Rattle.canary_manifest.specs.Members.{in_member, in_member_or, condition_in, limit_in, count_in, duration_in, delay_in}
use Rattle.canary_manifest.specs.Templates.{metric_of, metric_by, numbers_of, numbers_with}

abbrev With : Type 0
With = Option ℕ → ℕ → Option ℕ → Option ℕ → ℕ → ℕ → ℕ → Option MetricSpec

apart : (w : With) (i : Option (Option ℕ)) (d : Option ℕ) (c p : Option (Option ℕ)) (f n e : Option ℕ) → option_flatten (Some w ⊛ i ⊛ d ⊛ c ⊛ p ⊛ f ⊛ n ⊛ e) ≡ option_and_then (metric_by w) (Some numbers_with ⊛ i ⊛ d ⊛ c ⊛ p ⊛ f ⊛ n ⊛ e)
apart w None d c p f n e = refl
apart w (Some i) None c p f n e = refl
apart w (Some i) (Some d) None p f n e = refl
apart w (Some i) (Some d) (Some c) None f n e = refl
apart w (Some i) (Some d) (Some c) (Some p) None n e = refl
apart w (Some i) (Some d) (Some c) (Some p) (Some f) None e = refl
apart w (Some i) (Some d) (Some c) (Some p) (Some f) (Some n) None = refl
apart w (Some i) (Some d) (Some c) (Some p) (Some f) (Some n) (Some e) = refl

-- what its numbers make of its name and its conditions
pub metric_by_numbers : (m : Data) (name : List ℕ) (success failure : Option (List ℕ)) → in_member (codes "name") label_in m ≡ Some name → in_member_or (codes "successCondition") None condition_in m ≡ Some success → in_member_or (codes "failureCondition") None condition_in m ≡ Some failure
    → metric_of m ≡ option_and_then (metric_by (metric_with name success failure)) (numbers_of m)
unfolding metric_of
metric_by_numbers m name success failure named succeeds fails =
    rw (named, succeeds, fails) (apart (metric_with name success failure) (in_member_or (codes "interval") None duration_in m) (in_member_or (codes "initialDelay") 0 delay_in m) (in_member_or (codes "count") None count_in m) (in_member_or (codes "passAfter") None count_in m) (in_member_or (codes "failureLimit") 0 limit_in m) (in_member_or (codes "inconclusiveLimit") 0 limit_in m) (in_member_or (codes "consecutiveErrorLimit") 4 limit_in m))

unread_by : (n : Option (List ℕ)) (s f : Option (Option (List ℕ))) (i : Option (Option ℕ)) (d : Option ℕ) (c p : Option (Option ℕ)) (x y e : Option ℕ) → (Some numbers_with ⊛ i ⊛ d ⊛ c ⊛ p ⊛ x ⊛ y ⊛ e) ≡ None → option_flatten (Some metric_with ⊛ n ⊛ s ⊛ f ⊛ i ⊛ d ⊛ c ⊛ p ⊛ x ⊛ y ⊛ e) ≡ None
unread_by None s f i d c p x y e none = refl
unread_by (Some n) None f i d c p x y e none = refl
unread_by (Some n) (Some s) None i d c p x y e none = refl
unread_by (Some n) (Some s) (Some f) i d c p x y e none = apart (metric_with n s f) i d c p x y e ∙ ap (option_and_then (metric_by (metric_with n s f))) none

-- there is no metric without its numbers
pub unread : (m : Data) → numbers_of m ≡ None → metric_of m ≡ None
unfolding metric_of
unread m none = unread_by _ _ _ _ _ _ _ _ _ _ none
