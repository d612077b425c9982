-- What is read of a row's numbers and texts is written as they are.
use Rattle.std.proofs.Common.{◌≡◌, ℕ, ◌==◌, List, [], ◌∷◌, Bool, true, false, Some, None, refl, sym, ap, ◌∙◌}
use Rattle.std.specs.Prelude.{Option, cond, ◌&&◌, nat_le, length, option_map}
use Rattle.std.specs.Str.{bytes_eq}
use Rattle.std.proofs.lemmas.Bool.Decides.{Decides-eqb}
use Rattle.std.proofs.lemmas.Slice.Eq.{bytes_eq-Decides}
use Rattle.canary_condition.specs.declared.outcome.Phase.{Phase}
use Rattle.canary_condition.specs.declared.outcome.Phase.TheVariants.{Running, Successful, Inconclusive, Error, Failed}
use Rattle.canary_condition.specs.declared.outcome.Value.{Value}
use Rattle.canary_condition.specs.declared.outcome.Outcome.{Outcome}
use Rattle.canary_condition.specs.declared.outcome.Outcome.TheVariants.{Result as Brought, Failure}
use Rattle.canary_condition.specs.PhaseTexts.{phase_of_number}
use Rattle.canary_condition.specs.Results.{words_of}
use Rattle.canary_condition.specs.OutcomeTexts.{outcome_text, is_result, spelled, value_in, failure_with, outcome_in}
use Rattle.canary_release.specs.declared.state.ReleaseState.{ReleaseState}
use Rattle.canary_release.specs.declared.state.ReleaseState.TheVariants.{InProgress, Aborted, Done}
use Rattle.canary_tables_contents.specs.Numbers.{state_number, state_of, bit, truth_of, hold_number, hold_of, phase_column}

-- one of some numbers, or another of them
again : {A : Type 0} (back : A → ℕ) (n k : ℕ) (x : A) (rest : Option A) (y : A) → back x ≡ k → cond (n == k) (Some x) rest ≡ Some y → (rest ≡ Some y → back y ≡ n) → back y ≡ n
again back n k x rest y is e more =
    elim (n == k)
    as (λ b. (n == k) ≡ b → cond b (Some x) rest ≡ Some y → back y ≡ n) [
      | true ↦ λ same e. let one : x ≡ y = cc e in ap back (sym one) ∙ is ∙ sym ((Decides-eqb n k).0 same)
      | false ↦ λ other e. more e
    ] refl e

pub phase_again : (n : ℕ) (p : Phase) → phase_of_number n ≡ Some p → phase_column p ≡ n
phase_again n p e =
    again phase_column n 0 Running _ p refl e (λ e.
    again phase_column n 1 Successful _ p refl e (λ e.
    again phase_column n 2 Inconclusive _ p refl e (λ e.
    again phase_column n 3 Error _ p refl e (λ e.
    again phase_column n 4 Failed None p refl e (λ e. absurd (cc))))))

pub state_again : (n : ℕ) (s : ReleaseState) → state_of n ≡ Some s → state_number s ≡ n
state_again n s e =
    again state_number n 0 InProgress _ s refl e (λ e.
    again state_number n 1 Aborted _ s refl e (λ e.
    again state_number n 2 Done None s refl e (λ e. absurd (cc))))

pub truth_again : (n : ℕ) (b : Bool) → truth_of n ≡ Some b → bit b ≡ n
truth_again n b e = again bit n 0 false _ b refl e (λ e. again bit n 1 true None b refl e (λ e. absurd (cc)))

pub hold_again : (n : ℕ) (h : Bool × Bool) → hold_of n ≡ Some h → hold_number h.0 h.1 ≡ n
hold_again n h e =
    let back : Bool × Bool → ℕ = λ h. hold_number h.0 h.1 in
    again back n 0 (false, false) _ h refl e (λ e.
    again back n 1 (true, false) _ h refl e (λ e.
    again back n 2 (false, true) _ h refl e (λ e.
    again back n 3 (true, true) None h refl e (λ e. absurd (cc)))))

both_hold : (a b : Bool) → a && b ≡ true → (a ≡ true) × (b ≡ true)
both_hold true b e = (refl, e)
both_hold false b e = absurd (cc)

tested : {A : Type 0} (b : Bool) (x y : A) → cond b (Some x) None ≡ Some y → (b ≡ true) × (x ≡ y)
tested true x y e = (refl, (let same : x ≡ y = cc e in same))
tested false x y e = absurd (cc)

value_again : (text : List ℕ) (v : Value) → value_in text ≡ Some v → words_of v ≡ text
unfolding value_in
value_again text v e =
    let h : (is_result (spelled text) && bytes_eq (words_of (spelled text)) text ≡ true) × (spelled text ≡ v) = tested (is_result (spelled text) && bytes_eq (words_of (spelled text)) text) (spelled text) v e in
    ap words_of (sym h.1) ∙ (bytes_eq-Decides (words_of (spelled text)) text).0 (both_hold (is_result (spelled text)) (bytes_eq (words_of (spelled text)) text) h.0).1

brought : (o : Option Value) (x : Outcome) (text : List ℕ) → option_map Brought o ≡ Some x → ((v : Value) → o ≡ Some v → words_of v ≡ text) → outcome_text x ≡ text
brought None x text e back = absurd (cc)
brought (Some v) x text e back = let same : Brought v ≡ x = cc e in ap outcome_text (sym same) ∙ back v refl

failed : (text : List ℕ) (x : Outcome) → failure_with text ≡ Some x → outcome_text x ≡ 33 ∷ text
failed text x e =
    let h : (nat_le 1 (length text) && nat_le (length text) 200 ≡ true) × (Failure text ≡ x) = tested (nat_le 1 (length text) && nat_le (length text) 200) (Failure text) x e in
    ap outcome_text (sym h.1)

pub outcome_again : (text : List ℕ) (x : Outcome) → outcome_in text ≡ Some x → outcome_text x ≡ text
unfolding outcome_in
outcome_again [] x e = brought (value_in []) x [] e (value_again [])
outcome_again (b ∷ text) x e =
    elim (b == 33)
    as (λ t. (b == 33) ≡ t → cond t (failure_with text) (option_map Brought (value_in (b ∷ text))) ≡ Some x → outcome_text x ≡ b ∷ text) [
      | true ↦ λ same e. failed text x e ∙ ap (λ (a : ℕ). a ∷ text) (sym ((Decides-eqb b 33).0 same))
      | false ↦ λ other e. brought (value_in (b ∷ text)) x (b ∷ text) e (value_again (b ∷ text))
    ] refl e
