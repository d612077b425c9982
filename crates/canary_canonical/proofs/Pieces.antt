-- Texts that are written piece by piece.
use Rattle.std.proofs.Common.{◌≡◌, ℕ, ℤ, pos, negsuc, List, [], ◌∷◌, ◌++◌, map, Bool, true, false, codes, decimal, refl, sym, ap, ap₂, ◌∙◌, arith, true≢false, append_assoc}
use Rattle.std.specs.Prelude.{IsTrue, ◌&&◌, Result, Ok, Err}
use Rattle.std.specs.Result.{IfOk}
use Rattle.std.specs.List.{list_all}
use Rattle.std.specs.Fmt.{signed_decimal}
use Rattle.std.proofs.lemmas.Bool.Decides.{nat_tests}
use Rattle.json.specs.Print.{escape_byte, escape}
use Rattle.json.proofs.Printed.Strings.{escape_byte_plain}
use Rattle.json.proofs.OnLiterals.{json_on_literals}
use Rattle.serde_json.specs.View.{items_of}
use Rattle.serde_json.specs.Written.{compact_text, items_text}
use Rattle.canary_base.specs.Names.{is_name, is_name_byte, is_label, is_label_byte}
use Rattle.canary_condition.specs.declared.outcome.Value.TheVariants.{Whole}
use Rattle.canary_plan.specs.declared.report.Report.{Report}
use Rattle.canary_plan.specs.declared.command.Command.TheVariants as command
use Rattle.canary_canonical.specs.Texts.{measured, signed_data, entry_data, report_data, command_data, command_text}

both : (a b : Bool) → (a && b) ≡ true → (a ≡ true) × (b ≡ true)
both true b e = (refl, e)
both false b e = absurd (true≢false (sym e))

-- ---- names and labels stand in a text as they are

label_byte_plain : (x : ℕ) → is_label_byte x ≡ true → escape_byte x ≡ x ∷ []
label_byte_plain x h =
    escape_byte_plain x (λ e. true≢false (sym h ∙ ap is_label_byte e)) (λ e. true≢false (sym h ∙ ap is_label_byte e)) (grind (arith, nat_tests, h))

name_byte_plain : (x : ℕ) → is_name_byte x ≡ true → escape_byte x ≡ x ∷ []
name_byte_plain x h =
    escape_byte_plain x (λ e. true≢false (sym h ∙ ap is_name_byte e)) (λ e. true≢false (sym h ∙ ap is_name_byte e)) (grind (arith, nat_tests, h))

plain : (test : ℕ → Bool) → ((x : ℕ) → test x ≡ true → escape_byte x ≡ x ∷ []) → (s : List ℕ) → list_all test s ≡ true → escape s ≡ s
plain test each [] h = refl
plain test each (x ∷ s) h = let parts = both (test x) (list_all test s) h in ap₂ (λ a b. a ++ b) (each x parts.0) (plain test each s parts.1)

pub label_plain : (s : List ℕ) → IsTrue (is_label s) → escape s ≡ s
label_plain s h = plain is_label_byte label_byte_plain s (both _ _ h).1

pub name_plain : (s : List ℕ) → IsTrue (is_name s) → escape s ≡ s
name_plain s h = plain is_name_byte name_byte_plain s (both _ _ (both _ _ (both _ _ h).0).0).1

-- ---- commands on a service alone

end_shape : (s : List ℕ) → s ++ 34 ∷ 125 ∷ 125 ∷ [] ≡ ((s ++ 34 ∷ []) ++ 125 ∷ []) ++ 125 ∷ []
end_shape s = simp append_assoc refl

named : (front s : List ℕ) → IsTrue (is_name s) → front ++ (s ++ codes "\"}}") ≡ front ++ (((escape s ++ 34 ∷ []) ++ 125 ∷ []) ++ 125 ∷ [])
named front s h = ap (λ t. front ++ t) (end_shape s ∙ ap (λ t. ((t ++ 34 ∷ []) ++ 125 ∷ []) ++ 125 ∷ []) (sym (name_plain s h)))

pub promote_text : (s : List ℕ) → IsTrue (is_name s) → codes "{\"promote\":{\"service\":\"" ++ (s ++ codes "\"}}") ≡ command_text (command.Promote s)
unfolding json_on_literals command_text command_data
promote_text = named (codes "{\"promote\":{\"service\":\"")

pub promote_full_text : (s : List ℕ) → IsTrue (is_name s) → codes "{\"promoteFull\":{\"service\":\"" ++ (s ++ codes "\"}}") ≡ command_text (command.PromoteFull s)
unfolding json_on_literals command_text command_data
promote_full_text = named (codes "{\"promoteFull\":{\"service\":\"")

pub abort_text : (s : List ℕ) → IsTrue (is_name s) → codes "{\"abort\":{\"service\":\"" ++ (s ++ codes "\"}}") ≡ command_text (command.Abort s)
unfolding json_on_literals command_text command_data
abort_text = named (codes "{\"abort\":{\"service\":\"")

pub retry_text : (s : List ℕ) → IsTrue (is_name s) → codes "{\"retry\":{\"service\":\"" ++ (s ++ codes "\"}}") ≡ command_text (command.Retry s)
unfolding json_on_literals command_text command_data
retry_text = named (codes "{\"retry\":{\"service\":\"")

pub tick_text : (s : List ℕ) → IsTrue (is_name s) → codes "{\"tick\":{\"service\":\"" ++ (s ++ codes "\"}}") ≡ command_text (command.Tick s)
unfolding json_on_literals command_text command_data
tick_text = named (codes "{\"tick\":{\"service\":\"")

-- ---- reports

-- pieces in turn
pub in_five : (t a b c d e : List ℕ) → ((((t ++ a) ++ b) ++ c) ++ d) ++ e ≡ t ++ (a ++ (b ++ (c ++ (d ++ e))))
in_five t a b c d e = simp append_assoc refl

signed_text : (z : ℤ) → signed_decimal z ≡ compact_text (signed_data z)
signed_text (pos n) = refl
signed_text (negsuc n) = refl

whole_shape : (a m b o c z d k e : List ℕ) → (a ++ (m ++ ((34 ∷ b) ++ (o ++ c)))) ++ (z ++ (d ++ (k ++ e))) ≡ a ++ ((m ++ 34 ∷ []) ++ (b ++ (o ++ (c ++ (z ++ (d ++ (k ++ e)))))))
whole_shape a m b o c z d k e = simp append_assoc refl

-- an entry with a whole number as its result
whole_alone : (m : List ℕ) (o k : ℕ) (z : ℤ) → escape m ≡ m
    → (codes "{\"metric\":\"" ++ (m ++ (codes "\",\"ordinal\":" ++ (decimal o ++ codes ",\"result\":")))) ++ (signed_decimal z ++ (codes ",\"taken\":" ++ (decimal k ++ codes "}")))
    ≡ compact_text (measured m o k (Whole z))
unfolding json_on_literals
whole_alone m o k z e =
    whole_shape (codes "{\"metric\":\"") m (codes ",\"ordinal\":") (decimal o) (codes ",\"result\":") (signed_decimal z) (codes ",\"taken\":") (decimal k) (codes "}")
    ∙ ap₂ (λ s w. codes "{\"metric\":\"" ++ ((s ++ 34 ∷ []) ++ (codes ",\"ordinal\":" ++ (decimal o ++ (codes ",\"result\":" ++ (w ++ (codes ",\"taken\":" ++ (decimal k ++ codes "}")))))))) (sym e) (signed_text z)

pub whole_text : (t m : List ℕ) (o k : ℕ) (z : ℤ) → escape m ≡ m
    → (t ++ (codes "{\"metric\":\"" ++ (m ++ (codes "\",\"ordinal\":" ++ (decimal o ++ codes ",\"result\":"))))) ++ (signed_decimal z ++ (codes ",\"taken\":" ++ (decimal k ++ codes "}")))
    ≡ t ++ compact_text (measured m o k (Whole z))
whole_text t m o k z e = append_assoc t _ _ ∙ ap (λ s. t ++ s) (whole_alone m o k z e)

report_shape : (f items r run s name : List ℕ) → (f ++ items) ++ (r ++ (run ++ (s ++ (name ++ 34 ∷ 125 ∷ 125 ∷ [])))) ≡ f ++ ((items ++ (r ++ (run ++ (s ++ ((name ++ 34 ∷ []) ++ 125 ∷ []))))) ++ 125 ∷ [])
report_shape f items r run s name = simp append_assoc refl

pub report_form : (r : Report) → escape r.service ≡ r.service
    → (codes "{\"report\":{\"entries\":[" ++ items_text false (items_of (map entry_data r.entries))) ++ (codes ",\"run\":" ++ (decimal r.run ++ (codes ",\"service\":\"" ++ (r.service ++ codes "\"}}"))))
    ≡ command_text (command.Report r)
unfolding json_on_literals command_text command_data report_data
report_form r e =
    let entries = items_text false (items_of (map entry_data r.entries)) in
    report_shape (codes "{\"report\":{\"entries\":[") entries (codes ",\"run\":") (decimal r.run) (codes ",\"service\":\"") r.service
    ∙ ap (λ s. codes "{\"report\":{\"entries\":[" ++ ((entries ++ (codes ",\"run\":" ++ (decimal r.run ++ (codes ",\"service\":\"" ++ ((s ++ 34 ∷ []) ++ 125 ∷ []))))) ++ 125 ∷ [])) (sym e)

-- what holds of a value by two things that hold of it
pub of_both : {A E : Type 0} (r : Result A E) (p q s : A → Type 0) → ((a : A) → p a → q a → s a) → IfOk r p → IfOk r q → IfOk r s
of_both (Ok a) p q s f h k = f a h k
of_both (Err e) p q s f h k = tt

pub ruleset written = (promote_text, promote_full_text, abort_text, retry_text, tick_text)
