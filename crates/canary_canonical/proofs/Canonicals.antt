-- Commands by their texts.
use Rattle.std.proofs.Common.{◌≡◌, ℕ, List, Bool, true, false, Some, None, refl, sym, ap, ◌∙◌, true≢false}
use Rattle.std.specs.Prelude.{Option, IsSome, unwrap_or, option_and_then, if◌then◌else◌}
use Rattle.std.specs.Str.{bytes_eq}
use Rattle.std.proofs.lemmas.Slice.Eq.{bytes_eq-Decides}
use Rattle.canary_plan.specs.declared.command.Command.{Command}
use Rattle.canary_plan.specs.Commands.{same_command, SameWhereEqual}
use Rattle.canary_canonical.specs.Texts.{command_text}
use Rattle.canary_canonical.specs.Readings.{spelt_in, if_text_of, canonical_in, no_command, command_of, IsCanonical}

text_tested : (s : List ℕ) (c : Command) (b : Bool) → bytes_eq (command_text c) s ≡ b → let found : Option Command = if b then Some c else None in IsSome found → command_text (unwrap_or found no_command) ≡ s
text_tested s c true is some = (bytes_eq-Decides (command_text c) s).0 is
text_tested s c false is some = absurd (true≢false (sym some))

text_found : (s : List ℕ) (o : Option Command) → let found : Option Command = option_and_then (if_text_of s) o in IsSome found → command_text (unwrap_or found no_command) ≡ s
text_found s None some = absurd (true≢false (sym some))
text_found s (Some c) some = text_tested s c (bytes_eq (command_text c) s) refl some

-- a canonical text is that of the command which it is
pub text_is : (s : List ℕ) → IsCanonical s → command_text (command_of s) ≡ s
unfolding canonical_in
text_is s is = text_found s (spelt_in s) is

same_tests : SameWhereEqual → (s t : List ℕ) → IsCanonical s → IsCanonical t → (p q : Bool) → bytes_eq s t ≡ p → same_command (command_of s) (command_of t) ≡ q → p ≡ q
same_tests law s t is it true true e f = refl
same_tests law s t is it false false e f = refl
same_tests law s t is it true false e f = sym ((law _ _).1 (ap command_of ((bytes_eq-Decides s t).0 e))) ∙ f
same_tests law s t is it false true e f = sym e ∙ (bytes_eq-Decides s t).1 (sym (text_is s is) ∙ ap command_text ((law _ _).0 f) ∙ text_is t it)

-- canonical texts are equal exactly if their commands are the same
pub same_by_text : SameWhereEqual → (s t : List ℕ) → IsCanonical s → IsCanonical t → bytes_eq s t ≡ same_command (command_of s) (command_of t)
same_by_text law s t is it = same_tests law s t is it (bytes_eq s t) (same_command (command_of s) (command_of t)) refl refl
