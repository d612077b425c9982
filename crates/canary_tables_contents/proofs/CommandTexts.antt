-- What is read as a command is its canonical text.
use Rattle.std.proofs.Common.{◌≡◌, ℕ, List, Bool, true, false, Some, None, refl, sym, ap, ◌∙◌}
use Rattle.std.specs.Prelude.{Option, cond, option_and_then}
use Rattle.std.specs.Str.{bytes_eq}
use Rattle.std.proofs.lemmas.Slice.Eq.{bytes_eq-Decides}
use Rattle.canary_plan.specs.declared.command.Command.{Command}
use Rattle.canary_canonical.specs.Texts.{command_text}
use Rattle.canary_canonical.specs.Readings.{spelt_in, if_text_of, canonical_in}
use Rattle.canary_tables_contents.specs.Tables.{IsReadableCommand}

same_text : (text : List ℕ) (o : Option Command) (c : Command) → option_and_then (if_text_of text) o ≡ Some c → command_text c ≡ text
same_text text None c e = absurd (cc)
same_text text (Some d) c e =
    elim (bytes_eq (command_text d) text)
    as (λ b. bytes_eq (command_text d) text ≡ b → cond b (Some d) None ≡ Some c → command_text c ≡ text) [
      | true ↦ λ same e. let is : d ≡ c = cc in ap command_text (sym is) ∙ (bytes_eq-Decides (command_text d) text).0 same
      | false ↦ λ same e. absurd (cc)
    ] refl e

pub canonical_text : (text : List ℕ) (c : Command) → canonical_in text ≡ Some c → command_text c ≡ text
unfolding canonical_in
canonical_text text c e = same_text text (spelt_in text) c e

pub still_canonical : (text : List ℕ) (c : Command) → canonical_in text ≡ Some c → IsReadableCommand c
still_canonical text c e = ap canonical_in (canonical_text text c e) ∙ e
