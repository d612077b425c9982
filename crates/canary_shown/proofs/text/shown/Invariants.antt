use Rattle.std.proofs.Common.{◌≡◌, string_bytes, encode_utf8_all}
use Rattle.canary_shown.specs.Showing.{shown_chars}
use Rattle.canary_shown.proofs.text.shown.Given as goal

-- the text so far is that of the characters so far
abbrev pub invariant-loop-character : goal.invariant-loop-character
invariant-loop-character l = string_bytes l.shown ≡ encode_utf8_all (shown_chars l.form l.yielded)
