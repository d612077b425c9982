use Rattle.std.proofs.Common.{◌≡◌, ◌++◌, drop}
use Rattle.canary_page_html.specs.Escaping.{escaped}
use Rattle.canary_page_html.proofs.markup.put_escaped.Given as goal

-- the bytes so far, with what is left of the text, are those before with the whole text
abbrev pub invariant-loop-byte : goal.invariant-loop-byte
invariant-loop-byte l = l.bytes.items ++ escaped (drop l.byte-index l.text) ≡ l.fn.bytes.items ++ escaped l.text
