use Rattle.std.proofs.Common.{◌∙◌, ap, sym, string_bytes, encode_utf8_all}
use Rattle.std.proofs.lemmas.List.{map-id}
use Rattle.std.proofs.lemmas.Iterator.{YieldsList-from_chars}
use Rattle.std.proofs.lemmas.Iterator.Consumers.{YieldsList-end}
use Rattle.canary_shown.specs.Showing.{shown_chars}
use Rattle.canary_shown.proofs.ShownLemmas.{one_more}
use Rattle.canary_shown.proofs.text.shown.Goals as goal

pub loop-character-preserved : goal.loop-character-preserved
loop-character-preserved c =
    one_more c.args.form c.loop-character.yielded c.in-Some.character (string_bytes c.loop-character.shown) (string_bytes c.put.new.text) c.loop-character.invariant c.in_ok-put.ensures

pub returns : goal.returns
returns c =
    let y = YieldsList-from_chars c.args.text.now c.utf8.text (cc) in
    let t = YieldsList-end y c.loop-character.yielded _ c.loop-character.yielded_by _ _ c.in-None.is c.next.ensures.steps in
    c.loop-character.invariant ∙ ap (λ cs. encode_utf8_all (shown_chars c.args.form cs)) (sym (map-id c.loop-character.yielded) ∙ t.0)
