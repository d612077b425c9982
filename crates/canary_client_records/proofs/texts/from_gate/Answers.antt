use Rattle.std.proofs.Common.{◌≡◌, ◌++◌, [], ◌∷◌, length, Some, sym, ap, ◌∙◌, arith, rules}
use Rattle.canary_client_records.specs.Texts.{from_gate, first_record, records}
use Rattle.canary_client_records.proofs.TextLemmas.{with_front, front_next, record_length, length-records-push}
use Rattle.canary_client_records.proofs.texts.from_gate.Goals as goal

pub loop-text-preserved : goal.loop-text-preserved
loop-text-preserved c =
    let some : first_record c.loop-text.rest.now ≡ Some (c.in-Some.text.now, c.in-Some.after.now) = search rules in
    let pushed : c.push.new.self.items ≡ c.loop-text.texts.items ++ c.in-Some.text.now ∷ [] = search rules in
    let grown = ap (λ ts. length (records ts)) pushed in
    let more = length-records-push c.loop-text.texts.items c.in-Some.text.now in
    let parts = record_length c.loop-text.rest.now c.in-Some.text.now c.in-Some.after.now (sym some) in
    let before = c.loop-text.invariant.size in
    record {
      read = ap (λ ts. with_front ts (from_gate c.in-Some.after.now)) pushed
          ∙ sym (front_next c.loop-text.texts.items c.loop-text.rest.now c.in-Some.text.now c.in-Some.after.now (sym some))
          ∙ c.loop-text.invariant.read;
      size = omega (arith, grown, more, parts, before);
    }
