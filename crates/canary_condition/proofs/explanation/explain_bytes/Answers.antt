use Rattle.std.proofs.Common.{arith, sym, ◌∙◌}
use Rattle.canary_condition.proofs.Lexing.{token_ends}
use Rattle.canary_condition.proofs.Noting.{one_more_note, room_for_more}
use Rattle.canary_condition.proofs.explanation.explain_bytes.Goals as goal

pub overflow_add-at-else-is_blank : goal.overflow_add-at-else-is_blank
overflow_add-at-else-is_blank c =
    let ends = token_ends c.args.text.now c.loop-at.at c.in-Some.len c.in-Some.token c.loop-at-test.true (sym c.in-Some.ensures) in
    omega arith

pub loop-at-smaller : goal.loop-at-smaller
loop-at-smaller c =
    let ends = token_ends c.args.text.now c.loop-at.at c.in-Some.len c.in-Some.token c.loop-at-test.true (sym c.in-Some.ensures) in
    omega arith

pub loop-at-preserved : goal.loop-at-preserved
loop-at-preserved c =
    let ends = token_ends c.args.text.now c.loop-at.at c.in-Some.len c.in-Some.token c.loop-at-test.true (sym c.in-Some.ensures) in
    record {
      within = ends.1;
      room = room_for_more c.loop-at.notes c.with-notes.result c.loop-at.at c.in-Some.len c.in-Some.token c.with-notes.ensures.value c.loop-at.invariant.room ends.0;
      leads = one_more_note c.args.text.now c.loop-at.at c.in-Some.len c.in-Some.token c.loop-at.notes c.with-notes.result c.loop-at-test.true (cc) (sym c.in-Some.ensures) c.with-notes.ensures.value ∙ c.loop-at.invariant.leads;
    }
