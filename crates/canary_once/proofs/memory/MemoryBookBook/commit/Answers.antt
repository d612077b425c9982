use Rattle.std.proofs.Common.{◌≡◌, refl, sym, ◌∙◌, ap, subst}
use Rattle.canary_once.specs.declared.book.Settlement.{Settlement}
use Rattle.canary_once.specs.Contents.{Contents, with_settlement, IsSettling, KeepsReceipts}
use Rattle.canary_once.specs.Sound.{AreContents, AreSoundContents}
use Rattle.canary_once.proofs.Events.{keep_keeps}
use Rattle.canary_once.proofs.Keeping.{is_change, is_kept, keeps_contents, keeps_soundness, settled_is}
use Rattle.canary_once.proofs.memory.MemoryBookBook.commit.Goals as goal

pub settle-requires-clause-change : goal.settle-requires-clause-change
settle-requires-clause-change c =
    let old : Contents = record { callers = c.self.inside.callers; desk = c.self.inside.desk } in
    is_change c.effects.ensures old c.args.settlement (subst (λ k. IsSettling k c.args.settlement) (sym c.self.view_is) (c.requires tt)) c.self.invariant

pub settle-requires-clause-kept : goal.settle-requires-clause-kept
settle-requires-clause-kept c =
    let old : Contents = record { callers = c.self.inside.callers; desk = c.self.inside.desk } in
    is_kept c.effects.ensures c.changes.ensures old c.args.settlement (subst (λ k. IsSettling k c.args.settlement) (sym c.self.view_is) (c.requires tt)) c.self.invariant

pub invariant_of-self-2 : goal.invariant_of-self-2
invariant_of-self-2 c =
    let old : Contents = record { callers = c.self.inside.callers; desk = c.self.inside.desk } in
    let settling : IsSettling old c.args.settlement = subst (λ k. IsSettling k c.args.settlement) (sym c.self.view_is) (c.requires tt) in
    subst AreContents (sym (settled_is old c.args.settlement c.settle.new.callers c.settle.new.desk c.in_ok-settle.ensures.receipt c.in_ok-settle.ensures.desk))
    (keeps_contents c.in_order.ensures.keeping c.refusals.ensures old c.args.settlement c.settle.ensures.few settling c.self.invariant)

pub returns : goal.returns
returns c =
    let s : Settlement = c.args.settlement in
    let now : Contents = c.args.self.now in
    let old : Contents = record { callers = c.self.inside.callers; desk = c.self.inside.desk } in
    let new : Contents = record { callers = c.settle.new.callers; desk = c.settle.new.desk } in
    let settled : new ≡ with_settlement now s = settled_is old s c.settle.new.callers c.settle.new.desk c.in_ok-settle.ensures.receipt c.in_ok-settle.ensures.desk ∙ ap (λ (k : Contents). with_settlement k s) c.self.view_is in
    let are : AreContents now = subst AreContents c.self.view_is c.self.invariant in
    record {
      honest = λ x. x;
      in_memory = λ _. (tt, tt);
      lawful = λ _. subst AreContents (sym settled) (keeps_contents c.in_order.ensures.keeping c.refusals.ensures now s c.settle.ensures.few (c.requires tt) are);
      sound = λ _ sound. subst AreSoundContents (sym settled) (keeps_soundness c.sound.ensures.keeping now s (c.requires tt) are sound);
      ok = λ _. settled;
      err = λ _. tt;
      receipts = λ _. subst (KeepsReceipts now) (sym settled) (keep_keeps now (with_settlement now s).desk s.caller s.receipt);
      sure = refl;
      fault = tt;
    }
