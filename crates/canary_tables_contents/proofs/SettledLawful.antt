-- What holds of all contents holds after a settled request.
use Rattle.std.proofs.Common.{◌≡◌, inl, inr, ℕ, ◌+◌, ◌≤◌, List, [], ◌∷◌, ◌++◌, length, Bool, true, false, Some, sym, ◌∙◌, subst, arith, length-append}
use Rattle.std.specs.Prelude.{Option, cond}
use Rattle.std.specs.Str.{bytes_eq}
use Rattle.std.specs.FinMap.{get}
use Rattle.canary_plan.specs.declared.command.Command.{Command}
use Rattle.canary_release.specs.Desks.{Desk, apply}
use Rattle.canary_release.specs.Laws.{RefusalsLeaveTheDesk}
use Rattle.canary_release.specs.Order.{AreInOrder, StayInOrder}
use Rattle.canary_once.specs.declared.book.Receipt.{Receipt}
use Rattle.canary_once.specs.declared.book.Settlement.{Settlement}
use Rattle.canary_once.specs.Contents.{Contents, CallerMap, receipts_in, with_receipt, with_settlement, IsSettledStatus, KeepsSettled, HaveReceipts, IsSettling}
use Rattle.canary_once.specs.Sound.{AreContents}
use Rattle.canary_tables_contents.proofs.SettledKeys.{at_name, some_same}
use Rattle.canary_tables_contents.proofs.SettledReadable.{each_receipt}

abbrev IsFew : List Receipt → Type 0
IsFew receipts = (1 ≤ length receipts) × (length receipts ≤ 1000000000)

one_more_few : (receipts : List Receipt) (x : Receipt) → length receipts + 1 ≤ 1000000000 → IsFew (receipts ++ x ∷ [])
one_more_few receipts x h = (simp length-append (omega arith), simp length-append h)

few_there : (o : Option (List Receipt)) (l k : List Receipt) (b : Bool) → IsFew l → ((x : List Receipt) → o ≡ Some x → IsFew x) → cond b (Some l) o ≡ Some k → IsFew k
few_there o l k true one all e = subst IsFew (some_same l k e) one
few_there o l k false one all e = all k e

keeps_numbers : (callers : CallerMap) (caller : List ℕ) (x : Receipt) → HaveReceipts callers → length (receipts_in callers caller) + 1 ≤ 1000000000 → HaveReceipts (with_receipt callers caller x)
keeps_numbers callers caller x have few q l e =
    let longer : List Receipt = receipts_in callers caller ++ x ∷ [] in
    few_there (get callers q) longer l (bytes_eq q caller) (one_more_few (receipts_in callers caller) x few) (have q) (sym (at_name callers caller longer q) ∙ e)

-- a command is accepted or refused
status_of_step : RefusalsLeaveTheDesk → (desk : Desk) (moment : ℕ) (command : Command) → IsSettledStatus (apply desk moment command).reply.status
status_of_step leaves desk moment command = elim (leaves desk moment command) [ inl accepted ↦ inl accepted | inr refused ↦ inr refused.0 ]

keeps_statuses : RefusalsLeaveTheDesk → (c : Contents) (s : Settlement) → IsSettling c s → KeepsSettled c → KeepsSettled (with_settlement c s)
keeps_statuses leaves c s settling all q n k e =
    each_receipt (λ (y : Receipt). IsSettledStatus y.reply.status) c.callers s.caller q s.receipt k n (all q n)
    (subst (λ reply. IsSettledStatus reply.status) (sym settling.step.1.reply) (status_of_step leaves c.desk settling.step.0 s.receipt.command))
    e

keeps_order : StayInOrder → (c : Contents) (s : Settlement) → IsSettling c s → AreInOrder c.desk → AreInOrder (with_settlement c s).desk
keeps_order law c s settling order =
    subst AreInOrder (sym settling.step.1.desk_after) (law c.desk ((settling.step.0, s.receipt.command) ∷ []) order)

pub stays_lawful : StayInOrder → RefusalsLeaveTheDesk → (c : Contents) (s : Settlement) → s.number ≤ 1000000000 → IsSettling c s → AreContents c → AreContents (with_settlement c s)
stays_lawful in_order leaves c s few settling are = record {
  numbers = keeps_numbers c.callers s.caller s.receipt are.numbers (subst (λ n. n ≤ 1000000000) settling.number few);
  statuses = keeps_statuses leaves c s settling are.statuses;
  desk = keeps_order in_order c s settling are.desk;
}
