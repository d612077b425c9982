-- What a book contains: for each caller the receipts of its settled requests, from number 1 on, and
-- the desk.
use Rattle.std.specs.Prelude.{◌≡◌, ◌⊎◌, ℕ, ◌+◌, ◌-◌, ◌≤◌, List, [], ◌∷◌, ◌++◌, length, Option, Some, None, unwrap_or, slice_get}
use Rattle.std.specs.Ordering.{nat_cmp}
use Rattle.std.specs.Cmp.Lexicographic.{slice_cmp}
use Rattle.std.specs.FinMap.{FinMap, get, insert, empty}
use Rattle.canary_plan.specs.declared.template.Template.{Template}
use Rattle.canary_plan.specs.Plans.{Templates}
use Rattle.canary_release.specs.declared.reply.ReplyStatus.{ReplyStatus}
use Rattle.canary_release.specs.declared.reply.ReplyStatus.TheVariants.{Accepted, Refused}
use Rattle.canary_release.specs.Desks.{newest, Desk, no_desk}
use Rattle.canary_release.specs.Stored.{desk_with, IsStep}
use Rattle.canary_once.specs.declared.book.Receipt.{Receipt}
use Rattle.canary_once.specs.declared.book.Settlement.{Settlement}

-- for each caller the receipts for its numbers 1, 2 and so on
abbrev pub CallerMap : Type 0
CallerMap = FinMap (slice_cmp nat_cmp) (List Receipt)

pub record Contents : Type 0 where
  pub callers : CallerMap
  pub desk : Desk

abbrev pub no_contents : Contents
no_contents = record { callers = empty; desk = no_desk }

-- the receipts of one caller
abbrev pub receipts_in : CallerMap → List ℕ → List Receipt
receipts_in callers caller = unwrap_or (get callers caller) []

abbrev pub receipts_of : Contents → List ℕ → List Receipt
receipts_of c caller = receipts_in c.callers caller

-- the number of settled requests of a caller
abbrev pub count_of : Contents → List ℕ → ℕ
count_of c caller = length (receipts_of c caller)

-- the receipt under a caller's number, from 1 on
abbrev pub receipt_at : Contents → List ℕ → ℕ → Option Receipt
receipt_at c caller number = slice_get (receipts_of c caller) (number - 1)

-- a map with a value under one name more, if there is a value
abbrev pub put_some : {A : Type 0} → FinMap (slice_cmp nat_cmp) A → List ℕ → Option A
    → FinMap (slice_cmp nat_cmp) A
put_some m name None = m
put_some m name (Some x) = insert m name x

-- those of these templates that have one of these names
abbrev pub known_named : Templates → List (List ℕ) → FinMap (slice_cmp nat_cmp) Template
known_named known [] = empty
known_named known (name ∷ names) = put_some (known_named known names) name (known name)

-- the newest revisions of the templates that have one of these names
abbrev pub templates_named : Contents → List (List ℕ) → FinMap (slice_cmp nat_cmp) Template
templates_named c names = known_named (newest c.desk.templates) names

-- the command was accepted or refused
abbrev pub IsSettledStatus : ReplyStatus → Type 0
IsSettledStatus status = (status ≡ Accepted) ⊎ (status ≡ Refused)

-- no receipt is of a conflict
abbrev pub KeepsSettled : Contents → Type 0
KeepsSettled c =
    (caller : List ℕ) (number : ℕ) (receipt : Receipt) → receipt_at c caller number ≡ Some receipt
    → IsSettledStatus receipt.reply.status

-- a caller has at least one receipt, and at most 1,000,000,000
abbrev pub HaveReceipts : CallerMap → Type 0
HaveReceipts callers =
    (caller : List ℕ) (receipts : List Receipt) → get callers caller ≡ Some receipts
    → (1 ≤ length receipts) × (length receipts ≤ 1000000000)

-- each receipt stays as it was
abbrev pub KeepsReceipts : Contents → Contents → Type 0
KeepsReceipts old new =
    (caller : List ℕ) (number : ℕ) (receipt : Receipt) → receipt_at old caller number ≡ Some receipt
    → receipt_at new caller number ≡ Some receipt

-- with one more receipt for a caller
abbrev pub with_receipt : CallerMap → List ℕ → Receipt → CallerMap
with_receipt callers caller receipt =
    insert callers caller (receipts_in callers caller ++ receipt ∷ [])

-- with one more settled request
abbrev pub with_settlement : Contents → Settlement → Contents
with_settlement c s =
    record {
      callers = with_receipt c.callers s.caller s.receipt;
      desk = desk_with c.desk s.receipt.command s.change;
    }

-- the number is the caller's next, and reply and change are the machine's step, for the command on
-- this desk at some moment
pub record IsSettling (c : Contents) (s : Settlement) : Type 0 where
  pub number : s.number ≡ count_of c s.caller + 1
  pub step : (moment : ℕ)
      × IsStep c.desk moment s.receipt.command
      (record { reply = s.receipt.reply; change = s.change })
