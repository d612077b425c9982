use Rattle.std.proofs.Common.{◌≡◌, ◌≤◌, length, take}
use Rattle.std.specs.Prelude.{vec_len, vec_capacity, All}
use Rattle.canary_once.specs.Contents.{KeepsReceipts}
use Rattle.canary_once.specs.Sound.{AreSoundContents}
use Rattle.canary_once.specs.BookCalls.{StaysInMemory}
use Rattle.canary_once.specs.Single.{IsFaultOf}
use Rattle.canary_once.proofs.Runs.{IsRun}
use Rattle.canary_once.proofs.run.run.Given as goal

abbrev pub invariant-loop-event : goal.invariant-loop-event
invariant-loop-event g l =
    let old = g.B.Book.state l.fn.book in
    let now = g.B.Book.state l.book in
    record {
      honest : now.is_honest → old.is_honest;
      in_memory : StaysInMemory old now;
      sound : now.is_honest → AreSoundContents old.contents → AreSoundContents now.contents;
      sure : now.is_sure ≡ old.is_sure;
      count : vec_len l.answers ≡ l.event-index;
      len : length l.answers.items ≡ l.event-index;
      room : length l.events ≤ vec_capacity l.answers;
      faults : All (IsFaultOf old.is_sure) l.answers.items;
      receipts : now.is_honest → KeepsReceipts old.contents now.contents;
      run : now.is_honest → IsRun old.contents (take l.event-index l.events) l.answers.items now.contents;
    }
