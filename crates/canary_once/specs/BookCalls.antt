-- How a book stands, and what its calls do.
use Rattle.std.specs.Prelude.{◌≡◌, Bool, true, false, Result, IfOk, IfErr, OnOk, OnErr}
use Rattle.canary_once.specs.declared.book.BookFault.{BookFault}
use Rattle.canary_once.specs.declared.book.BookFault.TheVariants.{Memory, Storage}
use Rattle.canary_once.specs.declared.book.Settlement.{Settlement}
use Rattle.canary_once.specs.Contents.{Contents, no_contents, KeepsReceipts, with_settlement}
use Rattle.canary_once.specs.Sound.{AreContents, AreSoundContents}

-- what it contains, however it is kept; whether its store is honest: nobody else writes it, and it
-- returns what was written; whether its store is memory alone; and whether it is sure: its calls
-- never answer Storage
pub record BookState : Type 1 where
  pub contents : Contents
  pub is_honest : Type 0
  pub is_in_memory : Type 0
  pub is_sure : Bool

-- only a book that is not sure answers Storage
abbrev pub IsFault : Bool → BookFault → Type 0
IsFault sure Memory = Unit {0}
IsFault true Storage = ⊥
IsFault false Storage = Unit {0}

-- an honest store in memory
abbrev pub IsHonestMemory : BookState → Type 0
IsHonestMemory b = b.is_in_memory × b.is_honest

-- A store that is honest as a call ends was so as the call began. An honest store in memory stays
-- one, whatever failed. No call changes whether the book is sure.
abbrev pub StaysInMemory : BookState → BookState → Type 0
StaysInMemory old new = IsHonestMemory old → IsHonestMemory new

-- the book contains what it did
pub record Stays (old new : BookState) : Type 0 where
  pub honest : new.is_honest → old.is_honest
  pub in_memory : StaysInMemory old new
  pub same : new.is_honest → new.contents ≡ old.contents
  pub sure : new.is_sure ≡ old.is_sure

-- a call finds this in the contents, or fails; it changes nothing
pub record Finds {A : Type 0} (value : Contents → A) (old new : BookState)
    (found : Result A BookFault) : Type 0 where
  pub honest : new.is_honest → old.is_honest
  pub in_memory : StaysInMemory old new
  pub lawful : new.is_honest → AreContents old.contents
  pub same : new.is_honest → new.contents ≡ old.contents
  pub value_of_old : new.is_honest → IfOk found (λ x. x ≡ value old.contents)
  pub sure : new.is_sure ≡ old.is_sure
  pub fault : IfErr found (IsFault old.is_sure)

-- a call settles a request, with all that it changes, or fails and changes nothing
pub record Commits (s : Settlement) (old new : BookState)
    (done : Result (Unit {0}) BookFault) : Type 0 where
  pub honest : new.is_honest → old.is_honest
  pub in_memory : StaysInMemory old new
  pub lawful : new.is_honest → AreContents new.contents
  pub sound : new.is_honest → AreSoundContents old.contents → AreSoundContents new.contents
  pub ok : new.is_honest → OnOk done (new.contents ≡ with_settlement old.contents s)
  pub err : new.is_honest → OnErr done (new.contents ≡ old.contents)
  pub receipts : new.is_honest → KeepsReceipts old.contents new.contents
  pub sure : new.is_sure ≡ old.is_sure
  pub fault : IfErr done (IsFault old.is_sure)

-- nothing is settled; the store is an honest one in memory; and the book is sure
pub record IsEmptyAndSure (b : BookState) : Type 0 where
  pub none : b.contents ≡ no_contents
  pub memory : IsHonestMemory b
  pub sure : b.is_sure ≡ true

-- however a book of a kind came about, its store is an honest one in memory, and it is sure
abbrev pub AreSure : {B : Type 0} → (B → BookState) → Type 0
AreSure {B} state = (b : B) → IsHonestMemory (state b) × ((state b).is_sure ≡ true)
