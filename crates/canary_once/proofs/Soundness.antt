-- Contents are sound.
use Rattle.std.proofs.Common.{◌≡◌, ℕ, List, [], ◌∷◌, Some, sym, ◌∙◌, subst}
use Rattle.std.specs.Prelude.{Option, None}
use Rattle.std.specs.Ordering.{nat_cmp}
use Rattle.std.specs.Cmp.Lexicographic.{slice_cmp}
use Rattle.std.specs.FinMap.{get, get-empty}
use Rattle.canary_release.specs.Desks.{no_desk}
use Rattle.canary_release.specs.Order.{AreInOrder, StayInOrder}
use Rattle.canary_release.specs.Sound.{StaySound}
use Rattle.canary_once.specs.declared.book.Receipt.{Receipt}
use Rattle.canary_once.specs.declared.event.Request.{Request}
use Rattle.canary_once.specs.declared.event.Event.TheVariants as event
use Rattle.canary_once.specs.Contents.{Contents, no_contents}
use Rattle.canary_once.specs.Sound.{AreContents, AreSoundContents}
use Rattle.canary_once.specs.Answers.{settled_requests}
use Rattle.canary_once.specs.Single.{after_one}
use Rattle.canary_once.specs.Laws.{StaysSound}
use Rattle.canary_once.proofs.Events.{after_first}
use Rattle.canary_once.proofs.Statuses.{none_settled}

no_receipts : (caller : List ℕ) (receipts : List Receipt) → get no_contents.callers caller ≡ Some receipts → ⊥
no_receipts caller receipts e =
    let none : ◌≡◌ {A = Option (List Receipt)} None (Some receipts) = sym (get-empty (slice_cmp nat_cmp) caller) ∙ e in
    cc none

-- what holds of all contents holds of empty ones
pub none_lawful : AreInOrder no_desk → AreContents no_contents
none_lawful empty = record {
  numbers = λ caller receipts e. absurd (no_receipts caller receipts e);
  statuses = none_settled;
  desk = empty;
}

-- the desk after events is the machine's, on the settled requests
pub stays_sound : StayInOrder → StaySound → StaysSound
stays_sound ordered sound c es desk = (ordered c.desk (settled_requests c es) desk, sound c.desk (settled_requests c es) desk)

-- one request keeps them so
pub one_sound : StaysSound → (c new : Contents) (r : Request) → AreContents c → new ≡ after_one c r → AreSoundContents c → AreSoundContents new
one_sound stays c new r all is sound = subst AreSoundContents (sym (is ∙ after_first c r)) ((stays c (event.Request r ∷ []) all.desk).1 sound)
