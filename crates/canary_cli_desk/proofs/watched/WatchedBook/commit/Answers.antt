-- The read in the place of a commit changes nothing.
use Rattle.std.proofs.Common.{refl, sym, subst}
use Rattle.canary_once.specs.Sound.{AreContents, AreSoundContents}
use Rattle.canary_once.proofs.Events.{same_keeps}
use Rattle.canary_cli_desk.proofs.watched.WatchedBook.commit.Goals as goal

pub returns-then-self : goal.returns-then-self
returns-then-self g c =
    let read = c.settled.ensures in
    record {
      honest = read.honest;
      in_memory = read.in_memory;
      lawful = λ honest. subst AreContents (sym (read.same honest)) (read.lawful honest);
      sound = λ honest sound. subst AreSoundContents (sym (read.same honest)) sound;
      ok = λ _. tt;
      err = read.same;
      receipts = λ honest. same_keeps _ _ (read.same honest);
      sure = refl;
      fault = tt;
    }
