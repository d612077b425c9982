use Rattle.std.proofs.Common.{◌≡◌, sym, subst}
use Rattle.std.specs.Prelude.{Some}
use Rattle.canary_once.specs.Contents.{Contents, receipt_at}
use Rattle.canary_once.specs.Sound.{AreSoundContents}
use Rattle.canary_once.proofs.view.view.Goals as goal

pub returns-in-Ok : goal.returns-in-Ok
returns-in-Ok g c =
    let r = c.in-Ok.ensures in
    record {
      honest = r.honest;
      in_memory = r.in_memory;
      sound = λ i. subst AreSoundContents (sym (r.ok i).1);
      step = λ i. r.ok i;
      receipts = λ i caller number receipt. subst (λ (x : Contents). receipt_at x caller number ≡ Some receipt) (sym (r.ok i).1);
      sure = r.sure;
      fault = tt;
    }
