use Rattle.std.proofs.Common.{◌∙◌}
use Rattle.canary_once.specs.declared.event.Request.{Request}
use Rattle.canary_once.specs.Single.{request_of}
use Rattle.canary_once.proofs.Events.{reply_first, after_first, moved_keeps}
use Rattle.canary_once.proofs.Soundness.{one_sound}
use Rattle.canary_once.proofs.post.post.Goals as goal

pub returns-in-Ok : goal.returns-in-Ok
returns-in-Ok g c =
    let asked : Request = request_of c.args.moment c.args.caller c.args.number c.args.command.now in
    let r = c.in-Ok.ensures in
    record {
      honest = r.honest;
      in_memory = r.in_memory;
      sound = λ i. one_sound c.soundness.ensures.kept _ _ asked (r.lawful i) (r.ok i).1;
      step = λ i. ((r.ok i).0 ∙ reply_first _ asked, (r.ok i).1 ∙ after_first _ asked);
      receipts = λ i. moved_keeps _ _ asked (r.ok i).1;
      sure = r.sure;
      fault = tt;
    }
