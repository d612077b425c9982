use Rattle.std.proofs.Common.{◌∙◌, refl, rules}
use Rattle.canary_wire.proofs.AnswerLemmas.{disposition_as, writes_as}
use Rattle.canary_wire.specs.Dispositions.{response_of}
use Rattle.canary_wire.proofs.answer.answer.Goals as goal

pub returns : goal.returns
returns g c = λ m first.
    let s = c.handle-response.ensures in (
      record { message = m; moment = c.now-moment.result; disposition = s.0 },
      refl,
      record {
        is = disposition_as c.of-method.result.now m.head.method c.of-target.result.now m.head.target _ m.body c.now-moment.result s.0 (c.of-method.ensures ∙ first.method) (c.of-target.ensures ∙ first.target) first.body s.2;
        moment = search rules;
        books = s.3;
      },
      writes_as (g.W.Write.contents c.args.writer.now) (g.W.Write.contents c.write_reply.new.writer) c.handle-response.result (response_of s.0) c.args.parts.is_last _ c.args.parts.head_alone _ c.write_reply.result s.1 first.is_last first.head_alone c.write_reply.ensures,
    )
