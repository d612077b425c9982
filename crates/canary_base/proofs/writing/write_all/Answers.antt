use Rattle.std.proofs.Common.{◌++◌, sym, ap, ◌∙◌}
use Rattle.canary_base.proofs.WriteLemmas.{write_step}
use Rattle.canary_base.proofs.writing.write_all.Goals as goal

pub loop-rest-preserved : goal.loop-rest-preserved
loop-rest-preserved g c =
    let s = write_step (g.W.Write.contents c.args.writer.now) (g.W.Write.contents c.loop-rest.writer) (g.W.Write.contents c.write.new.self) c.args.text.now c.loop-rest.invariant.0 c.loop-rest.rest.now c.in-Ok.n c.loop-rest.invariant.1 c.loop-rest.invariant.2 (rw c.in-Ok.is at c.write.ensures.bytes) in
    (s.0, s.1 ∙ ap (λ t. s.0 ++ t) (sym c.split_at.ensures.back), s.2)
