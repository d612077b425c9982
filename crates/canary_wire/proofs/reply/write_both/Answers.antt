use Rattle.std.proofs.Common.{◌≡◌, ◌∙◌, ℕ, List, subst}
use Rattle.std.specs.Prelude.{Err}
use Rattle.std.specs.Io.KnownBytes.{Appends}
use Rattle.canary_base.specs.declared.writing.WriteFault.{WriteFault}
use Rattle.canary_base.specs.Writes.{Writes}
use Rattle.canary_base.proofs.WriteLemmas.{writes_then, writes_front, writes_all}
use Rattle.canary_wire.proofs.reply.write_both.Goals as goal

pub returns-in-Err : goal.returns-in-Err
returns-in-Err g c =
    let old = g.W.Write.contents c.args.writer.now in
    let new = g.W.Write.contents c.write_all-2.new.writer in
    let text : c.as_bytes-2.result.now ≡ c.args.head.bytes = c.as_bytes-2.ensures.value ∙ c.as_str-2.ensures.value in
    let P : List ℕ → Type 0 = λ t. Writes {E = WriteFault} old new t (Err c.in-Err.fault) in
    writes_front old new c.args.head.bytes c.args.body.now c.in-Err.fault (subst P text (rw c.in-Err.is at c.write_all-2.ensures))

pub returns : goal.returns
returns g c =
    let old = g.W.Write.contents c.args.writer.now in
    let mid = g.W.Write.contents c.write_all-2.new.writer in
    let new = g.W.Write.contents c.write_all-3.new.writer in
    let text : c.as_bytes-2.result.now ≡ c.args.head.bytes = c.as_bytes-2.ensures.value ∙ c.as_str-2.ensures.value in
    let P : List ℕ → Type 0 = λ t. Appends old mid t in
    let Q : List ℕ → Type 0 = λ t. Writes {E = WriteFault} mid new t c.write_all-3.result in
    writes_then old mid new c.args.head.bytes c.args.body.now c.write_all-3.result
    (subst P text (writes_all old mid c.as_bytes-2.result.now (rw c.in_default.is at c.write_all-2.ensures)))
    (subst Q c.as_bytes-3.ensures.value c.write_all-3.ensures)
