use Rattle.std.proofs.Common.{ℕ, List, subst}
use Rattle.std.specs.Prelude.{codes}
use Rattle.std.specs.Io.KnownBytes.{Appends}
use Rattle.canary_base.specs.declared.writing.WriteFault.{WriteFault}
use Rattle.canary_base.specs.Writes.{Writes}
use Rattle.canary_base.proofs.WriteLemmas.{writes_then, writes_all}
use Rattle.canary_files.proofs.answer.write_ended.Goals as goal

pub returns : goal.returns
returns g c =
    let old = g.W.Write.contents c.args.writer.now in
    let mid = g.W.Write.contents c.write_all.new.writer in
    let new = g.W.Write.contents c.write_all-2.new.writer in
    let P : List ℕ → Type 0 = λ t. Appends old mid t in
    let Q : List ℕ → Type 0 = λ t. Writes {E = WriteFault} mid new t c.write_all-2.result in
    writes_then old mid new c.args.text.now (codes "\n") c.write_all-2.result
    (subst P c.as_bytes.ensures.value (writes_all old mid c.as_bytes.result.now (rw c.in_default.is at c.write_all.ensures)))
    (subst Q c.as_bytes-2.ensures.value c.write_all-2.ensures)
