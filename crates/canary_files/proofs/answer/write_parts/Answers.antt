use Rattle.std.proofs.Common.{◌≡◌, ◌∙◌, ◌++◌, ℕ, List, ap, subst}
use Rattle.std.specs.Prelude.{codes, Err}
use Rattle.std.specs.Io.KnownBytes.{Appends}
use Rattle.canary_base.specs.declared.writing.WriteFault.{WriteFault}
use Rattle.canary_base.specs.Writes.{Writes}
use Rattle.canary_files.specs.Lines.{told_status, told_body, line_front}
use Rattle.canary_base.proofs.WriteLemmas.{writes_then, writes_front, writes_all}
use Rattle.canary_files.proofs.answer.write_parts.Goals as goal

pub returns-in-Err : goal.returns-in-Err
returns-in-Err g c =
    let old = g.W.Write.contents c.args.writer.now in
    let new = g.W.Write.contents c.write_all.new.writer in
    let front : List ℕ = line_front c.args.number (told_status c.args.told.now) in
    let text : c.as_bytes.result.now ≡ front =
    c.as_bytes.ensures.value ∙ c.as_str.ensures.value ∙ c.line_front-front.ensures ∙ ap (λ s. line_front c.args.number s) c.status.ensures in
    let P : List ℕ → Type 0 = λ t. Writes {E = WriteFault} old new t (Err c.in-Err.fault) in
    writes_front old new front (told_body c.args.told.now ++ codes "\n") c.in-Err.fault (subst P text (rw c.in-Err.is at c.write_all.ensures))

pub returns : goal.returns
returns g c =
    let old = g.W.Write.contents c.args.writer.now in
    let mid = g.W.Write.contents c.write_all.new.writer in
    let new = g.W.Write.contents c.write_ended.new.writer in
    let front : List ℕ = line_front c.args.number (told_status c.args.told.now) in
    let text : c.as_bytes.result.now ≡ front =
    c.as_bytes.ensures.value ∙ c.as_str.ensures.value ∙ c.line_front-front.ensures ∙ ap (λ s. line_front c.args.number s) c.status.ensures in
    let P : List ℕ → Type 0 = λ t. Appends old mid t in
    let Q : List ℕ → Type 0 = λ t. Writes {E = WriteFault} mid new (t ++ codes "\n") c.write_ended.result in
    writes_then old mid new front (told_body c.args.told.now ++ codes "\n") c.write_ended.result
    (subst P text (writes_all old mid c.as_bytes.result.now (rw c.in_default.is at c.write_all.ensures)))
    (subst Q c.body.ensures c.write_ended.ensures)
