use Rattle.std.proofs.Common.{◌≡◌, ◌+◌, ◌≤◌, ◌++◌, length, ap, ◌∙◌, arith}
use Rattle.std.specs.Prelude.{slice_range}
use Rattle.std.proofs.lemmas.List.{with_items_is}
use Rattle.canary_wire.proofs.BufferLemmas.{slice_filled, slice_kept}
use Rattle.canary_wire.proofs.buffer.Buffer.read_behind.Goals as goal

pub returns-in-Ok-clause-more : goal.returns-in-Ok-clause-more
returns-in-Ok-clause-more g c =
    let b = c.args.self.now in
    let more = rw c.in-Ok.is at c.read_at.ensures.more in
    let same : length c.deref_mut.result.now ≡ length b.bytes.items = ap (λ t. length t) c.deref_mut.ensures.value in
    let fits : b.end ≤ length c.deref_mut.result.now = omega (arith, same, b.bytes.ok.0, b.size, b.fits) in
    let full : length c.read_at.new.bytes ≡ b.bytes.len = omega (arith, c.read_at.auto.bytes, same, b.bytes.ok.0) in (
      more.0,
      ap (λ t. slice_range t b.start (b.end + c.in-Ok.n)) (with_items_is b.bytes c.read_at.new.bytes full ∙ more.2)
          ∙ slice_filled c.deref_mut.result.now more.0 more.1 b.start b.end c.in-Ok.n b.ordered fits more.4
          ∙ ap (λ t. slice_range t b.start b.end ++ more.0) c.deref_mut.ensures.value,
      more.3,
      more.4,
    )

pub returns-in-Err-clause-err : goal.returns-in-Err-clause-err
returns-in-Err-clause-err g c =
    let b = c.args.self.now in
    let err = rw c.in-Err.is at c.read_at.ensures.err in
    let same : length c.deref_mut.result.now ≡ length b.bytes.items = ap (λ t. length t) c.deref_mut.ensures.value in
    let fits : b.end ≤ length c.deref_mut.result.now = omega (arith, same, b.bytes.ok.0, b.size, b.fits) in
    let full : length c.read_at.new.bytes ≡ b.bytes.len = omega (arith, c.read_at.auto.bytes, same, b.bytes.ok.0) in (
      ap (λ t. slice_range t b.start b.end) (with_items_is b.bytes c.read_at.new.bytes full ∙ err.1)
          ∙ slice_kept c.deref_mut.result.now err.0 b.start b.end b.ordered fits
          ∙ ap (λ t. slice_range t b.start b.end) c.deref_mut.ensures.value,
      err.2,
    )
