use Rattle.std.proofs.Common.{sym, ap, ◌∙◌}
use Rattle.std.specs.Prelude.{option_copied}
use Rattle.sqlite.specs.Held.{state}
use Rattle.canary_once.specs.Contents.{count_of}
use Rattle.canary_tables.specs.Desk.{contents_in}
use Rattle.canary_tables.proofs.KeptLemmas.{count_kept}
use Rattle.canary_tables.proofs.Standing.{contents_stay, kept_stays}
use Rattle.canary_tables.proofs.cached.count.Goals as goal

pub returns-clause-kept : goal.returns-clause-kept
returns-clause-kept g c = λ usable.
    let old = state g.S.Store c.args.conn.now in
    let new = state g.S.Store c.count.new.conn in
    count_kept (contents_in new) c.args.kept.now c.keep_count.new.self c.args.caller.now c.in_ok-count.count
    (kept_stays old new c.args.kept.now c.requires.kept c.count.ensures.reads.same usable)
    (c.in_ok-count.ensures.found usable ∙ ap (λ k. count_of k c.args.caller.now) (sym (contents_stay old new c.count.ensures.reads.same usable)))
    c.keep_count.ensures.counts c.keep_count.ensures.services c.keep_count.ensures.templates c.keep_count.ensures.receipts c.keep_count.ensures.histories

pub returns-in-Some-clause-found : goal.returns-in-Some-clause-found
returns-in-Some-clause-found g c = λ usable.
    (c.requires.kept usable).counts c.args.caller.now c.in-Some.count.now (sym c.get.ensures ∙ ap option_copied c.in-Some.is)
