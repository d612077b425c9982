use Rattle.std.proofs.Common.{sym, ap, ◌∙◌}
use Rattle.std.specs.Prelude.{option_copied}
use Rattle.sqlite.specs.Held.{state}
use Rattle.canary_once.specs.Records.{history_of}
use Rattle.canary_tables.specs.Desk.{contents_in}
use Rattle.canary_tables.proofs.KeptLemmas.{history_kept}
use Rattle.canary_tables.proofs.Standing.{contents_stay, kept_stays}
use Rattle.canary_tables.proofs.cached.history.Goals as goal

pub returns-clause-kept : goal.returns-clause-kept
returns-clause-kept g c = λ usable.
    let old = state g.S.Store c.args.conn.now in
    let new = state g.S.Store c.history.new.conn in
    history_kept (contents_in new) c.args.kept.now c.keep_history.new.self c.args.name.now c.in_ok-found.found
    (kept_stays old new c.args.kept.now c.requires.kept c.history.ensures.reads.same usable)
    (c.in_ok-found.ensures.found usable ∙ ap (λ k. history_of k c.args.name.now) (sym (contents_stay old new c.history.ensures.reads.same usable)))
    c.keep_history.ensures.counts c.keep_history.ensures.services c.keep_history.ensures.templates c.keep_history.ensures.receipts c.keep_history.ensures.histories

pub returns-in-Some-clause-found : goal.returns-in-Some-clause-found
returns-in-Some-clause-found g c = λ usable.
    c.in_ok-copy.ensures ∙ (c.requires.kept usable).histories c.args.name.now c.in-Some.history.now (sym c.get.ensures ∙ ap option_copied c.in-Some.is)
