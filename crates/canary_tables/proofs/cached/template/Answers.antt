use Rattle.std.proofs.Common.{Some, sym, ap, subst, ◌∙◌}
use Rattle.std.specs.Prelude.{option_copied}
use Rattle.sqlite.specs.Held.{state}
use Rattle.canary_release.specs.Desks.{newest}
use Rattle.canary_once.specs.Contents.{put_some}
use Rattle.canary_tables.specs.CacheMaps.{IsWithin}
use Rattle.canary_tables.specs.Desk.{contents_in}
use Rattle.canary_tables.proofs.KeptLemmas.{template_kept}
use Rattle.canary_tables.proofs.Standing.{contents_stay, kept_stays}
use Rattle.canary_tables.proofs.cached.template.Goals as goal

pub returns-clause-kept : goal.returns-clause-kept
returns-clause-kept g c = λ usable.
    let old = state g.S.Store c.args.conn.now in
    let new = state g.S.Store c.template.new.conn in
    template_kept (contents_in new) c.args.kept.now c.keep_template.new.self c.args.name.now c.in_ok-found.found
    (kept_stays old new c.args.kept.now c.requires.kept c.template.ensures.reads.same usable)
    (c.in_ok-found.ensures.found usable ∙ ap (λ k. newest k.desk.templates c.args.name.now) (sym (contents_stay old new c.template.ensures.reads.same usable)))
    c.keep_template.ensures.counts c.keep_template.ensures.services
    (subst (λ o. IsWithin c.keep_template.new.self.templates (put_some c.args.kept.now.templates c.args.name.now o)) c.as_ref.ensures.value c.keep_template.ensures.templates)
    c.keep_template.ensures.receipts c.keep_template.ensures.histories

pub returns-in-Some-clause-found : goal.returns-in-Some-clause-found
returns-in-Some-clause-found g c = λ usable.
    ap Some c.in_ok-copy.ensures ∙ sym ((c.requires.kept usable).templates c.args.name.now c.in-Some.template.now (sym c.get.ensures ∙ ap option_copied c.in-Some.is))
