use Rattle.std.proofs.Common.{◌∙◌, not, sym, ap}
use Rattle.sqlite.specs.Held.{state}
use Rattle.sqlite.proofs.StreamLemmas.{is_open_now}
use Rattle.sqlite_trees.specs.View.{IsClean}
use Rattle.canary_tables_schema.specs.Cells.{tally_tree}
use Rattle.canary_tables_schema.specs.Numbered.{IsLeft}
use Rattle.canary_tables_schema.proofs.Rising.{taken, all_opened, all_risen, all_whole, all_left}
use Rattle.canary_tables_schema.proofs.reopen.reopen.Goals as goal

pub returns-clause-opened : goal.returns-clause-opened
returns-clause-opened g c =
    let mid = c.into_store-store.result in
    let left : IsLeft (state g.S.Store c.args.conn) (g.S.Store.view mid) =
    taken g.S.Store c.args.conn mid c.into_store-store.ensures.undone c.into_store-store.ensures.quiet.clean (c.is_autocommit-settled.ensures.settled (c.is_autocommit-settled.ensures.value ∙ ap not c.requires.autocommit)) in
    let sound = λ (at : IsClean (g.S.Store.view mid)). sym (c.is_broken.ensures at) ∙ c.if-is_broken.false in
    all_opened g.S.Store (state g.S.Store c.args.conn) mid left (λ at. is_open_now g.S.Store mid (g.met.S.Store.broken_if_shut mid) (sound at)) c.schema.ensures.live (λ at. g.met.S.Store.ordered mid (sound at))
    (λ at. g.met.S.Alter.listed mid (sound at)) c.open_read.result c.open_read.ensures.clean c.open_read.ensures.trees c.open_read.ensures.opens

pub returns-clause-rising : goal.returns-clause-rising
returns-clause-rising g c =
    let mid = c.into_store-store.result in
    let left : IsLeft (state g.S.Store c.args.conn) (g.S.Store.view mid) =
    taken g.S.Store c.args.conn mid c.into_store-store.ensures.undone c.into_store-store.ensures.quiet.clean (c.is_autocommit-settled.ensures.settled (c.is_autocommit-settled.ensures.value ∙ ap not c.requires.autocommit)) in
    let sound = λ (at : IsClean (g.S.Store.view mid)). sym (c.is_broken.ensures at) ∙ c.if-is_broken.false in
    all_risen g.S.Store (state g.S.Store c.args.conn) mid left (λ at. is_open_now g.S.Store mid (g.met.S.Store.broken_if_shut mid) (sound at)) (λ at. g.met.S.Store.ordered mid (sound at))
    (λ at. g.met.S.Alter.listed mid (sound at)) c.open_read.result c.open_read.ensures.clean c.open_read.ensures.trees c.open_read.ensures.opens

pub returns-clause-whole : goal.returns-clause-whole
returns-clause-whole g c =
    all_whole g.S.Store (state g.S.Store c.args.conn) c.tally_tree-tally.result (g.S.Store.view c.into_store-store.result).trees (c.tally_tree-tally.ensures ∙ ap tally_tree c.schema.ensures.value) c.open_read.result c.open_read.ensures.trees c.open_read.ensures.whole (returns-clause-opened g c)

pub returns-clause-left : goal.returns-clause-left
returns-clause-left g c =
    let mid = c.into_store-store.result in
    let left : IsLeft (state g.S.Store c.args.conn) (g.S.Store.view mid) =
    taken g.S.Store c.args.conn mid c.into_store-store.ensures.undone c.into_store-store.ensures.quiet.clean (c.is_autocommit-settled.ensures.settled (c.is_autocommit-settled.ensures.value ∙ ap not c.requires.autocommit)) in
    let sound = λ (at : IsClean (g.S.Store.view mid)). sym (c.is_broken.ensures at) ∙ c.if-is_broken.false in
    all_left g.S.Store (state g.S.Store c.args.conn) mid left (λ at. is_open_now g.S.Store mid (g.met.S.Store.broken_if_shut mid) (sound at)) c.open_read.result c.open_read.ensures.quiet c.open_read.ensures.rows
