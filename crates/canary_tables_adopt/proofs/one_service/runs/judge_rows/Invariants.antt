use Rattle.std.proofs.Common.{ℕ, List}
use Rattle.canary_tables_adopt.specs.Pages.{AreBegun}
use Rattle.canary_tables_adopt.proofs.PageLemmas.{RunsSoFar}
use Rattle.canary_tables_adopt.proofs.Standing.{Goes}
use Rattle.canary_tables_adopt.proofs.one_service.runs.judge_rows.Given as goal

-- the runs so far are found
abbrev pub invariant-loop-place : goal.invariant-loop-place
invariant-loop-place g l =
    Goes g.Q.Reader.IsReady g.Q.Reader.place g.Q.Reader.below l.initial.conn l.conn
    × ((name : List ℕ) → RunsSoFar l.strategy name (AreBegun l.strategy name l.first l.last l.initial.runs l.initial.memo l.page) l.place (g.Q.Reader.shows l.initial.conn) (g.Q.Reader.shows l.conn) l.runs l.memo)
