use Rattle.std.proofs.Common.{sym, ◌∙◌, rules}
use Rattle.canary_argo_files.proofs.Known.{one_more}
use Rattle.canary_argo_files.proofs.translated.known_of.Goals as goal

pub loop-manifest-preserved : goal.loop-manifest-preserved
loop-manifest-preserved c =
    sym (one_more c.loop-manifest.known c.add_made.new.known c.args.made.now c.loop-manifest.manifest-index c.manifest-item.result (search rules) (search rules) c.in_ok-add_made.ensures)
    ∙ c.loop-manifest.invariant
