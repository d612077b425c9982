use Rattle.std.proofs.Common.{sym, ap, ◌∙◌}
use Rattle.std.specs.FinMap as map
use Rattle.canary_once.proofs.Named.{get_name}
use Rattle.canary_once.proofs.services.Services.kept.Goals as goal

pub returns : goal.returns
returns c = c.get.ensures.value ∙ sym (get_name _ c.args.name) ∙ ap (λ m. map.get m c.args.name) c.self.view_is
