use Rattle.std.proofs.Common.{rules}
use Rattle.canary_page_html.proofs.PieceLemmas.{of_one_more}
use Rattle.canary_page_html.proofs.markup.Markup.add.Goals as goal

pub invariant_of-self : goal.invariant_of-self
invariant_of-self c = of_one_more _ _ c.args.piece _ _ (search rules) (search rules) c.self.invariant
