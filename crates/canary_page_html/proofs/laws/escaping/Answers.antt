use Rattle.canary_page_html.proofs.EscapeLemmas.{escaped_harmless}
use Rattle.canary_page_html.proofs.laws.escaping.Goals as goal

pub returns : goal.returns
returns c = record { harmless = escaped_harmless }
