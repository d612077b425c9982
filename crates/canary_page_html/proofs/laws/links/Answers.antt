use Rattle.canary_page_html.proofs.LinkLemmas.{no_href}
use Rattle.canary_page_html.proofs.laws.links.Goals as goal

pub returns : goal.returns
returns c = record { none_elsewhere = no_href }
