-- No attribute is a link.
use Rattle.std.proofs.Common.{◌≢◌, ◌==◌, codes, get_or, ap}
use Rattle.std.proofs.lemmas.Bool.{false≢true}
use Rattle.canary_page_html.specs.declared.element.Attribute.{Attribute}
use Rattle.canary_page_html.specs.declared.element.Attribute.TheVariants as attribute
use Rattle.canary_page_html.specs.Pages.{attribute_name}

-- by the first byte of its name that is another one
pub no_href : (a : Attribute) → attribute_name a ≢ codes "href"
no_href attribute.Class = λ is. false≢true (ap (λ name. get_or name 0 0 == 104) is)
no_href attribute.Id = λ is. false≢true (ap (λ name. get_or name 0 0 == 104) is)
no_href attribute.Title = λ is. false≢true (ap (λ name. get_or name 0 0 == 104) is)
no_href attribute.Role = λ is. false≢true (ap (λ name. get_or name 0 0 == 104) is)
no_href attribute.Spoken = λ is. false≢true (ap (λ name. get_or name 0 0 == 104) is)
no_href attribute.Present = λ is. false≢true (ap (λ name. get_or name 0 0 == 104) is)
no_href attribute.Scope = λ is. false≢true (ap (λ name. get_or name 0 0 == 104) is)
no_href attribute.Columns = λ is. false≢true (ap (λ name. get_or name 0 0 == 104) is)
no_href attribute.Moment = λ is. false≢true (ap (λ name. get_or name 0 0 == 104) is)
no_href attribute.View = λ is. false≢true (ap (λ name. get_or name 0 0 == 104) is)
no_href attribute.Width = λ is. false≢true (ap (λ name. get_or name 0 0 == 104) is)
no_href attribute.Height = λ is. false≢true (ap (λ name. get_or name 1 0 == 114) is)
no_href attribute.Left = λ is. false≢true (ap (λ name. get_or name 0 0 == 104) is)
no_href attribute.Top = λ is. false≢true (ap (λ name. get_or name 0 0 == 104) is)
no_href attribute.FromLeft = λ is. false≢true (ap (λ name. get_or name 0 0 == 104) is)
no_href attribute.ToLeft = λ is. false≢true (ap (λ name. get_or name 0 0 == 104) is)
no_href attribute.FromTop = λ is. false≢true (ap (λ name. get_or name 0 0 == 104) is)
no_href attribute.ToTop = λ is. false≢true (ap (λ name. get_or name 0 0 == 104) is)
no_href attribute.CenterLeft = λ is. false≢true (ap (λ name. get_or name 0 0 == 104) is)
no_href attribute.CenterTop = λ is. false≢true (ap (λ name. get_or name 0 0 == 104) is)
no_href attribute.Radius = λ is. false≢true (ap (λ name. get_or name 0 0 == 104) is)
no_href attribute.Data = λ is. false≢true (ap (λ name. get_or name 0 0 == 104) is)
